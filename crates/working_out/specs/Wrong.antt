-- Outcomes that demand 3 rules out, one computed page each, of demand 3 as the contract of check has it, and at the end
-- of demand 3 of the added check (document 02, No. 8).
use Rattle.std.specs.Prelude.{ℕ, List, [], ◌++◌, T}
use Rattle.std.proofs.Common.{subst}
use Rattle.page.specs.Bytes.{hex}
use Rattle.records.specs.Kind.{vector, scalar, is_vector}
use Rattle.records.specs.Record.{read_record, read_page}
use Rattle.records.specs.Outcome.{Outcome, answer, refusal}
use Rattle.working_out.specs.Demand3.{Demand3, DocumentedDemand3}

abbrev RuledOut : List ℕ → Outcome → Type 0
RuledOut page outcome = Demand3 page outcome → ⊥

-- values without content
abbrev contents : ℕ → List ℕ
contents i = []

abbrev up : List ℕ
up = hex "0202757000"

-- ## Answers

-- `up`, a scalar
other_kind : RuledOut up (answer scalar 0)
unfolding read_record read_page
other_kind f = subst (λ k. T (is_vector k)) (f contents tt).1 tt

-- the empty page: no value is left
no_value : RuledOut [] (answer vector 0)
unfolding read_record read_page
no_value f = (f contents tt).1

-- `NaN` and then `NaN`: two values are left
two_values : RuledOut (hex "0002 0002") (answer scalar 0)
unfolding read_record read_page
two_values f = (f contents tt).1

-- a record that cannot be read
unread : RuledOut (hex "63") (answer vector 0)
unfolding read_record read_page
unread f = (f contents tt).1

-- a unary on nothing
no_operand : RuledOut (hex "07") (answer vector 0)
unfolding read_record read_page
no_operand f = (f contents tt).1

-- `sum()`
out_of_place : RuledOut (hex "0a1b0000") (answer vector 0)
unfolding read_record read_page
out_of_place f = (f contents tt).1

-- `"a" + 1`
forbidden : RuledOut (hex "010161 000001 090100") (answer vector 0)
unfolding read_record read_page
forbidden f = (f contents tt).0

-- ## Refusals for kinds

-- `up`
nothing_forbidden : RuledOut up (refusal 22 0)
unfolding read_record read_page
nothing_forbidden f = (f contents tt tt).1

-- `-"a"` and a unary on it, the second named
not_first : RuledOut (hex "010161 07 07") (refusal 31 2)
unfolding read_record read_page
not_first f = (f contents tt tt).0

-- `-"a"`, the string named
too_early : RuledOut (hex "010161 07") (refusal 6 0)
unfolding read_record read_page
too_early f = (f contents tt tt).1

-- `up`, a record past the page's end named
past_the_end : RuledOut up (refusal 6 5)
unfolding read_record read_page
past_the_end f = (f contents tt tt).1

-- `sum()`: a record out of place meets no kind
ended_there : RuledOut (hex "0a1b0000") (refusal 25 0)
unfolding read_record read_page
ended_there f = (f contents tt tt).1

-- a unary on nothing, and a byte that is no record: a working-out that ends there meets no kind
short_of_operands : RuledOut (hex "07") (refusal 31 0)
unfolding read_record read_page
short_of_operands f = (f contents tt tt).1

unread_here : RuledOut (hex "63") (refusal 22 0)
unfolding read_record read_page
unread_here f = (f contents tt tt).1

-- `sum()` and then `-"a"`: the working-out stopped before the record named
stopped_before : RuledOut (hex "0a1b0000 010161 07") (refusal 6 2)
unfolding read_record read_page
stopped_before f = (f contents tt tt).1

-- `up` and then `ln(0)`, the selector named: what is set aside after the record named excuses nothing
aside_behind : RuledOut (up ++ hex "000000 0b026c6e0100000001") (refusal 22 0)
unfolding read_record read_page
aside_behind f = (f contents tt tt).1

-- ## The added check

abbrev DocumentedRuledOut : List ℕ → Outcome → Type 0
DocumentedRuledOut page outcome = DocumentedDemand3 page outcome → ⊥

-- `limitk("a", up)`, accepted
string_accepted : DocumentedRuledOut (hex "010161 0202757000 0a1d0002") (answer vector 0)
unfolding read_record read_page
string_accepted f = (f contents tt).0

-- `limitk(1, up)`: the parameter is a scalar
scalar_refused : DocumentedRuledOut (hex "000001 0202757000 0a1d0002") (refusal 42 2)
unfolding read_record read_page
scalar_refused f = (f contents tt tt).1

-- `limitk("a", limitk("b", up))`, the outer one named
outer_named : DocumentedRuledOut (hex "010161 010162 0202757000 0a1d0002 0a1d0002") (refusal 42 4)
unfolding read_record read_page
outer_named f = (f contents tt tt).0
