-- Working a page out (document 01, 'Working a page out'): a stack of values, each a kind and any content. The literal
-- exception is shared with the checker, as document 01 says ("as under Checking").
use Rattle.std.specs.Prelude.{ℕ, suc, Bool, true, false, ◌&&◌, not, List, [], ◌∷◌, map, length, drop, get_or, leb}
use Rattle.std.proofs.Math.Option.{Option, none, some}
use Rattle.page.specs.Bytes.{pick}
use Rattle.records.specs.Kind.{Kind, is_scalar}
use Rattle.records.specs.Code.{is_one_of}
use Rattle.records.specs.Literal.{Literal, negate}
use Rattle.records.specs.Record.{Leaf, number, string, selector, Wrapper, range, subquery, at, offset, unary, paren}
use Rattle.records.specs.Record.{Record, leaf, wrapper, binary, aggregate, call, operands, Ending, end, unreadable}
use Rattle.records.specs.Record.{Records}
use Rattle.records.specs.Stack.{operands_of}
use Rattle.records.specs.LiteralException.{is_exempt}
use Rattle.working_out.specs.Asked.{first_allowed, are_as_asked, kind_given, is_in_place}

-- ## Bare numbers

-- "A bare number is a number record with nothing but unary records on it, each negating the number"
abbrev pub leaf_number : Leaf → Option Literal
leaf_number (number l) = some l
leaf_number (string t) = none
leaf_number (selector s) = none

abbrev pub negated : Option Literal → Option Literal
negated none = none
negated (some l) = some (negate l)

abbrev pub wrapper_number : Wrapper → Option Literal → Option Literal
wrapper_number (range n) bare = none
wrapper_number (subquery r s) bare = none
wrapper_number (at a) bare = none
wrapper_number (offset o) bare = none
wrapper_number unary bare = negated bare
wrapper_number paren bare = none

-- of a record whose operands have these bare numbers
abbrev pub bare_number : Record → List (Option Literal) → Option Literal
bare_number (leaf l) bare = leaf_number l
bare_number (wrapper w) bare = wrapper_number w (get_or bare 0 none)
bare_number (binary c m) bare = none
bare_number (aggregate c m n) bare = none
bare_number (call f n) bare = none

-- ## The two things that demand 3 sets aside

-- a limitk or limit_ratio whose first argument is no scalar (without arguments there is none: not counted, and 14
-- refuses it), and a call under the exp or logarithm literal exception. Kinds and bare numbers are those of the
-- operands
abbrev pub is_set_aside : Record → List Kind → List (Option Literal) → Bool
is_set_aside (leaf l) ks bare = false
is_set_aside (wrapper w) ks bare = false
is_set_aside (binary c m) ks bare = false
is_set_aside (aggregate c m n) ks bare = is_one_of ("limitk" ∷ "limit_ratio" ∷ []) c && not (first_allowed is_scalar ks)
is_set_aside (call f n) ks bare = is_exempt f.name (get_or bare 0 none)

-- the literal exception alone (document 02, No. 8: "For the added check demand 3 no longer needs the limitk condition")
abbrev pub is_set_aside_literal : Record → List Kind → List (Option Literal) → Bool
is_set_aside_literal (leaf l) ks bare = false
is_set_aside_literal (wrapper w) ks bare = false
is_set_aside_literal (binary c m) ks bare = false
is_set_aside_literal (aggregate c m n) ks bare = false
is_set_aside_literal (call f n) ks bare = is_exempt f.name (get_or bare 0 none)

-- ## The working-out

-- what is seen of a record
pub record Step : Type 0 where
  pub not_set_aside : Bool
  pub as_asked : Bool

module _ (C : Type 0) where
  -- a value: a kind and any content
  pub record Value : Type 0 where
    pub kind : Kind
    pub content : C

  pub data Finish : Type 0 where
    -- the page's end, with these values left
    left : List Value → Finish
    -- a record unreadable, short of operands or out of place
    ended : Finish

  pub record WorkedOut : Type 0 where
    pub steps : List Step
    pub finish : Finish

-- the bare numbers on the stack after a record
abbrev pub put_bare : Record → List (Option Literal) → List (Option Literal)
put_bare r bare = bare_number r (operands_of (operands r) bare) ∷ drop (operands r) bare

module _ {C : Type 0} where
  abbrev pub kinds : List (Value C) → List Kind
  kinds = map (λ v. v.kind)

  abbrev pub finish_at : Ending → List (Value C) → Finish C
  finish_at end stack = left stack
  finish_at (unreadable f) stack = ended

  -- a record in its place is a step before the others. Out of place it is the last: it may be set aside, and asks
  -- nothing
  abbrev pub step_of : Bool → Bool → Bool → WorkedOut C → WorkedOut C
  step_of true aside asked more = record { steps = record { not_set_aside = not aside; as_asked = asked } ∷ more.steps; finish = more.finish }
  step_of false aside asked more = record { steps = record { not_set_aside = not aside; as_asked = true } ∷ []; finish = ended }

-- what is set aside, and the contents that the records put back
module _ {C : Type 0} (aside : Record → List Kind → List (Option Literal) → Bool) (contents : ℕ → C) where
  -- record i puts back a value with content `contents i`
  abbrev pub put_back : ℕ → Record → List (Value C) → List (Value C)
  put_back i r stack = record { kind = kind_given r (operands_of (operands r) (kinds stack)); content = contents i } ∷ drop (operands r) stack

  -- how the page ends, the index of the next record, the stack of values, the bare numbers on it, the records
  abbrev pub work_records : Ending → ℕ → List (Value C) → List (Option Literal) → List Record → WorkedOut C
  work_records e i stack bare [] = record { steps = []; finish = finish_at e stack }
  work_records e i stack bare (r ∷ rs) =
      let ks : List Kind = operands_of (operands r) (kinds stack) in
      let more : WorkedOut C = work_records e (suc i) (put_back i r stack) (put_bare r bare) rs in
      pick (leb (operands r) (length stack))
      (step_of (is_in_place r) (aside r ks (operands_of (operands r) bare)) (are_as_asked r ks) more)
      (record { steps = []; finish = ended })

  abbrev pub work_page : Records → WorkedOut C
  work_page page = work_records page.ending 0 [] [] page.records
