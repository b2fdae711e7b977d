-- The check that follows the operators document (document 02, No. 8: "The operators document gives limitk and
-- limit_ratio a scalar parameter; the Rust lets any kind by, and so does document 01. Keep that check, and add one
-- beside it that follows the document"): one more rule, asked of a record that document 01 accepts.
use Rattle.std.specs.Prelude.{ℕ, Bool, ◌||◌, List, [], ◌∷◌, eqb}
use Rattle.std.proofs.Math.Option.{Option, none, some}
use Rattle.page.specs.Bytes.{pick}
use Rattle.records.specs.Kind.{Kind, is_scalar}
use Rattle.records.specs.Code.{is_limit}
use Rattle.records.specs.Stack.{operands_of}
use Rattle.records.specs.Record.{Record, leaf, wrapper, binary, aggregate, call}
use Rattle.records.specs.Outcome.{Outcome}
use Rattle.ast.specs.Table.{is_of_check}
use Rattle.ast.specs.Rules.{Rules, check_by}

-- the parameter is the first of the arguments
abbrev pub parameter_fault : List Kind → Option ℕ
parameter_fault [] = none
parameter_fault (p ∷ ks) = pick (is_scalar p) none (some 42)

-- "Refused: 42, in the added check only, when that parameter is no scalar": of a record and the kinds on the stack, the
-- newest first
abbrev pub limit_fault : Record → List Kind → Option ℕ
limit_fault (leaf l) ks = none
limit_fault (wrapper w) ks = none
limit_fault (binary c m) ks = none
limit_fault (aggregate c m n) ks = pick (is_limit c) (parameter_fault (operands_of n ks)) none
limit_fault (call f n) ks = none

-- "right after 25": 25 is the last row of an aggregate, so a record that document 01 accepts has passed it
abbrev pub with_limits : Rules
with_limits = record { before = λ r. none; after = limit_fault }

-- those rules where they are asked for, and else document 01 alone
abbrev pub limit_rules : Bool → Rules
limit_rules asks = record { before = λ r. none; after = λ r ks. pick asks (limit_fault r ks) none }

-- the added check
abbrev pub check_operators : List ℕ → Outcome
check_operators = check_by with_limits

-- its refusals: those of document 01's check, and 42
abbrev pub is_of_operators : ℕ → Bool
is_of_operators n = is_of_check n || eqb n 42
