-- A check by rules (document 02, No. 2: "A page may now be checked with the table too"): document 01's check, and what
-- the rules ask beside it. The check of document 01 is the one without rules (proofs/RulesLaws, `check_page_by-plain`).
use Rattle.std.specs.Prelude.{ℕ, List, map}
use Rattle.std.proofs.Math.Option.{Option, none, some}
use Rattle.records.specs.Kind.{Kind}
use Rattle.records.specs.Record.{Record, read_page}
use Rattle.records.specs.Outcome.{Outcome}
use Rattle.ast.specs.Refusal.{Result, refused, unless, and_then}
use Rattle.ast.specs.Expr.{Expr, value_type}
use Rattle.ast.specs.Walk.{Checked, walk_page}
use Rattle.ast.specs.CheckPage.{apply, outcome_of}

-- of a record that was read, before its operands are counted; and of one that document 01 accepts, by the kinds on the
-- stack, the newest first
pub record Rules : Type 0 where
  pub before : Record → Option ℕ
  pub after : Record → List Kind → Option ℕ

-- document 01 alone
abbrev pub plain : Rules
plain = record { before = λ r. none; after = λ r ks. none }

module _ {A : Type 0} where
  -- the fault comes first
  abbrev pub guarded : Option ℕ → Result A → Result A
  guarded none x = x
  guarded (some n) x = refused n

  -- what a record comes to under rules, from what it comes to by document 01
  abbrev pub ruled : Rules → Record → List Kind → Result A → Result A
  ruled rules r ks x = guarded (rules.before r) (and_then x (λ a. unless (rules.after r ks) a))

abbrev pub apply_by : Rules → Record → List Expr → Result (List Expr)
apply_by rules r stack = ruled rules r (map value_type stack) (apply r stack)

unfoldable pub check_page_by : Rules → List ℕ → Checked Expr
check_page_by rules page = walk_page (apply_by rules) (read_page page)

abbrev pub check_by : Rules → List ℕ → Outcome
check_by rules page = outcome_of (check_page_by rules page)
