-- What the judge of aggregates answers where the parameter of limitk and limit_ratio is asked about (document 02, No. 8:
-- "Refused: 42 .. right after 25"), and where it is not: document 01's answer.
use Rattle.std.specs.Prelude.{ℕ, Bool, ◌&&◌, not, List, [], ◌∷◌}
use Rattle.std.proofs.Math.Option.{Option, none}
use Rattle.page.specs.Bytes.{pick}
use Rattle.records.specs.Kind.{Kind, is_scalar}
use Rattle.records.specs.Code.{is_limit}
use Rattle.records.specs.Field.{has}
use Rattle.ast.specs.Refusal.{Row, when, Result, unless, and_then}
use Rattle.ast.specs.Operand.{Operand}
use Rattle.ast.specs.Judge.{judge_aggregate}
use Rattle.ast.specs.Limits.{parameter_fault}

-- the row behind those of document 01
abbrev pub limit_rows : Bool → ℕ → Option Kind → List Row
limit_rows limits c p = when (limits && is_limit c && not (has is_scalar p)) 42 ∷ []

-- the same for all counts of arguments: asked of what document 01 accepts
abbrev pub judge_aggregate_by : Bool → ℕ → List Kind → Result Operand
judge_aggregate_by limits c args =
    and_then (judge_aggregate c args) (λ x. unless (pick limits (pick (is_limit c) (parameter_fault args) none) none) x)
