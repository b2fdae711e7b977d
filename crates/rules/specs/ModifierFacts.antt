-- What the check of a binary expression asks of its modifier, as the code holds it, and its verdict by these facts.
use Rattle.std.specs.Prelude.{ℕ, ◌≡◌}
use Rattle.std.proofs.Math.Option.{Option}
use Rattle.records.specs.Kind.{Kind}
use Rattle.records.specs.Modifier.{BinModifier}
use Rattle.ast.specs.Refusal.{Result}
use Rattle.ast.specs.Expr.{binary_kind}
use Rattle.ast.specs.CheckAst.{returns_bool, is_joint, is_grouped, has_matching_labels, side_rows}
use Rattle.ast.specs.Operand.{Operand, other_operand}
use Rattle.ast.specs.Judge.{put}
use Rattle.rules.specs.declared.binary.ModifierFacts.{ModifierFacts}

-- the facts of a modifier
pub record ModifierFactsOf (m : Option BinModifier) (r : ModifierFacts) : Type 0 where
  pub bool : r.boolean ≡ returns_bool m
  pub joint : r.joint ≡ is_joint m
  pub grouped : r.grouped ≡ is_grouped m
  pub labelled : r.labelled ≡ has_matching_labels m

-- `judge_binary` with the facts in place of the modifier
abbrev pub judge_sides : ℕ → ModifierFacts → Kind → Kind → Result Operand
judge_sides c m l r = put (side_rows c m.boolean m.joint m.grouped m.labelled l r) (other_operand (binary_kind l r))
