-- The facts of a modifier stand for it in the rows of a binary expression. Assumes nothing.
use Prim.Native.Nat.{ℕ}
use mathlib.Core.Path.{◌≡◌, refl}
use mathlib.Core.Bool.{false}
use mathlib.Core.List.{[], ◌∷◌}
use mathlib.Core.Option.{Option}
use Rattle.page.specs.Bytes.{any}
use Rattle.records.specs.Kind.{Kind}
use Rattle.records.specs.Field.{Labels}
use Rattle.records.specs.Modifier.{BinModifier}
use Rattle.ast.specs.CheckAst.{has_label}
use Rattle.ast.specs.Judge.{judge_binary}
use Rattle.rules.specs.declared.binary.ModifierFacts.{ModifierFacts}
use Rattle.rules.specs.ModifierFacts.{ModifierFactsOf, judge_sides}

pub judge_sides-facts : {m : Option BinModifier} {facts : ModifierFacts} → ModifierFactsOf m facts
    → (c : ℕ) (l r : Kind) → judge_sides c facts l r ≡ judge_binary c m l r
judge_sides-facts is c l r = rw (is.bool, is.joint, is.grouped, is.labelled)

-- no label is in an empty list
pub none_in : (ls : Labels) → false ≡ any (has_label []) ls
none_in [] = refl
none_in (l ∷ ls) = none_in ls
