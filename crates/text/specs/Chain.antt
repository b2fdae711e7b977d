-- Records that are part of one node: a selector or a subquery with its range, @ and offset is made of up to four
-- records, each on the one before it. Going down from the last of them, what is met is kept, and `settled` puts it on
-- the tree below.
use Rattle.std.specs.Prelude.{ℕ}
use Rattle.std.proofs.Math.Option.{Option, none, some}
use Rattle.records.specs.Matcher.{Selector}
use Rattle.records.specs.Time.{Times, AtModifier, Offset}
use Rattle.ast.specs.Expr.{Expr, Aggregate, AggregateParam, Unary, Binary, Paren, Subquery, NumberLiteral, StringLiteral, VectorSelector, MatrixSelector, Call}

-- the first, where it is set
module _ {A : Type 0} where
  abbrev pub or_else : Option A → Option A → Option A
  or_else none b = b
  or_else (some a) b = some a

-- what the lower records set, and where they set nothing what the upper ones set
abbrev pub overlaid : Times → Times → Times
overlaid t u = record { at = or_else t.at u.at; offset = or_else t.offset u.offset }

abbrev pub with_at : AtModifier → Times → Times
with_at a u = record { at = some a; offset = u.offset }

abbrev pub with_offset : Offset → Times → Times
with_offset o u = record { at = u.at; offset = some o }

-- a selector with its range, if it has one
abbrev pub ranged : Option ℕ → Selector → Times → Expr
ranged none s t = VectorSelector s t
ranged (some r) s t = MatrixSelector s t r

-- the tree with the range, @ and offset of the records above it
unfoldable pub settled : Option ℕ → Times → Expr → Expr
settled n u (Aggregate c m e) = Aggregate c m e
settled n u (AggregateParam c m p e) = AggregateParam c m p e
settled n u (Unary e) = Unary e
settled n u (Binary c m l r) = Binary c m l r
settled n u (Paren e) = Paren e
settled n u (Subquery e r s t) = Subquery e r s (overlaid t u)
settled n u (NumberLiteral l) = NumberLiteral l
settled n u (StringLiteral t) = StringLiteral t
settled n u (VectorSelector s t) = ranged n s (overlaid t u)
settled n u (MatrixSelector s t r) = MatrixSelector s (overlaid t u) r
settled n u (Call f es) = Call f es
