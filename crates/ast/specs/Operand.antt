-- Operands: what later records can ask of the expressions on the stack. A number has its value, as the 64-bit float
-- that the code computes with; of a fraction the sign is enough; a selector, a range and a subquery say whether @ and
-- whether offset is set; of any other tree the kind is enough.
use Rattle.std.specs.Prelude.{Bool, true, false, Float}
use Rattle.std.proofs.Math.Option.{Option, none, some}
use Rattle.records.specs.Kind.{Kind, vector, scalar, matrix, string}
use Rattle.records.specs.Literal.{whole, fraction, infinite, Literal, plus, minus, nan}
use Rattle.records.specs.Float.{float}
use Rattle.records.specs.Time.{Times}
use Rattle.ast.specs.Expr.{Expr, Aggregate, AggregateParam, Unary, Binary, Paren, Subquery, NumberLiteral}
use Rattle.ast.specs.Expr.{StringLiteral, VectorSelector, MatrixSelector, Call, value_type}

pub data Operand : Type 0 where
  number_operand : Float → Operand
  -- whether it is negative
  fraction_operand : Bool → Operand
  string_operand : Operand
  -- whether @ is set, whether offset is set
  selector_operand range_operand subquery_operand : Bool → Bool → Operand
  other_operand : Kind → Operand

-- ast.rs, `value_type`, on operands
abbrev pub operand_kind : Operand → Kind
operand_kind (number_operand x) = scalar
operand_kind (fraction_operand s) = scalar
operand_kind string_operand = string
operand_kind (selector_operand a o) = vector
operand_kind (range_operand a o) = matrix
operand_kind (subquery_operand a o) = matrix
operand_kind (other_operand k) = k

abbrev pub is_set : {A : Type 0} → Option A → Bool
is_set none = false
is_set (some a) = true

abbrev marked : (Bool → Bool → Operand) → Times → Operand
marked make t = make (is_set t.at) (is_set t.offset)

-- a whole number, an infinity and NaN are their floats; a fraction is held as digits and places (document 02, No. 5)
abbrev pub literal_operand : Literal → Operand
literal_operand (plus (whole n)) = number_operand (float (plus (whole n)))
literal_operand (plus (fraction d p)) = fraction_operand false
literal_operand (plus infinite) = number_operand (float (plus infinite))
literal_operand (minus (whole n)) = number_operand (float (minus (whole n)))
literal_operand (minus (fraction d p)) = fraction_operand true
literal_operand (minus infinite) = number_operand (float (minus infinite))
literal_operand nan = number_operand (float nan)

-- the operand of a tree
abbrev pub operand_of : Expr → Operand
operand_of (Aggregate c m e) = other_operand vector
operand_of (AggregateParam c m p e) = other_operand vector
operand_of (Unary e) = other_operand (value_type (Unary e))
operand_of (Binary c m l r) = other_operand (value_type (Binary c m l r))
operand_of (Paren e) = other_operand (value_type (Paren e))
operand_of (Subquery e r s t) = marked subquery_operand t
operand_of (NumberLiteral l) = literal_operand l
operand_of (StringLiteral t) = string_operand
operand_of (VectorSelector s t) = marked selector_operand t
operand_of (MatrixSelector s t r) = marked range_operand t
operand_of (Call f es) = other_operand f.return_type
