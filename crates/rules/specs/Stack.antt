-- The operands of a stack, as they lie in its arrays: an operand is a tag, and the value that a number has. The arrays
-- are filled from the end downwards, so that the stack is what lies from its top on.
use Rattle.std.specs.Prelude.{ℕ, ◌+◌, Bool, true, false, List, [], ◌∷◌, get_or, drop, Float}
use Rattle.records.specs.Kind.{vector, scalar, matrix, string, kind_number}
use Rattle.records.specs.Float.{zero_float}
use Rattle.ast.specs.Operand.{Operand, number_operand, fraction_operand, string_operand, selector_operand, range_operand, subquery_operand, other_operand}
use Rattle.rules.specs.declared.stack.Stack.{Stack}

-- the tag where @ or offset is set, from the tag where neither is
abbrev pub tag_with : ℕ → Bool → Bool → ℕ
tag_with f false false = f
tag_with f true false = f + 1
tag_with f false true = f + 2
tag_with f true true = f + 3

abbrev pub fraction_tag : Bool → ℕ
fraction_tag false = 18
fraction_tag true = 19

abbrev pub tag_of : Operand → ℕ
tag_of (number_operand x) = 0
tag_of (fraction_operand s) = fraction_tag s
tag_of string_operand = 1
tag_of (selector_operand a o) = tag_with 2 a o
tag_of (range_operand a o) = tag_with 6 a o
tag_of (subquery_operand a o) = tag_with 10 a o
tag_of (other_operand k) = 14 + kind_number k

abbrev pub value_of : Operand → Float
value_of (number_operand x) = x
value_of (fraction_operand s) = zero_float
value_of string_operand = zero_float
value_of (selector_operand a o) = zero_float
value_of (range_operand a o) = zero_float
value_of (subquery_operand a o) = zero_float
value_of (other_operand k) = zero_float

-- the tags 0 to 19; 17 is a string that is no literal
abbrev pub tag_table : Float → List Operand
tag_table x =
    number_operand x ∷ string_operand
    ∷ selector_operand false false ∷ selector_operand true false ∷ selector_operand false true ∷ selector_operand true true
    ∷ range_operand false false ∷ range_operand true false ∷ range_operand false true ∷ range_operand true true
    ∷ subquery_operand false false ∷ subquery_operand true false ∷ subquery_operand false true ∷ subquery_operand true true
    ∷ other_operand vector ∷ other_operand scalar ∷ other_operand matrix ∷ other_operand string
    ∷ fraction_operand false ∷ fraction_operand true
    ∷ []

abbrev pub operand_from : ℕ → Float → Operand
operand_from f x = get_or (tag_table x) f (other_operand string)

-- the operands that two arrays hold
abbrev pub held_operands : List ℕ → List Float → List Operand
held_operands [] xs = []
held_operands (f ∷ fs) [] = []
held_operands (f ∷ fs) (x ∷ xs) = operand_from f x ∷ held_operands fs xs

-- the operands on the stack, its top first
abbrev pub held : Stack → List Operand
held s = drop s.top (held_operands s.tags s.values)
