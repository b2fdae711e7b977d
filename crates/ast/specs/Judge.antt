-- The refusal table on operands: what a record makes of its operands. Constructors (refusals 6 to 15) and checks (16 to
-- 34, and 41) of one record stand together; the rows are those of `CheckAst`. That this is what the trees do is proved in
-- proofs/OperandLaws.
use Rattle.std.specs.Prelude.{ℕ, Bool, true, false, ◌&&◌, ◌||◌, not, List, [], ◌∷◌, ◌++◌, map, length, drop, leb, Float}
use Rattle.std.proofs.Math.Option.{Option, none, some}
use Rattle.std.specs.Float.Ieee as Ieee
use Rattle.page.specs.Bytes.{pick}
use Rattle.page.specs.Text.{Text}
use Rattle.records.specs.Kind.{Kind, vector}
use Rattle.records.specs.Code.{has_parameter}
use Rattle.records.specs.Float.{zero_float, is_infinite_float}
use Rattle.records.specs.LiteralException.{is_exp, is_logarithm}
use Rattle.records.specs.Modifier.{BinModifier}
use Rattle.records.specs.Signature.{Function}
use Rattle.records.specs.Stack.{operands_of}
use Rattle.records.specs.Record.{Leaf, number, string, selector, Wrapper, range, subquery, at, offset, unary, paren}
use Rattle.records.specs.Record.{Record, leaf, wrapper, binary, aggregate, call, operands}
use Rattle.ast.specs.Refusal.{Row, first_fault, Result, refused, ok, unless, and_then}
use Rattle.ast.specs.Expr.{binary_kind}
use Rattle.ast.specs.CheckAst.{binary_rows, aggregate_rows, arity_rows, args_rows, unary_rows, subquery_rows, selector_rows}
use Rattle.ast.specs.Operand.{Operand, number_operand, fraction_operand, string_operand, selector_operand, range_operand}
use Rattle.ast.specs.Operand.{subquery_operand, other_operand, operand_kind, literal_operand}
use Rattle.ast.specs.Rules.{Rules, ruled}

-- the operand, unless a row applies
abbrev pub put : List Row → Operand → Result Operand
put rows x = unless (first_fault rows) x

-- ## One operand

-- `new_unary_expr`, then 31
abbrev pub judge_unary : Operand → Result Operand
judge_unary (number_operand x) = ok (number_operand (Ieee.neg x))
judge_unary (fraction_operand s) = ok (fraction_operand (not s))
judge_unary string_operand = refused 6
judge_unary (selector_operand a o) = ok (other_operand vector)
judge_unary (range_operand a o) = refused 6
judge_unary (subquery_operand a o) = refused 31
judge_unary (other_operand k) = put (unary_rows k) (other_operand k)

-- `new_matrix_selector`: 7 after offset, then 8 after @, 9 on anything but a selector
abbrev pub range_after_marks : Bool → Bool → Result Operand
range_after_marks a true = refused 7
range_after_marks true false = refused 8
range_after_marks false false = ok (range_operand false false)

abbrev pub judge_range : Operand → Result Operand
judge_range (number_operand x) = refused 9
judge_range (fraction_operand s) = refused 9
judge_range string_operand = refused 9
judge_range (selector_operand a o) = range_after_marks a o
judge_range (range_operand a o) = refused 9
judge_range (subquery_operand a o) = refused 9
judge_range (other_operand k) = refused 9

-- a mark set, or a refusal where it is set already
abbrev pub set_mark : ℕ → Bool → Operand → Result Operand
set_mark n true x = refused n
set_mark n false x = ok x

-- @ set on an operand, or else offset: the first refusal where it is set already, the second on an operand that has
-- none
abbrev pub judge_mark : Bool → ℕ → ℕ → Operand → Result Operand
judge_mark is_at twice without (number_operand x) = refused without
judge_mark is_at twice without (fraction_operand s) = refused without
judge_mark is_at twice without string_operand = refused without
judge_mark is_at twice without (selector_operand a o) = set_mark twice (pick is_at a o) (selector_operand (is_at || a) (not is_at || o))
judge_mark is_at twice without (range_operand a o) = set_mark twice (pick is_at a o) (range_operand (is_at || a) (not is_at || o))
judge_mark is_at twice without (subquery_operand a o) = set_mark twice (pick is_at a o) (subquery_operand (is_at || a) (not is_at || o))
judge_mark is_at twice without (other_operand k) = refused without

-- `at_expr`: 10 where it is set already, 11 on an operand that has none
abbrev pub judge_at : Operand → Result Operand
judge_at x = judge_mark true 10 11 x

-- `offset_expr`: 12 where it is set already, 13 on an operand that has none
abbrev pub judge_offset : Operand → Result Operand
judge_offset x = judge_mark false 12 13 x

-- `new_subquery_expr`, then 32
abbrev pub judge_subquery : Operand → Result Operand
judge_subquery x = put (subquery_rows (operand_kind x)) (subquery_operand false false)

abbrev pub judge_wrapper : Wrapper → Operand → Result Operand
judge_wrapper (range n) x = judge_range x
judge_wrapper (subquery r s) x = judge_subquery x
judge_wrapper (at a) x = judge_at x
judge_wrapper (offset o) x = judge_offset x
judge_wrapper unary x = judge_unary x
judge_wrapper paren x = ok (other_operand (operand_kind x))

-- ## Two operands, and arguments

-- `check_ast_for_binary_expr`: 16 to 23
abbrev pub judge_binary : ℕ → Option BinModifier → Kind → Kind → Result Operand
judge_binary c m l r = put (binary_rows c m l r) (other_operand (binary_kind l r))

-- `new_aggregate_expr` (14, 15), then `check_ast_for_aggregate_expr` (24, 25). The first argument says whether the code
-- has a parameter
abbrev pub judge_arguments : Bool → ℕ → List Kind → Result Operand
judge_arguments has c [] = refused 14
judge_arguments true c (p ∷ []) = refused 15
judge_arguments true c (p ∷ e ∷ []) = put (aggregate_rows c (some p) e) (other_operand vector)
judge_arguments true c (p ∷ e ∷ x ∷ es) = refused 15
judge_arguments false c (e ∷ []) = put (aggregate_rows c none e) (other_operand vector)
judge_arguments false c (e ∷ x ∷ es) = refused 15

abbrev pub judge_aggregate : ℕ → List Kind → Result Operand
judge_aggregate c args = judge_arguments (has_parameter c) c args

-- `check_ast_for_call`: the value of a bare number under the literal exception, tested on floats as the Rust does; a
-- fraction is no NaN, no infinity and not 0, so that its sign decides
abbrev pub is_exempt_float : Text → Float → Bool
is_exempt_float name x =
    is_exp name && (Ieee.is_nan x || is_infinite_float x)
    || is_logarithm name && (Ieee.is_nan x || is_infinite_float x || Ieee.le x zero_float)

abbrev pub is_exempt_operand : Text → Operand → Bool
is_exempt_operand name (number_operand x) = is_exempt_float name x
is_exempt_operand name (fraction_operand s) = is_logarithm name && s
is_exempt_operand name string_operand = false
is_exempt_operand name (selector_operand a o) = false
is_exempt_operand name (range_operand a o) = false
is_exempt_operand name (subquery_operand a o) = false
is_exempt_operand name (other_operand k) = false

-- the first argument alone counts
abbrev pub is_exempt_call : Text → List Operand → Bool
is_exempt_call name [] = false
is_exempt_call name (x ∷ xs) = is_exempt_operand name x

-- 26 to 28, then the exception, then 29 and 30
abbrev pub judge_call : Function → List Operand → Result Operand
judge_call f args =
    put (arity_rows f.variadic (length f.arg_types) (length args) ++ pick (is_exempt_call f.name args) [] (args_rows f.arg_types (map operand_kind args)))
    (other_operand f.return_type)

-- ## A record

abbrev pub judge_leaf : Leaf → Result Operand
judge_leaf (number l) = ok (literal_operand l)
judge_leaf (string t) = ok string_operand
judge_leaf (selector s) = put (selector_rows s) (selector_operand false false)

-- what a record puts on the stack, whose top stands first: 2 where operands are missing, then the rows of its kind
unfoldable pub judgement : Record → List Operand → Result Operand
judgement (leaf l) stack = judge_leaf l
judgement (wrapper w) [] = refused 2
judgement (wrapper w) (x ∷ below) = judge_wrapper w x
judgement (binary c m) [] = refused 2
judgement (binary c m) (r ∷ []) = refused 2
judgement (binary c m) (r ∷ l ∷ below) = judge_binary c m (operand_kind l) (operand_kind r)
judgement (aggregate c m n) stack = pick (leb n (length stack)) (judge_aggregate c (map operand_kind (operands_of n stack))) (refused 2)
judgement (call f n) stack = pick (leb n (length stack)) (judge_call f (operands_of n stack)) (refused 2)

-- the stack after a record
abbrev pub judged : Record → List Operand → Result (List Operand)
judged r stack = and_then (judgement r stack) (λ x. ok (x ∷ drop (operands r) stack))

-- ## A record under rules

abbrev pub judgement_by : Rules → Record → List Operand → Result Operand
judgement_by rules r stack = ruled rules r (map operand_kind stack) (judgement r stack)

abbrev pub judged_by : Rules → Record → List Operand → Result (List Operand)
judged_by rules r stack = and_then (judgement_by rules r stack) (λ x. ok (x ∷ drop (operands r) stack))
