-- What the documents ask of a record's operands, and the kind that a record gives (document 01, 'Working a page out',
-- quoted below; Prometheus 2.42, 'Operators', 'Functions'; limitk and limit_ratio are 3.5's). This crate depends on
-- `page` and `records` alone: nothing here uses the tree, its kinds or the checker's tests.
use Rattle.std.specs.Prelude.{ℕ, suc, ◌-◌, min, Bool, true, false, ◌&&◌, ◌||◌, not, List, [], ◌∷◌, length, get_or, eqb}
use Rattle.std.proofs.Math.Option.{Option}
use Rattle.page.specs.Bytes.{pick, is_empty}
use Rattle.records.specs.Kind.{Kind, vector, scalar, matrix, string, is_vector, is_scalar, is_string, equal_kind}
use Rattle.records.specs.Field.{has}
use Rattle.records.specs.Modifier.{BinModifier}
use Rattle.records.specs.Record.{Leaf, number, string as string_leaf, selector, Wrapper, range, subquery, at, offset}
use Rattle.records.specs.Record.{unary, paren, Record, leaf, wrapper, binary, aggregate, call}

-- the documented groups of operators and aggregators
pub data Group : Type 0 where
  arithmetic comparison set_operator : Group
  aggregator count_values scalar_parameter : Group
  unknown : Group

-- document 01's codes 1 to 30, in order, after a code 0 that there is not
abbrev pub groups : List Group
groups =
    unknown
    -- + / == >= > and or <
    ∷ arithmetic ∷ arithmetic ∷ comparison ∷ comparison ∷ comparison ∷ set_operator ∷ set_operator ∷ comparison
    -- <= unless % * != ^ - atan2
    ∷ comparison ∷ set_operator ∷ arithmetic ∷ arithmetic ∷ comparison ∷ arithmetic ∷ arithmetic ∷ arithmetic
    -- avg bottomk count count_values group max min quantile
    ∷ aggregator ∷ scalar_parameter ∷ aggregator ∷ count_values ∷ aggregator ∷ aggregator ∷ aggregator ∷ scalar_parameter
    -- stddev stdvar sum topk limitk limit_ratio
    ∷ aggregator ∷ aggregator ∷ aggregator ∷ scalar_parameter ∷ scalar_parameter ∷ scalar_parameter
    ∷ []

abbrev pub group_of : ℕ → Group
group_of c = get_or groups c unknown

abbrev pub is_operator_group : Group → Bool
is_operator_group arithmetic = true
is_operator_group comparison = true
is_operator_group set_operator = true
is_operator_group aggregator = false
is_operator_group count_values = false
is_operator_group scalar_parameter = false
is_operator_group unknown = false

abbrev pub is_aggregator_group : Group → Bool
is_aggregator_group arithmetic = false
is_aggregator_group comparison = false
is_aggregator_group set_operator = false
is_aggregator_group aggregator = true
is_aggregator_group count_values = true
is_aggregator_group scalar_parameter = true
is_aggregator_group unknown = false

-- scalars or vectors
abbrev pub is_numeric : Kind → Bool
is_numeric k = is_scalar k || is_vector k

abbrev pub are_scalars : Kind → Kind → Bool
are_scalars l r = is_scalar l && is_scalar r

-- "Arithmetic (atan2 too) and comparison ask scalars or vectors, but two scalars compared need bool; set operators ask
-- two vectors"; `bool` tells whether the modifier has it
abbrev pub sides_allowed : Group → Bool → Kind → Kind → Bool
sides_allowed arithmetic bool l r = is_numeric l && is_numeric r
sides_allowed comparison bool l r = is_numeric l && is_numeric r && (bool || not (are_scalars l r))
sides_allowed set_operator bool l r = is_vector l && is_vector r
sides_allowed aggregator bool l r = true
sides_allowed count_values bool l r = true
sides_allowed scalar_parameter bool l r = true
sides_allowed unknown bool l r = true

abbrev pub has_bool : Option BinModifier → Bool
has_bool = has (λ m. m.return_bool)

-- "of two, the first a string for count_values, a scalar for topk, bottomk, quantile, limitk and limit_ratio"
abbrev pub parameter_allowed : Group → Kind → Bool
parameter_allowed arithmetic p = true
parameter_allowed comparison p = true
parameter_allowed set_operator p = true
parameter_allowed aggregator p = true
parameter_allowed count_values p = is_string p
parameter_allowed scalar_parameter p = is_scalar p
parameter_allowed unknown p = true

abbrev pub last_is_vector : Kind → List Kind → Bool
last_is_vector k [] = is_vector k
last_is_vector k (j ∷ js) = last_is_vector j js

-- "Aggregate asks a vector as its last argument"
abbrev pub arguments_allowed : Group → List Kind → Bool
arguments_allowed g [] = true
arguments_allowed g (e ∷ []) = is_vector e
arguments_allowed g (p ∷ e ∷ []) = is_vector e && parameter_allowed g p
arguments_allowed g (a ∷ b ∷ c ∷ ks) = last_is_vector c ks

-- "Call asks the declared kind of each argument, the last one repeating": the declared kind of argument i
abbrev pub declared_kind : List Kind → ℕ → Kind
declared_kind declared i = get_or declared (min i (length declared - 1)) vector

abbrev pub are_declared : List Kind → ℕ → List Kind → Bool
are_declared declared i [] = true
are_declared declared i (a ∷ more) = equal_kind (declared_kind declared i) a && are_declared declared (suc i) more

-- "paren, @ and offset keep the kind. These ask nothing. Unary asks a scalar or vector and keeps its kind. Subquery
-- asks a vector and gives a matrix"; a range asks nothing and gives a matrix
abbrev pub wrapper_allowed : Wrapper → Kind → Bool
wrapper_allowed (range n) k = true
wrapper_allowed (subquery r s) k = is_vector k
wrapper_allowed (at a) k = true
wrapper_allowed (offset o) k = true
wrapper_allowed unary k = is_numeric k
wrapper_allowed paren k = true

abbrev pub wrapper_gives : Wrapper → Kind → Kind
wrapper_gives (range n) k = matrix
wrapper_gives (subquery r s) k = matrix
wrapper_gives (at a) k = k
wrapper_gives (offset o) k = k
wrapper_gives unary k = k
wrapper_gives paren k = k

-- the tests below are met where the operands are missing: this ends the working-out before
abbrev pub first_allowed : (Kind → Bool) → List Kind → Bool
first_allowed p [] = true
first_allowed p (k ∷ ks) = p k

abbrev pub two_allowed : (Kind → Kind → Bool) → List Kind → Bool
two_allowed p [] = true
two_allowed p (l ∷ []) = true
two_allowed p (l ∷ r ∷ ks) = p l r

-- whether the kinds of a record's operands, first operand first, are as asked
abbrev pub are_as_asked : Record → List Kind → Bool
are_as_asked (leaf l) ks = true
are_as_asked (wrapper w) ks = first_allowed (wrapper_allowed w) ks
are_as_asked (binary c m) ks = two_allowed (sides_allowed (group_of c) (has_bool m)) ks
are_as_asked (aggregate c m n) ks = arguments_allowed (group_of c) ks
are_as_asked (call f n) ks = are_declared f.arg_types 0 ks

-- "Number gives a scalar, string a string, selector a vector"
abbrev pub leaf_gives : Leaf → Kind
leaf_gives (number l) = scalar
leaf_gives (string_leaf t) = string
leaf_gives (selector s) = vector

-- "Two scalars give a scalar, all else a vector"
abbrev pub sides_give : List Kind → Kind
sides_give [] = vector
sides_give (l ∷ []) = vector
sides_give (l ∷ r ∷ ks) = pick (are_scalars l r) scalar vector

abbrev pub kind_given : Record → List Kind → Kind
kind_given (leaf l) ks = leaf_gives l
kind_given (wrapper w) ks = wrapper_gives w (get_or ks 0 vector)
kind_given (binary c m) ks = sides_give ks
kind_given (aggregate c m n) ks = vector
kind_given (call f n) ks = f.return_type

-- "a code out of place ends it; so does an aggregate of 0 arguments, or a call with arguments but no declared kinds"
abbrev pub is_in_place : Record → Bool
is_in_place (leaf l) = true
is_in_place (wrapper w) = true
is_in_place (binary c m) = is_operator_group (group_of c)
is_in_place (aggregate c m n) = is_aggregator_group (group_of c) && not (eqb n 0)
is_in_place (call f n) = eqb n 0 || not (is_empty f.arg_types)
