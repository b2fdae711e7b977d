-- Names in order and not, arrays of the form and not, and functions of the table: examples, proved together by computed
-- tests.
use Rattle.std.specs.Prelude.{ℕ, zero, suc, Bool, true, false, not, ◌&&◌, List, [], ◌∷◌, T, eqb, length}
use Prim.Native.String.{String}
use Rattle.std.proofs.Math.Option.{Option, none, some}
use Rattle.page.specs.Bytes.{pick, all, bytes, equal}
use Rattle.records.specs.Kind.{Kind, vector, scalar, matrix, string}
use Rattle.records.specs.Signature.{Variadic, fixed, unlimited, up_to, Function}
use Rattle.functions.specs.Order.{order_of}
use Rattle.functions.specs.Table.{is_table}
use Rattle.functions.specs.Functions.{function, functions}
use Rattle.functions.specs.Lookup.{lookup, equal_signature}
use Rattle.std.specs.declared.cmp.Ordering.{Ordering}
use Rattle.std.specs.declared.cmp.Ordering.TheVariants.{Less, Equal, Greater}

-- ## The order of names

abbrev is_order : Ordering → Ordering → Bool
is_order Less Less = true
is_order Less Equal = false
is_order Less Greater = false
is_order Equal Less = false
is_order Equal Equal = true
is_order Equal Greater = false
is_order Greater Less = false
is_order Greater Equal = false
is_order Greater Greater = true

-- the first stands before the second, and the second behind the first
abbrev in_order : String → String → Bool
in_order t u = is_order (order_of (bytes t) (bytes u)) Less && is_order (order_of (bytes u) (bytes t)) Greater

-- digits, capitals, `_`, small letters; a beginning before the whole, and no text before itself
ordered : T (
    in_order "9" "A" && in_order "Z" "_" && in_order "_" "a" && in_order "log10" "log2"
    && in_order "day_of_year" "days_in_month" && in_order "" "a" && in_order "sort" "sort_by_label"
    && in_order "sort_by_label_desc" "sort_desc" && in_order "az" "b" && is_order (order_of (bytes "sort") (bytes "sort")) Equal
    && is_order (order_of [] []) Equal
    )
ordered = tt

-- ## Arrays of the form

abbrev forms : String → List ℕ → Bool
forms letters starts = is_table (bytes letters) starts

-- tables of no function, of one and of two, whose signatures nobody asks here
formed : T (forms "" (0 ∷ []) && forms "as" (0 ∷ 1 ∷ 2 ∷ []) && forms "abst" (0 ∷ 1 ∷ 2 ∷ 3 ∷ 4 ∷ []))
formed = tt

-- no starts; a first start that is not 0, a last one before and after the end of the bytes, a start that stands twice,
-- and one that descends; a name without signature; names out of order, and a name twice
unformed : T (all not (
    forms "" []
    ∷ forms "zabst" (1 ∷ 2 ∷ 3 ∷ 4 ∷ 5 ∷ [])
    ∷ forms "abstz" (0 ∷ 1 ∷ 2 ∷ 3 ∷ 4 ∷ [])
    ∷ forms "abs" (0 ∷ 1 ∷ 2 ∷ 3 ∷ 4 ∷ [])
    ∷ forms "abt" (0 ∷ 1 ∷ 2 ∷ 2 ∷ 3 ∷ [])
    ∷ forms "abst" (0 ∷ 1 ∷ 3 ∷ 2 ∷ 4 ∷ [])
    ∷ forms "abs" (0 ∷ 1 ∷ 2 ∷ 3 ∷ [])
    ∷ forms "bast" (0 ∷ 1 ∷ 2 ∷ 3 ∷ 4 ∷ [])
    ∷ forms "aast" (0 ∷ 1 ∷ 2 ∷ 3 ∷ 4 ∷ [])
    ∷ []
    ))
unformed = tt

-- ## Signatures

abbrev differ : Function → Function → Bool
differ f g = not (equal_signature f g) && not (equal_signature g f)

-- the name is no part of it; each of kinds, extra and result is, also where calls would be judged alike
signatures : T (
    equal_signature (function "abs" (vector ∷ []) fixed vector) (function "ceil" (vector ∷ []) fixed vector)
    && equal_signature (function "round" (vector ∷ scalar ∷ []) (up_to 1) vector) (function "f" (vector ∷ scalar ∷ []) (up_to 1) vector)
    && differ (function "abs" (vector ∷ []) fixed vector) (function "abs" (scalar ∷ []) fixed vector)
    && differ (function "abs" (vector ∷ []) fixed vector) (function "abs" [] fixed vector)
    && differ (function "abs" (vector ∷ []) fixed vector) (function "abs" (vector ∷ []) unlimited vector)
    && differ (function "abs" (vector ∷ []) fixed vector) (function "abs" (vector ∷ []) (up_to 1) vector)
    && differ (function "abs" (vector ∷ []) fixed vector) (function "abs" (vector ∷ []) (up_to 0) vector)
    && differ (function "abs" (vector ∷ []) unlimited vector) (function "abs" (vector ∷ []) (up_to 0) vector)
    && differ (function "round" (vector ∷ scalar ∷ []) (up_to 1) vector) (function "round" (vector ∷ scalar ∷ []) (up_to 2) vector)
    && differ (function "abs" (vector ∷ []) fixed vector) (function "abs" (vector ∷ []) fixed scalar)
    && differ (function "label_join" (vector ∷ string ∷ string ∷ string ∷ []) unlimited vector)
    (function "label_join" (vector ∷ string ∷ string ∷ string ∷ string ∷ []) unlimited vector)
    )
signatures = tt

-- ## Functions of the table

abbrev is_known : String → List Kind → Variadic → Kind → Bool
is_known name kinds extra result = by (lookup functions (bytes name))
  where
    by : Option Function → Bool
    by none = false
    by (some f) = equal f.name (bytes name) && equal_signature f (function name kinds extra result)

abbrev is_unknown : String → Bool
is_unknown name = by (lookup functions (bytes name))
  where
    by : Option Function → Bool
    by none = true
    by (some f) = false

-- the first and the last name; names that begin others; names unlike any of the table by a letter, a capital or more
known : T (
    is_known "abs" (vector ∷ []) fixed vector && is_known "year" (vector ∷ []) (up_to 1) vector
    && is_known "absent" (vector ∷ []) fixed vector && is_known "absent_over_time" (matrix ∷ []) fixed vector
    && is_known "sort" (vector ∷ []) fixed vector && is_known "sort_by_label" (vector ∷ string ∷ []) unlimited vector
    && is_known "log2" (vector ∷ []) fixed vector && is_known "time" [] fixed scalar
    && is_known "scalar" (vector ∷ []) fixed scalar
    && all is_unknown ("" ∷ "Abs" ∷ "ab" ∷ "abs_" ∷ "sum" ∷ "holt_winters" ∷ "_" ∷ "years" ∷ "zzz" ∷ [])
    )
unfolding functions lookup
known = tt

-- so many functions of the table have this signature
abbrev have : ℕ → List Kind → Variadic → Kind → Bool
have n kinds extra result = eqb (count functions) n
  where
    count : List Function → ℕ
    count [] = zero
    count (f ∷ fs) = let more = count fs in pick (equal_signature f (function "" kinds extra result)) (suc more) more

-- 91 functions, and no signature but these
counted : T (
    eqb (length functions) 91
    && have 33 (vector ∷ []) fixed vector
    && have 24 (matrix ∷ []) fixed vector
    && have 8 (vector ∷ []) (up_to 1) vector
    && have 6 [] fixed scalar
    && have 2 (vector ∷ scalar ∷ []) fixed vector
    && have 2 (vector ∷ string ∷ []) unlimited vector
    && have 2 (scalar ∷ scalar ∷ []) fixed scalar
    && have 1 (matrix ∷ scalar ∷ scalar ∷ []) fixed vector
    && have 1 (matrix ∷ scalar ∷ []) fixed vector
    && have 1 (scalar ∷ matrix ∷ []) fixed vector
    && have 1 (scalar ∷ scalar ∷ vector ∷ []) fixed vector
    && have 1 (scalar ∷ vector ∷ []) fixed vector
    && have 1 (scalar ∷ []) fixed vector
    && have 1 (vector ∷ scalar ∷ scalar ∷ []) fixed vector
    && have 1 (vector ∷ string ∷ string ∷ string ∷ string ∷ []) fixed vector
    && have 1 (vector ∷ []) fixed scalar
    && have 1 (vector ∷ scalar ∷ []) (up_to 1) vector
    && have 1 (vector ∷ vector ∷ []) (up_to 1) vector
    && have 1 (matrix ∷ scalar ∷ []) (up_to 1) vector
    && have 1 (vector ∷ string ∷ string ∷ string ∷ []) unlimited vector
    && have 1 (vector ∷ string ∷ scalar ∷ scalar ∷ []) (up_to 9) vector
    )
unfolding functions
counted = tt
