-- The function table of the repository (src/parser/function.rs, `FUNCTIONS`), in the order of the names; function.rs
-- has another order. The mark `experimental` is left out, as in document 01.
use Rattle.std.specs.Prelude.{List, [], ◌∷◌}
use Prim.Native.String.{String}
use Rattle.page.specs.Bytes.{bytes}
use Rattle.records.specs.Kind.{Kind, vector, scalar, matrix, string}
use Rattle.records.specs.Signature.{Variadic, fixed, unlimited, up_to, Function}

abbrev pub function : String → List Kind → Variadic → Kind → Function
function n ks v k = record { name = bytes n; arg_types = ks; variadic = v; return_type = k }

unfoldable pub functions : List Function
functions =
    function "abs" (vector ∷ []) fixed vector
    ∷ function "absent" (vector ∷ []) fixed vector
    ∷ function "absent_over_time" (matrix ∷ []) fixed vector
    ∷ function "acos" (vector ∷ []) fixed vector
    ∷ function "acosh" (vector ∷ []) fixed vector
    ∷ function "asin" (vector ∷ []) fixed vector
    ∷ function "asinh" (vector ∷ []) fixed vector
    ∷ function "atan" (vector ∷ []) fixed vector
    ∷ function "atanh" (vector ∷ []) fixed vector
    ∷ function "avg_over_time" (matrix ∷ []) fixed vector
    ∷ function "ceil" (vector ∷ []) fixed vector
    ∷ function "changes" (matrix ∷ []) fixed vector
    ∷ function "clamp" (vector ∷ scalar ∷ scalar ∷ []) fixed vector
    ∷ function "clamp_max" (vector ∷ scalar ∷ []) fixed vector
    ∷ function "clamp_min" (vector ∷ scalar ∷ []) fixed vector
    ∷ function "cos" (vector ∷ []) fixed vector
    ∷ function "cosh" (vector ∷ []) fixed vector
    ∷ function "count_over_time" (matrix ∷ []) fixed vector
    ∷ function "day_of_month" (vector ∷ []) (up_to 1) vector
    ∷ function "day_of_week" (vector ∷ []) (up_to 1) vector
    ∷ function "day_of_year" (vector ∷ []) (up_to 1) vector
    ∷ function "days_in_month" (vector ∷ []) (up_to 1) vector
    ∷ function "deg" (vector ∷ []) fixed vector
    ∷ function "delta" (matrix ∷ []) fixed vector
    ∷ function "deriv" (matrix ∷ []) fixed vector
    ∷ function "double_exponential_smoothing" (matrix ∷ scalar ∷ scalar ∷ []) fixed vector
    ∷ function "end" [] fixed scalar
    ∷ function "exp" (vector ∷ []) fixed vector
    ∷ function "first_over_time" (matrix ∷ []) fixed vector
    ∷ function "floor" (vector ∷ []) fixed vector
    ∷ function "histogram_avg" (vector ∷ []) fixed vector
    ∷ function "histogram_count" (vector ∷ []) fixed vector
    ∷ function "histogram_fraction" (scalar ∷ scalar ∷ vector ∷ []) fixed vector
    ∷ function "histogram_quantile" (scalar ∷ vector ∷ []) fixed vector
    ∷ function "histogram_quantiles" (vector ∷ string ∷ scalar ∷ scalar ∷ []) (up_to 9) vector
    ∷ function "histogram_stddev" (vector ∷ []) fixed vector
    ∷ function "histogram_stdvar" (vector ∷ []) fixed vector
    ∷ function "histogram_sum" (vector ∷ []) fixed vector
    ∷ function "hour" (vector ∷ []) (up_to 1) vector
    ∷ function "idelta" (matrix ∷ []) fixed vector
    ∷ function "increase" (matrix ∷ []) fixed vector
    ∷ function "info" (vector ∷ vector ∷ []) (up_to 1) vector
    ∷ function "integral" (matrix ∷ scalar ∷ []) (up_to 1) vector
    ∷ function "irate" (matrix ∷ []) fixed vector
    ∷ function "label_join" (vector ∷ string ∷ string ∷ string ∷ []) unlimited vector
    ∷ function "label_replace" (vector ∷ string ∷ string ∷ string ∷ string ∷ []) fixed vector
    ∷ function "last_over_time" (matrix ∷ []) fixed vector
    ∷ function "ln" (vector ∷ []) fixed vector
    ∷ function "log10" (vector ∷ []) fixed vector
    ∷ function "log2" (vector ∷ []) fixed vector
    ∷ function "mad_over_time" (matrix ∷ []) fixed vector
    ∷ function "max_of" (scalar ∷ scalar ∷ []) fixed scalar
    ∷ function "max_over_time" (matrix ∷ []) fixed vector
    ∷ function "min_of" (scalar ∷ scalar ∷ []) fixed scalar
    ∷ function "min_over_time" (matrix ∷ []) fixed vector
    ∷ function "minute" (vector ∷ []) (up_to 1) vector
    ∷ function "month" (vector ∷ []) (up_to 1) vector
    ∷ function "pi" [] fixed scalar
    ∷ function "predict_linear" (matrix ∷ scalar ∷ []) fixed vector
    ∷ function "present_over_time" (matrix ∷ []) fixed vector
    ∷ function "quantile_over_time" (scalar ∷ matrix ∷ []) fixed vector
    ∷ function "rad" (vector ∷ []) fixed vector
    ∷ function "range" [] fixed scalar
    ∷ function "rate" (matrix ∷ []) fixed vector
    ∷ function "resets" (matrix ∷ []) fixed vector
    ∷ function "round" (vector ∷ scalar ∷ []) (up_to 1) vector
    ∷ function "scalar" (vector ∷ []) fixed scalar
    ∷ function "sgn" (vector ∷ []) fixed vector
    ∷ function "sin" (vector ∷ []) fixed vector
    ∷ function "sinh" (vector ∷ []) fixed vector
    ∷ function "sort" (vector ∷ []) fixed vector
    ∷ function "sort_by_label" (vector ∷ string ∷ []) unlimited vector
    ∷ function "sort_by_label_desc" (vector ∷ string ∷ []) unlimited vector
    ∷ function "sort_desc" (vector ∷ []) fixed vector
    ∷ function "sqrt" (vector ∷ []) fixed vector
    ∷ function "start" [] fixed scalar
    ∷ function "start_timestamp" (vector ∷ []) fixed vector
    ∷ function "stddev_over_time" (matrix ∷ []) fixed vector
    ∷ function "stdvar_over_time" (matrix ∷ []) fixed vector
    ∷ function "step" [] fixed scalar
    ∷ function "sum_over_time" (matrix ∷ []) fixed vector
    ∷ function "tan" (vector ∷ []) fixed vector
    ∷ function "tanh" (vector ∷ []) fixed vector
    ∷ function "time" [] fixed scalar
    ∷ function "timestamp" (vector ∷ []) fixed vector
    ∷ function "ts_of_first_over_time" (matrix ∷ []) fixed vector
    ∷ function "ts_of_last_over_time" (matrix ∷ []) fixed vector
    ∷ function "ts_of_max_over_time" (matrix ∷ []) fixed vector
    ∷ function "ts_of_min_over_time" (matrix ∷ []) fixed vector
    ∷ function "vector" (scalar ∷ []) fixed vector
    ∷ function "year" (vector ∷ []) (up_to 1) vector
    ∷ []
