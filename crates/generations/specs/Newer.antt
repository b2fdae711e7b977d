-- The functions of Prometheus 3.0, the newer generation (document 02, No. 13): those of the functions document of 3.5.3
-- but `ts_of_min_over_time`, `ts_of_max_over_time` and `ts_of_last_over_time`, which the change log of 3.5.3 has as new
-- in 3.5.0 (line 36). Behind each row stands the line of its signature in the document of 3.5.3. Counts, extras and
-- results are the repository's, as in `Older`.
use Rattle.std.specs.Prelude.{List, [], ◌∷◌}
use Rattle.records.specs.Kind.{vector, scalar, matrix, string}
use Rattle.records.specs.Signature.{fixed, unlimited, up_to, Function}
use Rattle.functions.specs.Functions.{function}

unfoldable pub newer_functions : List Function
newer_functions =
    function "abs" (vector ∷ []) fixed vector  -- 14
    ∷ function "absent" (vector ∷ []) fixed vector  -- 20
    ∷ function "absent_over_time" (matrix ∷ []) fixed vector  -- 43
    ∷ function "acos" (vector ∷ []) fixed vector  -- 891
    ∷ function "acosh" (vector ∷ []) fixed vector  -- 892
    ∷ function "asin" (vector ∷ []) fixed vector  -- 893
    ∷ function "asinh" (vector ∷ []) fixed vector  -- 894
    ∷ function "atan" (vector ∷ []) fixed vector  -- 895
    ∷ function "atanh" (vector ∷ []) fixed vector  -- 896
    ∷ function "avg_over_time" (matrix ∷ []) fixed vector  -- 844
    ∷ function "ceil" (vector ∷ []) fixed vector  -- 67
    ∷ function "changes" (matrix ∷ []) fixed vector  -- 78
    ∷ function "clamp" (vector ∷ scalar ∷ scalar ∷ []) fixed vector  -- 86
    ∷ function "clamp_max" (vector ∷ scalar ∷ []) fixed vector  -- 97
    ∷ function "clamp_min" (vector ∷ scalar ∷ []) fixed vector  -- 103
    ∷ function "cos" (vector ∷ []) fixed vector  -- 897
    ∷ function "cosh" (vector ∷ []) fixed vector  -- 898
    ∷ function "count_over_time" (matrix ∷ []) fixed vector  -- 848
    ∷ function "day_of_month" (vector ∷ []) (up_to 1) vector  -- 109
    ∷ function "day_of_week" (vector ∷ []) (up_to 1) vector  -- 116
    ∷ function "day_of_year" (vector ∷ []) (up_to 1) vector  -- 124
    ∷ function "days_in_month" (vector ∷ []) (up_to 1) vector  -- 132
    ∷ function "deg" (vector ∷ []) fixed vector  -- 906
    ∷ function "delta" (matrix ∷ []) fixed vector  -- 139
    ∷ function "deriv" (matrix ∷ []) fixed vector  -- 164
    ∷ function "double_exponential_smoothing" (matrix ∷ scalar ∷ scalar ∷ []) fixed vector  -- 183
    ∷ function "exp" (vector ∷ []) fixed vector  -- 203
    ∷ function "floor" (vector ∷ []) fixed vector  -- 211
    ∷ function "histogram_avg" (vector ∷ []) fixed vector  -- 222
    ∷ function "histogram_count" (vector ∷ []) fixed vector  -- 239
    ∷ function "histogram_fraction" (scalar ∷ scalar ∷ vector ∷ []) fixed vector  -- 254
    ∷ function "histogram_quantile" (scalar ∷ vector ∷ []) fixed vector  -- 303
    ∷ function "histogram_stddev" (vector ∷ []) fixed vector  -- 439
    ∷ function "histogram_stdvar" (vector ∷ []) fixed vector  -- 446
    ∷ function "histogram_sum" (vector ∷ []) fixed vector  -- 243
    ∷ function "hour" (vector ∷ []) (up_to 1) vector  -- 451
    ∷ function "idelta" (matrix ∷ []) fixed vector  -- 458
    ∷ function "increase" (matrix ∷ []) fixed vector  -- 469
    ∷ function "info" (vector ∷ vector ∷ []) (up_to 1) vector  -- 504
    ∷ function "irate" (matrix ∷ []) fixed vector  -- 589
    ∷ function "label_join" (vector ∷ string ∷ string ∷ string ∷ []) unlimited vector  -- 620
    ∷ function "label_replace" (vector ∷ string ∷ string ∷ string ∷ string ∷ []) fixed vector  -- 634
    ∷ function "last_over_time" (matrix ∷ []) fixed vector  -- 852
    ∷ function "ln" (vector ∷ []) fixed vector  -- 655
    ∷ function "log10" (vector ∷ []) fixed vector  -- 671
    ∷ function "log2" (vector ∷ []) fixed vector  -- 665
    ∷ function "mad_over_time" (matrix ∷ []) fixed vector  -- 859
    ∷ function "max_over_time" (matrix ∷ []) fixed vector  -- 846
    ∷ function "min_over_time" (matrix ∷ []) fixed vector  -- 845
    ∷ function "minute" (vector ∷ []) (up_to 1) vector  -- 677
    ∷ function "month" (vector ∷ []) (up_to 1) vector  -- 684
    ∷ function "pi" [] fixed scalar  -- 907
    ∷ function "predict_linear" (matrix ∷ scalar ∷ []) fixed vector  -- 692
    ∷ function "present_over_time" (matrix ∷ []) fixed vector  -- 853
    ∷ function "quantile_over_time" (scalar ∷ matrix ∷ []) fixed vector  -- 849
    ∷ function "rad" (vector ∷ []) fixed vector  -- 908
    ∷ function "rate" (matrix ∷ []) fixed vector  -- 707
    ∷ function "resets" (matrix ∷ []) fixed vector  -- 737
    ∷ function "round" (vector ∷ scalar ∷ []) (up_to 1) vector  -- 755
    ∷ function "scalar" (vector ∷ []) fixed scalar  -- 764
    ∷ function "sgn" (vector ∷ []) fixed vector  -- 771
    ∷ function "sin" (vector ∷ []) fixed vector  -- 899
    ∷ function "sinh" (vector ∷ []) fixed vector  -- 900
    ∷ function "sort" (vector ∷ []) fixed vector  -- 777
    ∷ function "sort_by_label" (vector ∷ string ∷ []) unlimited vector  -- 793
    ∷ function "sort_by_label_desc" (vector ∷ string ∷ []) unlimited vector  -- 810
    ∷ function "sort_desc" (vector ∷ []) fixed vector  -- 785
    ∷ function "sqrt" (vector ∷ []) fixed vector  -- 814
    ∷ function "stddev_over_time" (matrix ∷ []) fixed vector  -- 850
    ∷ function "stdvar_over_time" (matrix ∷ []) fixed vector  -- 851
    ∷ function "sum_over_time" (matrix ∷ []) fixed vector  -- 847
    ∷ function "tan" (vector ∷ []) fixed vector  -- 901
    ∷ function "tanh" (vector ∷ []) fixed vector  -- 902
    ∷ function "time" [] fixed scalar  -- 819
    ∷ function "timestamp" (vector ∷ []) fixed vector  -- 825
    ∷ function "vector" (scalar ∷ []) fixed vector  -- 831
    ∷ function "year" (vector ∷ []) (up_to 1) vector  -- 836
    ∷ []
