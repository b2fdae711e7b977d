-- The functions of Prometheus 2.55, the older generation (document 02, No. 13: "Add a table for each from its functions
-- document"): those of the functions document of 2.53.3, and `info`, which the change log of 3.5.3 has as new in 2.55.0
-- (line 299). Behind each row stands the line of its signature in the document of 2.53.3. "A shared name keeps the
-- repository's count of kinds and its extra": `label_join`, shown with five kinds, has four. `holt_winters`, which the
-- repository lacks, has the document's kinds. Where a document says no result, the repository's stands.
use Rattle.std.specs.Prelude.{List, [], ◌∷◌}
use Rattle.records.specs.Kind.{vector, scalar, matrix, string}
use Rattle.records.specs.Signature.{fixed, unlimited, up_to, Function}
use Rattle.functions.specs.Functions.{function}

unfoldable pub older_functions : List Function
older_functions =
    function "abs" (vector ∷ []) fixed vector  -- 30
    ∷ function "absent" (vector ∷ []) fixed vector  -- 35
    ∷ function "absent_over_time" (matrix ∷ []) fixed vector  -- 58
    ∷ function "acos" (vector ∷ []) fixed vector  -- 685
    ∷ function "acosh" (vector ∷ []) fixed vector  -- 686
    ∷ function "asin" (vector ∷ []) fixed vector  -- 687
    ∷ function "asinh" (vector ∷ []) fixed vector  -- 688
    ∷ function "atan" (vector ∷ []) fixed vector  -- 689
    ∷ function "atanh" (vector ∷ []) fixed vector  -- 690
    ∷ function "avg_over_time" (matrix ∷ []) fixed vector  -- 657
    ∷ function "ceil" (vector ∷ []) fixed vector  -- 81
    ∷ function "changes" (matrix ∷ []) fixed vector  -- 86
    ∷ function "clamp" (vector ∷ scalar ∷ scalar ∷ []) fixed vector  -- 92
    ∷ function "clamp_max" (vector ∷ scalar ∷ []) fixed vector  -- 101
    ∷ function "clamp_min" (vector ∷ scalar ∷ []) fixed vector  -- 106
    ∷ function "cos" (vector ∷ []) fixed vector  -- 691
    ∷ function "cosh" (vector ∷ []) fixed vector  -- 692
    ∷ function "count_over_time" (matrix ∷ []) fixed vector  -- 661
    ∷ function "day_of_month" (vector ∷ []) (up_to 1) vector  -- 111
    ∷ function "day_of_week" (vector ∷ []) (up_to 1) vector  -- 116
    ∷ function "day_of_year" (vector ∷ []) (up_to 1) vector  -- 122
    ∷ function "days_in_month" (vector ∷ []) (up_to 1) vector  -- 128
    ∷ function "deg" (vector ∷ []) fixed vector  -- 700
    ∷ function "delta" (matrix ∷ []) fixed vector  -- 133
    ∷ function "deriv" (matrix ∷ []) fixed vector  -- 158
    ∷ function "exp" (vector ∷ []) fixed vector  -- 167
    ∷ function "floor" (vector ∷ []) fixed vector  -- 175
    ∷ function "histogram_avg" (vector ∷ []) fixed vector  -- 184
    ∷ function "histogram_count" (vector ∷ []) fixed vector  -- 205
    ∷ function "histogram_fraction" (scalar ∷ scalar ∷ vector ∷ []) fixed vector  -- 223
    ∷ function "histogram_quantile" (scalar ∷ vector ∷ []) fixed vector  -- 254
    ∷ function "histogram_stddev" (vector ∷ []) fixed vector  -- 364
    ∷ function "histogram_stdvar" (vector ∷ []) fixed vector  -- 369
    ∷ function "histogram_sum" (vector ∷ []) fixed vector  -- 209
    ∷ function "holt_winters" (matrix ∷ scalar ∷ scalar ∷ []) fixed vector  -- 374
    ∷ function "hour" (vector ∷ []) (up_to 1) vector  -- 384
    ∷ function "idelta" (matrix ∷ []) fixed vector  -- 389
    ∷ function "increase" (matrix ∷ []) fixed vector  -- 397
    ∷ function "info" (vector ∷ vector ∷ []) (up_to 1) vector  -- 3.5.3, line 504
    ∷ function "irate" (matrix ∷ []) fixed vector  -- 426
    ∷ function "label_join" (vector ∷ string ∷ string ∷ string ∷ []) unlimited vector  -- 452
    ∷ function "label_replace" (vector ∷ string ∷ string ∷ string ∷ string ∷ []) fixed vector  -- 466
    ∷ function "last_over_time" (matrix ∷ []) fixed vector  -- 665
    ∷ function "ln" (vector ∷ []) fixed vector  -- 487
    ∷ function "log10" (vector ∷ []) fixed vector  -- 502
    ∷ function "log2" (vector ∷ []) fixed vector  -- 497
    ∷ function "mad_over_time" (matrix ∷ []) fixed vector  -- 672
    ∷ function "max_over_time" (matrix ∷ []) fixed vector  -- 659
    ∷ function "min_over_time" (matrix ∷ []) fixed vector  -- 658
    ∷ function "minute" (vector ∷ []) (up_to 1) vector  -- 507
    ∷ function "month" (vector ∷ []) (up_to 1) vector  -- 512
    ∷ function "pi" [] fixed scalar  -- 701
    ∷ function "predict_linear" (matrix ∷ scalar ∷ []) fixed vector  -- 518
    ∷ function "present_over_time" (matrix ∷ []) fixed vector  -- 666
    ∷ function "quantile_over_time" (scalar ∷ matrix ∷ []) fixed vector  -- 662
    ∷ function "rad" (vector ∷ []) fixed vector  -- 702
    ∷ function "rate" (matrix ∷ []) fixed vector  -- 529
    ∷ function "resets" (matrix ∷ []) fixed vector  -- 559
    ∷ function "round" (vector ∷ scalar ∷ []) (up_to 1) vector  -- 579
    ∷ function "scalar" (vector ∷ []) fixed scalar  -- 586
    ∷ function "sgn" (vector ∷ []) fixed vector  -- 592
    ∷ function "sin" (vector ∷ []) fixed vector  -- 693
    ∷ function "sinh" (vector ∷ []) fixed vector  -- 694
    ∷ function "sort" (vector ∷ []) fixed vector  -- 596
    ∷ function "sort_by_label" (vector ∷ string ∷ []) unlimited vector  -- 611
    ∷ function "sort_by_label_desc" (vector ∷ string ∷ []) unlimited vector  -- 621
    ∷ function "sort_desc" (vector ∷ []) fixed vector  -- 603
    ∷ function "sqrt" (vector ∷ []) fixed vector  -- 629
    ∷ function "stddev_over_time" (matrix ∷ []) fixed vector  -- 663
    ∷ function "stdvar_over_time" (matrix ∷ []) fixed vector  -- 664
    ∷ function "sum_over_time" (matrix ∷ []) fixed vector  -- 660
    ∷ function "tan" (vector ∷ []) fixed vector  -- 695
    ∷ function "tanh" (vector ∷ []) fixed vector  -- 696
    ∷ function "time" [] fixed scalar  -- 633
    ∷ function "timestamp" (vector ∷ []) fixed vector  -- 639
    ∷ function "vector" (scalar ∷ []) fixed vector  -- 645
    ∷ function "year" (vector ∷ []) (up_to 1) vector  -- 649
    ∷ []
