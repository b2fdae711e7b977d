-- Texts of labels and matchers (label/mod.rs, label/matcher.rs, util/mod.rs).
use Rattle.std.specs.Prelude.{ℕ, Bool, true, false, ◌&&◌, ◌||◌, List, [], ◌∷◌, ◌++◌, map, eqb, ltb}
use Rattle.page.specs.Bytes.{pick, bytes, join_rest, join}
use Rattle.page.specs.Text.{Text, is_label}
use Rattle.leaves.specs.Escape.{quote}
use Rattle.records.specs.Field.{Labels}
use Rattle.records.specs.Matcher.{MatchOp, equal, not_equal, re, not_re, Matcher}

-- a label as it is, or quoted where it fails `is_label`
unfoldable pub display_label : Text → List ℕ
display_label t = pick (is_label t) t (quote t)

-- `Display` of `Labels`
unfoldable pub display_labels : Labels → List ℕ
display_labels ls = join (bytes ", ") (map display_label ls)

-- the labels after the first, each with its separator in front
unfoldable pub display_more_labels : Labels → List ℕ
display_more_labels ls = join_rest (bytes ", ") (map display_label ls)

abbrev pub match_op_token : MatchOp → List ℕ
match_op_token equal = bytes "="
match_op_token not_equal = bytes "!="
match_op_token (re b) = bytes "=~"
match_op_token (not_re b) = bytes "!~"

-- `Display` of `Matcher`
unfoldable pub display_matcher : Matcher → List ℕ
display_matcher m = display_label m.name ++ match_op_token m.op ++ quote m.value

-- the order of texts as bytes
unfoldable pub at_most : Text → Text → Bool
at_most [] u = true
at_most (a ∷ t) [] = false
at_most (a ∷ t) (b ∷ u) = ltb a b || (eqb a b && at_most t u)

unfoldable pub insert : Text → List Text → List Text
insert t [] = t ∷ []
insert t (u ∷ us) = pick (at_most t u) (t ∷ u ∷ us) (u ∷ insert t us)

unfoldable pub sort : List Text → List Text
sort [] = []
sort (t ∷ ts) = insert t (sort ts)

-- texts with a comma between each two, and those after the first, each with its comma in front
unfoldable pub joined_by_commas : List Text → List ℕ
joined_by_commas ts = join (bytes ",") ts

unfoldable pub more_by_commas : List Text → List ℕ
more_by_commas ts = join_rest (bytes ",") ts

-- `Display` of `Matchers`: the texts sorted, joined by a comma
unfoldable pub display_matchers : List Matcher → List ℕ
display_matchers ms = joined_by_commas (sort (map display_matcher ms))
