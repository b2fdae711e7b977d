-- The order of two texts as bytes (document 02, No. 2: "names ascend"): `_` stands after digits and capitals, and
-- before small letters; a beginning stands before the whole.
use Rattle.std.specs.Prelude.{Bool, true, false, ◌&&◌, List, [], ◌∷◌, ltb}
use Rattle.page.specs.Bytes.{pick}
use Rattle.page.specs.Text.{Text}
use Rattle.std.specs.declared.cmp.Ordering.{Ordering}
use Rattle.std.specs.declared.cmp.Ordering.TheVariants.{Less, Equal, Greater}

-- how the first text stands to the second
abbrev pub order_of : Text → Text → Ordering
order_of [] [] = Equal
order_of [] (b ∷ u) = Less
order_of (a ∷ t) [] = Greater
order_of (a ∷ t) (b ∷ u) = pick (ltb a b) Less (pick (ltb b a) Greater (order_of t u))

abbrev pub is_before : Text → Text → Bool
is_before t u = by (order_of t u)
  where
    by : Ordering → Bool
    by Less = true
    by Equal = false
    by Greater = false

-- each text stands before the next
abbrev pub ascend : List Text → Bool
ascend [] = true
ascend (t ∷ []) = true
ascend (t ∷ u ∷ ts) = is_before t u && ascend (u ∷ ts)
