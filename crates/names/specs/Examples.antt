-- Names that are written, and that are not: examples, proved together by one computed test.
use Rattle.std.specs.Prelude.{ℕ, ◌+◌, ◌*◌, ◌^◌, ◌-◌, Bool, true, not, ◌&&◌, List, [], ◌∷◌, ◌++◌, map, T, eqb, replicate}
use Rattle.page.specs.Bytes.{all, bytes, equal}
use Rattle.names.specs.Names.{kind_name, refusal_name}
use Rattle.names.specs.Written.{Named, name_written}

abbrev does : Named → ℕ → List ℕ → Bool
does named word buffer = eqb named.word word && equal named.buffer buffer

abbrev lent : ℕ → List ℕ
lent n = replicate n 7

-- a name; the same where it just fits, and where it does not; numbers without one, also with nothing lent
pinned : T (
    does (name_written (kind_name 1) (lent 8)) 24 (bytes "scalar" ++ lent 2)
    && does (name_written (kind_name 1) (lent 6)) 24 (bytes "scalar")
    && does (name_written (kind_name 1) (lent 5)) (2 ^ 63 + 5 * 65536) (lent 5)
    && does (name_written (kind_name 4) (lent 5)) 0 (lent 5)
    && does (name_written (refusal_name 8) (lent 14)) 52 (bytes "range after @" ++ lent 1)
    && does (name_written (refusal_name 34) []) (2 ^ 63 + 5 * 65536) []
    && does (name_written (refusal_name 0) []) 0 []
    && does (name_written (refusal_name 35) (lent 5)) 0 (lent 5)
    && does (name_written (refusal_name 36) []) 0 []
    && does (name_written (refusal_name 37) (lent 40)) 156 (bytes "a function that the table does not have" ++ lent 1)
    && does (name_written (refusal_name 38) (lent 38)) (2 ^ 63 + 5 * 65536) (lent 38)
    && does (name_written (refusal_name 39) (lent 5)) 0 (lent 5)
    && does (name_written (refusal_name 40) []) 0 []
    && does (name_written (refusal_name 41) []) (2 ^ 63 + 5 * 65536) []
    && does (name_written (refusal_name 42) (lent 51)) 204 (bytes "the parameter of limitk or limit_ratio is no scalar")
    && does (name_written (refusal_name 43) (lent 5)) 0 (lent 5)
    && does (name_written (refusal_name 255) []) 0 []
    && does (name_written (refusal_name (2 ^ 64 - 1)) (lent 5)) 0 (lent 5)
    )
unfolding kind_name refusal_name
pinned = tt

abbrev differ : List (List ℕ) → Bool
differ [] = true
differ (t ∷ ts) = all (λ u. not (equal t u)) ts && differ ts

-- the numbers that are refusals
abbrev named : List ℕ
named =
    1 ∷ 2 ∷ 3 ∷ 4 ∷ 5 ∷ 6 ∷ 7 ∷ 8 ∷ 9 ∷ 10 ∷ 11 ∷ 12 ∷ 13 ∷ 14 ∷ 15 ∷ 16 ∷ 17
    ∷ 18 ∷ 19 ∷ 20 ∷ 21 ∷ 22 ∷ 23 ∷ 24 ∷ 25 ∷ 26 ∷ 27 ∷ 28 ∷ 29 ∷ 30 ∷ 31 ∷ 32 ∷ 33 ∷ 34 ∷ 37 ∷ 38 ∷ 41 ∷ 42 ∷ []

-- their names differ from each other and from that of 0, so that none of them is empty
distinct : T (differ (map refusal_name (0 ∷ named)))
unfolding refusal_name
distinct = tt
