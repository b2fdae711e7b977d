-- No name is longer than the header says: one computed test over all names. Assumes nothing.
use Prim.Native.Nat.{ℕ, zero, suc, ◌≤◌}
use Prim.Native.String.{String}
use native.Mathlib.Omega.{arith}
use mathlib.Core.Bool.{Bool}
use mathlib.Core.List.{List, [], ◌∷◌}
use lib.Dec.{T, leb, leb→le}
use lib.ListN.{length}
use Rattle.page.specs.Bytes.{all, bytes}
use Rattle.page.proofs.NumberLaws.{left-of, right_of}
use Rattle.names.specs.Names.{kind_names, refusal_names, name_in, kind_name, refusal_name}
use Rattle.names.specs.Table.{longest_name}

abbrev is_short : String → Bool
is_short name = leb (length (bytes name)) longest_name

name_in-short : (names : List String) → T (all is_short names) → (n : ℕ) → length (name_in names n) ≤ longest_name
name_in-short [] t n = omega arith
name_in-short (name ∷ names) t zero = leb→le (length (bytes name)) longest_name (left-of (is_short name) (all is_short names) t)
name_in-short (name ∷ names) t (suc n) = name_in-short names (right_of (is_short name) (all is_short names) t) n

pub kind_name-short : (n : ℕ) → length (kind_name n) ≤ longest_name
unfolding kind_name
kind_name-short = name_in-short kind_names tt

pub refusal_name-short : (n : ℕ) → length (refusal_name n) ≤ longest_name
unfolding refusal_name
refusal_name-short = name_in-short refusal_names tt
