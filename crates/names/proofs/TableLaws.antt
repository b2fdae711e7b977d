-- Names in one run of letters: where each lies, and that a run of any names with their starts holds those names.
-- Assumes nothing.
use Prim.Native.Nat.{ℕ, zero, suc, ◌+◌, ◌-◌, ◌≤◌, ◌<◌}
use Prim.Native.String.{String}
use native.Mathlib.Nat.{not-suc-le-zero, le_of_suc-le-suc, zero-sub}
use native.Mathlib.Numerals.{add-one}
use native.Mathlib.Omega.{arith}
use mathlib.Core.Bool.{◌&&◌}
use mathlib.Core.List.{List, [], ◌∷◌, ◌++◌, map, append_assoc}
use mathlib.Core.Path.{◌≡◌, refl, ap, ◌∙◌}
use lib.Dec.{T, leb, leb→le}
use lib.ListN.{length, get_or, take, drop, length-append, length-drop, get_or-eq_default, get_or-map}
use lib.Seq.{take_at, drop_at, length-take-le}
use Rattle.page.specs.Bytes.{bytes}
use Rattle.page.proofs.NumberLaws.{left-of, right_of}
use Rattle.names.specs.Names.{name_in}
use Rattle.names.specs.Table.{longest_name, ascend, is_table, name_at}

-- ## is_table

-- a name lies within the letters
pub record NamePlaced (letters : List ℕ) (start end : ℕ) : Type 0 where
  pub ordered : start ≤ end
  pub short : end - start ≤ longest_name
  pub inside : end ≤ length letters

pub table-starts : (letters starts : List ℕ) → T (is_table letters starts) → 1 ≤ length starts
table-starts letters [] t = absurd t
table-starts letters (n ∷ ns) t = omega arith

ascend-placed : (letters : List ℕ) (low : ℕ) (ns : List ℕ) (i : ℕ) → T (ascend low (length letters) ns) → i < length ns
    → NamePlaced letters (get_or (low ∷ ns) i 0) (get_or ns i 0)
ascend-placed letters low [] i t h = absurd (not-suc-le-zero h)
ascend-placed letters low (n ∷ ns) zero t h =
    let near = left-of (leb low n && leb (n - low) longest_name && leb n (length letters)) (ascend n (length letters) ns) t in
    let behind = left-of (leb low n && leb (n - low) longest_name) (leb n (length letters)) near in
    record {
      ordered = leb→le low n (left-of (leb low n) (leb (n - low) longest_name) behind);
      short = leb→le (n - low) longest_name (right_of (leb low n) (leb (n - low) longest_name) behind);
      inside = leb→le n (length letters) (right_of (leb low n && leb (n - low) longest_name) (leb n (length letters)) near);
    }
ascend-placed letters low (n ∷ ns) (suc i) t h =
    ascend-placed letters n ns i
    (right_of (leb low n && leb (n - low) longest_name && leb n (length letters)) (ascend n (length letters) ns)
    t) (le_of_suc-le-suc h)

pub placed : (letters starts : List ℕ) (i : ℕ) → T (is_table letters starts) → i < length starts - 1
    → NamePlaced letters (get_or starts i 0) (get_or starts (i + 1) 0)
placed letters [] i t h = absurd t
placed letters (n ∷ ns) i t h = rw (add-one i) (ascend-placed letters n ns i t (omega arith))

pub length-between : {letters : List ℕ} {start end : ℕ} → NamePlaced letters start end → length (take (end - start) (drop start letters)) ≡ end - start
length-between {letters} {start} p = length-take-le _ (drop start letters) (omega (arith, length-drop start letters, p.inside, p.ordered))

-- ## name_at

pub name_at-past : (letters starts : List ℕ) (i : ℕ) → length starts - 1 ≤ i → name_at letters starts i ≡ []
unfolding name_at
name_at-past letters starts i h = rw (get_or-eq_default starts 0 {n = i + 1} (omega arith), zero-sub (get_or starts i 0))

-- ## A run of names

-- the letters of all names, and where each begins
abbrev pub run : List (List ℕ) → List ℕ
run [] = []
run (t ∷ ts) = t ++ run ts

abbrev pub starts_from : ℕ → List (List ℕ) → List ℕ
starts_from n [] = n ∷ []
starts_from n (t ∷ ts) = n ∷ starts_from (n + length t) ts

first-start : (n : ℕ) (ts : List (List ℕ)) → get_or (starts_from n ts) 0 0 ≡ n
first-start n [] = refl
first-start n (t ∷ ts) = refl

-- the name between two starts
between : ℕ → ℕ → List ℕ → List ℕ
between start end letters = take (end - start) (drop start letters)

-- the run stands after other letters, which end at n
run-behind : (front : List ℕ) (n : ℕ) (ts : List (List ℕ)) (i : ℕ) → length front ≡ n
    → between (get_or (starts_from n ts) i 0) (get_or (starts_from n ts) (suc i) 0) (front ++ run ts) ≡ get_or ts i []
unfolding between
run-behind front n [] zero e = rw (zero-sub n)
run-behind front n [] (suc i) e = refl
run-behind front n (t ∷ ts) zero e =
    let size : n + length t - n ≡ length t = omega arith in
    rw (first-start (n + length t) ts, size, drop_at front (t ++ run ts) n e) (take_at t (run ts) (length t) refl)
run-behind front n (t ∷ ts) (suc i) e =
    let ends : length (front ++ t) ≡ n + length t = length-append front t ∙ ap (λ (k : ℕ). k + length t) e in
    rw (← append_assoc front t (run ts)) (run-behind (front ++ t) (n + length t) ts i ends)

pub name_at-run : (names : List String) (i : ℕ) → name_at (run (map bytes names)) (starts_from 0 (map bytes names)) i ≡ name_in names i
unfolding name_at between
name_at-run names i = rw (add-one i) (run-behind [] 0 (map bytes names) i refl ∙ get_or-map bytes names i "")
