-- A number or an offset in front of records, in the copy. A number stands there itself, or takes a unary record in; an
-- offset stands there itself, or behind the @. What holds of both holds of the copy. Assumes nothing.
use Prim.Native.Nat.{ℕ, suc, ◌+◌, ◌≤◌}
use mathlib.Core.Path.{◌≡◌, refl, ap}
use mathlib.Core.Bool.{false}
use mathlib.Core.List.{List, [], ◌∷◌}
use native.Mathlib.Omega.{arith}
use lib.ListN.{length, length-append}
use lib.Dec.{eqb}
use Rattle.page.specs.Text.{write_all}
use Rattle.page.specs.Allowed.{Each}
use Rattle.records.specs.Literal.{Literal, plus, minus, nan, negate}
use Rattle.records.specs.Float.{IsExact}
use Rattle.records.specs.Record.{number, string, selector, range, subquery, at, offset, unary, paren, Record, leaf}
use Rattle.records.specs.Record.{wrapper, binary, aggregate, call, write_record}
use Rattle.records.specs.Time.{Offset, AtModifier}
use Rattle.records.specs.Allowed.{IsOffset, IsAllowed}
use Rattle.copy.specs.Copy.{copy_number, copy_offset, copy_record}
use Rattle.copy.specs.Settled.{start_with}

-- ## copy_number

module _ (P : Literal → List Record → List Record → Type 0)
    (alone : (l : Literal) (rs : List Record) → start_with 7 rs ≡ false → P l rs (leaf (number l) ∷ rs))
    (further : (l : Literal) (rs qs : List Record) → P (negate l) rs qs → P l (wrapper unary ∷ rs) qs)
  where
    pub copy_number-by : (l : Literal) (rs : List Record) → P l rs (copy_number l rs)
    copy_number-by l [] = alone l [] refl
    copy_number-by l (leaf (number m) ∷ rs) = alone l (leaf (number m) ∷ rs) refl
    copy_number-by l (leaf (string t) ∷ rs) = alone l (leaf (string t) ∷ rs) refl
    copy_number-by l (leaf (selector s) ∷ rs) = alone l (leaf (selector s) ∷ rs) refl
    copy_number-by l (wrapper (range n) ∷ rs) = alone l (wrapper (range n) ∷ rs) refl
    copy_number-by l (wrapper (subquery r s) ∷ rs) = alone l (wrapper (subquery r s) ∷ rs) refl
    copy_number-by l (wrapper (at a) ∷ rs) = alone l (wrapper (at a) ∷ rs) refl
    copy_number-by l (wrapper (offset o) ∷ rs) = alone l (wrapper (offset o) ∷ rs) refl
    copy_number-by l (wrapper unary ∷ rs) = further l rs (copy_number (negate l) rs) (copy_number-by (negate l) rs)
    copy_number-by l (wrapper paren ∷ rs) = alone l (wrapper paren ∷ rs) refl
    copy_number-by l (binary c m ∷ rs) = alone l (binary c m ∷ rs) refl
    copy_number-by l (aggregate c m n ∷ rs) = alone l (aggregate c m n ∷ rs) refl
    copy_number-by l (call f n ∷ rs) = alone l (call f n ∷ rs) refl

-- before records of which the first is no unary record
pub copy_number-alone : (l : Literal) (rs : List Record) → start_with 7 rs ≡ false → copy_number l rs ≡ leaf (number l) ∷ rs
copy_number-alone =
    copy_number-by (λ l rs qs. start_with 7 rs ≡ false → qs ≡ leaf (number l) ∷ rs) (λ l rs h k. refl)
    (λ l rs qs same k. absurd (let z : ◌≡◌ {A = ℕ} 0 1 = cc in omega arith))

-- the first record is a number
copy_number-first : (k : ℕ) → eqb 0 k ≡ false → (l : Literal) (rs : List Record) → start_with k (copy_number l rs) ≡ false
copy_number-first k other = copy_number-by (λ l rs qs. start_with k qs ≡ false) (λ l rs h. other) (λ l rs qs more. more)

negate-exact : (l : Literal) → IsExact l → IsExact (negate l)
negate-exact (plus m) h = h
negate-exact (minus m) h = h
negate-exact nan h = tt

pub copy_number-allowed : (l : Literal) (rs : List Record) → IsExact l → Each IsAllowed rs → Each IsAllowed (copy_number l rs)
copy_number-allowed =
    copy_number-by (λ l rs qs. IsExact l → Each IsAllowed rs → Each IsAllowed qs) (λ l rs k h all. (h, all))
    (λ l rs qs more h all. more (negate-exact l h) all.1)

pub copy_number-length : (l : Literal) (rs : List Record) → length (copy_number l rs) ≤ suc (length rs)
copy_number-length =
    copy_number-by (λ l rs qs. length qs ≤ suc (length rs)) (λ l rs h. omega arith) (λ l rs qs more. omega (arith, more))

-- ## copy_offset

module _ (o : Offset) (P : List Record → List Record → Type 0)
    (alone : (rs : List Record) → start_with 5 rs ≡ false → P rs (wrapper (offset o) ∷ rs))
    (further : (a : AtModifier) (rs qs : List Record) → P rs qs → P (wrapper (at a) ∷ rs) (wrapper (at a) ∷ qs))
  where
    pub copy_offset-by : (rs : List Record) → P rs (copy_offset o rs)
    copy_offset-by [] = alone [] refl
    copy_offset-by (leaf (number l) ∷ rs) = alone (leaf (number l) ∷ rs) refl
    copy_offset-by (leaf (string t) ∷ rs) = alone (leaf (string t) ∷ rs) refl
    copy_offset-by (leaf (selector s) ∷ rs) = alone (leaf (selector s) ∷ rs) refl
    copy_offset-by (wrapper (range n) ∷ rs) = alone (wrapper (range n) ∷ rs) refl
    copy_offset-by (wrapper (subquery r s) ∷ rs) = alone (wrapper (subquery r s) ∷ rs) refl
    copy_offset-by (wrapper (at a) ∷ rs) = further a rs (copy_offset o rs) (copy_offset-by rs)
    copy_offset-by (wrapper (offset p) ∷ rs) = alone (wrapper (offset p) ∷ rs) refl
    copy_offset-by (wrapper unary ∷ rs) = alone (wrapper unary ∷ rs) refl
    copy_offset-by (wrapper paren ∷ rs) = alone (wrapper paren ∷ rs) refl
    copy_offset-by (binary c m ∷ rs) = alone (binary c m ∷ rs) refl
    copy_offset-by (aggregate c m n ∷ rs) = alone (aggregate c m n ∷ rs) refl
    copy_offset-by (call f n ∷ rs) = alone (call f n ∷ rs) refl

module _ (o : Offset) where
  -- before records of which the first is no @
  pub copy_offset-alone : (rs : List Record) → start_with 5 rs ≡ false → copy_offset o rs ≡ wrapper (offset o) ∷ rs
  copy_offset-alone =
      copy_offset-by o (λ rs qs. start_with 5 rs ≡ false → qs ≡ wrapper (offset o) ∷ rs) (λ rs h k. refl)
      (λ a rs qs same k. absurd (let z : ◌≡◌ {A = ℕ} 0 1 = cc in omega arith))

  pub copy_offset-allowed : (rs : List Record) → IsOffset o → Each IsAllowed rs → Each IsAllowed (copy_offset o rs)
  copy_offset-allowed rs h =
      copy_offset-by o (λ rs qs. Each IsAllowed rs → Each IsAllowed qs) (λ rs k all. (h, all))
      (λ a rs qs more all. (all.0, more all.1)) rs

  pub copy_offset-length : (rs : List Record) → length (copy_offset o rs) ≡ suc (length rs)
  copy_offset-length = copy_offset-by o (λ rs qs. length qs ≡ suc (length rs)) (λ rs k. refl) (λ a rs qs more. ap suc more)

  -- no byte more and none less
  pub copy_offset-bytes : (rs : List Record)
      → length (write_all write_record (copy_offset o rs)) ≡ length (write_record (wrapper (offset o))) + length (write_all write_record rs)
  copy_offset-bytes =
      copy_offset-by o
      (λ rs qs. length (write_all write_record qs) ≡ length (write_record (wrapper (offset o))) + length (write_all write_record rs))
      (λ rs h. length-append (write_record (wrapper (offset o))) (write_all write_record rs))
      (λ a rs qs more. omega (
        arith,
        more,
        length-append (write_record (wrapper (at a))) (write_all write_record rs),
        length-append (write_record (wrapper (at a))) (write_all write_record qs),
      ))

  -- the first record is an @ or an offset
  pub copy_offset-first : (k : ℕ) → eqb 5 k ≡ false → eqb 6 k ≡ false → (rs : List Record) → start_with k (copy_offset o rs) ≡ false
  copy_offset-first k five six = copy_offset-by o (λ rs qs. start_with k qs ≡ false) (λ rs h. six) (λ a rs qs more. five)

-- ## The first record of a copy

-- it is of the kind of the first record, but for an offset, before which an @ may stand
pub copy_record-first : (k : ℕ) (r : Record) (rs : List Record) → start_with k (r ∷ rs) ≡ false
    → ((o : Offset) → r ≡ wrapper (offset o) → start_with k (copy_offset o rs) ≡ false) → start_with k (copy_record r rs) ≡ false
copy_record-first k (leaf (number l)) rs h behind = copy_number-first k h l rs
copy_record-first k (leaf (string t)) rs h behind = h
copy_record-first k (leaf (selector s)) rs h behind = h
copy_record-first k (wrapper (range n)) rs h behind = h
copy_record-first k (wrapper (subquery r s)) rs h behind = h
copy_record-first k (wrapper (at a)) rs h behind = h
copy_record-first k (wrapper (offset o)) rs h behind = behind o refl
copy_record-first k (wrapper unary) rs h behind = h
copy_record-first k (wrapper paren) rs h behind = h
copy_record-first k (binary c m) rs h behind = h
copy_record-first k (aggregate c m n) rs h behind = h
copy_record-first k (call f n) rs h behind = h
