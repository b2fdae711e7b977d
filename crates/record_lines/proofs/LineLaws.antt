-- Laws of a line (specs/Line): texts that are put one after the other are put as one list, and so are numbers; where
-- all texts fit, the line is the texts as they stand. Assumes nothing.
use Prim.Native.Nat.{ℕ, ◌+◌, ◌≤◌, ◌<◌}
use native.Mathlib.Nat.{add-zero, add_assoc}
use native.Mathlib.Omega.{arith}
use mathlib.Core.List.{List, [], ◌∷◌, ◌++◌}
use mathlib.Core.Path.{◌≡◌, refl, sym, ap, ◌∙◌}
use borrow.Author.Tests.{le-leb, lt-leb}
use lib.ListN.{length, length-append}
use Rattle.base.specs.Splice.{splice, Wrote, join}
use Rattle.base.proofs.SpliceLaws.{Cut, splice-nil, splice-splice, length-splice}
use Rattle.leaves.specs.Decimal.{decimal}
use Rattle.record_lines.specs.Line.{Line, line_at, put, put_all, Puts, spaced, Shows}

-- ## put

put-fits : (t a : List ℕ) (at : ℕ) → at + length t ≤ length a → put t (line_at a at) ≡ line_at (splice a at t) (at + length t)
unfolding put
put-fits t a at h = simp (le-leb (at + length t) (length a) h)

pub puts-fits : {a b t : List ℕ} {at n : ℕ} → at + length t ≤ length a → Wrote a b at t n → Puts a at (t ∷ []) b n
unfolding put_all
puts-fits {a} {b} {t} {at} {n} h w = record { is = put-fits t a at h ∙ rw (w.holds, w.ends) }

pub puts-left-out : {a : List ℕ} (t : List ℕ) {at : ℕ} → length a < at + length t → Puts a at (t ∷ []) a at
unfolding put put_all
puts-left-out {a} t {at} h = record { is = simp (lt-leb (at + length t) (length a) h) }

-- ## put_all

put_all-append : (xs ys : List (List ℕ)) (l : Line) → put_all (xs ++ ys) l ≡ put_all ys (put_all xs l)
unfolding put_all
put_all-append [] ys l = refl
put_all-append (t ∷ xs) ys l = put_all-append xs ys (put t l)

pub puts_then : {a b c : List ℕ} {at m n : ℕ} {xs ys : List (List ℕ)} → Puts a at xs b m → Puts b m ys c n → Puts a at (xs ++ ys) c n
puts_then {a} {at = at} {xs = xs} {ys = ys} p q = record { is = put_all-append xs ys (line_at a at) ∙ ap (put_all ys) p.is ∙ q.is }

put_all-room : (ts : List (List ℕ)) (a : List ℕ) (at : ℕ) → at + length (join ts) ≤ length a
    → put_all ts (line_at a at) ≡ line_at (splice a at (join ts)) (at + length (join ts))
unfolding put_all join
put_all-room [] a at h = rw (splice-nil a at, add-zero at)
put_all-room (t ∷ ts) a at h =
    let all : length (t ++ join ts) ≡ length t + length (join ts) = length-append t (join ts) in
    let same : length (splice a at t) ≡ length a = length-splice a at t (omega arith) in
    ap (put_all ts) (put-fits t a at (omega arith))
    ∙ put_all-room ts (splice a at t) (at + length t) (omega arith)
    ∙ rw (splice-splice a at t (join ts) (omega arith), all, add_assoc at (length t) (length (join ts)))

-- where the line has room for all its texts, it is these as they stand, all else is as it was, and the position is the
-- one after them
pub puts-wrote : {a b : List ℕ} {at n : ℕ} {ts : List (List ℕ)} → Puts a at ts b n → at + length (join ts) ≤ length a → Wrote a b at (join ts) n
puts-wrote {a} {b} {at} {n} {ts} p h =
    let e : line_at b n ≡ line_at (splice a at (join ts)) (at + length (join ts)) = sym p.is ∙ put_all-room ts a at h in
    record { holds = ap (λ (l : Line). l.buffer) e; ends = ap (λ (l : Line). l.end) e }

-- ## Numbers

spaced-append : (xs ys : List ℕ) → spaced (xs ++ ys) ≡ spaced xs ++ spaced ys
unfolding spaced
spaced-append [] ys = refl
spaced-append (n ∷ xs) ys = ap (λ (l : List (List ℕ)). (32 ∷ []) ∷ decimal n ∷ l) (spaced-append xs ys)

pub shows-none : {a : List ℕ} {at : ℕ} → Shows a at [] a at
unfolding put_all spaced
shows-none = record { puts = record { is = refl } }

-- a space, and the digits
pub shows-one : {a b c : List ℕ} {at m n number : ℕ} → Puts a at ((32 ∷ []) ∷ []) b m → Puts b m (decimal number ∷ []) c n → Shows a at (number ∷ []) c n
unfolding spaced
shows-one p q = record { puts = puts_then p q }

pub shows_then : {a b c : List ℕ} {at m n : ℕ} {xs ys : List ℕ} → Shows a at xs b m → Shows b m ys c n → Shows a at (xs ++ ys) c n
shows_then {xs = xs} {ys = ys} p q = record { puts = rw (spaced-append xs ys) (puts_then p.puts q.puts) }

-- ## A list of numbers, element by element

-- what is left to be shown from here on gives what all numbers give
pub record Showing (before : List ℕ) (at : ℕ) (numbers : List ℕ) (present : List ℕ) (end : ℕ) (left : List ℕ) : Type 0 where
  pub is : put_all (spaced left) (line_at present end) ≡ put_all (spaced numbers) (line_at before at)

pub showing-start : {a : List ℕ} {at : ℕ} {numbers : List ℕ} → Showing a at numbers a at numbers
showing-start = record { is = refl }

pub showing-next : {a b c : List ℕ} {at m n : ℕ} {numbers left xs rest : List ℕ}
    → Showing a at numbers b m left → Cut left xs rest → Shows b m xs c n → Showing a at numbers c n rest
showing-next {b = b} {c = c} {m = m} {n = n} {left = left} {xs = xs} {rest = rest} s e p =
    let front : put_all (spaced left) (line_at b m) ≡ put_all (spaced rest) (line_at c n) =
    rw (e.is, spaced-append xs rest) (put_all-append (spaced xs) (spaced rest) (line_at b m) ∙ ap (put_all (spaced rest)) p.puts.is) in
    record { is = sym front ∙ s.is }

pub showing-end : {a b : List ℕ} {at m : ℕ} {numbers left : List ℕ} → Showing a at numbers b m left → left ≡ [] → Shows a at numbers b m
unfolding put_all spaced
showing-end s e = record { puts = record { is = sym (rw e at s.is) } }
