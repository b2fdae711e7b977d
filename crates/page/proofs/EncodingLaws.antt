-- The grammar of RFC 3629, section 4, against the encodings of section 3: a row of the grammar takes the encodings of
-- the scalar values from one to another, and nothing else. So a text passes exactly when it is made of encodings; and
-- no two numbers have one encoding. Assumes nothing.
use Prim.Native.Nat.{ℕ, suc, ◌+◌, ◌*◌, ◌-◌, ◌/◌, ◌≤◌, ◌<◌}
use mathlib.Core.Path.{◌≡◌, refl, sym, ap, ap₂, ◌∙◌}
use mathlib.Core.Bool.{not}
use mathlib.Core.List.{List, [], ◌∷◌, ◌++◌, map, flatten}
use native.Mathlib.Omega.{arith}
use lib.ListN.{take, drop}
use lib.Dec.{T, leb, ltb, leb→le, nleb→lt}
use borrow.Author.Tests.{leb-true, leb-false, le-leb, lt-leb}
use mir.Facts.{yes_and}
use Rattle.base.proofs.Cases.{by_flag, by-lt}
use Rattle.page.specs.Bytes.{all, between}
use Rattle.page.specs.Encoding.{is_scalar, six_bits, encode, Encoded}
use Rattle.page.specs.Utf8.{Range, from, holds, tail, Row, rows, following_in, begun, is_utf8_after, is_utf8}
use Rattle.page.proofs.NumberLaws.{left-of, right_of}
use Rattle.page.proofs.Utf8Laws.{InRange, inside, bounds, outside, row_at, row-takes}

-- ## Bytes in ranges

-- the bytes lie in the ranges, one in each
abbrev Fit : List Range → List ℕ → Type 0
Fit [] [] = Unit {0}
Fit [] (b ∷ bs) = ⊥
Fit (r ∷ rs) [] = ⊥
Fit (r ∷ rs) (b ∷ bs) = InRange r b × Fit rs bs

-- ## Scalar values and their encodings

scalar-most : (n : ℕ) → T (is_scalar n) → n ≤ 0x10ffff
scalar-most n h = leb→le n 0x10ffff (left-of (leb n 0x10ffff) (not (between 0xd800 0xdfff n)) h)

scalar-gap : (n : ℕ) → T (is_scalar n) → 0xd800 ≤ n → 0xdfff < n
scalar-gap n h l =
    let no_surrogate = right_of (leb n 0x10ffff) (not (between 0xd800 0xdfff n)) h in
    nleb→lt n 0xdfff (rw (le-leb 0xd800 n l) at no_surrogate)

is-scalar : (n : ℕ) → n ≤ 0x10ffff → (0xd800 ≤ n → 0xdfff < n) → T (is_scalar n)
is-scalar n h gap = rw (le-leb n 0x10ffff h, outside (from 0xd800 0xdfff) n gap) tt

-- by the row of section 3's table, the bytes with their equations
pub by_length : (P : List ℕ → Type 0) (n : ℕ) → (n ≤ 0x7f → P (n ∷ []))
    → ((c b : ℕ) → c ≡ 0xc0 + n / 64 → b ≡ six_bits n → 0x7f < n → n ≤ 0x7ff → P (c ∷ b ∷ []))
    → ((c b d : ℕ) → c ≡ 0xe0 + n / 4096 → b ≡ six_bits (n / 64) → d ≡ six_bits n → 0x7ff < n → n ≤ 0xffff
    → P (c ∷ b ∷ d ∷ []))
    → ((c b d e : ℕ) → c ≡ 0xf0 + n / 262144 → b ≡ six_bits (n / 4096) → d ≡ six_bits (n / 64) → e ≡ six_bits n
    → 0xffff < n → P (c ∷ b ∷ d ∷ e ∷ []))
    → P (encode n)
by_length P n one two three four =
    by_flag (leb n 0x7f) (λ e. rw e (one (leb-true n 0x7f e)))
    (λ e. rw e (by_flag (leb n 0x7ff) (λ f. rw f (two _ _ refl refl (leb-false n 0x7f e) (leb-true n 0x7ff f)))
    (λ f. rw f (by_flag (leb n 0xffff)
    (λ g. rw g (three _ _ _ refl refl refl (leb-false n 0x7ff f) (leb-true n 0xffff g)))
    (λ g. rw g (four _ _ _ _ refl refl refl refl (leb-false n 0xffff g)))))))

-- ## Encodings pass

due-passes : (due : List Range) (bs t : List ℕ) → Fit due bs → is_utf8_after due (bs ++ t) ≡ is_utf8 t
due-passes [] [] t f = refl
due-passes [] (b ∷ bs) t f = absurd f
due-passes (r ∷ due) [] t f = absurd f
due-passes (r ∷ due) (b ∷ bs) t (w, f) = rw (inside r b w) (due-passes due bs t f)

-- the characters of the row at k
row-passes : (k : ℕ) → take k rows ++ row_at k ∷ drop (suc k) rows ≡ rows
    → T (all (λ q. ltb q.first.high (row_at k).first.low) (take k rows))
    → (c : ℕ) (bs t : List ℕ) → Fit ((row_at k).first ∷ (row_at k).following) (c ∷ bs) → is_utf8 (c ∷ bs ++ t) ≡ is_utf8 t
row-passes k place apart c bs t (w, f) =
    ap (λ o. begun o (λ due. is_utf8_after due (bs ++ t))) (row-takes k place apart c (inside (row_at k).first c w))
    ∙ due-passes (row_at k).following bs t f

encode-passes : (n : ℕ) (t : List ℕ) → T (is_scalar n) → is_utf8 (encode n ++ t) ≡ is_utf8 t
encode-passes n t h =
    by_length (λ bs. is_utf8 (bs ++ t) ≡ is_utf8 t) n
    (λ l. row-passes 0 refl tt n [] t (omega arith))
    (λ c b is_c is_b g l. row-passes 1 refl tt c (b ∷ []) t (omega arith))
    (λ c b d is_c is_b is-d g l.
    by-lt n 0x1000 (λ below. row-passes 2 refl tt c (b ∷ d ∷ []) t (omega arith))
    (λ above. by-lt n 0xd000 (λ below. row-passes 3 refl tt c (b ∷ d ∷ []) t (omega arith))
    (λ above. by-lt n 0xd800 (λ below. row-passes 4 refl tt c (b ∷ d ∷ []) t (omega arith))
    (λ above. row-passes 5 refl tt c (b ∷ d ∷ []) t (omega (arith, scalar-gap n h above))))))
    (λ c b d e is_c is_b is-d is-e g.
    by-lt n 0x40000 (λ below. row-passes 6 refl tt c (b ∷ d ∷ e ∷ []) t (omega arith))
    (λ above. by-lt n 0x100000 (λ below. row-passes 7 refl tt c (b ∷ d ∷ e ∷ []) t (omega arith))
    (λ above. row-passes 8 refl tt c (b ∷ d ∷ e ∷ []) t (omega (arith, scalar-most n h)))))

encoded-utf8 : (ns : List ℕ) → T (all is_scalar ns) → T (is_utf8 (flatten (map encode ns)))
unfolding flatten
encoded-utf8 [] h = tt
encoded-utf8 (n ∷ ns) h =
    rw (encode-passes n (flatten (map encode ns)) (left-of (is_scalar n) (all is_scalar ns) h))
    (encoded-utf8 ns (right_of (is_scalar n) (all is_scalar ns) h))

-- ## What passes is encodings

-- the number that bytes encode; 0 where they are none or more than four
abbrev decode : List ℕ → ℕ
decode [] = 0
decode (c ∷ []) = c
decode (c ∷ b ∷ []) = (c - 0xc0) * 64 + (b - 0x80)
decode (c ∷ b ∷ d ∷ []) = (c - 0xe0) * 4096 + (b - 0x80) * 64 + (d - 0x80)
decode (c ∷ b ∷ d ∷ e ∷ []) = (c - 0xf0) * 262144 + (b - 0x80) * 4096 + (d - 0x80) * 64 + (e - 0x80)
decode (c ∷ b ∷ d ∷ e ∷ f ∷ more) = 0

-- the bytes before encodings make encodings
abbrev Encodes : List ℕ → Type 0
Encodes bs = (t : List ℕ) → Encoded t → Encoded (bs ++ t)

encodes : (n : ℕ) (bs : List ℕ) → T (is_scalar n) → encode n ≡ bs → Encodes bs
unfolding flatten
encodes n bs scalar is t more =
    record {
      numbers = n ∷ more.numbers;
      scalars = yes_and (is_scalar n) (all is_scalar more.numbers) scalar more.scalars;
      same = ap₂ {C = List ℕ} (λ x y. x ++ y) (sym is) more.same;
    }

one_byte : (c : ℕ) → InRange (from 0x00 0x7f) c → Encodes (c ∷ [])
one_byte c w = encodes c (c ∷ []) (is-scalar c (omega arith) (omega arith)) (rw (le-leb c 0x7f w.1))

two_bytes : (c b n : ℕ) → n ≡ decode (c ∷ b ∷ []) → Fit (from 0xc2 0xdf ∷ tail ∷ []) (c ∷ b ∷ [])
    → Encodes (c ∷ b ∷ [])
two_bytes c b n is f =
    let is_c : 0xc0 + n / 64 ≡ c = omega arith in
    let is_b : six_bits n ≡ b = omega arith in
    encodes n (c ∷ b ∷ []) (is-scalar n (omega arith) (omega arith))
    (rw (lt-leb n 0x7f (omega arith), le-leb n 0x7ff (omega arith), is_c, is_b))

three-bytes : (c b d n : ℕ) → n ≡ decode (c ∷ b ∷ d ∷ [])
    → Fit (from 0xe0 0xef ∷ tail ∷ tail ∷ []) (c ∷ b ∷ d ∷ []) × (0x7ff < n) × (0xd800 ≤ n → 0xdfff < n)
    → Encodes (c ∷ b ∷ d ∷ [])
three-bytes c b d n is (f, g, gap) =
    let is_c : 0xe0 + n / 4096 ≡ c = omega arith in
    let is_b : six_bits (n / 64) ≡ b = omega arith in
    let is-d : six_bits n ≡ d = omega arith in
    encodes n (c ∷ b ∷ d ∷ []) (is-scalar n (omega arith) gap)
    (rw (lt-leb n 0x7f (omega arith), lt-leb n 0x7ff g, le-leb n 0xffff (omega arith), is_c, is_b, is-d))

four_bytes : (c b d e n : ℕ) → n ≡ decode (c ∷ b ∷ d ∷ e ∷ [])
    → Fit (from 0xf0 0xf4 ∷ tail ∷ tail ∷ tail ∷ []) (c ∷ b ∷ d ∷ e ∷ []) × (0xffff < n) × (n ≤ 0x10ffff)
    → Encodes (c ∷ b ∷ d ∷ e ∷ [])
four_bytes c b d e n is (f, g, h) =
    let is_c : 0xf0 + n / 262144 ≡ c = omega arith in
    let is_b : six_bits (n / 4096) ≡ b = omega arith in
    let is-d : six_bits (n / 64) ≡ d = omega arith in
    let is-e : six_bits n ≡ e = omega arith in
    let long : encode n ≡ (0xf0 + n / 262144) ∷ six_bits (n / 4096) ∷ six_bits (n / 64) ∷ six_bits n ∷ [] =
    rw (lt-leb n 0x7f (omega arith), lt-leb n 0x7ff (omega arith), lt-leb n 0xffff g) in
    encodes n (c ∷ b ∷ d ∷ e ∷ []) (is-scalar n h (omega arith)) (long ∙ rw (is_c, is_b, is-d, is-e))

-- Q of every text that has a byte in each of the ranges, and then encodings
abbrev OfEvery : List Range → (List ℕ → Type 0) → Type 0
OfEvery [] Q = (t : List ℕ) → Encoded t → Q t
OfEvery (r ∷ due) Q = (b : ℕ) → InRange r b → OfEvery due (λ t. Q (b ∷ t))

-- the text, if it passes with ranges due, is one of those
abbrev Reached : List ℕ → Type 1
Reached t = (due : List Range) (Q : List ℕ → Type 0) → T (is_utf8_after due t) → OfEvery due Q → Q t

-- A, once it is shown of each row that its characters before encodings make encodings
abbrev FromRows : List Row → Type 0 → Type 0
FromRows [] A = A
FromRows (r ∷ rs) A = OfEvery (r.first ∷ r.following) Encoded → FromRows rs A

-- A that is known without
known : (rs : List Row) (A : Type 0) → A → FromRows rs A
known [] A a = a
known (r ∷ rs) A a = λ row. known rs A a

row-reached : (rs : List Row) (c : ℕ) (t : List ℕ) → Reached t
    → T (begun (following_in rs c) (λ due. is_utf8_after due t)) → FromRows rs (Encoded (c ∷ t))
row-reached [] c t reached h = absurd h
row-reached (r ∷ rs) c t reached h =
    λ row. by_flag (holds r.first c)
    (λ e. known rs (Encoded (c ∷ t))
    (reached r.following (λ u. Encoded (c ∷ u)) (rw e at h) (row c (bounds r.first c (rw e tt)))))
    (λ e. row-reached rs c t reached (rw e at h))

first-reached : (a : ℕ) (t : List ℕ) → Reached t → T (is_utf8 (a ∷ t)) → Encoded (a ∷ t)
first-reached a t reached h =
    row-reached rows a t reached h one_byte
    (λ c u b v. two_bytes c b _ refl (omega arith))
    (λ c u b v d w. three-bytes c b d _ refl (omega arith))
    (λ c u b v d w. three-bytes c b d _ refl (omega arith))
    (λ c u b v d w. three-bytes c b d _ refl (omega arith))
    (λ c u b v d w. three-bytes c b d _ refl (omega arith))
    (λ c u b v d w e x. four_bytes c b d e _ refl (omega arith))
    (λ c u b v d w e x. four_bytes c b d e _ refl (omega arith))
    (λ c u b v d w e x. four_bytes c b d e _ refl (omega arith))

reached : (t : List ℕ) → Reached t
unfolding flatten
reached [] [] Q h f = f [] (record { numbers = []; scalars = tt; same = refl })
reached [] (r ∷ due) Q h f = absurd h
reached (c ∷ t) [] Q h f = f (c ∷ t) (first-reached c t (reached t) h)
reached (c ∷ t) (r ∷ due) Q h f =
    reached t due (λ u. Q (c ∷ u)) (right_of (holds r c) (is_utf8_after due t) h)
    (f c (bounds r c (left-of (holds r c) (is_utf8_after due t) h)))

utf8-encoded : (t : List ℕ) → T (is_utf8 t) → Encoded t
utf8-encoded t h = reached t [] Encoded h (λ u e. e)

-- a text passes section 4's grammar if and only if it is encodings of scalar values by section 3
pub utf8-encodes : (t : List ℕ) → (T (is_utf8 t) → Encoded t) × (Encoded t → T (is_utf8 t))
utf8-encodes t = (utf8-encoded t, λ e. rw e.same (encoded-utf8 e.numbers e.scalars))

-- ## One encoding, one number

decode-encode : (n : ℕ) → decode (encode n) ≡ n
decode-encode n =
    let twice : n / 4096 ≡ n / 64 / 64 = omega arith in
    let thrice : n / 262144 ≡ n / 4096 / 64 = omega arith in
    by_length (λ bs. decode bs ≡ n) n (λ l. refl) (λ c b is_c is_b g l. omega arith)
    (λ c b d is_c is_b is-d g l. omega arith) (λ c b d e is_c is_b is-d is-e g. omega arith)

-- no two numbers have one encoding
pub encode_one : (m n : ℕ) → encode m ≡ encode n → m ≡ n
encode_one m n e = sym (decode-encode m) ∙ ap decode e ∙ decode-encode n
