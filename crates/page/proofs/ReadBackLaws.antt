-- Reading after writing, for any reader and its writer: bytes that were written are read as the value that was written,
-- whatever follows them (`ReadsAs`), and a reader gives allowed values only (`Gives`). Both are closed under sequences,
-- choices of forms and lists.
use Prim.Native.Nat.{ℕ, zero, suc, ◌≤◌}
use mathlib.Core.Path.{◌≡◌, refl, sym, ap, ap₂, ◌∙◌, subst}
use mathlib.Core.Bool.{Bool, true, false}
use mathlib.Core.List.{List, [], ◌∷◌, ◌++◌}
use native.Mathlib.Omega.{arith}
use lib.ListN.{length, take, drop, length-append}
use lib.Seq.{take-append_seam, drop-append_seam, length-take-le}
use lib.Dec.{T, leb, leb→le, le→leb}
use borrow.Author.Tests.{leb-true, le-leb}
use Rattle.page.specs.Bytes.{pick}
use Rattle.page.specs.Limits.{number_limit, count_limit}
use Rattle.page.specs.Read.{FieldFault, bad_field, past_limit, bad_text, Read, refused, got, Reader, and_then, ◌>>=◌}
use Rattle.page.specs.Read.{return, refuse, ensure, reader_at, repeat, read_bytes}
use Rattle.page.specs.Number.{read_groups, read_number, read_choice, write_number}
use Rattle.page.specs.Text.{Text, read_text, read_count, read_list, write_text, write_all, write_list}
use Rattle.page.specs.Allowed.{IsNumber, IsCount, IsTextOf, Each, IsListOf}
use Rattle.page.proofs.NumberLaws.{pick_true, read-written}
use Rattle.page.proofs.ReaderLaws.{append_assoc, append-nil}

-- ## The two notions

-- the bytes are read as the value, whatever follows
pub record ReadsAs {A : Type 0} (r : Reader A) (bytes : List ℕ) (a : A) : Type 0 where
  pub reads : (rest : List ℕ) → r (bytes ++ rest) ≡ got a rest

-- what the writer writes is read back, for every value with the property
abbrev pub ReadsBack : {A : Type 0} → Reader A → (A → List ℕ) → (A → Type 0) → Type 0
ReadsBack r w P = (a : _) → P a → ReadsAs r (w a) a

abbrev pub Got : {A : Type 0} → (A → Type 0) → Read A → Type 0
Got P (refused f) = Unit {0}
Got P (got a rest) = P a

-- whatever the reader gives has the property
pub record Gives {A : Type 0} (r : Reader A) (P : A → Type 0) : Type 0 where
  pub gives : (s : List ℕ) → Got P (r s)

-- ## Sequences

module _ {A : Type 0} where
  pub reads-return : (a : A) → ReadsAs (return a) [] a
  reads-return a = record { reads = λ rest. refl }

  pub reads-ensure : (b : Bool) (f : FieldFault) (a : A) → T b → ReadsAs (ensure b f a) [] a
  reads-ensure true f a h = reads-return a
  reads-ensure false f a h = absurd h

  -- the same bytes, grouped otherwise
  pub reads_as : {r : Reader A} {u v : List ℕ} {a : A} → ReadsAs r u a → u ≡ v → ReadsAs r v a
  reads_as {r} {u} {v} {a} h e = subst (λ (x : List ℕ). ReadsAs r x a) e h

  pub gives_as : {r : Reader A} {P Q : A → Type 0} → Gives r P → ((a : A) → P a → Q a) → Gives r Q
  gives_as {r} {P} {Q} h k = record { gives = λ s. by (r s) (h.gives s) }
    where
      by : (m : Read A) → Got P m → Got Q m
      by (refused f) g = tt
      by (got a rest) g = k a g

  pub gives-any : (r : Reader A) → Gives r (λ a. Unit {0})
  gives-any r = record { gives = λ s. by (r s) }
    where
      by : (m : Read A) → Got (λ a. Unit {0}) m
      by (refused f) = tt
      by (got a rest) = tt

  pub gives-return : {P : A → Type 0} (a : A) → P a → Gives (return a) P
  gives-return a h = record { gives = λ s. h }

  pub gives-ensure : {P : A → Type 0} (b : Bool) (f : FieldFault) (a : A) → (T b → P a) → Gives (ensure b f a) P
  gives-ensure true f a h = gives-return a (h tt)
  gives-ensure false f a h = record { gives = λ s. tt }

module _ {A B : Type 0} where
  pub reads-bind : {r : Reader A} (f : A → Reader B) {u v : List ℕ} {a : A} {b : B} → ReadsAs r u a → ReadsAs (f a) v b → ReadsAs (r >>= f) (u ++ v) b
  reads-bind {r} f {u} {v} {a} {b} h k =
      record {
        reads = λ rest.
            ap (λ (s : List ℕ). and_then (r s) f) (append_assoc u v rest) ∙ ap (λ (m : Read A). and_then m f) (h.reads (v ++ rest)) ∙ k.reads rest;
      }

  -- a value of one field
  pub reads-field : {r : Reader A} {u : List ℕ} {a : A} (make : A → B) → ReadsAs r u a → ReadsAs (r >>= λ a. return (make a)) u (make a)
  reads-field {r} {u} {a} make h = reads_as (reads-bind (λ a. return (make a)) h (reads-return (make a))) (append-nil u)

  pub gives-bind : {r : Reader A} {P : A → Type 0} {Q : B → Type 0} (f : A → Reader B) → Gives r P → ((a : A) → P a → Gives (f a) Q) → Gives (r >>= f) Q
  gives-bind {r} {P} {Q} f h k = record { gives = λ s. then (r s) (h.gives s) }
    where
      then : (m : Read A) → Got P m → Got Q (and_then m f)
      then (refused x) g = tt
      then (got a rest) g = (k a g).gives rest

  pub gives-field : {r : Reader A} {P : A → Type 0} {Q : B → Type 0} (make : A → B) → Gives r P
      → ((a : A) → P a → Q (make a)) → Gives (r >>= λ a. return (make a)) Q
  gives-field make h k = gives-bind (λ a. return (make a)) h (λ a g. gives-return (make a) (k a g))

-- ## Numbers and choices of forms

-- a value that was tested
pub reads-tested : {A : Type 0} {r : Reader A} {u : List ℕ} {a : A} (test : A → Bool) (f : FieldFault) → ReadsAs r u a → T (test a)
    → ReadsAs (r >>= λ a. ensure (test a) f a) u a
reads-tested {A} {r} {u} {a} test f h t = reads_as (reads-bind (λ a. ensure (test a) f a) h (reads-ensure (test a) f a t)) (append-nil u)

pub read_number-back : ReadsBack read_number write_number IsNumber
read_number-back n h = reads-tested {r = read_groups} (λ n. leb n number_limit) bad_field (record { reads = read-written n }) (le→leb n number_limit h)

pub read_number-gives : Gives read_number IsNumber
read_number-gives = gives-bind _ (gives-any read_groups) (λ n h. gives-ensure (leb n number_limit) bad_field n (λ t. leb→le n number_limit t))

module _ {A : Type 0} where
  -- the bytes of a form stand after its number
  pub reads-choice : (rs : List (Reader A)) (n : ℕ) {u : List ℕ} {a : A} → IsNumber n → ReadsAs (reader_at rs n) u a
      → ReadsAs (read_choice rs) (write_number n ++ u) a
  reads-choice rs n h k = reads-bind (reader_at rs) (read_number-back n h) k

-- each form of a choice has the property
module _ {A : Type 0} (Q : Reader A → Type 0) where
  infixr 5 ◌also◌
  pub data EachForm : List (Reader A) → Type 0 where
    no_more : EachForm []
    ◌also◌ : {r : Reader A} {rs : List (Reader A)} → Q r → EachForm rs → EachForm (r ∷ rs)

module _ {A : Type 0} where
  pub at-form : {Q : Reader A → Type 0} {rs : List (Reader A)} → Q (refuse bad_field) → EachForm Q rs → (n : ℕ) → Q (reader_at rs n)
  at-form past no_more n = past
  at-form past (h also hs) zero = h
  at-form past (h also hs) (suc n) = at-form past hs n

  pub gives-choice : {P : A → Type 0} {rs : List (Reader A)} → EachForm (λ r. Gives r P) rs → Gives (read_choice rs) P
  gives-choice {P} {rs} h = gives-bind (reader_at rs) read_number-gives (λ n g. at-form {Q = λ r. Gives r P} (record { gives = λ s. tt }) h n)

-- ## Texts

read_bytes-back : (t : Text) → ReadsAs (read_bytes (length t)) t t
read_bytes-back t =
    record {
      reads = λ rest.
          pick_true _ _ (le-leb (length t) (length (t ++ rest)) (simp length-append (omega arith)))
          ∙ ap₂ got (take-append_seam t rest) (drop-append_seam t rest);
    }

read_bytes-gives : (n : ℕ) → Gives (read_bytes n) (λ t. length t ≡ n)
read_bytes-gives n = record { gives = λ s. by s (leb n (length s)) refl }
  where
    by : (s : List ℕ) (b : Bool) → leb n (length s) ≡ b → Got (λ (t : Text). length t ≡ n) (pick b (got (take n s) (drop n s)) (refused bad_field))
    by s true e = length-take-le n s (leb-true n (length s) e)
    by s false e = tt

module _ (limit : ℕ) (allowed : Text → Bool) where
  pub read_text-back : limit ≤ number_limit → ReadsBack (read_text limit allowed) write_text (IsTextOf limit allowed)
  read_text-back h t k =
      reads-bind _ (read_number-back (length t) (omega (arith, k.0)))
      (reads_as (reads-bind _ (read_bytes-back t)
      (reads-bind _ (reads-ensure (leb (length t) limit) past_limit t (le→leb (length t) limit k.0))
      (reads-ensure (allowed t) bad_text t k.1))) (append-nil t))

  pub read_text-gives : Gives (read_text limit allowed) (IsTextOf limit allowed)
  read_text-gives =
      gives-bind _ read_number-gives λ n h.
      gives-bind _ (read_bytes-gives n) λ t e.
      gives-bind {P = λ t. length t ≤ limit} _ (gives-ensure (leb n limit) past_limit t (λ g. subst (λ (m : ℕ). m ≤ limit) (sym e) (leb→le n limit g))) λ t l.
      gives-ensure (allowed t) bad_text t (λ g. (l, g))

-- ## Lists

pub read_count-back : ReadsBack read_count write_number IsCount
read_count-back n h = reads-tested (λ n. leb n count_limit) past_limit (read_number-back n (omega arith)) (le→leb n count_limit h)

pub read_count-gives : Gives read_count IsCount
read_count-gives = gives-bind _ read_number-gives (λ n h. gives-ensure (leb n count_limit) past_limit n (λ t. leb→le n count_limit t))

module _ {A : Type 0} (r : Reader A) (w : A → List ℕ) (P : A → Type 0) where
  repeat-back : ReadsBack r w P → (xs : List A) → Each P xs → ReadsAs (repeat (length xs) r) (write_all w xs) xs
  repeat-back back [] h = reads-return []
  repeat-back back (x ∷ xs) h =
      reads-bind _ (back x h.0) (reads-field (λ (more : List A). x ∷ more) (repeat-back back xs h.1))

  -- a list of any elements
  pub read_list-back : ReadsBack r w P → ReadsBack (read_list r) (write_list w) (IsListOf P)
  read_list-back back xs h = reads-bind (λ n. repeat n r) (read_count-back (length xs) h.0) (repeat-back back xs h.1)

module _ {A : Type 0} (r : Reader A) (P : A → Type 0) (gives : Gives r P) where
  repeat-gives : (n : ℕ) → Gives (repeat n r) (λ xs. (length xs ≡ n) × Each P xs)
  repeat-gives zero = gives-return [] (refl, tt)
  repeat-gives (suc n) =
      gives-bind _ gives λ x h.
      gives-field (λ (more : List A). x ∷ more) (repeat-gives n) (λ xs k. (ap suc k.0, (h, k.1)))

  pub read_list-gives : Gives (read_list r) (IsListOf P)
  read_list-gives = gives-bind (λ n. repeat n r) read_count-gives (λ n h. counted n h)
    where
      counted : (n : ℕ) → IsCount n → Gives (repeat n r) (IsListOf P)
      counted n h = gives_as (repeat-gives n) (λ xs k. (subst IsCount (sym k.0) h, k.1))
