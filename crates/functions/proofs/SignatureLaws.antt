-- Signatures, and their bytes: these end by themselves, so that bytes which begin with those of two signatures show
-- that the two are the same. Assumes nothing.
use Prim.Native.Nat.{ℕ, zero, suc, ◌+◌}
use mathlib.Core.Path.{◌≡◌, refl, sym, ap, ap₂, ◌∙◌, subst}
use mathlib.Core.Bool.{Bool, true, false, ◌&&◌}
use mathlib.Core.List.{List, [], ◌∷◌, ◌++◌, map, append_assoc}
use native.Mathlib.Omega.{arith}
use lib.ListN.{length, get_or, drop}
use lib.Seq.{get_or-drop}
use mir.Syntax.{w8}
use mir.Val.{Fits}
use lib.Dec.{T, eqb, eqb→eq}
use borrow.Author.Tests.{eq-eqb}
use Rattle.page.specs.Bytes.{equal}
use Rattle.page.specs.Read.{got}
use Rattle.page.specs.Number.{read_groups, write_number}
use Rattle.page.specs.Text.{Text, write_all, write_list}
use Rattle.page.proofs.NumberLaws.{left-of, right_of, read-written, known_bytes, Written}
use Rattle.records.specs.Kind.{Kind, vector, scalar, matrix, string, kind_number, equal_kind}
use Rattle.records.specs.Field.{write_kind}
use Rattle.records.specs.Signature.{Variadic, fixed, unlimited, up_to, Function, write_variadic, read_signature, write_signature}
use Rattle.records.proofs.PartLaws.{signature-law}
use Rattle.functions.specs.Answers.{begins_with}
use Rattle.functions.specs.Lookup.{extra_number, equal_signature}
use Rattle.functions.proofs.OrderLaws.{equal-texts, equal-self}
use Rattle.functions.proofs.BeginsLaws.{begins-self, begins-split}

-- ## equal_signature

-- kinds by their numbers
abbrev kind_of : ℕ → Kind
kind_of zero = vector
kind_of (suc zero) = scalar
kind_of (suc (suc zero)) = matrix
kind_of (suc (suc (suc n))) = string

kind-back : (k : Kind) → kind_of (kind_number k) ≡ k
kind-back vector = refl
kind-back scalar = refl
kind-back matrix = refl
kind-back string = refl

pub same_kind : (j k : Kind) → kind_number j ≡ kind_number k → j ≡ k
same_kind j k e = sym (kind-back j) ∙ ap kind_of e ∙ kind-back k

kinds-back : (ks : List Kind) → map kind_of (map kind_number ks) ≡ ks
kinds-back [] = refl
kinds-back (k ∷ ks) = ap₂ {C = List Kind} (λ j js. j ∷ js) (kind-back k) (kinds-back ks)

-- extras by their numbers
abbrev variadic_of : ℕ → Variadic
variadic_of zero = fixed
variadic_of (suc zero) = unlimited
variadic_of (suc (suc n)) = up_to n

variadic-back : (v : Variadic) → variadic_of (extra_number v) ≡ v
variadic-back fixed = refl
variadic-back unlimited = refl
variadic-back (up_to n) = refl

-- kinds, extra and result are the same
pub record SameSignature (f g : Function) : Type 0 where
  pub kinds : f.arg_types ≡ g.arg_types
  pub extra : f.variadic ≡ g.variadic
  pub result : f.return_type ≡ g.return_type

pub equal_signature-same : (f g : Function) → T (equal_signature f g) → SameSignature f g
equal_signature-same f g h =
    let js = map kind_number f.arg_types in
    let ks = map kind_number g.arg_types in
    let m = extra_number f.variadic in
    let n = extra_number g.variadic in
    let two = left-of (equal js ks && eqb m n) (equal_kind f.return_type g.return_type) h in
    record {
      kinds =
          sym (kinds-back f.arg_types) ∙ ap (map kind_of) (equal-texts js ks (left-of (equal js ks) (eqb m n) two))
          ∙ kinds-back g.arg_types;
      extra =
          sym (variadic-back f.variadic) ∙ ap variadic_of (eqb→eq m n (right_of (equal js ks) (eqb m n) two))
          ∙ variadic-back g.variadic;
      result =
          same_kind f.return_type g.return_type
          (eqb→eq (kind_number f.return_type) (kind_number g.return_type)
          (right_of (equal js ks && eqb m n) (equal_kind f.return_type g.return_type) h));
    }

pub same-equal_signature : (f g : Function) → SameSignature f g → equal_signature f g ≡ true
same-equal_signature f g s =
    rw (
      s.kinds,
      s.extra,
      s.result,
      equal-self (map kind_number g.arg_types),
      eq-eqb (extra_number g.variadic) (extra_number g.variadic) refl,
      eq-eqb (kind_number g.return_type) (kind_number g.return_type) refl,
    )

-- ## write_signature

-- what a writer writes ends by itself
abbrev Ends : {A : Type 0} → (A → List ℕ) → Type 0
Ends w = (a b : _) (x y : List ℕ) → w a ++ x ≡ w b ++ y → (a ≡ b) × (x ≡ y)

number-ends : Ends write_number
number-ends n m x y e =
    let same : got n x ≡ got m y = sym (read-written n x) ∙ ap read_groups e ∙ read-written m y in
    (cc, cc)

kind-ends : Ends write_kind
kind-ends j k x y e = let n : kind_number j ≡ kind_number k = cc in (same_kind j k n, cc)

kinds-end : (js ks : List Kind) (x y : List ℕ) → length js ≡ length ks → write_all write_kind js ++ x ≡ write_all write_kind ks ++ y
    → (js ≡ ks) × (x ≡ y)
kinds-end [] [] x y l e = (refl, e)
kinds-end [] (k ∷ ks) x y l e = absurd (omega arith)
kinds-end (j ∷ js) [] x y l e = absurd (omega arith)
kinds-end (j ∷ js) (k ∷ ks) x y l e =
    let first = kind-ends j k (write_all write_kind js ++ x) (write_all write_kind ks ++ y) e in
    let more = kinds-end js ks x y (omega arith) first.1 in
    (ap₂ {C = List Kind} (λ a l. a ∷ l) first.0 more.0, more.1)

list-ends : Ends (write_list write_kind)
list-ends js ks x y e =
    let numbered = sym (append_assoc (write_number (length js)) (write_all write_kind js) x) ∙ e
    ∙ append_assoc (write_number (length ks)) (write_all write_kind ks) y in
    let count = number-ends (length js) (length ks) (write_all write_kind js ++ x) (write_all write_kind ks ++ y) numbered in
    kinds-end js ks x y count.0 count.1

variadic-ends : Ends write_variadic
variadic-ends fixed fixed x y e = (refl, cc)
variadic-ends fixed unlimited x y e = let z : ◌≡◌ {A = ℕ} 0 1 = cc in absurd (omega arith)
variadic-ends fixed (up_to n) x y e = let z : ◌≡◌ {A = ℕ} 0 2 = cc in absurd (omega arith)
variadic-ends unlimited fixed x y e = let z : ◌≡◌ {A = ℕ} 1 0 = cc in absurd (omega arith)
variadic-ends unlimited unlimited x y e = (refl, cc)
variadic-ends unlimited (up_to n) x y e = let z : ◌≡◌ {A = ℕ} 1 2 = cc in absurd (omega arith)
variadic-ends (up_to m) fixed x y e = let z : ◌≡◌ {A = ℕ} 2 0 = cc in absurd (omega arith)
variadic-ends (up_to m) unlimited x y e = let z : ◌≡◌ {A = ℕ} 2 1 = cc in absurd (omega arith)
variadic-ends (up_to m) (up_to n) x y e =
    let numbers : write_number m ++ x ≡ write_number n ++ y = cc in
    let number = number-ends m n x y numbers in
    (ap up_to number.0, number.1)

signature-parts : (f : Function) (x : List ℕ)
    → write_signature f ++ x ≡ write_list write_kind f.arg_types ++ (write_variadic f.variadic ++ (write_kind f.return_type ++ x))
signature-parts f x = simp append_assoc

pub signature-ends : (f g : Function) (x y : List ℕ) → write_signature f ++ x ≡ write_signature g ++ y → SameSignature f g
signature-ends f g x y e =
    let kinds = list-ends f.arg_types g.arg_types _ _ (sym (signature-parts f x) ∙ e ∙ signature-parts g y) in
    let extra = variadic-ends f.variadic g.variadic _ _ kinds.1 in
    let result = kind-ends f.return_type g.return_type x y extra.1 in
    record { kinds = kinds.0; extra = extra.0; result = result.0 }

same-written : (f g : Function) → SameSignature f g → write_signature f ≡ write_signature g
same-written f g s = rw (s.kinds, s.extra, s.result)

-- bytes with a signature in front begin with another where the two are the same
pub begins-signature : (f g : Function) (bytes rest : List ℕ) → bytes ≡ write_signature f ++ rest
    → begins_with (write_signature g) bytes ≡ equal_signature f g
begins-signature f g bytes rest e = by (equal_signature f g) refl (begins_with (write_signature g) bytes) refl
  where
    by : (x : Bool) → equal_signature f g ≡ x → (y : Bool) → begins_with (write_signature g) bytes ≡ y
        → begins_with (write_signature g) bytes ≡ equal_signature f g
    by true q y p =
        let same = same-written f g (equal_signature-same f g (subst (λ (x : Bool). T x) (sym q) tt)) in
        ap (λ (l : List ℕ). begins_with (write_signature g) l) (e ∙ ap (λ (l : List ℕ). l ++ rest) same)
        ∙ begins-self (write_signature g) rest ∙ sym q
    by false q true p =
        let split = begins-split (write_signature g) bytes (subst (λ (x : Bool). T x) (sym p) tt) in
        p ∙ sym (same-equal_signature f g (signature-ends f g rest _ (sym e ∙ sym split)))
    by false q false p = p ∙ sym q

-- what is read behind a name is the signature, byte for byte
pub signed-written : (page : List ℕ) (end : ℕ) (name : Text) → ((i : ℕ) → Fits w8 (get_or page i 0)) → (f : Function) (rest : List ℕ)
    → got f rest ≡ read_signature name (drop end page) → drop end page ≡ write_signature f ++ rest
signed-written page end name fits f rest e =
    let bytes = known_bytes (drop end page) (λ i. rw (get_or-drop end page i 0) (fits (end + i))) in
    subst (Written write_signature (drop end page)) (sym e) (signature-law name (drop end page) bytes)
