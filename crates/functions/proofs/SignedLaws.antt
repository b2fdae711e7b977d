-- A record that has no fault beside a table carries the table's own signature: with the table's in the place of the one
-- that it carries, it is the same record. Assumes nothing.
use Prim.Native.Nat.{ℕ}
use mathlib.Core.Path.{◌≡◌, refl, sym, ap, ◌∙◌, subst}
use mathlib.Core.Bool.{Bool, true, false}
use mathlib.Core.List.{List, [], ◌∷◌}
use mathlib.Core.Option.{Option, none, some}
use native.Mathlib.Omega.{arith}
use lib.Dec.{T}
use Rattle.page.specs.Bytes.{all, pick, equal}
use Rattle.page.specs.Text.{Text}
use Rattle.page.proofs.NumberLaws.{left-of, right_of}
use Rattle.records.specs.Kind.{Kind}
use Rattle.records.specs.Signature.{Variadic, Function}
use Rattle.records.specs.Record.{Record, leaf, wrapper, binary, aggregate, call}
use Rattle.functions.specs.Lookup.{lookup, equal_signature, unlike, signature_fault, signed_by}
use Rattle.functions.proofs.OrderLaws.{equal-texts}
use Rattle.functions.proofs.SignatureLaws.{SameSignature, equal_signature-same}

-- what is found has the name
pub lookup-name : (table : List Function) (name : Text) (g : Function) → lookup table name ≡ some g → g.name ≡ name
unfolding lookup
lookup-name [] name g e = let z : ◌≡◌ {A = ℕ} 0 1 = cc in absurd (omega arith)
lookup-name (f ∷ table) name g e = by (lookup-name table name g) (equal f.name name) refl e
  where
    by : (lookup table name ≡ some g → g.name ≡ name) → (x : Bool) → equal f.name name ≡ x
        → pick x (some f) (lookup table name) ≡ some g → g.name ≡ name
    by more true q e =
        let same : f ≡ g = cc in
        ap (λ (h : Function). h.name) (sym same) ∙ equal-texts f.name name (subst (λ (x : Bool). T x) (sym q) tt)
    by more false q e = more e

abbrev make : Text → List Kind → Variadic → Kind → Function
make n ks v k = record { name = n; arg_types = ks; variadic = v; return_type = k }

-- a function is its name and its signature
pub same-function : (f g : Function) → f.name ≡ g.name → SameSignature f g → f ≡ g
same-function f g n s =
    ap (λ (x : Text). make x f.arg_types f.variadic f.return_type) n
    ∙ ap (λ (x : List Kind). make g.name x f.variadic f.return_type) s.kinds
    ∙ ap (λ (x : Variadic). make g.name g.arg_types x f.return_type) s.extra
    ∙ ap (make g.name g.arg_types g.variadic) s.result

like : (f g : Function) → unlike f (some g) ≡ none → T (equal_signature f g)
like f g e = by (equal_signature f g) e
  where
    by : (x : Bool) → pick {A = Option ℕ} x none (some 38) ≡ none → T x
    by true e = tt
    by false e = let z : ◌≡◌ {A = ℕ} 0 1 = cc in absurd (omega arith)

signed-call : (table : List Function) (f : Function) (n : ℕ) → unlike f (lookup table f.name) ≡ none
    → signed_by table (call f n) ≡ call f n
signed-call table f n e = by (lookup table f.name) refl e
  where
    by : (found : Option Function) → lookup table f.name ≡ found → unlike f found ≡ none
        → signed_by table (call f n) ≡ call f n
    by none q e = let z : ◌≡◌ {A = ℕ} 0 1 = cc in absurd (omega arith)
    by (some g) q e =
        let named : f.name ≡ g.name = sym (lookup-name table f.name g q) in
        rw q (ap (λ (h : Function). call h n) (sym (same-function f g named (equal_signature-same f g (like f g e)))))

pub signed-record : (table : List Function) (r : Record) → signature_fault table r ≡ none → signed_by table r ≡ r
signed-record table (leaf l) e = refl
signed-record table (wrapper w) e = refl
signed-record table (binary c m) e = refl
signed-record table (aggregate c m n) e = refl
signed-record table (call f n) e = signed-call table f n e

-- what a test says of every row it says of a function without fault
lookup-passes : (test : Function → Bool) (table : List Function) (name : Text) (g : Function) → T (all test table) → lookup table name ≡ some g
    → T (test g)
unfolding lookup
lookup-passes test [] name g h e = let z : ◌≡◌ {A = ℕ} 0 1 = cc in absurd (omega arith)
lookup-passes test (f ∷ table) name g h e =
    by (lookup-passes test table name g (right_of (test f) (all test table) h)) (equal f.name name) e
  where
    by : (lookup table name ≡ some g → T (test g)) → (x : Bool) → pick x (some f) (lookup table name) ≡ some g → T (test g)
    by more true e = let same : f ≡ g = cc in subst (λ (x : Function). T (test x)) same (left-of (test f) (all test table) h)
    by more false e = more e

pub like-passes : (test : Function → Bool) (table : List Function) → T (all test table) → (f : Function)
    → unlike f (lookup table f.name) ≡ none → T (test f)
like-passes test table h f e = by (lookup table f.name) refl e
  where
    by : (found : Option Function) → lookup table f.name ≡ found → unlike f found ≡ none → T (test f)
    by none q e = let z : ◌≡◌ {A = ℕ} 0 1 = cc in absurd (omega arith)
    by (some g) q e =
        let named : f.name ≡ g.name = sym (lookup-name table f.name g q) in
        let same = same-function f g named (equal_signature-same f g (like f g e)) in
        subst (λ (x : Function). T (test x)) (sym same) (lookup-passes test table f.name g h q)
