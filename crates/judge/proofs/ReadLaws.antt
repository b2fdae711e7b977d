-- What `ok` and `is_ok` say of a field that was read: the value, the fault, and whether a list has a first element.
-- Assumes nothing.
use Prim.Native.Nat.{ℕ, ◌<◌}
use mathlib.Core.Path.{◌≡◌, sym, ap, ◌∙◌}
use mathlib.Core.Bool.{not}
use mathlib.Core.List.{List}
use native.Mathlib.Omega.{arith}
use lib.ListN.{drop}
use Rattle.std.specs.Prelude.{Option as Given}
use Rattle.std.specs.Prelude.{Some, None, Result, Ok, Err, IfOk}
use Rattle.std.specs.Result.{is_ok, result_ok}
use Rattle.page.specs.Bytes.{is_empty}
use Rattle.page.specs.Read.{FieldFault, Read, refused, got, Reader}
use Rattle.page.specs.Listed.{listed}
use Rattle.page.specs.Answers.{fault_of, field_at}
use Rattle.page.specs.declared.fault.Fault.{Fault}
use Rattle.page.proofs.ListLaws.{listed_more, listed-refused}

module _ {T E : Type 0} where
  -- the value that `ok` handed on
  pub ok-is : (r : Result T E) {o : Given T} {x : T} → o ≡ result_ok r → o ≡ Some x → r ≡ Ok x
  ok-is (Ok y) {o} {x} e w = let both : Some y ≡ Some x = sym e ∙ w in let same : y ≡ x = cc in ap {B = Result T E} (λ (z : T). Ok z) same
  ok-is (Err y) {o} {x} e w = absurd (let both : None ≡ Some x = sym e ∙ w in let z : ◌≡◌ {A = ℕ} 0 1 = cc in omega arith)

  pub ok-says : (P : T → Type 0) (r : Result T E) {o : Given T} {x : T} → o ≡ result_ok r → o ≡ Some x → IfOk r P → P x
  ok-says P r e w says = rw (ok-is r e w) at says

module _ {A C : Type 0} (meaning : C → A) (page : List ℕ) where
  pub ok-got : (r : Result (C × ℕ) Fault) {o : Given (C × ℕ)} {f : C × ℕ} {m : Read A} → o ≡ result_ok r → o ≡ Some f → field_at meaning page r ≡ m
      → got (meaning f.0) (drop f.1 page) ≡ m
  ok-got r e w is = rw (ok-is r e w) at is

  pub none-refused : (r : Result (C × ℕ) Fault) {o : Given (C × ℕ)} {m : Read A} → o ≡ result_ok r → o ≡ None
      → field_at meaning page r ≡ m → (f : FieldFault) × (refused f ≡ m)
  none-refused (Ok f) e w is = absurd (let both : Some f ≡ None = sym e ∙ w in let z : ◌≡◌ {A = ℕ} 0 1 = cc in omega arith)
  none-refused (Err f) e w is = (fault_of f, is)

  -- a list is not empty where its first element can be read
  pub is_ok-listed : (read : Reader A) (n : ℕ) (s : List ℕ) (r : Result (C × ℕ) Fault) → (n ≡ 0 → ⊥) → field_at meaning page r ≡ read s
      → is_ok r ≡ not (is_empty (listed read n s))
  is_ok-listed read n s (Ok f) some e =
      let any : 0 < n = omega arith in sym (ap (λ (l : List A). not (is_empty l)) (listed_more read n s any e))
  is_ok-listed read n s (Err f) some e = sym (ap (λ (l : List A). not (is_empty l)) (listed-refused read n s e))
