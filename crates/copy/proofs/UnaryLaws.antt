-- The unary records in front of some bytes, counted: how far the byte 7 goes on, and how often a form is negated.
-- Assumes nothing.
use Prim.Native.Nat.{ℕ, suc, ◌+◌, ◌-◌, ◌<◌}
use mathlib.Core.Path.{◌≡◌, refl, ap, sym}
use mathlib.Core.Bool.{Bool, true, false, cond, not}
use mathlib.Core.List.{List, [], ◌∷◌}
use native.Mathlib.Omega.{arith}
use lib.Dec.{eqb, ltb}
use lib.ListN.{length}
use borrow.Author.Tests.{ltb-false}
use Rattle.std.specs.Prelude.{Option, Some, None}
use Rattle.std.specs.Option.{unwrap_or}
use Rattle.std.proofs.lemmas.List.Sums.{prefix_len-le-length}
use Rattle.std.specs.Fn.{iterate}
use Rattle.std.specs.List.{position_or_len}
use Rattle.std.proofs.lemmas.List.Recursion.{is_position_or_len}
use Rattle.page.specs.Bytes.{pick}
use Rattle.copy.specs.RecordCopy.{unaries, negated_form, form_after}

pub unaries-front : (s : List ℕ) → position_or_len (λ b. not (eqb b 7)) s ≡ unaries s
unaries-front s = sym (is_position_or_len unaries (λ b. not (eqb b 7)) refl (λ b bs. by bs (eqb b 7)) s)
  where
    by : (bs : List ℕ) (c : Bool) → pick c (suc (unaries bs)) 0 ≡ cond (not c) 0 (1 + unaries bs)
    by bs true = omega arith
    by bs false = refl

-- where a search for another byte ends, or at the end
pub unaries-counted : (s : List ℕ) (found : Option ℕ)
    → found ≡ cond (ltb (position_or_len (λ b. not (eqb b 7)) s) (length s)) (Some (position_or_len (λ b. not (eqb b 7)) s)) None
    → unwrap_or found (length s) ≡ unaries s
unaries-counted s found e = rw e (by (ltb (position_or_len (λ b. not (eqb b 7)) s) (length s)) refl)
  where
    by : (c : Bool) → ltb (position_or_len (λ b. not (eqb b 7)) s) (length s) ≡ c
        → unwrap_or (cond c (Some (position_or_len (λ b. not (eqb b 7)) s)) None) (length s) ≡ unaries s
    by true q = unaries-front s
    by false q = omega (arith, unaries-front s, ltb-false _ _ q, prefix_len-le-length (λ b. not (not (eqb b 7))) s)

pub form_after-counted : (f : ℕ) (s : List ℕ) → form_after f s ≡ iterate negated_form (unaries s) f
form_after-counted f [] = refl
form_after-counted f (b ∷ bs) = by (eqb b 7) (form_after-counted (negated_form f) bs)
  where
    by : (c : Bool) → form_after (negated_form f) bs ≡ iterate negated_form (unaries bs) (negated_form f)
        → pick c (form_after (negated_form f) bs) f ≡ iterate negated_form (pick c (suc (unaries bs)) 0) f
    by true h = h
    by false h = refl

-- one time less, and one time done
pub iterate-step : {A : Type 0} (h : A → A) (done all : ℕ) (x : A) → done < all → iterate h (all - done) x ≡ iterate h (all - (done + 1)) (h x)
iterate-step h done all x l = ap (λ (k : ℕ). iterate h k x) more
  where
    more : all - done ≡ suc (all - (done + 1))
    more = omega arith
