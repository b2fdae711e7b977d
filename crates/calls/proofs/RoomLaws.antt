-- What a call that writes a text asks: an accepted page has a record, and the length, measured up to one byte more than
-- the room, says whether the text fits. And 65,536 bytes hold every canonical text. Assumes nothing.
use Prim.Native.Nat.{ℕ, suc, ◌+◌, ◌-◌, ◌≤◌, ◌<◌, min}
use mathlib.Core.Path.{◌≡◌, refl, ap, subst}
use mathlib.Core.Bool.{true, false}
use mathlib.Core.List.{List, [], ◌∷◌}
use native.Mathlib.Omega.{arith}
use borrow.Author.Tests.{le-leb, lt-leb}
use lib.ListN.{length}
use lib.Dec.{T, leb}
use Rattle.page.specs.Bytes.{all}
use Rattle.page.proofs.NumberLaws.{is_byte}
use Rattle.records.specs.Kind.{Kind}
use Rattle.records.specs.Outcome.{answer, refusal}
use Rattle.records.specs.Record.{Record, Ending, end, unreadable, read_page}
use Rattle.ast.specs.Expr.{Expr, value_type}
use Rattle.ast.specs.Walk.{Walked, stack, stopped, Checked, accepted, refused_at, at_end, finished, walk}
use Rattle.ast.specs.CheckPage.{apply, check_page}
use Rattle.ast.specs.Table.{is_of_check}
use Rattle.ast.specs.Tables.{Tables}
use Rattle.ast.proofs.CheckLaws.{CheckedIn, check_page-in}
use Rattle.walk.specs.Answers.{Accepts}
use Rattle.text.specs.Display.{display}
use Rattle.text.proofs.RoomLaws.{display-room}
use Rattle.copy.proofs.CopyLaws.{accepted-walks}
use Rattle.copy.proofs.StartsLaws.{read_page-reads}
use Rattle.outcomes.specs.Calls.{too_short, writing, canonical_text}
use Rattle.outcomes.proofs.WellFormedLaws.{last-tree}

-- ## An accepted page has a record

one_entry : (ending : Ending) (k : ℕ) (s : List Expr) {e : Expr} {n : ℕ} → at_end ending (suc k) s ≡ accepted e n → 0 < n
one_entry (unreadable f) k s h = absurd (let z : ◌≡◌ {A = ℕ} 0 1 = cc in omega arith)
one_entry end k [] h = absurd (let z : ◌≡◌ {A = ℕ} 0 1 = cc in omega arith)
one_entry end k (a ∷ []) {e} {n} h = let same : n ≡ suc k = cc in omega arith
one_entry end k (a ∷ b ∷ s) h = absurd (let z : ◌≡◌ {A = ℕ} 0 1 = cc in omega arith)

no-entry : (ending : Ending) {e : Expr} {n : ℕ} → at_end ending 0 [] ≡ accepted e n → 0 < n
no-entry (unreadable f) h = absurd (let z : ◌≡◌ {A = ℕ} 0 1 = cc in omega arith)
no-entry end h = absurd (let z : ◌≡◌ {A = ℕ} 0 1 = cc in omega arith)

some-record : (ending : Ending) (k : ℕ) (w : Walked Expr) {e : Expr} {n : ℕ} → finished ending (suc k) w ≡ accepted e n → 0 < n
some-record ending k (stack s) h = one_entry ending k s h
some-record ending k (stopped m i) h = absurd (let z : ◌≡◌ {A = ℕ} 0 1 = cc in omega arith)

by-records : (ending : Ending) (rs : List Record) {e : Expr} {n : ℕ} → finished ending (length rs) (walk apply 0 [] rs) ≡ accepted e n → 0 < n
by-records ending [] h = no-entry ending h
by-records ending (r ∷ rs) h = some-record ending (length rs) (walk apply 0 [] (r ∷ rs)) h

accepted-some : (page : List ℕ) {e : Expr} {n : ℕ} → check_page page ≡ accepted e n → 0 < n
unfolding check_page
accepted-some page h = by-records (read_page page).ending (read_page page).records h

module _ {page starts firsts : List ℕ} {kind : Kind} {n : ℕ} (walked : Accepts (check_page page) page starts firsts kind n) where
  pub accepts-some : 0 < n
  accepts-some = accepted-some page walked.tree

  -- the tables up to the last record
  pub accepts_last : Tables page starts firsts (suc (n - 1))
  accepts_last = let same : n ≡ suc (n - 1) = omega (arith, accepts-some) in subst (λ (k : ℕ). Tables page starts firsts k) same walked.tables

-- ## Room for a text, by its measured length

pub room-enough : (text room size : ℕ) → size ≡ min text (room + 1) → size ≤ room → leb text room ≡ true
room-enough text room size e h = le-leb text room (omega arith)

pub room-short : (text room size : ℕ) → size ≡ min text (room + 1) → room < size → leb text room ≡ false
room-short text room size e h = lt-leb text room (omega arith)

-- the same as a writer at the start of the buffer asks it
pub room_fits : (text room size : ℕ) → size ≡ min text (room + 1) → size ≤ room → 0 + text ≤ room
room_fits text room size e h = omega arith

-- ## Room for every canonical text

pub canonical-room : (page : List ℕ) {e : Expr} {n : ℕ} → T (all is_byte page) → check_page page ≡ accepted e n → length (display e) ≤ 65536
unfolding check_page
canonical-room page {e} {n} bytes h =
    omega (
      arith,
      display-room page 255 bytes,
      ap (λ (x : Expr). length (display x)) (last-tree page h),
      (read_page-reads page (accepted-walks (read_page page) e n h).0).0,
    )

-- a buffer of 65,536 bytes is never too short for it
pub canonical_text-fits : (page buffer : List ℕ) → T (all is_byte page) → 65536 ≤ length buffer → (i : ℕ)
    → (canonical_text page buffer).outcome ≡ refusal too_short i → ⊥
canonical_text-fits page buffer bytes room i = by (check_page page) refl (check_page-in page)
  where
    never : (k : ℕ) → T (is_of_check k) → k ≡ too_short → ⊥
    never k t e = subst (λ (x : ℕ). T (is_of_check x)) e t

    number : (k j : ℕ) → refusal k j ≡ refusal too_short i → k ≡ too_short
    number k j q = cc

    answered : (k : Kind) (n : ℕ) → answer k n ≡ refusal too_short i → ⊥
    answered k n q = let z : ◌≡◌ {A = ℕ} 0 1 = cc in omega arith

    by : (c : Checked Expr) → check_page page ≡ c → CheckedIn (length (read_page page).records) c → (writing display c buffer).outcome ≡ refusal too_short i → ⊥
    by (refused_at k j) h g q = never k g.0 (number k j q)
    by (accepted e n) h g q = answered (value_type e) (length (display e))
        (rw (le-leb (length (display e)) (length buffer) (omega (arith, canonical-room page bytes h))) at q)
