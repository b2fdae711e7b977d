-- The part of the first group label that is also in the on list: where the bytes from it on begin (`part-from`), and
-- the same of a list that was read. Labels placed are read from the same bytes as labels (`repeat-placed`). Assumes
-- nothing.
use Prim.Native.Nat.{ℕ, zero, suc, ◌-◌, ◌≤◌, ◌<◌}
use mathlib.Core.Path.{◌≡◌, refl, sym, ap, ◌∙◌}
use mathlib.Core.Bool.{Bool, true, false}
use mathlib.Core.List.{List, [], ◌∷◌}
use native.Mathlib.Nat.{not-suc-le-zero}
use native.Mathlib.Omega.{arith}
use lib.ListN.{length, drop, length-drop}
use Rattle.std.specs.Prelude.{Some, None}
use Rattle.std.specs.Prelude.{Option as Given}
use Rattle.page.specs.Bytes.{pick}
use Rattle.page.specs.Read.{FieldFault, Read, refused, got, and_then, reader_at, repeat}
use Rattle.page.specs.Text.{Text, read_any_text}
use Rattle.page.specs.Listed.{before, listed}
use Rattle.page.specs.Answers.{span_on, Lies}
use Rattle.page.specs.declared.text.Span.{Span}
use Rattle.page.proofs.ListLaws.{passed, repeat-listed}
use Rattle.records.specs.Field.{Labels}
use Rattle.records.specs.Record.{Record, read_record}
use Rattle.records.specs.Outcome.{refusal}
use Rattle.records.proofs.SpanLaws.{span-size}
use Rattle.ast.specs.CheckAst.{has_label}
use Rattle.ast.specs.Part.{Part, empty_part, from_record, Placed, read_placed, first_in, placed_forms, read_joint, part_in, label_part}
use Rattle.judge.specs.Label.{from_label, from_joint}
use Rattle.joint_label.specs.Answers.{span_part, IsPart, PartFound, part_at, first_part}

-- no bytes where the part is empty
pub nowhere : {page : List ℕ} {part : Part} → part ≡ empty_part → IsPart page part (record { start = 0; end = 0 })
nowhere e = record { is = sym e; lies = record { ordered = omega arith; inside = omega arith } }

pub part-as : {page : List ℕ} {part other : Part} {span : Span} → other ≡ part → IsPart page part span → IsPart page other span
part-as e h = record { is = h.is ∙ sym e; lies = h.lies }

pub found-as : (page : List ℕ) {part other : Part} (found : Given Span) → other ≡ part → PartFound page part found → PartFound page other found
found-as page None e h = e ∙ h
found-as page (Some span) e h = part-as e h

-- ## A label

abbrev placed_as : Text → List ℕ → Placed
placed_as t rest = record { label = t; left = length rest }

abbrev starts_at : ℕ → ℕ → Part
starts_at n size = record { start = n; size = size }

-- a text read stands right before what is left after it
span-place : (page : List ℕ) (s : Span) → Lies page s → span_part s ≡ part_in (length page) (got (placed_as (span_on page s) (drop s.end page) ∷ []) [])
span-place page s lies =
    let left : length (drop s.end page) ≡ length page - s.end = length-drop s.end page in
    let from : s.start ≡ length page - (length page - s.end) - (s.end - s.start) = omega (arith, lies.ordered, lies.inside) in
    rw (span-size page s lies, left) (ap (λ (n : ℕ). starts_at n (s.end - s.start)) from)

-- ## A label read at a position

pub part-got : (page : List ℕ) (at : ℕ) {s : Span} → got (span_on page s) (drop s.end page) ≡ read_any_text (drop at page) → Lies page s
    → IsPart page (part_at (length page) (drop at page)) s
part-got page at {s} e lies = record { is = rw (← e) (span-place page s lies); lies = lies }

pub part-refused : (page : List ℕ) (at : ℕ) {f : FieldFault} → refused f ≡ read_any_text (drop at page) → part_at (length page) (drop at page) ≡ empty_part
part-refused page at e = rw (← e)

-- ## The first of a list's labels

abbrev placed_part : ℕ → Labels → List Placed → Part
placed_part size on placed = part_in size (got (first_in on placed) [])

first-part : (size : ℕ) (on : Labels) (n : ℕ) (s : List ℕ) (m : Read Text) → m ≡ read_any_text s
    → ((t : List ℕ) → placed_part size on (listed read_placed n t) ≡ part_at size (from_joint on n t))
    → placed_part size on (before (and_then m (λ t u. got (placed_as t u) u)) (λ t. listed read_placed n t))
    ≡ part_at size (from_label on s m (λ t. from_joint on n t))
first-part size on n s (refused f) e more = refl
first-part size on n s (got a t) e more = by (has_label on a)
  where
    by : (has : Bool) → part_in size (got (pick has (placed_as a t ∷ []) (first_in on (listed read_placed n t))) []) ≡ part_at size (pick has s (from_joint on n t))
    by true = rw (← e)
    by false = more t

-- it is read where the bytes from it on begin
pub part-from : (size : ℕ) (on : Labels) (n : ℕ) (s : List ℕ) → placed_part size on (listed read_placed n s) ≡ part_at size (from_joint on n s)
unfolding listed from_joint
part-from size on zero s = refl
part-from size on (suc n) s = first-part size on n s (read_any_text s) refl (part-from size on n)

-- ## A list that was read

first-passed : (n : ℕ) (m : Read Text) → ((s : List ℕ) → passed read_placed n s ≡ passed read_any_text n s)
    → and_then (and_then m (λ t u. got (placed_as t u) u)) (λ p u. passed read_placed n u) ≡ and_then m (λ t u. passed read_any_text n u)
first-passed n (refused f) more = refl
first-passed n (got t u) more = more u

passed-placed : (n : ℕ) (s : List ℕ) → passed read_placed n s ≡ passed read_any_text n s
unfolding passed
passed-placed zero s = refl
passed-placed (suc n) s = first-passed n (read_any_text s) (passed-placed n)

-- labels placed are read where labels are
pub repeat-placed : (n : ℕ) (s : List ℕ) → repeat n read_placed s ≡ and_then (repeat n read_any_text s) (λ ls t. got (listed read_placed n s) t)
repeat-placed n s = repeat-listed read_placed n s ∙ rw (passed-placed n s, repeat-listed read_any_text n s) (by (passed read_any_text n s))
  where
    by : (m : Read (Unit {0}))
        → and_then m (λ v u. got (listed read_placed n s) u)
        ≡ and_then (and_then m (λ v u. got (listed read_any_text n s) u)) (λ ls t. got (listed read_placed n s) t)
    by (refused f) = refl
    by (got v u) = refl

-- what is left after the labels does not matter
pub part-rest : (size : ℕ) (placed : List Placed) (s : List ℕ) → part_in size (got placed s) ≡ part_in size (got placed [])
part-rest size [] s = refl
part-rest size (p ∷ ps) s = refl

pub list-got : (page : List ℕ) (on : Labels) (n : ℕ) (s : List ℕ) {ls : Labels} {t : List ℕ} → got ls t ≡ repeat n read_any_text s
    → first_part page on (repeat n read_placed s) ≡ part_at (length page) (from_joint on n s)
list-got page on n s {ls} {t} e =
    rw (repeat-placed n s, ← e) (part-rest (length page) (first_in on (listed read_placed n s)) t ∙ part-from (length page) on n s)

pub list-refused : (page : List ℕ) (on : Labels) (n : ℕ) (s : List ℕ) {f : FieldFault} → refused f ≡ repeat n read_any_text s
    → first_part page on (repeat n read_placed s) ≡ empty_part
list-refused page on n s e = rw (repeat-placed n s, ← e)

-- without an on list there is no such label
first-none : (placed : List Placed) → first_in [] placed ≡ []
first-none [] = refl
first-none (p ∷ ps) = first-none ps

pub no-on : (page : List ℕ) (read : Read (List Placed)) → first_part page [] read ≡ empty_part
no-on page (refused f) = refl
no-on page (got ps t) = rw (first-none ps)

-- only group_left and group_right have group labels
pub no-group : (page : List ℕ) (on : Labels) (n : ℕ) (s : List ℕ) → (n ≡ 1 → ⊥) → (n ≡ 2 → ⊥) → first_part page on (reader_at placed_forms n s) ≡ empty_part
no-group page on zero s h k = refl
no-group page on (suc zero) s h k = absurd (h refl)
no-group page on (suc (suc zero)) s h k = absurd (k refl)
no-group page on (suc (suc (suc zero))) s h k = refl
no-group page on (suc (suc (suc (suc n)))) s h k = refl

-- ## The part of a page refused with 19

pub part-joint : (page : List ℕ) (n i at : ℕ) → n ≡ 19 → drop at page ≡ from_record i page
    → label_part page (refusal n i) ≡ part_in (length page) (read_joint (drop at page))
unfolding label_part
part-joint page n i at is e = rw (is, e)

-- ## The bytes from a record on

none_left : (n : ℕ) → from_record n [] ≡ []
unfolding read_record
none_left zero = refl
none_left (suc n) = none_left n

pub from_next : (n : ℕ) (s : List ℕ) {r : Record} {t : List ℕ} → 0 < n → got r t ≡ read_record s → from_record n s ≡ from_record (n - 1) t
from_next zero s h e = absurd (not-suc-le-zero h)
from_next (suc n) s {r} {t} h e = let less : n ≡ suc n - 1 = omega arith in rw (← e) (ap (λ (k : ℕ). from_record k t) less)

pub from-refused : (n : ℕ) (s : List ℕ) {f : FieldFault} → 0 < n → refused f ≡ read_record s → from_record n s ≡ []
from-refused zero s h e = absurd (not-suc-le-zero h)
from-refused (suc n) s h e = rw (← e) (none_left n)

pub from-none : (n : ℕ) (s : List ℕ) → n ≤ 0 → from_record n s ≡ s
from-none zero s h = refl
from-none (suc n) s h = absurd (not-suc-le-zero h)

pub past_end : (l : List ℕ) → drop (length l) l ≡ []
past_end [] = refl
past_end (b ∷ l) = past_end l
