-- Texts joined by commas, one at a time; the length of the sorted texts is that of the unsorted ones. Assumes nothing.
use Prim.Native.Nat.{ℕ, ◌+◌, ◌-◌, ◌≤◌, ◌<◌, min}
use native.Mathlib.Numerals.{add-one}
use native.Mathlib.Omega.{arith}
use mathlib.Core.List.{List, [], ◌∷◌, ◌++◌, map}
use mathlib.Core.Path.{◌≡◌, refl, sym, ap, ◌∙◌}
use lib.ListN.{length, get_or, take, drop, drop_of_length-le, length-append}
use lib.Seq.{drop-cons}
use Rattle.base.proofs.Cases.{by_flag}
use Rattle.base.specs.Splice.{Wrote}
use Rattle.base.proofs.SpliceLaws.{Cut}
use Rattle.page.specs.Read.{got}
use Rattle.page.specs.Text.{Text}
use Rattle.page.specs.Listed.{listed}
use Rattle.page.proofs.ListLaws.{listed_more, listed-none}
use Rattle.leaves.specs.Escape.{quote}
use Rattle.records.specs.Matcher.{Matcher, read_matcher}
use Rattle.label.specs.Label.{display_label, match_op_token, display_matcher, at_most, insert, sort, joined_by_commas, more_by_commas, display_matchers}
use Rattle.label.specs.Symbols.{matcher_text}
use Rattle.label.specs.Printed.{printed_text, Prints, AllPrint, printed_texts, Collected, Sorts}
use Rattle.label.specs.declared.printed.Printed.{Printed}
use Rattle.label.proofs.CollectLaws.{display_matcher-parts}

-- ## joined_by_commas of printed matchers: a text at a time

module _ (page : List ℕ) {l : List Printed} {p : Printed} {ps : List Printed} (is : l ≡ p ∷ ps) where
  pub joined-first : Cut (joined_by_commas (printed_texts page l)) (printed_text page p) (more_by_commas (printed_texts page ps))
  unfolding joined_by_commas more_by_commas printed_texts
  joined-first = record { is = rw is refl }

  pub print-first : AllPrint page l → Prints page p × AllPrint page ps
  unfolding AllPrint
  print-first all = rw is at all

-- `none` stands past the end
module _ (page : List ℕ) (l : List Printed) (none : Printed) where
  -- the text of matcher i, and those after it
  pub text_then : ℕ → List ℕ
  text_then i = printed_text page (get_or l i none) ++ more_by_commas (printed_texts page (drop (i + 1) l))

  pub comma-next : (i : ℕ) → i < length l → Cut (more_by_commas (printed_texts page (drop i l))) (44 ∷ []) (text_then i)
  unfolding more_by_commas printed_texts text_then
  comma-next i h = record { is = rw (add-one, drop-cons l i none h) }

  pub text-next : (i : ℕ) → Cut (text_then i) (printed_text page (get_or l i none)) (more_by_commas (printed_texts page (drop (i + 1) l)))
  unfolding text_then
  text-next i = record { is = refl }

  pub more-end : (i : ℕ) → length l ≤ i → more_by_commas (printed_texts page (drop i l)) ≡ []
  unfolding more_by_commas printed_texts
  more-end i h = rw (drop_of_length-le l h)

pub joined-none : (page : List ℕ) (l : List Printed) → length l ≡ 0 → joined_by_commas (printed_texts page l) ≡ []
unfolding joined_by_commas printed_texts
joined-none page [] h = refl
joined-none page (x ∷ l) h = absurd (omega arith)

-- ## The length, which no order changes

pub more-length : (t : Text) (ts : List Text) → length (more_by_commas (t ∷ ts)) ≡ 1 + length t + length (more_by_commas ts)
unfolding more_by_commas
more-length t ts = omega (arith, length-append t (more_by_commas ts))

insert-length : (t : Text) (ts : List Text) → length (more_by_commas (insert t ts)) ≡ 1 + length t + length (more_by_commas ts)
unfolding insert
insert-length t [] = more-length t []
insert-length t (u ∷ us) =
    by_flag (at_most t u) (λ e. rw e (more-length t (u ∷ us)))
    (λ e. rw e (omega (arith, more-length u (insert t us), insert-length t us, more-length u us)))

sort-length : (ts : List Text) → length (more_by_commas (sort ts)) ≡ length (more_by_commas ts)
unfolding sort
sort-length [] = refl
sort-length (t ∷ ts) = omega (arith, insert-length t (sort ts), sort-length ts, more-length t ts)

-- a comma less than with a comma before each
joined_length : (ts : List Text) → length (joined_by_commas ts) ≡ length (more_by_commas ts) - 1
unfolding joined_by_commas more_by_commas
joined_length [] = refl
joined_length (t ∷ ts) = omega arith

pub display_matchers-length : (ms : List Matcher) → length (display_matchers ms) ≡ length (more_by_commas (map display_matcher ms)) - 1
unfolding display_matchers
display_matchers-length ms = joined_length (sort (map display_matcher ms)) ∙ ap (λ (n : ℕ). n - 1) (sort-length (map display_matcher ms))

-- ## So many matchers from s on: their length up to a cap

pub matcher-length : (m : Matcher)
    → length (display_matcher m)
    ≡ length (display_label m.name) + length (match_op_token m.op) + length (quote m.value)
unfolding matcher_text
matcher-length m =
    sym (ap length (display_matcher-parts m))
    ∙ omega (
      arith,
      length-append (display_label m.name) (match_op_token m.op ++ quote m.value),
      length-append (match_op_token m.op) (quote m.value),
    )

module _ (n : ℕ) (s : List ℕ) where
  pub matchers-none : n ≤ 0 → length (more_by_commas (map display_matcher (listed read_matcher n s))) ≡ 0
  unfolding more_by_commas
  matchers-none h = rw (listed-none read_matcher n s h)

  matchers-more : {m : Matcher} {rest : List ℕ} → 0 < n → got m rest ≡ read_matcher s
      → length (more_by_commas (map display_matcher (listed read_matcher n s)))
      ≡ 1 + length (display_matcher m) + length (more_by_commas (map display_matcher (listed read_matcher (n - 1) rest)))
  matchers-more some' is = rw (listed_more read_matcher n s some' is) (more-length _ _)

  -- one matcher's length, with its comma, and the new sum
  pub matchers-sum-on : {m : Matcher} {rest : List ℕ} (whole total cap one with sum : ℕ) → 0 < n → got m rest ≡ read_matcher s
      → whole ≡ min (total + length (more_by_commas (map display_matcher (listed read_matcher n s)))) cap
      → one ≡ min (length (display_matcher m)) cap → with ≡ min (1 + one) cap → sum ≡ min (total + with) cap
      → whole ≡ min (sum + length (more_by_commas (map display_matcher (listed read_matcher (n - 1) rest)))) cap
  matchers-sum-on whole total cap one with sum some' is inv e₁ e₂ e₃ = omega (arith, matchers-more some' is)

  pub matchers-first : {m : Matcher} {rest : List ℕ} (cap one more sum : ℕ) → 0 < n → got m rest ≡ read_matcher s
      → one ≡ min (length (display_matcher m)) cap → more ≡ min (length (more_by_commas (map display_matcher (listed read_matcher (n - 1) rest)))) cap
      → sum ≡ min (one + more) cap → sum ≡ min (length (display_matchers (listed read_matcher n s))) cap
  matchers-first cap one more sum some' is e₁ e₂ e₃ =
      omega (arith, display_matchers-length (listed read_matcher n s), matchers-more some' is)

  pub matchers-empty : length (more_by_commas (map display_matcher (listed read_matcher n s))) ≡ 0 → length (display_matchers (listed read_matcher n s)) ≡ 0
  matchers-empty e = omega (arith, display_matchers-length (listed read_matcher n s))

-- what `matcher_len` answers: the lengths of the three parts, added up to the cap
pub matcher-measured : (m : Matcher) (u v : Text) (cap name value token with sum : ℕ) → u ≡ m.name → name ≡ min (length (display_label u)) cap
    → v ≡ m.value → value ≡ min (length (quote v)) cap → token ≡ length (match_op_token m.op)
    → with ≡ min (name + token) cap → sum ≡ min (with + value) cap → sum ≡ min (length (display_matcher m)) cap
matcher-measured m u v cap name value token with sum eu en ev evalue eword ewith esum =
    let a : length (display_label u) ≡ length (display_label m.name) = ap (λ (t : Text). length (display_label t)) eu in
    let b : length (quote v) ≡ length (quote m.value) = ap (λ (t : Text). length (quote t)) ev in
    omega (arith, matcher-length m)

-- ## What is collected and sorted gives what is displayed

module _ {page : List ℕ} {ms : List Matcher} {all o : List Printed} {n : ℕ} (collected : Collected page ms all n) (sorts : Sorts page (take n all) o) where
  sorted-display : joined_by_commas (printed_texts page o) ≡ display_matchers ms
  unfolding display_matchers
  sorted-display = ap joined_by_commas (sorts.sorted ∙ ap sort collected.texts)

  pub sorted-fits : (at k : ℕ) → at + length (display_matchers ms) ≤ k → at + length (joined_by_commas (printed_texts page o)) ≤ k
  sorted-fits at k h = rw sorted-display h

  pub sorted-wrote : {before after : List ℕ} {at next : ℕ} → Wrote before after at (joined_by_commas (printed_texts page o)) next
      → Wrote before after at (display_matchers ms) next
  sorted-wrote w = rw (← sorted-display) w
