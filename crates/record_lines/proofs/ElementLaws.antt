-- Laws of lists as numbers (specs/Numbers): where a text stands, by the bytes that are left after it; a list, an
-- element at a time. Assumes nothing.
use Prim.Native.Nat.{ℕ, ◌+◌, ◌-◌, ◌≤◌, ◌<◌}
use native.Mathlib.Omega.{arith}
use mathlib.Core.List.{List, [], ◌∷◌, ◌++◌}
use mathlib.Core.Path.{◌≡◌, ap}
use borrow.Author.Tests.{le-leb, lt-leb}
use lib.ListN.{length, drop, length-drop}
use lib.Seq.{length-take-le}
use Rattle.base.specs.Splice.{join}
use Rattle.base.proofs.SpliceLaws.{Cut}
use Rattle.page.specs.Read.{FieldFault, bad_field, refused, got, Reader}
use Rattle.page.specs.Number.{read_number}
use Rattle.page.specs.Text.{read_any_text}
use Rattle.page.specs.Listed.{listed}
use Rattle.page.specs.Answers.{span_on, Lies}
use Rattle.page.specs.declared.text.Span.{Span}
use Rattle.page.proofs.ListLaws.{listed_more, listed-refused, listed-none}
use Rattle.record_lines.specs.Numbers.{span_numbers, read_label_numbers, read_pattern_flag_numbers, read_matcher_texts, read_matcher_numbers}

-- ## A text

span-length : (page : List ℕ) (s : Span) → Lies page s → length (span_on page s) ≡ s.end - s.start
span-length page s h = length-take-le (s.end - s.start) (drop s.start page) (simp length-drop (omega arith))

-- where a text that was read stands
pub label-read : (page from : List ℕ) {s : Span} {next : ℕ} → got (span_on page s) (drop next page) ≡ read_any_text from
    → Lies page s × (next ≡ s.end) → got (span_numbers s) (drop next page) ≡ read_label_numbers page from
unfolding read_label_numbers
label-read page from {s} {next} e h =
    let lies = h.0 in
    let size : length (span_on page s) ≡ s.end - s.start = span-length page s lies in
    let start : length page - length (drop next page) - length (span_on page s)
    ≡ s.start = omega (arith, length-drop next page, lies.ordered, lies.inside) in
    rw (← e, start, size)

pub label-refused : (page from : List ℕ) {f : FieldFault} → refused f ≡ read_any_text from → refused f ≡ read_label_numbers page from
unfolding read_label_numbers
label-refused page from e = rw (← e)

-- ## A matcher

module _ (page : List ℕ) (op : ℕ) (s : List ℕ) where
  -- after its operator
  pub texts-read : {t u v n m k : List ℕ} → got n t ≡ read_label_numbers page s → got m u ≡ read_label_numbers page t
      → got k v ≡ read_pattern_flag_numbers op u → got (op ∷ n ++ m ++ k) v ≡ read_matcher_texts page op s
  unfolding read_matcher_texts
  texts-read e f g = rw (← e, ← f, ← g)

  pub name-refused : {f : FieldFault} → refused f ≡ read_label_numbers page s → refused f ≡ read_matcher_texts page op s
  unfolding read_matcher_texts
  name-refused e = rw (← e)

  pub value-refused : {t n : List ℕ} {f : FieldFault} → got n t ≡ read_label_numbers page s → refused f ≡ read_label_numbers page t
      → refused f ≡ read_matcher_texts page op s
  unfolding read_matcher_texts
  value-refused e f = rw (← e, ← f)

  pub mark-refused : {t u n m : List ℕ} {f : FieldFault} → got n t ≡ read_label_numbers page s → got m u ≡ read_label_numbers page t
      → refused f ≡ read_pattern_flag_numbers op u → refused f ≡ read_matcher_texts page op s
  unfolding read_matcher_texts
  mark-refused e f g = rw (← e, ← f, ← g)

  module _ {t : List ℕ} (e : got op t ≡ read_number s) where
    pub operator-read : op ≤ 3 → read_matcher_texts page op t ≡ read_matcher_numbers page s
    unfolding read_matcher_numbers
    operator-read h = rw (← e, le-leb op 3 h)

    pub operator-high : 3 < op → refused bad_field ≡ read_matcher_numbers page s
    unfolding read_matcher_numbers
    operator-high h = rw (← e, lt-leb op 3 h)

pub operator-refused : (page s : List ℕ) {f : FieldFault} → refused f ≡ read_number s → refused f ≡ read_matcher_numbers page s
unfolding read_matcher_numbers
operator-refused page s e = rw (← e)

-- ## A list

module _ (r : Reader (List ℕ)) (count done : ℕ) (s : List ℕ) where
  pub elements-more : {xs t : List ℕ} → done < count → got xs t ≡ r s
      → Cut (join (listed r (count - done) s)) xs (join (listed r (count - (done + 1)) t))
  unfolding join
  elements-more h e =
      let fewer : count - done - 1 ≡ count - (done + 1) = omega arith in
      record { is = rw (← fewer) (ap join (listed_more r (count - done) s (omega arith) e)) }

  pub elements-refused : {f : FieldFault} → refused f ≡ r s → join (listed r (count - done) s) ≡ []
  unfolding join
  elements-refused e = ap join (listed-refused r (count - done) s e)

  pub elements-none : count ≤ done → join (listed r (count - done) s) ≡ []
  unfolding join
  elements-none h = ap join (listed-none r (count - done) s (omega arith))
