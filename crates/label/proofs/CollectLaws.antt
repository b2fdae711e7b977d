-- The parts printed are the matcher's, and those collected are of the matchers read. Assumes nothing.
use Prim.Native.Nat.{ℕ, ◌+◌, ◌-◌, ◌≤◌, ◌<◌}
use native.Mathlib.Numerals.{add-one}
use native.Mathlib.Omega.{arith}
use mathlib.Core.Bool.{Bool}
use mathlib.Core.List.{List, [], ◌∷◌, ◌++◌, map, append-nil, append_assoc}
use mathlib.Core.Path.{◌≡◌, refl, sym, ap, ◌∙◌, subst}
use lib.ListN.{length, take, set, length-set}
use lib.Seq.{take-suc-set}
use Rattle.page.specs.Read.{got}
use Rattle.page.specs.Text.{Text, is_label}
use Rattle.page.specs.Listed.{listed}
use Rattle.page.specs.Answers.{span_on, Lies}
use Rattle.page.specs.declared.text.Span.{Span}
use Rattle.page.proofs.ListLaws.{listed_more, listed-none}
use Rattle.leaves.specs.Escape.{quote}
use Rattle.records.specs.Matcher.{Matcher, read_matcher}
use Rattle.page.proofs.ReadBackLaws.{Got}
use Rattle.records.proofs.AllowedLaws.{read_matcher-gives}
use Rattle.records.specs.Allowed.{IsMatcher}
use Rattle.records.specs.Answers.{matcher_on, MatcherLies}
use Rattle.records.specs.declared.matcher.Matcher.{Matcher as CodeMatcher}
use Rattle.label.specs.Label.{display_label, match_op_token, display_matcher}
use Rattle.label.specs.Symbols.{matcher_text}
use Rattle.label.specs.Printed.{printed_text, Prints, AllPrint, printed_texts, PrintsAs, Collected}
use Rattle.label.specs.declared.printed.Printed.{Printed}

-- ## display_matcher

pub display_matcher-parts : (m : Matcher) → matcher_text m.name m.op m.value ≡ display_matcher m
unfolding matcher_text display_matcher
display_matcher-parts m = sym (append_assoc (display_label m.name) (match_op_token m.op) (quote m.value))

-- the end of a part, from its start and its size
end-back : {page : List ℕ} {s : Span} → Lies page s → s.start + (s.end - s.start) ≡ s.end
end-back lies = let a = lies.ordered in omega arith

-- what `printed` answers: r is what `is_label` answered
pub prints : (page : List ℕ) (m : CodeMatcher) (u : Text) (r : Bool) → MatcherLies page m → IsMatcher (matcher_on page m)
    → u ≡ span_on page m.name → r ≡ is_label u
    → PrintsAs page (matcher_on page m) (record {
      name_start = m.name.start;
      value_start = m.value.start;
      name_size = m.name.end - m.name.start;
      value_size = m.value.end - m.value.start;
      bare = r;
      op = m.op;
    })
unfolding printed_text
prints page m u r lies allowed same label =
    let name = end-back lies.name in
    let value = end-back lies.value in
    record {
      prints = record {
        name = rw name lies.name;
        value = rw value lies.value;
        label = rw (name, ← same) label;
        name_size = rw name allowed.0.0;
        value_size = rw value allowed.1.0;
      };
      text = rw (name, value) (display_matcher-parts (matcher_on page m));
    }

pub read-allowed : (s : List ℕ) {m : Matcher} {rest : List ℕ} → got m rest ≡ read_matcher s → IsMatcher m
read-allowed s e = subst (Got IsMatcher) (sym e) (read_matcher-gives.gives s)

-- ## printed_texts, AllPrint: one more

printed_texts-append : (page : List ℕ) (a b : List Printed) → printed_texts page (a ++ b) ≡ printed_texts page a ++ printed_texts page b
unfolding printed_texts
printed_texts-append page [] b = refl
printed_texts-append page (p ∷ a) b = ap (λ (l : List (List ℕ)). printed_text page p ∷ l) (printed_texts-append page a b)

all_print-append : (page : List ℕ) (a b : List Printed) → AllPrint page a → AllPrint page b → AllPrint page (a ++ b)
unfolding AllPrint
all_print-append page [] b va vb = vb
all_print-append page (p ∷ a) b (v, va) vb = (v, all_print-append page a b va vb)

printed_texts-one : (page : List ℕ) (p : Printed) → printed_texts page (p ∷ []) ≡ printed_text page p ∷ []
unfolding printed_texts
printed_texts-one page p = refl

all_print-one : (page : List ℕ) (p : Printed) → Prints page p → AllPrint page (p ∷ [])
unfolding AllPrint
all_print-one page p v = (v, tt)

-- ## The loop of `collect`: i are stored, and `left` matchers are to be read from s on

pub record Collecting (page : List ℕ) (ms : List Matcher) (before all : List Printed) (left : ℕ) (s : List ℕ) (i : ℕ) : Type 0 where
  pub size : length all ≡ length before
  pub room : i + length (listed read_matcher left s) ≤ length all
  pub texts : printed_texts page (take i all) ++ map display_matcher (listed read_matcher left s) ≡ map display_matcher ms
  pub print : AllPrint page (take i all)

pub collect-start : (page : List ℕ) (all : List Printed) (n : ℕ) (s : List ℕ) → length (listed read_matcher n s) ≤ length all
    → Collecting page (listed read_matcher n s) all all n s 0
unfolding printed_texts AllPrint
collect-start page all n s h = record { size = refl; room = omega arith; texts = refl; print = tt }

module _ {page : List ℕ} {ms : List Matcher} {before all : List Printed} {left : ℕ} {s : List ℕ} {i : ℕ} (w : Collecting page ms before all left s i) where
  module _ {m : Matcher} {rest : List ℕ} (some' : 0 < left) (is : got m rest ≡ read_matcher s) where
    -- there is room for one more
    pub collect-room : i < length all
    collect-room = let more = listed_more read_matcher left s some' is in let r = w.room in let e = ap length more in omega arith

    pub collect-on : (p : Printed) → PrintsAs page m p → Collecting page ms before (set all i p) (left - 1) rest (i + 1)
    collect-on p prints =
        let more = listed_more read_matcher left s some' is in
        let front : take (i + 1) (set all i p) ≡ take i all ++ (p ∷ []) = rw (add-one i) (take-suc-set all i p collect-room) in
        record {
          size = simp length-set w.size;
          room = let r = w.room in let e = ap length more in simp length-set (omega arith);
          texts = rw (
            front,
            printed_texts-append page (take i all) (p ∷ []),
            printed_texts-one page p,
            append_assoc (printed_texts page (take i all)) (printed_text page p ∷ [])
                (map display_matcher (listed read_matcher (left - 1) rest)),
            prints.text,
          )
              (ap (λ (l : List Matcher). printed_texts page (take i all) ++ map display_matcher l) (sym more) ∙ w.texts);
          print = rw front (all_print-append page (take i all) (p ∷ []) w.print (all_print-one page p prints.prints));
        }

  pub collect-end : left ≤ 0 → Collected page ms all i
  collect-end h =
      let none = listed-none read_matcher left s h in
      record {
        texts = sym (append-nil (printed_texts page (take i all)))
            ∙ ap (λ (l : List Matcher). printed_texts page (take i all) ++ map display_matcher l) (sym none) ∙ w.texts;
        print = w.print;
        inside = let r = w.room in omega arith;
      }
