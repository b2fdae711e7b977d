-- A matcher read for its facts alone gives the facts of the matcher read. A loop over a list of matchers keeps its
-- facts: what was seen so far, and what is left of the list, decide together. Assumes nothing.
use Prim.Native.Nat.{ℕ, zero, suc, ◌-◌, ◌≤◌, ◌<◌}
use mathlib.Core.Path.{◌≡◌, refl, sym, ap, ◌∙◌}
use mathlib.Core.Bool.{Bool, true, false, not, beq, ◌&&◌, ◌||◌, and_assoc, or_assoc, and-true, or-false}
use mathlib.Core.List.{List, ◌∷◌}
use mathlib.Core.Option.{some}
use native.Mathlib.Omega.{arith}
use Rattle.page.specs.Bytes.{all, any}
use Rattle.page.specs.Read.{FieldFault, Read, refused, got, and_then, reader_at}
use Rattle.page.specs.Number.{read_number}
use Rattle.page.specs.Text.{Text, read_any_text}
use Rattle.page.specs.Listed.{listed}
use Rattle.page.proofs.ListLaws.{passed, passed-more, listed_more, listed-none}
use Rattle.records.specs.Field.{read_flag}
use Rattle.records.specs.Matcher.{MatchOp, Matcher, matcher_of, equal, not_equal, re, not_re, matcher_forms}
use Rattle.records.specs.Matcher.{differs, read_matcher, is_metric_label, is_name_matcher, matches_empty, has_wrong_flag}
use Rattle.records.specs.MatcherFacts.{Facts, matcher_facts, read_matcher_facts, pattern_facts, fact_forms, facts_of, ListFacts}
use Rattle.records.specs.declared.matcher.MatcherFacts.{MatcherFacts}

-- ## A flag

pub flag-differs : (flag empty : Bool) → not (beq flag empty) ≡ differs (some empty) flag
flag-differs true true = refl
flag-differs true false = refl
flag-differs false true = refl
flag-differs false false = refl

-- ## One matcher

-- by cases on the operators' numbers
pub by-operator : (P : ℕ → Type 0) → P 0 → P 1 → P 2 → P 3 → (op : ℕ) → op ≤ 3 → P op
by-operator P a b c d zero h = a
by-operator P a b c d (suc zero) h = b
by-operator P a b c d (suc (suc zero)) h = c
by-operator P a b c d (suc (suc (suc zero))) h = d
by-operator P a b c d (suc (suc (suc (suc n)))) h = absurd (omega (arith, h))

plain_value : (o : MatchOp) (n : Text) (m : Read Text)
    → and_then (and_then m (λ v t. got (matcher_of o n v) t)) (λ a t. got (matcher_facts a) t) ≡ and_then m (λ v t. got (matcher_facts (matcher_of o n v)) t)
plain_value o n (refused f) = refl
plain_value o n (got v t) = refl

flagged : (o : Bool → MatchOp) (n v : Text) (m : Read Bool)
    → and_then (and_then m (λ b t. got (matcher_of (o b) n v) t)) (λ a t. got (matcher_facts a) t) ≡ and_then m (λ b t. got (matcher_facts (matcher_of (o b) n v)) t)
flagged o n v (refused f) = refl
flagged o n v (got b t) = refl

pattern-value : (o : Bool → MatchOp) (n : Text) (m : Read Text)
    → and_then (and_then m (λ v t. and_then (read_flag t) (λ b u. got (matcher_of (o b) n v) u))) (λ a t. got (matcher_facts a) t)
    ≡ and_then m (λ v t. and_then (read_flag t) (λ b u. got (matcher_facts (matcher_of (o b) n v)) u))
pattern-value o n (refused f) = refl
pattern-value o n (got v t) = flagged o n v (read_flag t)

-- after the name
facts-behind : (n : Text) (s t : List ℕ) (op : ℕ) → op ≤ 3 → got n t ≡ read_any_text s
    → and_then (reader_at matcher_forms op s) (λ m u. got (matcher_facts m) u) ≡ reader_at (fact_forms (is_metric_label n)) op t
facts-behind n s t op h e =
    by-operator (λ k. and_then (reader_at matcher_forms k s) (λ m u. got (matcher_facts m) u) ≡ reader_at (fact_forms (is_metric_label n)) k t)
    (rw (← e) (plain_value equal n (read_any_text t)))
    (rw (← e) (plain_value not_equal n (read_any_text t)))
    (rw (← e) (pattern-value re n (read_any_text t)))
    (rw (← e) (pattern-value not_re n (read_any_text t)))
    op h

-- a name that cannot be read
facts-refused : (s : List ℕ) (op : ℕ) {f : FieldFault} → op ≤ 3 → refused f ≡ read_any_text s
    → and_then (reader_at matcher_forms op s) (λ m u. got (matcher_facts m) u) ≡ refused f
facts-refused s op {f} h e =
    by-operator (λ k. and_then (reader_at matcher_forms k s) (λ m u. got (matcher_facts m) u) ≡ refused f) (rw (← e)) (rw (← e)) (rw (← e)) (rw (← e)) op h

-- the three ways to read a matcher's number and name for its facts
abbrev with_facts : Read ℕ → Read Facts
with_facts m = and_then (and_then m (reader_at matcher_forms)) (λ a u. got (matcher_facts a) u)

pub facts-read : (op : ℕ) (n : Text) (p s t : List ℕ) → op ≤ 3 → got op s ≡ read_number p → got n t ≡ read_any_text s
    → reader_at (fact_forms (is_metric_label n)) op t ≡ read_matcher_facts p
facts-read op n p s t h e name = sym (facts-behind n s t op h name) ∙ ap with_facts e

pub facts-cut : (op : ℕ) (p s : List ℕ) {f : FieldFault} → op ≤ 3 → got op s ≡ read_number p → refused f ≡ read_any_text s → refused f ≡ read_matcher_facts p
facts-cut op p s h e name = sym (facts-refused s op h name) ∙ ap with_facts e

-- after the value of a pattern
pub pattern-facts : (named : Bool) (v : Text) (s t : List ℕ) (op : ℕ) → op ≤ 3 → 2 ≤ op → got v t ≡ read_any_text s
    → reader_at (fact_forms named) op s ≡ pattern_facts op named v t
pattern-facts named v s t zero h two e = absurd (omega (arith, two))
pattern-facts named v s t (suc zero) h two e = absurd (omega (arith, two))
pattern-facts named v s t (suc (suc zero)) h two e = rw (← e)
pattern-facts named v s t (suc (suc (suc zero))) h two e = rw (← e)
pattern-facts named v s t (suc (suc (suc (suc n)))) h two e = absurd (omega (arith, h))

pub value-refused : (named : Bool) (s : List ℕ) (op : ℕ) {f : FieldFault} → op ≤ 3 → refused f ≡ read_any_text s → reader_at (fact_forms named) op s ≡ refused f
value-refused named s op {f} h e =
    by-operator (λ k. reader_at (fact_forms named) k s ≡ refused f) (rw (← e)) (rw (← e)) (rw (← e)) (rw (← e)) op h

-- ## A list of matchers

-- some matchers of a list were seen, and these are their facts; `left` of them, from t on, are still to come
pub record FactsSoFar (n : ℕ) (s : List ℕ) (left : ℕ) (t : List ℕ) (seen : MatcherFacts) : Type 0 where
  pub passes : passed read_matcher n s ≡ passed read_matcher left t
  pub names : any is_name_matcher (listed read_matcher n s) ≡ seen.named || any is_name_matcher (listed read_matcher left t)
  pub accept : all matches_empty (listed read_matcher n s) ≡ seen.empty && all matches_empty (listed read_matcher left t)
  pub flags : any has_wrong_flag (listed read_matcher n s) ≡ seen.wrong_flag || any has_wrong_flag (listed read_matcher left t)

-- a matcher whose facts were read
pub record MatcherWithFacts (s t : List ℕ) (facts : Facts) : Type 0 where
  pub matcher : Matcher
  pub reads : got matcher t ≡ read_matcher s
  pub same : facts ≡ matcher_facts matcher

matcher-of : (m : Read Matcher) {t : List ℕ} {facts : Facts} {s : List ℕ} → m ≡ read_matcher s
    → got facts t ≡ and_then m (λ a u. got (matcher_facts a) u) → MatcherWithFacts s t facts
matcher-of (refused f) is e = let z : ◌≡◌ {A = ℕ} 0 1 = cc in absurd (omega arith)
matcher-of (got a u) {t} {facts} is e =
    let behind : u ≡ t = cc in
    let same : facts ≡ matcher_facts a = cc in
    record { matcher = a; reads = rw (← behind) is; same = same }

refused-of : (m : Read Matcher) {f : FieldFault} → refused f ≡ and_then m (λ a u. got (matcher_facts a) u) → refused f ≡ m
refused-of (refused g) {f} e = let same : f ≡ g = cc in ap refused same
refused-of (got a u) e = let z : ◌≡◌ {A = ℕ} 0 1 = cc in absurd (omega arith)

pub read_matcher_facts-refused : (s : List ℕ) {f : FieldFault} → refused f ≡ read_matcher_facts s → refused f ≡ read_matcher s
read_matcher_facts-refused s e = refused-of (read_matcher s) e

-- a test that passes at some element of a list, when its first element was seen
any-more : (test : Matcher → Bool) (seen one : Bool) {m : Matcher} {list later : List Matcher} → list ≡ m ∷ later → one ≡ test m
    → seen || any test list ≡ (seen || one) || any test later
any-more test seen one {m} {list} {later} more is =
    ap (λ (l : List Matcher). seen || any test l) more ∙ sym (or_assoc seen (test m) (any test later))
    ∙ ap (λ (b : Bool). (seen || b) || any test later) (sym is)

-- the facts of what was seen, and of one more
abbrev pub with_one : MatcherFacts → MatcherFacts → MatcherFacts
with_one seen one = record { named = seen.named || one.named; empty = seen.empty && one.empty; wrong_flag = seen.wrong_flag || one.wrong_flag }

pub facts-more : (n : ℕ) (s : List ℕ) (left : ℕ) (t u : List ℕ) (seen one : MatcherFacts) → FactsSoFar n s left t seen → 0 < left
    → got (facts_of one) u ≡ read_matcher_facts t → FactsSoFar n s (left - 1) u (with_one seen one)
facts-more n s left t u seen one inv h e =
    let m : MatcherWithFacts t u (facts_of one) = matcher-of (read_matcher t) refl e in
    let more : listed read_matcher left t ≡ m.matcher ∷ listed read_matcher (left - 1) u = listed_more read_matcher left t h m.reads in
    record {
      passes = inv.passes ∙ passed-more read_matcher left t h m.reads;
      names = inv.names ∙ any-more is_name_matcher seen.named one.named more (ap (λ (f : Facts). f.0) m.same);
      accept = inv.accept ∙ ap (λ (l : List Matcher). seen.empty && all matches_empty l) more
          ∙ sym (and_assoc seen.empty (matches_empty m.matcher) _)
          ∙ ap (λ (f : Facts). (seen.empty && f.1) && all matches_empty (listed read_matcher (left - 1) u)) (sym m.same);
      flags = inv.flags ∙ any-more has_wrong_flag seen.wrong_flag one.wrong_flag more (ap (λ (f : Facts). f.2) m.same);
    }

pub facts-all : (n : ℕ) (s : List ℕ) (left : ℕ) (t : List ℕ) (seen : MatcherFacts) → FactsSoFar n s left t seen → left ≤ 0
    → ListFacts (listed read_matcher n s) seen
facts-all n s left t seen inv h =
    let none_left = listed-none read_matcher left t h in
    record {
      names = sym (inv.names ∙ rw none_left (or-false seen.named));
      accept = sym (inv.accept ∙ rw none_left (and-true seen.empty));
      flags = sym (inv.flags ∙ rw none_left (or-false seen.wrong_flag));
    }
