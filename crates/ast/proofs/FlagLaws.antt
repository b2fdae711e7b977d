-- The flags of an accepted page are true of covered patterns (`flags-true`), and a page refused with 41 has a wrong one
-- at the record named (`flag-refused`): what the check computes of a flag is what the language says. Assumes nothing.
use Prim.Native.Nat.{ℕ}
use mathlib.Core.Path.{◌≡◌, refl, sym, ap, subst, ◌∙◌}
use mathlib.Core.Bool.{Bool, true, false, ◌||◌}
use mathlib.Core.Logic.{◌↔◌}
use mathlib.Core.List.{List, [], ◌∷◌, ◌++◌}
use mathlib.Core.Option.{Option, none, some}
use native.Mathlib.Omega.{arith}
use lib.ListN.{length, drop}
use lib.Dec.{T}
use Rattle.page.specs.Allowed.{Each}
use Rattle.page.specs.Bytes.{hex, any}
use Rattle.patterns.specs.Pattern.{Covered, is_single}
use Rattle.patterns.specs.Search.{read_choice, matches_empty_text}
use Rattle.patterns.proofs.DecisionLaws.{matches_empty_text-covered, matches_empty_text-language}
use Rattle.records.specs.Kind.{Kind}
use Rattle.records.specs.Matcher.{MatchOp, equal, not_equal, re, not_re, Matcher, Selector, differs, is_wrong_flag, wrong_flag_of, has_wrong_flag}
use Rattle.records.specs.Outcome.{answer, refusal}
use Rattle.records.specs.Record.{number, string, selector, Record, leaf, wrapper, binary, aggregate, call}
use Rattle.records.specs.Record.{read_record, read_page}
use Rattle.ast.specs.Refusal.{or_else, when, ok, unless, and_then}
use Rattle.ast.specs.Expr.{Expr, VectorSelector}
use Rattle.ast.specs.Construct.{no_times}
use Rattle.ast.specs.CheckAst.{check_ast}
use Rattle.ast.specs.Walk.{Walked, stack, stopped, finished, walk}
use Rattle.ast.specs.CheckPage.{apply, check_page, outcome_of, check}
use Rattle.ast.specs.Flags.{flag_of, SaysEmptyText, FlagTrue, FlagsTrue, WrongFlagAt}
use Rattle.ast.proofs.RefusalLaws.{is_of_record}
use Rattle.ast.proofs.WalkLaws.{walk-passes}
use Rattle.ast.proofs.CheckLaws.{check-refuses}

-- ## A flag

-- a flag that is not wrong says what the language says
right-flag : (flag : Bool) (p : List ℕ) → is_wrong_flag flag p ≡ false → Covered p → SaysEmptyText flag p
right-flag flag p e covered =
    let answered = (matches_empty_text-covered p).0 covered in
    let same : flag ≡ answered.0 = equal_flags flag answered.0 (ap (λ (x : Option Bool). differs x flag) (sym answered.1) ∙ e) in
    subst (λ (b : Bool). SaysEmptyText b p) (sym same) (matches_empty_text-language p answered.0 answered.1)
  where
    equal_flags : (b a : Bool) → differs (some a) b ≡ false → b ≡ a
    equal_flags true true h = refl
    equal_flags true false h = cc
    equal_flags false true h = cc
    equal_flags false false h = refl

-- a wrong flag stands beside a covered pattern, and does not say what the language says
wrong-flag : (flag : Bool) (p : List ℕ) → T (is_wrong_flag flag p) → Covered p × (SaysEmptyText flag p → ⊥)
wrong-flag flag p = by (matches_empty_text p) refl
  where
    both_ways : (b a : Bool) → T (differs (some a) b) → T b ↔ T a → ⊥
    both_ways true true h e = h
    both_ways true false h e = e.0 tt
    both_ways false true h e = e.1 tt
    both_ways false false h e = h

    by : (x : Option Bool) → matches_empty_text p ≡ x → T (differs x flag) → Covered p × (SaysEmptyText flag p → ⊥)
    by none e h = absurd h
    by (some a) e h =
        let language = matches_empty_text-language p a e in (
          (matches_empty_text-covered p).1 (a, e),
          λ says. both_ways flag a h (λ b. language.1 (says.0 b), λ b. says.1 (language.0 b)),
        )

-- ## A matcher

some-flag : (a b : Bool) → some a ≡ some b → a ≡ b
some-flag a b e = cc

right-matcher : (m : Matcher) → has_wrong_flag m ≡ false → FlagTrue m
right-matcher m = by m.op
  where
    of-flag : (b : Bool) → is_wrong_flag b m.value ≡ false → (flag : Bool) → some b ≡ some flag → Covered m.value → SaysEmptyText flag m.value
    of-flag b h flag e covered = right-flag flag m.value (subst (λ (x : Bool). is_wrong_flag x m.value ≡ false) (some-flag b flag e) h) covered

    never : (flag : Bool) → none ≡ some flag → ⊥
    never flag e = let z : ◌≡◌ {A = ℕ} 0 1 = cc in omega arith

    by : (o : MatchOp) → wrong_flag_of o m.value ≡ false → (flag : Bool) → flag_of o ≡ some flag → Covered m.value → SaysEmptyText flag m.value
    by equal h flag e covered = absurd (never flag e)
    by not_equal h flag e covered = absurd (never flag e)
    by (re b) h flag e covered = of-flag b h flag e covered
    by (not_re b) h flag e covered = of-flag b h flag e covered

right-matchers : (ms : List Matcher) → any has_wrong_flag ms ≡ false → Each FlagTrue ms
right-matchers [] e = tt
right-matchers (m ∷ ms) e = by (λ h. right-matchers ms h) (has_wrong_flag m) refl e
  where
    by : (any has_wrong_flag ms ≡ false → Each FlagTrue ms) → (b : Bool) → has_wrong_flag m ≡ b
        → b || any has_wrong_flag ms ≡ false → FlagTrue m × Each FlagTrue ms
    by others true is h = absurd (let z : ◌≡◌ {A = ℕ} 0 1 = cc in omega arith)
    by others false is h = (right-matcher m is, others h)

-- some matcher of a list has a wrong flag
record WrongFlagIn (ms : List Matcher) : Type 0 where
  earlier : List Matcher
  matcher : Matcher
  more : List Matcher
  flag : Bool
  is_matcher : ms ≡ earlier ++ (matcher ∷ more)
  is_flag : flag_of matcher.op ≡ some flag
  is_wrong : T (is_wrong_flag flag matcher.value)

wrong-matchers : (ms : List Matcher) → T (any has_wrong_flag ms) → WrongFlagIn ms
wrong-matchers [] h = absurd h
wrong-matchers (m ∷ ms) h = by (λ g. later (wrong-matchers ms g)) (has_wrong_flag m) refl h
  where
    first : (o : MatchOp) → m.op ≡ o → T (wrong_flag_of o m.value) → WrongFlagIn (m ∷ ms)
    first equal is w = absurd w
    first not_equal is w = absurd w
    first (re b) is w = record { earlier = []; matcher = m; more = ms; flag = b; is_matcher = refl; is_flag = ap flag_of is; is_wrong = w }
    first (not_re b) is w = record { earlier = []; matcher = m; more = ms; flag = b; is_matcher = refl; is_flag = ap flag_of is; is_wrong = w }

    later : WrongFlagIn ms → WrongFlagIn (m ∷ ms)
    later w =
        record {
          earlier = m ∷ w.earlier;
          matcher = w.matcher;
          more = w.more;
          flag = w.flag;
          is_matcher = ap {B = List Matcher} (λ x. m ∷ x) w.is_matcher;
          is_flag = w.is_flag;
          is_wrong = w.is_wrong;
        }

    by : (T (any has_wrong_flag ms) → WrongFlagIn (m ∷ ms)) → (b : Bool) → has_wrong_flag m ≡ b → T (b || any has_wrong_flag ms)
        → WrongFlagIn (m ∷ ms)
    by others true is g = first m.op refl (subst (λ (x : Bool). T x) (sym is) tt)
    by others false is g = others g

-- ## A selector that passes

passed-flags : (s : Selector) (below made : List Expr) → apply (leaf (selector s)) below ≡ ok made → any has_wrong_flag s.matchers ≡ false
unfolding apply check_ast
passed-flags s below made = by (any has_wrong_flag s.matchers) _
  where
    by : (wrong : Bool) (later : Option ℕ)
        → and_then (unless (or_else (when wrong 41) later) (VectorSelector s no_times)) (λ e. ok (e ∷ below)) ≡ ok made → wrong ≡ false
    by false later e = refl
    by true later e = cc

-- ## A page

accepted-walk : (page : List ℕ) (k : Kind) (n : ℕ) → check page ≡ answer k n
    → (s : List Expr) × (walk apply 0 [] (read_page page).records ≡ stack s)
unfolding check_page
accepted-walk page k n = by (walk apply 0 [] (read_page page).records) refl
  where
    by : (w : Walked Expr) → walk apply 0 [] (read_page page).records ≡ w
        → outcome_of (finished (read_page page).ending (length (read_page page).records) w) ≡ answer k n
        → (s : List Expr) × (walk apply 0 [] (read_page page).records ≡ stack s)
    by (stack s) e q = (s, e)
    by (stopped m j) e q = absurd (let z : ◌≡◌ {A = ℕ} 0 1 = cc in omega arith)

-- in an accepted page the flag of every covered pattern is 1 when, and only when, empty text is in its language
pub flags-true : (page : List ℕ) (k : Kind) (n : ℕ) → check page ≡ answer k n → FlagsTrue page
flags-true page k n e i s later is =
    let ended = accepted-walk page k n e in
    let passed = walk-passes apply (read_page page).records 0 [] ended.0 ended.1 i (leaf (selector s)) later is in
    right-matchers s.matchers (passed-flags s passed.0 passed.1 passed.2)

-- a page refused with 41: the record named is a selector with a covered pattern whose flag is wrong
pub flag-refused : (page : List ℕ) (i : ℕ) → check page ≡ refusal 41 i → WrongFlagAt page i
flag-refused page i e =
    let refuses = check-refuses page 41 i (omega arith) e in
    by refuses.0.refused_record refuses.0.later refuses.0.is_record refuses.1
  where
    of-selector : (s : Selector) (later : List Record) → drop i (read_page page).records ≡ leaf (selector s) ∷ later
        → WrongFlagIn s.matchers → WrongFlagAt page i
    of-selector s later is w =
        let wrong = wrong-flag w.flag w.matcher.value w.is_wrong in
        record {
          refused_selector = s;
          later = later;
          earlier = w.earlier;
          matcher = w.matcher;
          more = w.more;
          flag = w.flag;
          is_record = is;
          is_matcher = w.is_matcher;
          is_flag = w.is_flag;
          is_covered = wrong.0;
          is_wrong = wrong.1;
        }

    by : (r : Record) (later : List Record) → drop i (read_page page).records ≡ r ∷ later → T (is_of_record r 41) → WrongFlagAt page i
    by (leaf (number l)) later is h = absurd h
    by (leaf (string t)) later is h = absurd h
    by (leaf (selector s)) later is h = of-selector s later is (wrong-matchers s.matchers h)
    by (wrapper w) later is h = absurd h
    by (binary c m) later is h = absurd h
    by (aggregate c m k) later is h = absurd h
    by (call f k) later is h = absurd h

-- ## What the two statements rule out

each_at : (earlier : List Matcher) (m : Matcher) (more : List Matcher) → Each FlagTrue (earlier ++ (m ∷ more)) → FlagTrue m
each_at [] m more h = h.0
each_at (x ∷ earlier) m more h = each_at earlier m more h.1

-- no page has true flags alone and a wrong one
pub flags-apart : (page : List ℕ) (i : ℕ) → FlagsTrue page → WrongFlagAt page i → ⊥
flags-apart page i true' w =
    let each = subst (Each FlagTrue) w.is_matcher (true' i w.refused_selector w.later w.is_record) in
    w.is_wrong (each_at w.earlier w.matcher w.more each w.flag w.is_flag w.is_covered)

-- `up{a=~"x"}` with flag 1, and `up{a!~"x*"}` with flag 0
abbrev wrong_re : List ℕ
wrong_re = hex "0202757001020161017801"

abbrev wrong_not_re : List ℕ
wrong_not_re = hex "020275700103016102782a00"

pub flags-told : (FlagsTrue wrong_re → ⊥) × (FlagsTrue wrong_not_re → ⊥)
unfolding read_record read_page matches_empty_text read_choice is_single check_ast apply check_page
flags-told = (
  λ h. flags-apart wrong_re 0 h (flag-refused wrong_re 0 refl),
  λ h. flags-apart wrong_not_re 0 h (flag-refused wrong_not_re 0 refl),
)
