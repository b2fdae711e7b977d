-- What a node writes of its own is well-formed where its labels, matchers and names are those of a page: tokens and
-- words are ASCII. Assumes nothing.
use Prim.Native.Nat.{ℕ, zero, suc, ◌-◌}
use Prim.Native.String.{String}
use mathlib.Core.Path.{◌≡◌, refl, subst}
use mathlib.Core.Bool.{Bool, true, false}
use mathlib.Core.List.{List, [], ◌∷◌, ◌++◌}
use mathlib.Core.Option.{Option, none, some}
use lib.ListN.{get_or}
use lib.Dec.{T}
use Rattle.page.specs.Bytes.{bytes, all}
use Rattle.page.specs.Text.{is_text}
use Rattle.page.specs.Allowed.{Each}
use Rattle.page.proofs.NumberLaws.{left-of, right_of}
use Rattle.page.proofs.WellFormedLaws.{WellFormed, text-append, text-empty, text-word, text-pick}
use Rattle.page.proofs.WellFormedLaws.{selector_name-text}
use Rattle.records.specs.Code.{tokens, token}
use Rattle.records.specs.Field.{Labels}
use Rattle.records.specs.Literal.{Literal, equal_by_value}
use Rattle.records.specs.Matcher.{Matcher, Selector}
use Rattle.records.specs.Modifier.{LabelModifier, include, exclude, Cardinality, one_to_one, many_to_many, many_to_one, one_to_many}
use Rattle.records.specs.Modifier.{BinModifier}
use Rattle.records.specs.Time.{Times}
use Rattle.records.specs.Allowed.{IsOptionOf, AreLabels, IsMatcher, IsSelector, IsLabelModifier, IsCardinality}
use Rattle.records.specs.Allowed.{IsBinModifier}
use Rattle.leaves.specs.Duration.{display_duration}
use Rattle.leaves.specs.Time.{display_at, display_offset}
use Rattle.leaves.proofs.WellFormedLaws.{fill-text, duration-text, at-text, offset-text}
use Rattle.label.proofs.WellFormedLaws.{labels-text, matchers-text}
use Rattle.text.specs.Display.{optional, labelled, display_bool, display_matching, display_cardinality, filled, display_fills}
use Rattle.text.specs.Display.{display_modifier, display_operator, display_grouping, display_aggregator, display_times}
use Rattle.text.specs.Display.{display_suffix, display_braces, display_selector}

-- ## Modifiers

optional-text : {A : Type 0} (text : A → List ℕ) (o : Option A) → ((a : A) → o ≡ some a → WellFormed (text a))
    → WellFormed (optional text o)
optional-text text none f = text-empty
optional-text text (some a) f = f a refl

labelled-text : (w : String) (ls : Labels) → WellFormed (bytes w) → AreLabels ls → WellFormed (labelled w ls)
labelled-text w ls h a =
    text-append (text-append (text-append h (text-word " (" tt)) (labels-text ls a)) (text-word ")" tt)

bool-text : (b : Bool) → WellFormed (display_bool b)
bool-text true = text-word " bool" tt
bool-text false = text-empty

matching-text : (m : Option LabelModifier) → IsOptionOf IsLabelModifier m → WellFormed (display_matching m)
matching-text none a = text-empty
matching-text (some (include ls)) a = labelled-text " on" ls (text-word " on" tt) a
matching-text (some (exclude [])) a = text-empty
matching-text (some (exclude (l ∷ ls))) a = labelled-text " ignoring" (l ∷ ls) (text-word " ignoring" tt) a

cardinality-text : (c : Cardinality) → IsCardinality c → WellFormed (display_cardinality c)
cardinality-text one_to_one a = text-empty
cardinality-text many_to_many a = text-empty
cardinality-text (many_to_one ls) a = labelled-text " group_left" ls (text-word " group_left" tt) a
cardinality-text (one_to_many ls) a = labelled-text " group_right" ls (text-word " group_right" tt) a

filled-text : (w : String) (l : Literal) → WellFormed (bytes w) → WellFormed (filled w l)
filled-text w l h = text-append (text-append (text-append h (text-word " (" tt)) (fill-text l)) (text-word ")" tt)

fills-text : (l r : Option Literal) → WellFormed (display_fills l r)
fills-text none none = text-empty
fills-text (some l) none = filled-text " fill_left" l (text-word " fill_left" tt)
fills-text none (some r) = filled-text " fill_right" r (text-word " fill_right" tt)
fills-text (some l) (some r) =
    text-pick (equal_by_value r l) (filled-text " fill" r (text-word " fill" tt))
    (text-append (filled-text " fill_left" l (text-word " fill_left" tt))
    (filled-text " fill_right" r (text-word " fill_right" tt)))

modifier-text : (m : BinModifier) → IsBinModifier m → WellFormed (display_modifier m)
modifier-text m a =
    text-append (text-append (text-append (bool-text m.return_bool) (matching-text m.matching a.0))
    (cardinality-text m.card a.1)) (fills-text m.fill_values.lhs m.fill_values.rhs)

word_at : (ws : List String) (k : ℕ) → T (all (λ w. is_text (bytes w)) ws) → WellFormed (bytes (get_or ws k ""))
word_at [] k h = text-empty
word_at (w ∷ ws) zero h = text-word w (left-of (is_text (bytes w)) (all (λ x. is_text (bytes x)) ws) h)
word_at (w ∷ ws) (suc k) h = word_at ws k (right_of (is_text (bytes w)) (all (λ x. is_text (bytes x)) ws) h)

token-text : (c : ℕ) → WellFormed (token c)
token-text c = word_at tokens (c - 1) tt

pub operator-text : (c : ℕ) (m : Option BinModifier) → IsOptionOf IsBinModifier m → WellFormed (display_operator c m)
operator-text c m a =
    text-append (token-text c)
    (optional-text display_modifier m (λ b e. modifier-text b (subst (IsOptionOf IsBinModifier) e a)))

grouping-text : (m : Option LabelModifier) → IsOptionOf IsLabelModifier m → WellFormed (display_grouping m)
grouping-text none a = text-empty
grouping-text (some (exclude ls)) a =
    text-append (labelled-text " without" ls (text-word " without" tt) a) (text-word " " tt)
grouping-text (some (include [])) a = text-empty
grouping-text (some (include (l ∷ ls))) a =
    text-append (labelled-text " by" (l ∷ ls) (text-word " by" tt) a) (text-word " " tt)

pub aggregator-text : (c : ℕ) (m : Option LabelModifier) → IsOptionOf IsLabelModifier m
    → WellFormed (display_aggregator c m)
aggregator-text c m a = text-append (token-text c) (grouping-text m a)

pub times-text : (t : Times) → WellFormed (display_times t)
times-text t =
    text-append
    (optional-text (λ a. bytes " " ++ display_at a) t.at (λ a e. text-append (text-word " " tt) (at-text a)))
    (optional-text (λ o. bytes " offset " ++ display_offset o) t.offset
    (λ o e. text-append (text-word " offset " tt) (offset-text o)))

pub suffix-text : (r : ℕ) (s : Option ℕ) (t : Times) → WellFormed (display_suffix r s t)
suffix-text r s t =
    text-append (text-append (text-append (text-append (text-append (text-word "[" tt) (duration-text r))
    (text-word ":" tt)) (optional-text display_duration s (λ n e. duration-text n))) (text-word "]" tt)) (times-text t)

braces-text : (ms : List Matcher) → Each IsMatcher ms → WellFormed (display_braces ms)
braces-text [] a = text-empty
braces-text (m ∷ ms) a = text-append (text-append (text-word "{" tt) (matchers-text (m ∷ ms) a)) (text-word "}" tt)

pub selector-text : (s : Selector) → IsSelector s → WellFormed (display_selector s)
selector-text s a = text-append (selector_name-text s.name a.0.1) (braces-text s.matchers a.1.1)
