-- Modifiers, operators, aggregators and selectors in the pieces that are written. Assumes nothing.
use Prim.Native.Nat.{ℕ}
use Rattle.std.specs.Prelude.{Some, None}
use Rattle.std.specs.Prelude.{Option as Given}
use mathlib.Core.Bool.{true, false}
use mathlib.Core.List.{List, [], ◌∷◌, ◌++◌, append-nil}
use mathlib.Core.Option.{Option}
use mathlib.Core.Path.{◌≡◌, refl, sym, ap, ◌∙◌, subst}
use Rattle.base.specs.Splice.{join}
use Rattle.base.proofs.SpliceLaws.{Cut}
use Rattle.page.specs.Bytes.{is_empty}
use Rattle.page.specs.Listed.{listed, AllRead}
use Rattle.records.specs.Code.{token}
use Rattle.records.specs.Matcher.{Matcher, read_matcher, Selector}
use Rattle.records.specs.Modifier.{LabelModifier, BinModifier}
use Rattle.records.specs.Answers.{bin_modifier_on, modifier_on}
use Rattle.records.specs.declared.modifier.BinModifier.{BinModifier as CodeModifier}
use Rattle.float.specs.Exact.{FillsExact, ModifierExact}
use Rattle.label.specs.Label.{display_matchers}
use Rattle.text.specs.Display.{display_bool, display_matching, display_cardinality, display_fills, display_modifier}
use Rattle.text.specs.Display.{display_operator, display_grouping, display_aggregator, display_braces, display_selector}
use Rattle.tokens.proofs.LabelledLaws.{four, never, none-listed, some-listed}

-- ## display_modifier

pub modifier-pieces : (m : BinModifier)
    → display_modifier m
    ≡ join
    (display_bool m.return_bool ∷ display_matching m.matching ∷ display_cardinality m.card
    ∷ display_fills m.fill_values.lhs m.fill_values.rhs ∷ [])
unfolding join
modifier-pieces m =
    four (display_bool m.return_bool) (display_matching m.matching) (display_cardinality m.card) (display_fills m.fill_values.lhs m.fill_values.rhs)
    ∙ ap (λ (l : List ℕ). display_bool m.return_bool
    ++ (display_matching m.matching ++ (display_cardinality m.card ++ l)))
    (sym (append-nil (display_fills m.fill_values.lhs m.fill_values.rhs)))

-- ## display_operator

module _ (page : List ℕ) (c : ℕ) (m : Given CodeModifier) where
  pub operator-plain : m ≡ None → display_operator c (modifier_on page m) ≡ token c
  operator-plain e = rw e (append-nil (token c))

  pub operator-modified : (own : CodeModifier) → m ≡ Some own → Cut (display_operator c (modifier_on page m)) (token c) (display_modifier (bin_modifier_on page own))
  operator-modified own e = record { is = rw e }

-- the fills of a modifier that is there
pub operator-exact : (page : List ℕ) (m : Given CodeModifier) (own : CodeModifier) → m ≡ Some own
    → ModifierExact (modifier_on page m) → FillsExact (bin_modifier_on page own)
operator-exact page m own e h = subst (λ (x : Given CodeModifier). ModifierExact (modifier_on page x)) e h

-- ## display_braces, display_selector: n matchers from s on

module _ (n : ℕ) (s : List ℕ) where
  pub braces-none : n ≡ 0 → display_braces (listed read_matcher n s) ≡ []
  braces-none none = by (listed read_matcher n s) (none-listed read_matcher n s none)
    where
      by : (ms : List Matcher) → is_empty ms ≡ true → display_braces ms ≡ []
      by [] e = refl
      by (m ∷ ms) e = absurd (never e)

  module _ (all : AllRead read_matcher n s) (some' : n ≡ 0 → ⊥) where
    pub braces-some : display_braces (listed read_matcher n s) ≡ join ((123 ∷ []) ∷ display_matchers (listed read_matcher n s) ∷ (125 ∷ []) ∷ [])
    unfolding join
    braces-some = by (listed read_matcher n s) (some-listed read_matcher n s all some')
      where
        by : (ms : List Matcher) → is_empty ms ≡ false → display_braces ms ≡ 123 ∷ (display_matchers ms ++ (125 ∷ []))
        by [] e = absurd (never (sym e))
        by (m ∷ ms) e = refl

pub selector-cut : (s : Selector) → Cut (display_selector s) s.name (display_braces s.matchers)
selector-cut s = record { is = refl }

-- ## display_aggregator

pub aggregator-cut : (c : ℕ) (m : Option LabelModifier) → Cut (display_aggregator c m) (token c) (display_grouping m)
aggregator-cut c m = record { is = refl }
