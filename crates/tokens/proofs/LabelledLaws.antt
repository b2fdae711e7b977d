-- Tokens with labels in brackets: the texts of matching, cardinality and grouping by their forms, as the code has them.
-- Assumes nothing.
use Prim.Native.Nat.{ℕ}
use Prim.Native.String.{String}
use native.Mathlib.Omega.{arith}
use Rattle.std.specs.Prelude.{Some, None}
use Rattle.std.specs.Prelude.{Option as Given}
use mathlib.Core.Bool.{Bool, true, false}
use mathlib.Core.List.{List, [], ◌∷◌, ◌++◌, append_assoc}
use mathlib.Core.Option.{some}
use mathlib.Core.Path.{◌≡◌, refl, sym, ap, ◌∙◌}
use lib.ListN.{length, drop}
use Rattle.base.specs.Splice.{join}
use Rattle.base.proofs.SpliceLaws.{Cut}
use Rattle.page.specs.Bytes.{pick, bytes, is_empty}
use Rattle.page.specs.Read.{Reader}
use Rattle.page.specs.Text.{read_any_text}
use Rattle.page.specs.Listed.{listed, AllRead}
use Rattle.page.specs.declared.list.List as page-list
use Rattle.page.proofs.ListLaws.{listed-none}
use Rattle.records.specs.Field.{Labels}
use Rattle.records.specs.Modifier.{include, exclude}
use Rattle.records.specs.Answers.{labels_on, label_modifier_on, LabelModifierStored, cardinality_on}
use Rattle.records.specs.declared.modifier.LabelModifier.{LabelModifier}
use Rattle.records.specs.declared.modifier.LabelModifier.TheVariants.{Include, Exclude}
use Rattle.records.specs.declared.modifier.Cardinality.{Cardinality}
use Rattle.records.specs.declared.modifier.Cardinality.TheVariants.{OneToOne, ManyToOne, OneToMany, ManyToMany}
use Rattle.label.specs.Label.{display_labels}
use Rattle.text.specs.Display.{labelled, display_matching, display_cardinality, display_grouping}
use Rattle.tokens.specs.Labelled.{labelled_bytes}

pub never : false ≡ true → ⊥
never e = let z : ◌≡◌ {A = ℕ} 0 1 = ap (λ (b : Bool). pick b 1 0) e in omega arith

-- ## labelled

pub four : (a b c d : List ℕ) → ((a ++ b) ++ c) ++ d ≡ a ++ (b ++ (c ++ d))
four a b c d = append_assoc (a ++ b) c d ∙ append_assoc a b (c ++ d)

pub labelled-bytes : (w : String) (ls : Labels) → labelled w ls ≡ labelled_bytes (bytes w) ls
unfolding labelled_bytes join
labelled-bytes w ls = four (bytes w) (bytes " (") (display_labels ls) (bytes ")")

-- ## is_empty of a list that can be read: its count says it

module _ {A : Type 0} (r : Reader A) (n : ℕ) (s : List ℕ) where
  pub none-listed : n ≡ 0 → is_empty (listed r n s) ≡ true
  none-listed none = rw (listed-none r n s (omega arith))

  pub some-listed : AllRead r n s → (n ≡ 0 → ⊥) → is_empty (listed r n s) ≡ false
  some-listed all some' = by (listed r n s) all
    where
      by : (l : List A) → length l ≡ n → is_empty l ≡ false
      by [] e = absurd (some' (sym e))
      by (a ∷ l) e = refl

-- ## Matching and grouping

ignored : (ls : Labels) → is_empty ls ≡ false → display_matching (some (exclude ls)) ≡ labelled " ignoring" ls
ignored [] e = absurd (never (sym e))
ignored (l ∷ ls) e = refl

vanished : (ls : Labels) → is_empty ls ≡ true → display_matching (some (exclude ls)) ≡ []
vanished [] e = refl
vanished (l ∷ ls) e = absurd (never e)

grouped : (ls : Labels) → is_empty ls ≡ false → display_grouping (some (include ls)) ≡ labelled " by" ls ++ (bytes " ")
grouped [] e = absurd (never (sym e))
grouped (l ∷ ls) e = refl

ungrouped : (ls : Labels) → is_empty ls ≡ true → display_grouping (some (include ls)) ≡ []
ungrouped [] e = refl
ungrouped (l ∷ ls) e = absurd (never e)

module _ (page : List ℕ) (m : Given LabelModifier) where
  pub matching-none : m ≡ None → display_matching (label_modifier_on page m) ≡ []
  matching-none e = rw e

  pub matching-on : (list : page-list.List) {own : LabelModifier} → m ≡ Some own → own ≡ Include list
      → display_matching (label_modifier_on page m)
      ≡ labelled_bytes (bytes " on") (labels_on page list.start list.count)
  matching-on list e own-is = rw (e, own-is) (labelled-bytes " on" (labels_on page list.start list.count))

  module _ (list : page-list.List) {own : LabelModifier} (e : m ≡ Some own) (own-is : own ≡ Exclude list) where
    pub matching-vanishes : list.count ≡ 0 → display_matching (label_modifier_on page m) ≡ []
    matching-vanishes none = rw (e, own-is) (vanished (labels_on page list.start list.count) (none-listed read_any_text list.count (drop list.start page) none))

    pub matching-ignoring : LabelModifierStored page m → (list.count ≡ 0 → ⊥)
        → display_matching (label_modifier_on page m)
        ≡ labelled_bytes (bytes " ignoring") (labels_on page list.start list.count)
    matching-ignoring all some' = rw (e, own-is)
        (ignored (labels_on page list.start list.count)
        (some-listed read_any_text list.count (drop list.start page) (rw (e, own-is) at all) some')
        ∙ labelled-bytes " ignoring" (labels_on page list.start list.count))

  pub grouping-none : m ≡ None → display_grouping (label_modifier_on page m) ≡ []
  grouping-none e = rw e

  pub grouping-without : (list : page-list.List) {own : LabelModifier} → m ≡ Some own → own ≡ Exclude list
      → Cut (display_grouping (label_modifier_on page m)) (labelled_bytes (bytes " without") (labels_on page list.start list.count)) (bytes " ")
  grouping-without list e own-is = record { is = rw (e, own-is) (ap (λ (l : List ℕ). l ++ (bytes " ")) (labelled-bytes " without" (labels_on page list.start list.count))) }

  module _ (list : page-list.List) {own : LabelModifier} (e : m ≡ Some own) (own-is : own ≡ Include list) where
    pub grouping-vanishes : list.count ≡ 0 → display_grouping (label_modifier_on page m) ≡ []
    grouping-vanishes none = rw (e, own-is) (ungrouped (labels_on page list.start list.count) (none-listed read_any_text list.count (drop list.start page) none))

    pub grouping-by : LabelModifierStored page m → (list.count ≡ 0 → ⊥)
        → Cut (display_grouping (label_modifier_on page m))
        (labelled_bytes (bytes " by") (labels_on page list.start list.count)) (bytes " ")
    grouping-by all some' =
        record {
          is = rw (e, own-is)
              (grouped (labels_on page list.start list.count)
              (some-listed read_any_text list.count (drop list.start page) (rw (e, own-is) at all) some')
              ∙ ap (λ (l : List ℕ). l ++ (bytes " ")) (labelled-bytes " by" (labels_on page list.start list.count)));
        }

-- ## Cardinality

module _ (page : List ℕ) (c : Cardinality) where
  pub cardinality-one : c ≡ OneToOne → display_cardinality (cardinality_on page c) ≡ []
  cardinality-one e = rw e

  pub cardinality-many : c ≡ ManyToMany → display_cardinality (cardinality_on page c) ≡ []
  cardinality-many e = rw e

  pub cardinality-left : (list : page-list.List) → c ≡ ManyToOne list
      → display_cardinality (cardinality_on page c) ≡ labelled_bytes (bytes " group_left") (labels_on page list.start list.count)
  cardinality-left list e = rw e (labelled-bytes " group_left" (labels_on page list.start list.count))

  pub cardinality-right : (list : page-list.List) → c ≡ OneToMany list
      → display_cardinality (cardinality_on page c) ≡ labelled_bytes (bytes " group_right") (labels_on page list.start list.count)
  cardinality-right list e = rw e (labelled-bytes " group_right" (labels_on page list.start list.count))
