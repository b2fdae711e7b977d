-- `read_joint` on a binary record as it is written: it finds the record's own group labels, each with its place
-- (`read_joint-written`), and the first of them that is also in the on list (`first-shared`). By reading back what was
-- written, field by field. Assumes nothing.
use Prim.Native.Nat.{ℕ}
use mathlib.Core.Path.{◌≡◌, refl, ap, ◌∙◌}
use mathlib.Core.Bool.{Bool, true, false, ◌||◌, not}
use mathlib.Core.List.{List, [], ◌∷◌, ◌++◌, append_assoc}
use mathlib.Core.Option.{some}
use lib.ListN.{length}
use lib.Dec.{T}
use Rattle.page.specs.Bytes.{pick, all, any}
use Rattle.page.specs.Read.{Read, got, Reader, and_then, repeat}
use Rattle.page.specs.Number.{read_choice, write_number}
use Rattle.page.specs.Text.{Text, read_list, write_text, write_all}
use Rattle.page.specs.Allowed.{Each}
use Rattle.page.proofs.ReadBackLaws.{ReadsAs, read_count-back}
use Rattle.records.specs.Field.{Labels, write_flag, write_labels}
use Rattle.records.specs.Modifier.{Cardinality, one_to_one, many_to_many, many_to_one, one_to_many, BinModifier, write_label_modifier, write_cardinality}
use Rattle.records.specs.Record.{binary}
use Rattle.records.specs.Allowed.{IsAnyText, AreLabels, IsCardinality, IsAllowed}
use Rattle.records.proofs.ReadBackLaws.{read_code-back, read_flag-back, read_any_text-back, read_label_modifier-back}
use Rattle.ast.specs.CheckAst.{has_label, on_labels, group_labels}
use Rattle.ast.specs.Part.{Placed, read_placed, first_in, placed_forms, read_joint}

-- labels, each with how many bytes are left after it, before these last bytes
abbrev pub placed : Labels → List ℕ → List Placed
placed [] rest = []
placed (t ∷ ts) rest = record { label = t; left = length (write_all write_text ts ++ rest) } ∷ placed ts rest

-- ## Reading on, after what was written

module _ {A B : Type 0} (f : A → Reader B) where
  onward : {r : Reader A} {u : List ℕ} {a : A} → ReadsAs r u a → (rest : List ℕ) → and_then (r (u ++ rest)) f ≡ f a rest
  onward h rest = ap (λ (m : Read A). and_then m f) (h.reads rest)

-- a label before others that are read
first-placed : (t : Text) (ts : Labels) (rest : List ℕ) → IsAnyText t
    → repeat (length ts) read_placed (write_all write_text ts ++ rest) ≡ got (placed ts rest) rest
    → repeat (length (t ∷ ts)) read_placed (write_text t ++ (write_all write_text ts ++ rest)) ≡ got (placed (t ∷ ts) rest) rest
first-placed t ts rest h more =
    ap (λ (m : Read Placed). and_then m (λ p s. and_then (repeat (length ts) read_placed s) (λ ps u. got (p ∷ ps) u)))
    (onward (λ x s. got (record { label = x; left = length s }) s) (read_any_text-back t h) (write_all write_text ts ++ rest))
    ∙ ap (λ (m : Read (List Placed)). and_then m (λ ps u. got (record { label = t; left = length (write_all write_text ts ++ rest) } ∷ ps) u)) more

repeat-placed : (ts : Labels) (rest : List ℕ) → Each IsAnyText ts → repeat (length ts) read_placed (write_all write_text ts ++ rest) ≡ got (placed ts rest) rest
repeat-placed [] rest h = refl
repeat-placed (t ∷ ts) rest h =
    ap (repeat (length (t ∷ ts)) read_placed) (append_assoc (write_text t) (write_all write_text ts) rest)
    ∙ first-placed t ts rest h.0 (repeat-placed ts rest h.1)

list-placed : (ts : Labels) (rest : List ℕ) → AreLabels ts → read_list read_placed (write_labels ts ++ rest) ≡ got (placed ts rest) rest
list-placed ts rest h =
    ap (read_list read_placed) (append_assoc (write_number (length ts)) (write_all write_text ts) rest)
    ∙ onward (λ n. repeat n read_placed) (read_count-back (length ts) h.0) (write_all write_text ts ++ rest)
    ∙ repeat-placed ts rest h.1

cardinality-placed : (c : Cardinality) (rest : List ℕ) → IsCardinality c
    → read_choice placed_forms (write_cardinality c ++ rest) ≡ got (placed (group_labels c) rest) rest
cardinality-placed one_to_one rest h = refl
cardinality-placed many_to_many rest h = refl
cardinality-placed (many_to_one ls) rest h = list-placed ls rest h
cardinality-placed (one_to_many ls) rest h = list-placed ls rest h

-- ## read_joint

-- the bytes of a binary record with a modifier, up to its fills, and what follows
abbrev pub to_fills : ℕ → BinModifier → List ℕ → List ℕ
to_fills c m rest = 9 ∷ (write_number c ++ (1 ∷ (write_flag m.return_bool ++ (write_label_modifier m.matching ++ (write_cardinality m.card ++ rest)))))

pub read_joint-written : (c : ℕ) (m : BinModifier) (rest : List ℕ) → IsAllowed (binary c (some m))
    → read_joint (to_fills c m rest) ≡ got (first_in (on_labels m.matching) (placed (group_labels m.card) rest)) rest
read_joint-written c m rest h =
    onward _ (read_code-back c h.0) (1 ∷ behind-mark)
    ∙ onward _ (read_flag-back m.return_bool tt) behind-bool
    ∙ onward _ (read_label_modifier-back m.matching h.1.0) behind-matching
    ∙ ap (λ (x : Read (List Placed)). and_then x (λ ps. got (first_in (on_labels m.matching) ps))) (cardinality-placed m.card rest h.1.1)
  where
    behind-matching : List ℕ
    behind-matching = write_cardinality m.card ++ rest

    behind-bool : List ℕ
    behind-bool = write_label_modifier m.matching ++ behind-matching

    behind-mark : List ℕ
    behind-mark = write_flag m.return_bool ++ behind-bool

-- ## The first label that is also in the on list

pub record Shared (on ls : Labels) (rest : List ℕ) : Type 0 where
  pub earlier : Labels
  pub label : List ℕ
  pub more : Labels
  pub is_group : ls ≡ earlier ++ (label ∷ more)
  pub is_shared : T (has_label on label)
  pub is_first : T (all (λ t. not (has_label on t)) earlier)
  pub is_found : first_in on (placed ls rest) ≡ record { label = label; left = length (write_all write_text more ++ rest) } ∷ []

module _ (on : Labels) (rest : List ℕ) where
  pub first-shared : (ls : Labels) → T (any (has_label on) ls) → Shared on ls rest
  first-shared [] h = absurd h
  first-shared (t ∷ ts) h = by (has_label on t) refl (first-shared ts) h
    where
      found : List Placed → Bool → List Placed
      found ps b = pick b (record { label = t; left = length (write_all write_text ts ++ rest) } ∷ []) ps

      by : (b : Bool) → has_label on t ≡ b → (T (any (has_label on) ts) → Shared on ts rest) → T (b || any (has_label on) ts) → Shared on (t ∷ ts) rest
      by true e others h =
          record {
            earlier = [];
            label = t;
            more = ts;
            is_group = refl;
            is_shared = rw e tt;
            is_first = tt;
            is_found = ap (found (first_in on (placed ts rest))) e;
          }
      by false e others h =
          let later = others h in
          record {
            earlier = t ∷ later.earlier;
            label = later.label;
            more = later.more;
            is_group = ap (λ (x : Labels). t ∷ x) later.is_group;
            is_shared = later.is_shared;
            is_first = rw e later.is_first;
            is_found = ap (found (first_in on (placed ts rest))) e ∙ later.is_found;
          }
