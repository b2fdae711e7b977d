-- What `choice` finds, and what it means for the whole pattern; one law for each way out. `p` is the pattern, `at` where
-- the choice begins. Assumes nothing.
use Prim.Native.Nat.{ℕ, ◌+◌, ◌≤◌, ◌<◌}
use mathlib.Core.Path.{◌≡◌, refl, sym, ap, ap₂, subst, ◌∙◌}
use mathlib.Core.Bool.{Bool, true, false, ◌||◌}
use mathlib.Core.List.{List, [], ◌∷◌, ◌++◌, append_assoc, append-nil}
use mathlib.Core.Option.{Option, none, some}
use native.Mathlib.Omega.{arith}
use lib.ListN.{length, drop, get_or, length-drop}
use lib.Dec.{T, eqb, eqb→eq}
use Rattle.patterns.specs.Pattern.{Choice, last, or}
use Rattle.patterns.specs.Pattern.{write_choice, write_sequence}
use Rattle.patterns.specs.Search.{matches_empty_text}
use Rattle.patterns.specs.Tree.{ends_sequence, ends_choice}
use Rattle.patterns.specs.Answers.{ChoiceFound, NoChoice, SequenceFound, NoSequence}
use Rattle.patterns.proofs.TreeLaws.{T_true, true-T, not-both, choice-ends-sequence}
use Rattle.patterns.proofs.DecisionLaws.{matches_empty_text-written, matches_empty_text-tree, unique-choice, unique-sequence}
use Rattle.patterns.proofs.ItemLaws.{front, past}

-- ## Choices

module _ (p : List ℕ) (at : ℕ) where
  pub choice-none : NoSequence (drop at p) → NoChoice (drop at p)
  choice-none f (last s) rest k w = f s rest (choice-ends-sequence rest k) w
  choice-none f (or s c) rest k w = f s (124 ∷ (write_choice c ++ rest)) tt (sym (append_assoc (write_sequence s) (124 ∷ write_choice c) rest) ∙ w)

  module _ (e : Bool) (next : ℕ) (s : SequenceFound p at e next) where
    ended : T (ends_choice (drop next p)) → ChoiceFound p at e next
    ended k = record { tree = last s.tree; written = s.written; ends = k; empty = s.empty; low = s.low; high = s.high }

    pub choice-end : length p ≤ next → ChoiceFound p at e next
    choice-end h = ended (subst (λ (x : List ℕ). T (ends_choice x)) (sym (past p next h)) tt)

    pub choice-closed : next < length p → get_or p next 0 ≡ 41 → ChoiceFound p at e next
    choice-closed h k = ended (subst (λ (x : List ℕ). T (ends_choice x)) (sym (front p next h)) (subst (λ (x : ℕ). T (eqb x 41)) (sym k) tt))

    module _ (h : next < length p) (k : get_or p next 0 ≡ 41 → ⊥) where
      -- a sequence that ends neither at the pattern's end nor at `)` ends at `|`
      bar : get_or p next 0 ≡ 124
      bar = by (eqb (get_or p next 0) 124) refl (subst (λ (x : List ℕ). T (ends_sequence x)) (front p next h) s.ends)
        where
          by : (t : Bool) → eqb (get_or p next 0) 124 ≡ t → T (t || eqb (get_or p next 0) 41) → get_or p next 0 ≡ 124
          by true q z = eqb→eq (get_or p next 0) 124 (true-T (eqb (get_or p next 0) 124) q)
          by false q z = absurd (k (eqb→eq (get_or p next 0) 41 z))

      split : write_sequence s.tree ++ (124 ∷ drop (next + 1) p) ≡ drop at p
      split = ap (λ (x : ℕ). write_sequence s.tree ++ (x ∷ drop (next + 1) p)) (sym bar)
          ∙ ap (λ (x : List ℕ). write_sequence s.tree ++ x) (sym (front p next h)) ∙ s.written

      pub choice-more : (d : Bool) (end : ℕ) → ChoiceFound p (next + 1) d end → ChoiceFound p at (e || d) end
      choice-more d end c =
          record {
            tree = or s.tree c.tree;
            written = append_assoc (write_sequence s.tree) (124 ∷ write_choice c.tree) (drop end p)
                ∙ ap (λ (x : List ℕ). write_sequence s.tree ++ (124 ∷ x)) c.written ∙ split;
            ends = c.ends;
            empty = ap₂ (λ (x y : Bool). x || y) s.empty c.empty;
            low = omega (arith, s.low, c.low);
            high = c.high;
          }

      pub choice-no-more : NoChoice (drop (next + 1) p) → NoChoice (drop at p)
      choice-no-more f (last q) rest z w =
          let same = unique-sequence q s.tree rest (124 ∷ drop (next + 1) p) (choice-ends-sequence rest z) tt (w ∙ sym split) in
          not-both (ends_choice rest) (T_true (ends_choice rest) z) (ap ends_choice same.1)
      choice-no-more f (or q c) rest z w =
          let same = unique-sequence q s.tree (124 ∷ (write_choice c ++ rest)) (124 ∷ drop (next + 1) p) tt tt
          (sym (append_assoc (write_sequence q) (124 ∷ write_choice c) rest) ∙ w ∙ sym split) in
          let e = same.1 in
          f c rest z (cc)

-- ## The whole pattern

no_answer : (p : List ℕ) → ((c : Choice) → write_choice c ≡ p → ⊥) → none ≡ matches_empty_text p
no_answer p f = by (matches_empty_text p) refl
  where
    by : (x : Option Bool) → matches_empty_text p ≡ x → none ≡ matches_empty_text p
    by none e = sym e
    by (some b) e = let w = matches_empty_text-tree p b e in absurd (f w.0 w.1)

module _ (p : List ℕ) where
  pub whole-none : NoChoice (drop 0 p) → none ≡ matches_empty_text p
  whole-none f = no_answer p (λ c w. f c [] tt (append-nil (write_choice c) ∙ w))

  module _ (e : Bool) (next : ℕ) (c : ChoiceFound p 0 e next) where
    pub whole-covered : next ≡ length p → some e ≡ matches_empty_text p
    whole-covered h = ap some (sym c.empty) ∙ sym (matches_empty_text-written c.tree)
        ∙ ap matches_empty_text
        (sym (append-nil (write_choice c.tree))
        ∙ ap (λ (x : List ℕ). write_choice c.tree ++ x) (sym (past p next (omega arith))) ∙ c.written)

    pub whole-longer : (next ≡ length p → ⊥) → none ≡ matches_empty_text p
    whole-longer h = no_answer p
        (λ d w. let same = unique-choice d c.tree [] (drop next p) tt c.ends
        (append-nil (write_choice d) ∙ w ∙ sym c.written) in
        h (omega (arith, ap length same.1, length-drop next p, c.high)))
