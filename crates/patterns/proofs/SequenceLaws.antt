-- What `sequence` finds. The loop over its items: what is found from here on is found from the start on, with the items
-- that were passed; and where nothing is found from here on, nothing is from the start on. Assumes nothing.
use Prim.Native.Nat.{ℕ, ◌≤◌, ◌<◌}
use mathlib.Core.Path.{◌≡◌, refl, sym, ap, ap₂, subst, ◌∙◌}
use mathlib.Core.Bool.{Bool, true, false, ◌||◌, ◌&&◌, and_assoc, and-true}
use mathlib.Core.List.{List, ◌++◌, append_assoc}
use native.Mathlib.Omega.{arith}
use lib.ListN.{length, drop, get_or}
use lib.Dec.{T, eqb}
use Rattle.patterns.specs.Pattern.{done, then, write_sequence, write_item}
use Rattle.patterns.specs.Tree.{ends_sequence, repeat_of}
use Rattle.patterns.specs.Answers.{SequenceFound, NoSequence, ItemFound, NoItem}
use Rattle.patterns.proofs.TreeLaws.{T_true, true-T, not-both, item-stays, sequence-plain, plain-takes}
use Rattle.patterns.proofs.DecisionLaws.{unique-item}
use Rattle.patterns.proofs.ItemLaws.{front, past}

-- ## From one item on

module _ (p : List ℕ) (at : ℕ) where
  pub sequence-end : at ≤ length p → length p ≤ at → SequenceFound p at true at
  sequence-end k h =
      record {
        tree = done;
        written = refl;
        ends = subst (λ (x : List ℕ). T (ends_sequence x)) (sym (past p at h)) tt;
        empty = refl;
        low = omega arith;
        high = omega arith;
      }

  pub sequence-stop : at < length p → (eqb (get_or p at 0) 124 || eqb (get_or p at 0) 41) ≡ true → SequenceFound p at true at
  sequence-stop h e =
      record {
        tree = done;
        written = refl;
        ends = true-T (ends_sequence (drop at p)) (ap ends_sequence (front p at h) ∙ e);
        empty = refl;
        low = omega arith;
        high = omega arith;
      }

  pub sequence-no-item : at < length p → (eqb (get_or p at 0) 124 || eqb (get_or p at 0) 41) ≡ false → NoItem (drop at p) → NoSequence (drop at p)
  sequence-no-item h e f done rest k w = not-both (ends_sequence (drop at p))
      (sym (ap ends_sequence w) ∙ T_true (ends_sequence rest) k) (ap ends_sequence (front p at h) ∙ e)
  sequence-no-item h e f (then i s) rest k w = f i (write_sequence s ++ rest)
      (plain-takes (repeat_of i) (write_sequence s ++ rest) (sequence-plain s rest k))
      (sym (append_assoc (write_item i) (write_sequence s) rest) ∙ w)

  pub sequence-no-rest : (e : Bool) (next : ℕ) → ItemFound p at e next → NoSequence (drop next p) → NoSequence (drop at p)
  sequence-no-rest e next i f done rest k w = not-both (ends_sequence (drop at p))
      (sym (ap ends_sequence w) ∙ T_true (ends_sequence rest) k)
      (sym (ap ends_sequence i.written) ∙ item-stays i.tree (drop next p))
  sequence-no-rest e next i f (then j s) rest k w =
      let same = unique-item j i.tree (write_sequence s ++ rest) (drop next p)
      (plain-takes (repeat_of j) (write_sequence s ++ rest) (sequence-plain s rest k)) i.ends
      (sym (append_assoc (write_item j) (write_sequence s) rest) ∙ w ∙ sym i.written) in
      f s rest k same.1

  pub sequence-more : (e d : Bool) (next end : ℕ) → ItemFound p at e next → SequenceFound p next d end → SequenceFound p at (e && d) end
  sequence-more e d next end i s =
      record {
        tree = then i.tree s.tree;
        written = append_assoc (write_item i.tree) (write_sequence s.tree) (drop end p)
            ∙ ap (λ (x : List ℕ). write_item i.tree ++ x) s.written ∙ i.written;
        ends = s.ends;
        empty = ap₂ (λ (x y : Bool). x && y) i.empty s.empty;
        low = omega (arith, i.low, s.low);
        high = s.high;
      }

-- ## The loop

pub record ItemsSoFar (p : List ℕ) (at : ℕ) (empty : Bool) (here : ℕ) : Type 0 where
  pub further : (e : Bool) (next : ℕ) → SequenceFound p here e next → SequenceFound p at (empty && e) next
  pub no-further : NoSequence (drop here p) → NoSequence (drop at p)
  pub low : at ≤ here
  pub high : here ≤ length p

module _ {p : List ℕ} {at : ℕ} {empty : Bool} {here : ℕ} (so_far : ItemsSoFar p at empty here) where
  pub items_more : (one : Bool) (next : ℕ) → ItemFound p here one next → ItemsSoFar p at (empty && one) next
  items_more one next i =
      record {
        further = λ e end s.
            subst (λ (b : Bool). SequenceFound p at b end) (sym (and_assoc empty one e))
            (so_far.further (one && e) end (sequence-more p here one e next end i s));
        no-further = λ f. so_far.no-further (sequence-no-rest p here one next i f);
        low = omega (arith, so_far.low, i.low);
        high = i.high;
      }

  ended : SequenceFound p here true here → SequenceFound p at empty here
  ended s = subst (λ (b : Bool). SequenceFound p at b here) (and-true empty) (so_far.further true here s)

  pub items-end : length p ≤ here → SequenceFound p at empty here
  items-end h = ended (sequence-end p here so_far.high h)

  module _ (inside : here < length p) where
    pub items-stop : (eqb (get_or p here 0) 124 || eqb (get_or p here 0) 41) ≡ true → SequenceFound p at empty here
    items-stop e = ended (sequence-stop p here inside e)

    pub items-none : (eqb (get_or p here 0) 124 || eqb (get_or p here 0) 41) ≡ false → NoItem (drop here p) → NoSequence (drop at p)
    items-none e f = so_far.no-further (sequence-no-item p here inside e f)
