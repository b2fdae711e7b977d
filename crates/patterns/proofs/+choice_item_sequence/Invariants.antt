-- The proof of the cycle {choice, item, sequence}. The measures:
-- three for each byte that is left, and the level: 2 for a
-- choice, 1 for a sequence, 0 for an item. The loop's invariant and its laws stand in `SequenceLaws`, one law for each
-- way out of the other two in `ChoiceLaws` and `ItemLaws`. Assumes nothing.
use Prim.Native.Nat.{◌+◌, ◌-◌, ◌*◌}
use lib.ListN.{length}
use Rattle.patterns.proofs.SequenceLaws.{ItemsSoFar}
use Rattle.patterns.proofs.+choice_item_sequence.Given as goal

abbrev pub decreases-choice : goal.decreases-choice
decreases-choice l =
    3 * (length l.pattern.now - l.at) + 2

abbrev pub decreases-item : goal.decreases-item
decreases-item l =
    3 * (length l.pattern.now - l.at)

abbrev pub decreases-sequence : goal.decreases-sequence
decreases-sequence l =
    3 * (length l.pattern.now - l.at) + 1

abbrev pub invariant-sequence-loop-here : goal.invariant-sequence-loop-here
invariant-sequence-loop-here l = ItemsSoFar l.pattern l.at l.empty l.here

abbrev pub decreases-sequence-loop-here : goal.decreases-sequence-loop-here
decreases-sequence-loop-here l = length l.pattern - l.here
