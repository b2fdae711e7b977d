-- The proof of the cycle {split_len, split_operands_len}: lengths up to a cap. The measures: 2 i + 1 for the tree that
-- record i ends, 2 e for the operands after e records. The laws stand in `SplitLaws` and in crate text. Assumes
-- nothing.
use Prim.Native.Nat.{◌+◌}
use Rattle.split.proofs.length.+split_len_split_operands_len.Given as goal

abbrev pub decreases-split_len : goal.decreases-split_len
decreases-split_len l =
    l.i + l.i + 1

abbrev pub decreases-split_operands_len : goal.decreases-split_operands_len
decreases-split_operands_len l =
    l.end + l.end
