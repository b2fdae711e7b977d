-- The proof of the cycle {write_split, write_split_operands}: each text is a run of pieces, written one after the
-- other. The measures are those of the lengths. Assumes nothing.
use Prim.Native.Nat.{◌+◌}
use Rattle.split.proofs.write.+write_split_write_split_operands.Given as goal

abbrev pub decreases-write_split : goal.decreases-write_split
decreases-write_split l =
    l.i + l.i + 1

abbrev pub decreases-write_split_operands : goal.decreases-write_split_operands
decreases-write_split_operands l =
    l.end + l.end
