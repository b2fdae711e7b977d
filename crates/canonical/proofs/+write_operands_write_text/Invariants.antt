-- The proof of the cycle {write_operands, write_text}: each text is a run of pieces (`WriteLaws`), written one after
-- the other. The measures are those of the lengths. Assumes nothing.
use Prim.Native.Nat.{◌+◌}
use Rattle.canonical.proofs.+write_operands_write_text.Given as goal

abbrev pub decreases-write_operands : goal.decreases-write_operands
decreases-write_operands l =
    l.end + l.end

abbrev pub decreases-write_text : goal.decreases-write_text
decreases-write_text l =
    l.i + l.i + 1
