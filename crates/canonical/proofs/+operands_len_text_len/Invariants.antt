-- The proof of the cycle {operands_len, text_len}: lengths up to a cap.
-- The measures: 2 e for the operands after e records, 2 i + 1 for the tree that record i ends. The laws stand in
-- `TextLaws`. Assumes nothing.
use Prim.Native.Nat.{◌+◌}
use Rattle.canonical.proofs.+operands_len_text_len.Given as goal

abbrev pub decreases-operands_len : goal.decreases-operands_len
decreases-operands_len l =
    l.end + l.end

abbrev pub decreases-text_len : goal.decreases-text_len
decreases-text_len l =
    l.i + l.i + 1
