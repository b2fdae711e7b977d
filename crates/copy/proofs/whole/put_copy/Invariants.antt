-- `copy::whole::put_copy` meets its contract. Invariant: the copy from record i on is left to be written. The measure
-- is the records left.
-- Assumes nothing.
use Prim.Native.Nat.{◌-◌}
use Rattle.base.proofs.SpliceLaws.{Writing}
use Rattle.copy.specs.Starts.{copy_from}
use Rattle.copy.specs.Copy.{copy_page}
use Rattle.copy.proofs.whole.put_copy.Given as goal

abbrev pub invariant-loop-i : goal.invariant-loop-i
invariant-loop-i l =
    Writing l.initial.out l.out 0 (copy_page l.page) (copy_from l.page l.i) l.at

abbrev pub decreases-loop-i : goal.decreases-loop-i
decreases-loop-i l =
    l.n - l.i
