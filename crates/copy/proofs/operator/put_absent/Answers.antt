-- `copy::operator::put_absent` meets its contract: kind and code off the page, then the modifier written out. Assumes
-- nothing.
use Prim.Native.Nat.{◌+◌, ◌-◌}
use mathlib.Core.List.{[], ◌∷◌}
use native.Mathlib.Omega.{arith}
use lib.ListN.{take, drop}
use Rattle.base.proofs.SpliceLaws.{Run, start, fits, next, end}
use Rattle.copy.specs.RecordCopy.{set_modifier, record_copy}
use Rattle.copy.proofs.OperatorLaws.{operator-wide, absent-copy}
use Rattle.copy.proofs.operator.put_absent.Goals as goal
use Rattle.copy.proofs.operator.put_absent.Goals.{Start}

-- the run, before the first write
begun : (c : Start) → let a = c.args in
    Run a.out.now a.out.now a.at (record_copy (drop a.start a.page.now))
    (take (a.start + 2 - a.start) (drop a.start a.page.now) ∷ set_modifier ∷ []) a.at
begun c = start c.requires.placing.room (absent-copy c.requires.operator c.requires.absent)

pub overflow_add-modifier : goal.overflow_add-modifier
overflow_add-modifier c =
    omega (
      arith,
      operator-wide c.requires.placing.span c.requires.operator.kind,
      c.requires.placing.span.inside,
    )

pub slice_bounds-put_bytes-end : goal.slice_bounds-put_bytes-end
slice_bounds-put_bytes-end c =
    omega (
      arith,
      operator-wide c.requires.placing.span c.requires.operator.kind,
      c.requires.placing.span.inside,
    )

pub put_bytes-written-requires : goal.put_bytes-written-requires
put_bytes-written-requires c =
    fits (begun (goal.at.put_bytes-written-requires c).Start)

pub put_bytes-requires : goal.put_bytes-requires
put_bytes-requires c =
    fits (next (begun (goal.at.put_bytes-requires c).Start) c.put_bytes-written.ensures)

pub returns : goal.returns
returns c =
    end (next (next (begun (goal.at.returns c).Start) c.put_bytes-written.ensures) c.put_bytes.ensures)
