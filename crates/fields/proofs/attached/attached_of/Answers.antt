use Prim.Native.Nat.{◌+◌, ◌-◌}
use native.Mathlib.Omega.{arith}
use mathlib.Core.Path.{◌≡◌}
use Rattle.view.specs.View.{sets_nothing}
use Rattle.view.proofs.ViewLaws.{starts-fewer}
use Rattle.view.proofs.ChainedLaws.{sets-low, sets-attached}
use Rattle.fields.proofs.attached.attached_of.Goals as goal

pub loop-j-init : goal.loop-j-init
loop-j-init c =
    (sets-low c.requires.chain.sets, rw c.nothing_attached-attached.ensures sets_nothing)

pub with_record-attached-requires : goal.with_record-attached-requires
with_record-attached-requires c =
    let node = c.requires in
    let here : c.loop-j.j - 1 + 1 ≡ c.loop-j.j = omega (arith, c.loop-j-test.true) in
    rw here record {
      starts = starts-fewer node.known (omega (arith, c.loop-j.auto.j));
      attached = sets-attached node.chain.sets c.loop-j-test.true c.loop-j.auto.j;
    }
