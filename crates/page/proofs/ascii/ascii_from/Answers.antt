use Rattle.page.proofs.TextLaws.{all-stop, all_go, all_end}
use lib.ListN.{length}
use mathlib.Core.Path.{refl, sym, ap, ◌∙◌}
use mathlib.Core.Bool.{not}
use Prim.Native.Nat.{◌<◌}
use native.Mathlib.Omega.{arith}
use borrow.Author.Tests.{lt-ltb, le-ltb}
use Rattle.page.proofs.ascii.ascii_from.Goals as goal

pub returns-then-text-from : goal.returns-then-text-from
returns-then-text-from c =
    sym (all_end _ c.args.text.now c.args.from (omega arith))

pub loop-i-init : goal.loop-i-init
loop-i-init c =
    (omega arith, refl)

pub returns-then-text-i-ge128 : goal.returns-then-text-i-ge128
returns-then-text-i-ge128 c =
    let inside : c.loop-i.i < length c.args.text.now = omega arith in
    all-stop _ _ _ _ _ inside refl (ap not (le-ltb _ 128 c.if-text-i-ge128.true)) c.loop-i.invariant.1

pub loop-i-preserved : goal.loop-i-preserved
loop-i-preserved c =
    let inside : c.loop-i.i < length c.args.text.now = omega arith in
    (omega arith, all_go _ _ _ _ _ inside refl (ap not (lt-ltb _ 128 c.if-text-i-ge128.false)) c.loop-i.invariant.1)

pub returns : goal.returns
returns c =
    sym (c.loop-i.invariant.1 ∙ all_end _ c.args.text.now c.loop-i.i (omega arith))
