-- `label::matcher::put_in_order` meets its contract: the first text, then a comma and a text at a time. Assumes nothing.
use mathlib.Core.Path.{refl}
use Rattle.base.proofs.SpliceLaws.{begin, first, room, step, finish, cut-last}
use Rattle.label.proofs.JoinLaws.{joined-first, print-first, joined-none, comma-next, text-next, more-end}
use Rattle.label.proofs.SortLaws.{print-at}
use Rattle.label.proofs.matcher.put_in_order.Goals as goal

pub returns-in_default : goal.returns-in_default
returns-in_default c = finish (begin _ _ _ c.requires.1) (joined-none _ _ c.in_default.ensures.cases)

pub put_matcher-pos-requires : goal.put_matcher-pos-requires
put_matcher-pos-requires c =
    let is = c.in-Some.ensures.cases.0 in
    ((print-first _ is c.requires.0).0, first _ _ c.requires.1 (joined-first _ is))

pub loop-parts-init : goal.loop-parts-init
loop-parts-init c =
    let is = c.in-Some.ensures.cases.0 in
    begin _ _ _ (room (step (begin _ _ _ c.requires.1) (joined-first _ is) c.put_matcher-pos.ensures) (cut-last _))

pub put_byte-next-requires : goal.put_byte-next-requires
put_byte-next-requires c =
    room c.loop-parts.invariant (comma-next _ _ c.in-Some.first.now _ c.loop-parts-test.true)

pub put_matcher-pos-requires-in-loop-parts : goal.put_matcher-pos-requires-in-loop-parts
put_matcher-pos-requires-in-loop-parts c =
    let is = c.in-Some.ensures.cases.0 in (
      print-at _ _ _ _ (print-first _ is c.requires.0).1 c.loop-parts-test.true,
      room (step c.loop-parts.invariant (comma-next _ _ _ _ c.loop-parts-test.true) c.put_byte-next.ensures)
          (text-next _ _ _ _),
    )

pub loop-parts-preserved : goal.loop-parts-preserved
loop-parts-preserved c =
    step (step c.loop-parts.invariant (comma-next _ _ _ _ c.loop-parts-test.true) c.put_byte-next.ensures)
    (text-next _ _ _ _) c.put_matcher-pos-in-loop-parts.ensures

pub returns : goal.returns
returns c =
    let is = c.in-Some.ensures.cases.0 in
    finish (step (step (begin _ _ _ c.requires.1) (joined-first _ is) c.put_matcher-pos.ensures) (cut-last _)
    (finish c.loop-parts.invariant (more-end _ _ c.in-Some.first.now _ c.loop-parts-test.false))) refl
