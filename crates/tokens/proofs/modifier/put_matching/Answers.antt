-- `tokens::modifier::put_matching` meets its contract, form by form. Assumes nothing.
use Rattle.base.proofs.SpliceLaws.{begin, finish}
use Rattle.tokens.proofs.LabelledLaws.{matching-none, matching-on, matching-vanishes, matching-ignoring}
use Rattle.tokens.proofs.modifier.put_matching.Goals as goal

pub put_labelled-requires : goal.put_labelled-requires
put_labelled-requires c =
    record {
      stored = rw (c.in-Some.is, c.in-Include.is) at c.requires.stored;
      room = rw (matching-on _ _ _ c.in-Some.is c.in-Include.is) at c.requires.room;
    }

pub returns-then-list-eq0 : goal.returns-then-list-eq0
returns-then-list-eq0 c =
    finish (begin _ _ _ c.requires.room)
    (matching-vanishes _ _ _ c.in-Some.is c.in-Exclude.is c.if-list-eq0.true)

pub put_labelled-requires-in-Exclude : goal.put_labelled-requires-in-Exclude
put_labelled-requires-in-Exclude c =
    record {
      stored = rw (c.in-Some.is, c.in-Exclude.is) at c.requires.stored;
      room = rw (matching-ignoring _ _ _ c.in-Some.is c.in-Exclude.is c.requires.stored
          c.if-list-eq0.false) at c.requires.room;
    }

pub returns-in_default : goal.returns-in_default
returns-in_default c =
    finish (begin _ _ _ c.requires.room) (matching-none _ _ c.in_default.is)

pub returns-in-Include : goal.returns-in-Include
returns-in-Include c =
    rw (matching-on _ _ _ c.in-Some.is c.in-Include.is) c.put_labelled.ensures

pub returns-else-list-eq0 : goal.returns-else-list-eq0
returns-else-list-eq0 c =
    rw (matching-ignoring _ _ _ c.in-Some.is c.in-Exclude.is c.requires.stored c.if-list-eq0.false)
    c.put_labelled-in-Exclude.ensures
