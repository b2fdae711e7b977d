-- `tokens::modifier::put_grouping` meets its contract, form by form. Assumes nothing.
use mathlib.Core.Path.{refl}
use Rattle.base.proofs.SpliceLaws.{begin, first, room, step, finish, cut-last}
use Rattle.tokens.proofs.LabelledLaws.{grouping-none, grouping-without, grouping-vanishes, grouping-by}
use Rattle.tokens.proofs.modifier.put_grouping.Goals as goal

pub returns-then-labels-eq0 : goal.returns-then-labels-eq0
returns-then-labels-eq0 c =
    finish (begin _ _ _ c.requires.room) (grouping-vanishes _ _ _ c.in-Some.is c.in-Include.is c.if-labels-eq0.true)

pub put_labelled-space-requires : goal.put_labelled-space-requires
put_labelled-space-requires c =
    record {
      stored = rw (c.in-Some.is, c.in-Include.is) at c.requires.stored;
      room = first _ _ c.requires.room
          (grouping-by _ _ _ c.in-Some.is c.in-Include.is c.requires.stored c.if-labels-eq0.false);
    }

pub put_byte-requires : goal.put_byte-requires
put_byte-requires c =
    room (step (begin _ _ _ c.requires.room)
    (grouping-by _ _ _ c.in-Some.is c.in-Include.is c.requires.stored c.if-labels-eq0.false)
    c.put_labelled-space.ensures) (cut-last _)

pub put_labelled-space-requires-in-Exclude : goal.put_labelled-space-requires-in-Exclude
put_labelled-space-requires-in-Exclude c =
    record {
      stored = rw (c.in-Some.is, c.in-Exclude.is) at c.requires.stored;
      room = first _ _ c.requires.room (grouping-without _ _ _ c.in-Some.is c.in-Exclude.is);
    }

pub put_byte-requires-in-Exclude : goal.put_byte-requires-in-Exclude
put_byte-requires-in-Exclude c =
    room (step (begin _ _ _ c.requires.room) (grouping-without _ _ _ c.in-Some.is c.in-Exclude.is)
    c.put_labelled-space-in-Exclude.ensures) (cut-last _)

pub returns-in_default : goal.returns-in_default
returns-in_default c =
    finish (begin _ _ _ c.requires.room) (grouping-none _ _ c.in_default.is)

pub returns-else-labels-eq0 : goal.returns-else-labels-eq0
returns-else-labels-eq0 c =
    finish (step (step (begin _ _ _ c.requires.room)
    (grouping-by _ _ _ c.in-Some.is c.in-Include.is c.requires.stored c.if-labels-eq0.false)
    c.put_labelled-space.ensures) (cut-last _) c.put_byte.ensures) refl

pub returns-in-Exclude : goal.returns-in-Exclude
returns-in-Exclude c =
    finish (step (step (begin _ _ _ c.requires.room)
    (grouping-without _ _ _ c.in-Some.is c.in-Exclude.is)
    c.put_labelled-space-in-Exclude.ensures) (cut-last _) c.put_byte-in-Exclude.ensures) refl
