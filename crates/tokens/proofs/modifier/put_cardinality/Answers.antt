-- `tokens::modifier::put_cardinality` meets its contract, form by form. Assumes nothing.
use Rattle.base.proofs.SpliceLaws.{begin, finish}
use Rattle.tokens.proofs.LabelledLaws.{cardinality-one, cardinality-many, cardinality-left, cardinality-right}
use Rattle.tokens.proofs.modifier.put_cardinality.Goals as goal

pub put_labelled-requires : goal.put_labelled-requires
put_labelled-requires c =
    record {
      stored = rw c.in-ManyToOne.is at c.requires.stored;
      room = rw (cardinality-left _ _ _ c.in-ManyToOne.is) at c.requires.room;
    }

pub put_labelled-requires-in-OneToMany : goal.put_labelled-requires-in-OneToMany
put_labelled-requires-in-OneToMany c =
    record {
      stored = rw c.in-OneToMany.is at c.requires.stored;
      room = rw (cardinality-right _ _ _ c.in-OneToMany.is) at c.requires.room;
    }

pub returns-in-OneToOne : goal.returns-in-OneToOne
returns-in-OneToOne c =
    finish (begin _ _ _ c.requires.room) (cardinality-one _ _ c.in-OneToOne.is)

pub returns-in-ManyToOne : goal.returns-in-ManyToOne
returns-in-ManyToOne c =
    rw (cardinality-left _ _ _ c.in-ManyToOne.is) c.put_labelled.ensures

pub returns-in-OneToMany : goal.returns-in-OneToMany
returns-in-OneToMany c =
    rw (cardinality-right _ _ _ c.in-OneToMany.is) c.put_labelled-in-OneToMany.ensures

pub returns-in-ManyToMany : goal.returns-in-ManyToMany
returns-in-ManyToMany c =
    finish (begin _ _ _ c.requires.room) (cardinality-many _ _ c.in-ManyToMany.is)
