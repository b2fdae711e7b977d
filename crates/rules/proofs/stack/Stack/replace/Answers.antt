-- `rules::stack::Stack::replace` meets its contract: one entry lies in the place of the topmost ones (`StackLaws`).
-- Assumes nothing.
use mathlib.Core.Path.{◌∙◌}
use native.Mathlib.Omega.{arith}
use lib.ListN.{length-set}
use Rattle.rules.proofs.StackLaws.{place-low, place-high, held-replace}
use Rattle.rules.proofs.stack.Stack.replace.Goals as goal

pub overflow_add-self : goal.overflow_add-self
overflow_add-self c =
    omega (arith, place-high c.args.self.now c.args.count c.requires.enough c.requires.room)

pub overflow_sub-self : goal.overflow_sub-self
overflow_sub-self c =
    place-low c.args.self.now c.args.count c.requires.enough c.requires.room

pub bounds-self-self : goal.bounds-self-self
bounds-self-self c =
    omega (
      arith,
      place-low c.args.self.now c.args.count c.requires.enough c.requires.room,
      place-high c.args.self.now c.args.count c.requires.enough c.requires.room,
    )

pub offset_bounds-self-self : goal.offset_bounds-self-self
offset_bounds-self-self c =
    omega (arith, place-high c.args.self.now c.args.count c.requires.enough c.requires.room)

pub bounds-self-self-2 : goal.bounds-self-self-2
bounds-self-self-2 c =
    omega (
      arith,
      place-low c.args.self.now c.args.count c.requires.enough c.requires.room,
      place-high c.args.self.now c.args.count c.requires.enough c.requires.room,
    )

pub invariant_of-self : goal.invariant_of-self
invariant_of-self c =
    let s = c.args.self.now in
    record {
      inside = omega (arith, place-high s c.args.count c.requires.enough c.requires.room);
      sized = (length-set s.tags _ _ ∙ s.sized.0, length-set s.values _ _ ∙ s.sized.1);
    }

pub returns : goal.returns
returns c =
    rw (c.tag_of.ensures, c.value_of.ensures)
    (held-replace c.args.self.now c.args.count c.requires.enough c.requires.room _)
