-- `rules::stack::Stack::operand` meets its contract: the two arrays are one list of operands (`StackLaws`). Assumes
-- nothing.
use mathlib.Core.Path.{◌∙◌}
use native.Mathlib.Omega.{arith}
use Rattle.rules.proofs.StackLaws.{held-size, held-at}
use Rattle.rules.proofs.stack.Stack.operand.Goals as goal

pub overflow_add-self : goal.overflow_add-self
overflow_add-self c =
    omega (arith, c.requires, held-size c.args.self.now)

pub bounds-self-self : goal.bounds-self-self
bounds-self-self c =
    omega (arith, c.requires, held-size c.args.self.now)

pub overflow_add-self-2 : goal.overflow_add-self-2
overflow_add-self-2 c =
    omega (arith, c.requires, held-size c.args.self.now)

pub offset_bounds-self-self : goal.offset_bounds-self-self
offset_bounds-self-self c =
    omega (arith, c.requires, held-size c.args.self.now)

pub bounds-self-self-2 : goal.bounds-self-self-2
bounds-self-self-2 c =
    omega (arith, c.requires, held-size c.args.self.now)

pub returns : goal.returns
returns c =
    c.operand_from.ensures ∙ held-at c.args.self.now c.args.i _ _ c.requires
