-- `rules::stack::Stack::len` meets its contract. Assumes nothing.
use mathlib.Core.Path.{sym}
use Rattle.rules.proofs.StackLaws.{held-size}
use Rattle.rules.proofs.stack.Stack.len.Goals as goal

pub returns : goal.returns
returns c =
    sym (held-size c.args.self.now)
