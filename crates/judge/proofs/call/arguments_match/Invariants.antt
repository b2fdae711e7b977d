-- `judge::call::arguments_match` meets its contract. The loop's invariant: the arguments left, matched against the
-- kinds left, decide.
use mathlib.Core.Path.{◌≡◌}
use mathlib.Core.List.{map}
use Rattle.rules.specs.Stack.{held}
use Rattle.ast.specs.Operand.{operand_kind}
use Rattle.ast.specs.CheckAst.{args_match}
use Rattle.records.specs.Answers.{kinds_on}
use Rattle.records.specs.Stack.{operands_of}
use Rattle.judge.proofs.call.arguments_match.Given as goal

abbrev pub invariant-loop-i : goal.invariant-loop-i
invariant-loop-i l =
    args_match (kinds_on l.page l.kinds l.declared)
    (map operand_kind (operands_of l.count (held l.stack)))
    ≡ args_match (kinds_on l.page l.at l.more)
    (map operand_kind (operands_of l.i (held l.stack)))
