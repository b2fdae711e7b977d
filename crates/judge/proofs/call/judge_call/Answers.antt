-- `judge::call::judge_call` meets its contract: each return is a case of `judge_call` by the tests before it. Assumes
-- nothing.
use mathlib.Core.Path.{sym, ◌∙◌}
use Rattle.page.proofs.ExitLaws.{exit-is}
use Rattle.judge.proofs.CallLaws.{judged-arity, judged-exempt, judged-undeclared, judged-match}
use Rattle.judge.proofs.call.judge_call.Goals as goal

pub returns-in_err-arity : goal.returns-in_err-arity
returns-in_err-arity c =
    rw (exit-is _ _ c.from_residual.ensures)
    (judged-arity c.requires.lies _ _ c.requires.inside c.in_err-arity.ensures)

pub returns-then-is_exempt : goal.returns-then-is_exempt
returns-then-is_exempt c =
    judged-exempt c.requires.lies _ _ c.requires.inside c.in_ok-arity.ensures c.if-count-eq0.false
    c.operand.ensures c.is_exempt.ensures c.if-is_exempt.true

pub returns-then-declared-eq0 : goal.returns-then-declared-eq0
returns-then-declared-eq0 c =
    judged-undeclared c.requires.lies _ _ c.requires.inside c.in_ok-arity.ensures c.if-count-eq0.false
    c.operand.ensures c.is_exempt.ensures c.if-is_exempt.false c.if-declared-eq0.true

pub returns-then-arguments_match : goal.returns-then-arguments_match
returns-then-arguments_match c =
    sym (judged-match c.requires.lies _ _ c.requires.inside c.in_ok-arity.ensures c.if-count-eq0.false
    c.operand.ensures c.is_exempt.ensures c.if-is_exempt.false
    c.if-declared-eq0.false (sym c.if-arguments_match.true ∙ c.arguments_match.ensures))

pub returns-else-arguments_match : goal.returns-else-arguments_match
returns-else-arguments_match c =
    sym (judged-match c.requires.lies _ _ c.requires.inside c.in_ok-arity.ensures c.if-count-eq0.false
    c.operand.ensures c.is_exempt.ensures c.if-is_exempt.false
    c.if-declared-eq0.false (sym c.if-arguments_match.false ∙ c.arguments_match.ensures))
