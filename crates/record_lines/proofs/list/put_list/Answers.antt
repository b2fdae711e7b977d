use native.Mathlib.Numerals.{unary_clauses}
use Rattle.record_lines.specs.Numbers.{list_numbers}
use Rattle.record_lines.proofs.ElementLaws.{elements-more, elements-refused, elements-none}
use Rattle.record_lines.proofs.LineLaws.{showing-start, showing-next, showing-end, shows_then}
use Rattle.record_lines.proofs.list.put_list.Goals as goal

pub loop-init : goal.loop-init
loop-init c =
    simp unary_clauses showing-start

pub loop-preserved : goal.loop-preserved
loop-preserved c =
    showing-next c.loop.invariant (elements-more _ _ _ _ c.loop-test.true c.in-Ok.ensures) c.put_element-pos.ensures

pub returns-in-Err : goal.returns-in-Err
unfolding list_numbers
returns-in-Err c =
    shows_then c.put_spaced-pos.ensures
    (showing-end c.loop.invariant (elements-refused _ _ _ _ c.in-Err.ensures))

pub returns : goal.returns
unfolding list_numbers
returns c =
    shows_then c.put_spaced-pos.ensures
    (showing-end c.loop.invariant (elements-none _ _ _ _ c.loop-test.false))
