-- Each way out of the three functions, by its law; the exit of a `?` answers that there is none. Assumes nothing.
use Rattle.patterns.proofs.ItemLaws.{item-no-group, item-unclosed, item-group, item-any, item-single}
use Rattle.patterns.proofs.SequenceLaws.{items_more, items-end, items-stop, items-none}
use Rattle.patterns.proofs.ChoiceLaws.{choice-none, choice-end, choice-closed, choice-more, choice-no-more}
use Rattle.patterns.proofs.+choice_item_sequence.Goals as goal

pub choice-returns-in_err-first : goal.choice-returns-in_err-first
choice-returns-in_err-first t c =
    rw c.from_residual.ensures (choice-none c.args.pattern.now c.args.at c.in_err-first.ensures)

pub choice-returns-then-pattern-next : goal.choice-returns-then-pattern-next
choice-returns-then-pattern-next t c =
    choice-end _ _ _ _ c.in_ok-first.ensures c.if-pattern-next.true

pub choice-returns-then-pattern-next-eq41 : goal.choice-returns-then-pattern-next-eq41
choice-returns-then-pattern-next-eq41 t c =
    choice-closed _ _ _ _ c.in_ok-first.ensures c.if-pattern-next.false c.if-pattern-next-eq41.true

pub choice-returns-in_err-rest : goal.choice-returns-in_err-rest
choice-returns-in_err-rest t c =
    rw c.from_residual-in_err-rest.ensures
    (choice-no-more _ _ _ _ c.in_ok-first.ensures c.if-pattern-next.false c.if-pattern-next-eq41.false
    c.in_err-rest.ensures)

pub choice-returns : goal.choice-returns
choice-returns t c =
    choice-more _ _ _ _ c.in_ok-first.ensures c.if-pattern-next.false c.if-pattern-next-eq41.false _ _
    c.in_ok-rest.ensures

pub item-returns-in_err-empty : goal.item-returns-in_err-empty
item-returns-in_err-empty t c =
    rw c.from_residual.ensures (item-no-group _ _ c.if-pattern-at.false c.if-b-eq40.true c.in_err-empty.ensures)

pub item-returns-then-pattern-next : goal.item-returns-then-pattern-next
item-returns-then-pattern-next t c =
    item-unclosed _ _ c.if-pattern-at.false c.if-b-eq40.true _ _ c.in_ok-empty.ensures c.if-pattern-next.true

pub item-returns-then-b-eq40 : goal.item-returns-then-b-eq40
item-returns-then-b-eq40 t c =
    item-group _ _ c.if-pattern-at.false c.if-b-eq40.true _ _ c.in_ok-empty.ensures c.if-pattern-next.false _ _
    c.repeated.ensures

pub item-returns-then-b-eq46 : goal.item-returns-then-b-eq46
item-returns-then-b-eq46 t c =
    item-any _ _ c.if-pattern-at.false c.if-b-eq46.true _ _ c.repeated-then-b-eq46.ensures

pub item-returns-then-is_single : goal.item-returns-then-is_single
item-returns-then-is_single t c =
    item-single _ _ c.if-pattern-at.false _ c.is_single.ensures c.if-is_single.true _ _
    c.repeated-then-is_single.ensures

pub sequence-returns-then-b : goal.sequence-returns-then-b
sequence-returns-then-b t c =
    items-stop c.loop-here.invariant c.loop-here-test.true c.if-b.true

pub sequence-returns-in_err-one : goal.sequence-returns-in_err-one
sequence-returns-in_err-one t c =
    rw c.from_residual.ensures
    (items-none c.loop-here.invariant c.loop-here-test.true c.if-b.false c.in_err-one.ensures)

pub sequence-loop-here-preserved : goal.sequence-loop-here-preserved
sequence-loop-here-preserved t c =
    items_more c.loop-here.invariant _ _ c.in_ok-one.ensures

pub sequence-returns : goal.sequence-returns
sequence-returns t c =
    items-end c.loop-here.invariant c.loop-here-test.false
