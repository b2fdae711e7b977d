-- `copy::times::put_at_first` meets its contract: two writes, one behind the other. Assumes nothing.
use mathlib.Core.Path.{refl}
use native.Mathlib.Omega.{arith}
use Rattle.base.proofs.SpliceLaws.{Writing, begin, room, step, finish, cut-last}
use Rattle.copy.specs.Span.{second_first}
use Rattle.copy.proofs.SpanLaws.{span-wide}
use Rattle.copy.proofs.PairLaws.{second-first}
use Rattle.copy.proofs.times.put_at_first.Goals as goal
use Rattle.copy.proofs.times.put_at_first.Goals.{Start}

-- before the first write
begun : (c : Start) → let a = c.args in
    let text = second_first a.page.now a.start a.next a.after in
    Writing a.out.now a.out.now a.at text text a.at
begun c = begin c.args.out.now c.args.at _ c.requires.room

pub slice_bounds-put_bytes-count : goal.slice_bounds-put_bytes-count
slice_bounds-put_bytes-count c =
    omega (arith, span-wide c.requires.span, span-wide c.requires.behind)

pub slice_bounds-put_bytes-start : goal.slice_bounds-put_bytes-start
slice_bounds-put_bytes-start c =
    omega (arith, span-wide c.requires.span, span-wide c.requires.behind)

pub slice_bounds-put_bytes-end : goal.slice_bounds-put_bytes-end
slice_bounds-put_bytes-end c =
    omega (arith, c.requires.span.inside, c.requires.behind.inside)

pub put_bytes-written-requires : goal.put_bytes-written-requires
put_bytes-written-requires c =
    room (begun (goal.at.put_bytes-written-requires c).Start)
    (second-first c.args.page.now c.args.start c.args.next
    c.args.after)

pub slice_bounds-put_bytes-count-2 : goal.slice_bounds-put_bytes-count-2
slice_bounds-put_bytes-count-2 c =
    omega (arith, span-wide c.requires.span, span-wide c.requires.behind)

pub slice_bounds-put_bytes-start-2 : goal.slice_bounds-put_bytes-start-2
slice_bounds-put_bytes-start-2 c =
    omega (arith, span-wide c.requires.span, span-wide c.requires.behind)

pub slice_bounds-put_bytes-end-2 : goal.slice_bounds-put_bytes-end-2
slice_bounds-put_bytes-end-2 c =
    omega (arith, c.requires.span.inside, c.requires.behind.inside)

pub put_bytes-requires : goal.put_bytes-requires
put_bytes-requires c =
    room (step (begun (goal.at.put_bytes-requires c).Start)
    (second-first c.args.page.now c.args.start c.args.next
    c.args.after) c.put_bytes-written.ensures) (cut-last _)

pub returns : goal.returns
returns c =
    finish (step (step (begun (goal.at.returns c).Start)
    (second-first c.args.page.now c.args.start c.args.next
    c.args.after) c.put_bytes-written.ensures) (cut-last _)
    c.put_bytes.ensures) refl
