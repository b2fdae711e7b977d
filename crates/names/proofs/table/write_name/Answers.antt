-- `names::table::write_name` meets its contract: a name of the table lies within the letters, and each of the three
-- ends has its law. Assumes nothing.
use Prim.Native.Nat.{◌-◌}
use native.Mathlib.Omega.{arith}
use mathlib.Core.Path.{◌≡◌, ap, ◌∙◌}
use lib.ListN.{length, take, drop}
use Rattle.names.specs.Table.{name_at}
use Rattle.names.proofs.TableLaws.{NamePlaced, table-starts, placed, length-between, name_at-past}
use Rattle.names.proofs.WrittenLaws.{does-nothing, does-short, does-write}
use Rattle.names.proofs.table.write_name.Goals as goal
use Rattle.names.proofs.table.write_name.Goals.{After-wide-end}

-- where both its ends are read: it lies within the letters, and is what stands there
here : (c : After-wide-end) →
    NamePlaced c.args.letters.now c.wide-start.result c.wide-end.result
here c =
    rw (c.wide-start.ensures, c.wide-end.ensures)
    (placed c.args.letters.now c.args.starts.now c.args.number
    c.requires c.if-last-number.false)

stands : (c : After-wide-end) →
    name_at c.args.letters.now c.args.starts.now c.args.number
    ≡ take (c.wide-end.result - c.wide-start.result)
    (drop c.wide-start.result c.args.letters.now)
unfolding name_at
stands c = rw (c.wide-start.ensures, c.wide-end.ensures)

size : (c : After-wide-end) →
    length (name_at c.args.letters.now c.args.starts.now c.args.number) ≡ c.wide-end.result - c.wide-start.result
size c = ap length (stands c) ∙ length-between (here c)

pub overflow_sub-last : goal.overflow_sub-last
overflow_sub-last c =
    table-starts c.args.letters.now c.args.starts.now c.requires

pub returns-then-last-number : goal.returns-then-last-number
returns-then-last-number c =
    does-nothing _ c.args.out.now
    (name_at-past c.args.letters.now c.args.starts.now c.args.number
    c.if-last-number.true)

pub overflow_sub-size : goal.overflow_sub-size
overflow_sub-size c =
    (here (goal.at.overflow_sub-size c).After-wide-end).ordered

pub returns-then-out-size : goal.returns-then-out-size
returns-then-out-size c =
    does-short (name_at c.args.letters.now c.args.starts.now c.args.number) c.args.out.now
    (omega (arith, size (goal.at.returns-then-out-size c).After-wide-end, c.if-out-size.true))

pub slice_bounds-put_bytes-count : goal.slice_bounds-put_bytes-count
slice_bounds-put_bytes-count c =
    (here (goal.at.slice_bounds-put_bytes-count c).After-wide-end).ordered

pub slice_bounds-put_bytes-start : goal.slice_bounds-put_bytes-start
slice_bounds-put_bytes-start c =
    let p = here (goal.at.slice_bounds-put_bytes-start c).After-wide-end in omega (arith, p.ordered, p.inside)

pub slice_bounds-put_bytes-end : goal.slice_bounds-put_bytes-end
slice_bounds-put_bytes-end c =
    let p = here (goal.at.slice_bounds-put_bytes-end c).After-wide-end in omega (arith, p.ordered, p.inside)

pub overflow_mul-result : goal.overflow_mul-result
overflow_mul-result c =
    omega (
      arith,
      c.put_bytes.ensures.ends,
      size (goal.at.overflow_mul-result c).After-wide-end,
      (here (goal.at.overflow_mul-result c).After-wide-end).short,
    )

pub returns : goal.returns
returns c =
    let wrote = rw (← stands (goal.at.returns c).After-wide-end) at c.put_bytes.ensures in
    does-write (name_at c.args.letters.now c.args.starts.now c.args.number) c.args.out.now
    (omega (arith, size (goal.at.returns c).After-wide-end, c.if-out-size.false)) wrote
