-- `copy::record::put_record` meets its contract: the first byte is the record's kind. Assumes nothing.
use mathlib.Core.Path.{ap}
use native.Mathlib.Omega.{arith}
use lib.ListN.{length}
use Rattle.std.proofs.Common.{rules}
use Rattle.copy.proofs.SpanLaws.{span-wide, other-copy}
use Rattle.copy.proofs.record.put_record.Goals as goal

pub bounds-page-start : goal.bounds-page-start
bounds-page-start c =
    omega (arith, span-wide c.requires.span, c.requires.span.inside)

pub put_number-requires : goal.put_number-requires
put_number-requires c =
    (c.requires, c.in-0.is)

pub put_operator-requires : goal.put_operator-requires
put_operator-requires c =
    (c.requires, c.in-9.is)

pub slice_bounds-put_bytes-count : goal.slice_bounds-put_bytes-count
slice_bounds-put_bytes-count c =
    omega (arith, span-wide c.requires.span)

pub slice_bounds-put_bytes-start : goal.slice_bounds-put_bytes-start
slice_bounds-put_bytes-start c =
    omega (arith, span-wide c.requires.span, c.requires.span.inside)

pub put_bytes-requires : goal.put_bytes-requires
put_bytes-requires c =
    omega (arith, c.requires.room, ap length (other-copy c.requires.span (search rules) (search rules)))

pub returns-in_default : goal.returns-in_default
returns-in_default c =
    rw (other-copy c.requires.span (search rules) (search rules)) c.put_bytes.ensures
