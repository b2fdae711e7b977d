-- `calls::split` meets its contract: what the walk leaves is enough for the text, and each of the three ends has its
-- law. Assumes nothing.
use native.Mathlib.Omega.{arith}
use Rattle.page.proofs.ExitLaws.{exit-is}
use Rattle.text.specs.Pretty.{prettify}
use Rattle.calls.proofs.RoomLaws.{accepts-some, accepts_last, room-enough, room-short, room_fits}
use Rattle.calls.proofs.DoesLaws.{does-refused, does-short, does-write}
use Rattle.calls.proofs.split.Goals as goal

pub overflow_sub-last : goal.overflow_sub-last
overflow_sub-last c = accepts-some c.in_ok-walked.ensures.says

pub widths_of-widths-requires : goal.widths_of-widths-requires
widths_of-widths-requires c = accepts_last c.in_ok-walked.ensures.says

pub prettify_len-size-requires : goal.prettify_len-size-requires
prettify_len-size-requires c =
    record { tables = accepts_last c.in_ok-walked.ensures.says; known = c.widths_of-widths.ensures }

pub put_prettify-written-requires : goal.put_prettify-written-requires
put_prettify-written-requires c =
    let room = room_fits _ _ _ c.prettify_len-size.ensures c.if-size-room.true in
    record {
      tables = accepts_last c.in_ok-walked.ensures.says;
      known = c.widths_of-widths.ensures;
      room = omega (arith, room);
    }

pub returns-then-size-room : goal.returns-then-size-room
returns-then-size-room c =
    let says = c.in_ok-walked.ensures.says in
    does-write prettify says.tree says.kind
    (room-enough _ _ _ c.prettify_len-size.ensures c.if-size-room.true)
    c.put_prettify-written.ensures

pub returns : goal.returns
returns c =
    does-short prettify c.in_ok-walked.ensures.says.tree
    (room-short _ _ _ c.prettify_len-size.ensures c.if-size-room.false)

pub returns-in_err-walked : goal.returns-in_err-walked
returns-in_err-walked c =
    rw (exit-is _ _ c.from_residual.ensures) (does-refused prettify c.in_err-walked.ensures.says.refuses)
