-- `leaves::time::put_at` meets its contract, form by form. Assumes nothing.
use Rattle.leaves.proofs.TimeLaws.{display_at-start, display_at-end, display_at-after, display_at-before}
use Rattle.leaves.proofs.time.put_at.Goals as goal

pub put_bytes-requires : goal.put_bytes-requires
put_bytes-requires c =
    rw (display_at-start _ c.in-Start.is) at c.requires

pub put_bytes-requires-in-End : goal.put_bytes-requires-in-End
put_bytes-requires-in-End c =
    rw (display_at-end _ c.in-End.is) at c.requires

pub put_time-requires : goal.put_time-requires
put_time-requires c =
    rw (display_at-after _ _ c.in-After.is) at c.requires

pub put_time-requires-in-Before : goal.put_time-requires-in-Before
put_time-requires-in-Before c =
    rw (display_at-before _ _ c.in-Before.is) at c.requires

pub returns-in-Start : goal.returns-in-Start
returns-in-Start c =
    rw (display_at-start _ c.in-Start.is) c.put_bytes.ensures

pub returns-in-End : goal.returns-in-End
returns-in-End c =
    rw (display_at-end _ c.in-End.is) c.put_bytes-in-End.ensures

pub returns-in-After : goal.returns-in-After
returns-in-After c =
    rw (display_at-after _ _ c.in-After.is) c.put_time.ensures

pub returns-in-Before : goal.returns-in-Before
returns-in-Before c =
    rw (display_at-before _ _ c.in-Before.is) c.put_time-in-Before.ensures
