-- `measure::widths_of` meets its contract: nothing is known of an empty table, and measuring keeps it right. Assumes
-- nothing.
use Rattle.view.proofs.ViewLaws.{unmarked}
use Rattle.measure.proofs.WidthLaws.{widths-none}
use Rattle.measure.proofs.widths_of.Goals as goal

pub measure-requires : goal.measure-requires
measure-requires c =
    record { tables = c.requires; numberless = unmarked _ _; known = widths-none _ }
