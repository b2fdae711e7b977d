-- `float::fill_value` meets its contract. Assumes nothing.
use Rattle.float.proofs.ValueLaws.{zero_is}
use Rattle.float.proofs.fill_value.Goals as goal

pub literal_value-requires : goal.literal_value-requires
literal_value-requires c =
    rw c.in-Some.is at c.requires

pub returns-in-None : goal.returns-in-None
returns-in-None c =
    rw (c.in-None.is, zero_is, c.no_fraction.ensures)

pub returns-in-Some : goal.returns-in-Some
returns-in-Some c =
    rw (c.in-Some.is, c.literal_value.ensures, c.fraction_of.ensures)
