-- `page::name::byte_is` meets its contract: an equation for each class. Assumes nothing.
use Rattle.page.proofs.name.byte_is.Goals as goal

pub returns-in-Alpha : goal.returns-in-Alpha
returns-in-Alpha c =
    cc

pub returns-in-AlphaColon : goal.returns-in-AlphaColon
returns-in-AlphaColon c =
    cc

pub returns-in-AlphaNumeric : goal.returns-in-AlphaNumeric
returns-in-AlphaNumeric c =
    cc

pub returns-in-AlphaNumericColon : goal.returns-in-AlphaNumericColon
returns-in-AlphaNumericColon c =
    cc
