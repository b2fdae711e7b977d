-- `label::matcher::printed` meets its contract. Assumes nothing.
use Rattle.label.proofs.CollectLaws.{prints}
use Rattle.label.proofs.matcher.printed.Goals as goal

pub returns : goal.returns
returns c =
    prints _ _ _ _ c.requires.matcher.0 c.requires.matcher.1 c.text_at.ensures c.is_label.ensures
