-- `view::kind_at` meets its contract: the first byte of a record that can be read is its kind. Assumes nothing.
use Rattle.view.proofs.KindLaws.{starts-inside, kind-first}
use Rattle.view.proofs.kind_at.Goals as goal

pub bounds-page-start : goal.bounds-page-start
bounds-page-start c =
    starts-inside c.requires

pub returns : goal.returns
returns c =
    kind-first c.requires
