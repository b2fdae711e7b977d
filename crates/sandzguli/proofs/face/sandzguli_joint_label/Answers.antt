-- `sandzguli::face::sandzguli_joint_label` meets its contract: the part lies on a page of at most 8,192 bytes, so its
-- word fits. Assumes nothing.
use mathlib.Core.Path.{sym, ap}
use Rattle.sandzguli.specs.Words.{label_word}
use Rattle.sandzguli.proofs.PartLaws.{part-long}
use Rattle.sandzguli.proofs.face.sandzguli_joint_label.Goals as goal

pub returns-then-page-gt-PAGE_LIMIT : goal.returns-then-page-gt-PAGE_LIMIT
returns-then-page-gt-PAGE_LIMIT c =
    ap label_word (sym (part-long c.args.page.now c.if-page-gt-PAGE_LIMIT.true))

pub returns : goal.returns
returns c =
    ap label_word c.label_span-label.ensures.is
