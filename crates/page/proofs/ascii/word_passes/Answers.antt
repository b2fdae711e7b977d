-- `page::ascii::word_passes` meets its contract: the mask is the highest bits of eight bytes, and the law of words is
-- for any number of them. Assumes nothing.
use Rattle.page.proofs.AsciiLaws.{eight-passes}
use Rattle.page.proofs.ascii.word_passes.Goals as goal

pub returns : goal.returns
returns c = eight-passes c.args.bytes.now c.told-bytes c.fits-bytes _ c.word.ensures
