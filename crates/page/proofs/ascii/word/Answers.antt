-- `page::ascii::word` meets its contract: std's number of eight bytes is that of the definition. Assumes nothing.
use Rattle.page.proofs.AsciiLaws.{eight-word}
use Rattle.page.proofs.ascii.word.Goals as goal

pub returns : goal.returns
returns c = eight-word c.args.bytes.now c.told-bytes _ c.from_le_bytes.ensures
