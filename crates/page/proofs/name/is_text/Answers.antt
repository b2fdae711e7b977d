-- `page::name::is_text` meets its contract: a text of bytes below 128 is well-formed. Assumes nothing.
use Rattle.page.proofs.Utf8Laws.{ascii-utf8}
use Rattle.page.proofs.name.is_text.Goals as goal

pub returns-then-is_ascii : goal.returns-then-is_ascii
returns-then-is_ascii c =
    ascii-utf8 c.args.text.now _ c.is_ascii.ensures c.if-is_ascii.true
