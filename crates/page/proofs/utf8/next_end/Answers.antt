-- `page::utf8::next_end` meets its contract: a character, a word of bytes below 128, or one such byte. Assumes nothing.
use Rattle.page.proofs.Utf8Laws.{word-ends, byte-ends}
use native.Mathlib.Omega.{arith}
use Rattle.page.proofs.utf8.next_end.Goals as goal

pub returns-then-word_passes_at : goal.returns-then-word_passes_at
returns-then-word_passes_at c =
    let start = c.args in
    word-ends start.text.now start.i _ c.if-text-i-ge8.true c.word_passes_at.ensures
    c.if-word_passes_at.true

pub returns : goal.returns
returns c =
    let start = c.args in
    byte-ends start.text.now start.i (omega arith) c.if-text-i-ge128.false
