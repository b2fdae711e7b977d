-- `calls::signature::put_signature` meets its contract: the bytes fit or not, and the last is the result kind. Assumes
-- nothing.
use Rattle.calls.proofs.SignatureLaws.{puts-short, puts-all}
use Rattle.calls.proofs.signature.put_signature.Goals as goal

pub returns-then-out-text : goal.returns-then-out-text
returns-then-out-text c =
    puts-short c.if-out-text.true

pub returns : goal.returns
returns c =
    puts-all c.if-out-text.false c.kind_from-kind.ensures c.put_bytes-written.ensures
