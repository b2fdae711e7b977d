-- `leaves::string::quoted_len` meets its contract: two quotes and the escaped text. Assumes nothing.
use native.Mathlib.Omega.{arith}
use Rattle.leaves.proofs.EscapeLaws.{length-quote}
use Rattle.leaves.proofs.string.quoted_len.Goals as goal

pub returns : goal.returns
returns c =
    omega (arith, c.capped_add.ensures, c.escaped_len.ensures, length-quote c.args.text.now)
