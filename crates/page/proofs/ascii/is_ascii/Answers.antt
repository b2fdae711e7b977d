use Rattle.page.proofs.AsciiLaws.{word-stop, word-go}
use mathlib.Core.Path.{refl, sym, ◌∙◌, ap}
use native.Mathlib.Omega.{arith}
use mathlib.Core.Bool.{not}
use Rattle.page.proofs.ascii.is_ascii.Goals as goal

pub loop-i-init : goal.loop-i-init
loop-i-init c =
    (omega arith, refl)

pub returns-then-not-word_passes_at : goal.returns-then-not-word_passes_at
returns-then-not-word_passes_at c =
    word-stop c.args.text.now c.loop-i.i _ _ c.loop-i.invariant.1
    c.word_passes_at.ensures (ap not c.if-not-word_passes_at.true)

pub loop-i-preserved : goal.loop-i-preserved
loop-i-preserved c = (
  omega arith,
  word-go c.args.text.now c.loop-i.i _ _ c.loop-i.invariant.1
      c.word_passes_at.ensures (ap not c.if-not-word_passes_at.false),
)

pub returns : goal.returns
returns c =
    c.ascii_from.ensures ∙ sym c.loop-i.invariant.1
