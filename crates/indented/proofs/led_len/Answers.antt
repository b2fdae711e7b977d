-- `indented::led_len` meets its contract. Assumes nothing.
use Rattle.indented.proofs.IndentLaws.{led}
use Rattle.view.specs.View.{layout_at}
use Rattle.text.specs.Layout.{head, indent_if}
use native.Mathlib.Omega.{arith}
use Rattle.indented.proofs.led_len.Goals as goal

pub indent_len-lead-requires : goal.indent_len-lead-requires
indent_len-lead-requires c =
    c.requires.level

pub overflow_sub-cap : goal.overflow_sub-cap
overflow_sub-cap c =
    omega (arith, c.indent_len-lead.ensures)

pub head_len-requires : goal.head_len-requires
head_len-requires c =
    c.requires.node

pub overflow_add-result : goal.overflow_add-result
overflow_add-result c =
    omega (arith, c.indent_len-lead.ensures, c.head_len.ensures)

pub returns : goal.returns
returns c =
    led (indent_if c.args.indents c.args.level)
    (head (layout_at c.args.page.now c.args.node)) c.args.cap _ _
    c.indent_len-lead.ensures c.head_len.ensures
