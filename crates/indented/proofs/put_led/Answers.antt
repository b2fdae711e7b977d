-- `indented::put_led` meets its contract. Assumes nothing.
use Rattle.view.specs.View.{layout_at}
use Rattle.text.proofs.WriteLaws.{run-two}
use Rattle.text.specs.Layout.{head, indent_if}
use Rattle.base.proofs.SpliceLaws.{fits, next, end}
use mathlib.Core.Path.{refl, ◌∙◌}
use Rattle.indented.proofs.put_led.Goals as goal

pub put_indent-next-requires : goal.put_indent-next-requires
put_indent-next-requires c =
    fits (run-two (indent_if c.args.indents c.args.level)
    (head (layout_at c.args.page.now c.args.node)) c.args.out.now
    c.args.at refl c.requires.room)

pub put_head-requires : goal.put_head-requires
put_head-requires c =
    record {
      node = c.requires.node;
      room = fits (next (run-two (indent_if c.args.indents c.args.level)
          (head (layout_at c.args.page.now c.args.node)) c.args.out.now
          c.args.at refl c.requires.room) c.put_indent-next.ensures);
    }

pub shape_of-out : goal.shape_of-out
shape_of-out c =
    c.put_head.auto.out ∙ c.put_indent-next.auto.out

pub returns : goal.returns
returns c =
    end (next (next (run-two (indent_if c.args.indents c.args.level)
    (head (layout_at c.args.page.now c.args.node)) c.args.out.now
    c.args.at refl c.requires.room) c.put_indent-next.ensures)
    c.put_head.ensures)
