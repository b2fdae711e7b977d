-- `functions::form::Table::text` meets its contract: a text of the table lies within the letters. Assumes nothing.
use native.Mathlib.Omega.{arith}
use mathlib.Core.Path.{sym}
use Rattle.functions.proofs.CutLaws.{placed, cut_at}
use Rattle.functions.proofs.form.Table.text.Goals as goal

pub slice_bounds-result-count : goal.slice_bounds-result-count
slice_bounds-result-count c =
    let text = placed _ _ c.args.place c.args.self.now.formed c.requires in omega (arith, text.ordered)

pub slice_bounds-result-start : goal.slice_bounds-result-start
slice_bounds-result-start c =
    let text = placed _ _ c.args.place c.args.self.now.formed c.requires in omega (arith, text.ordered, text.inside)

pub slice_bounds-result-end : goal.slice_bounds-result-end
slice_bounds-result-end c =
    let text = placed _ _ c.args.place c.args.self.now.formed c.requires in omega (arith, text.ordered, text.inside)

pub returns : goal.returns
returns c = sym (cut_at _ _ c.args.place c.requires)
