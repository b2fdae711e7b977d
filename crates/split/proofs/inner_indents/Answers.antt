-- `split::inner_indents` meets its contract: by the node's shape. Assumes nothing.
use mathlib.Core.Path.{sym, ap, ◌∙◌}
use Rattle.text.specs.Layout.{inner_indents}
use Rattle.view.proofs.NodeLaws.{layout-shaped}
use Rattle.split.proofs.inner_indents.Goals as goal

pub returns-in-Whole : goal.returns-in-Whole
returns-in-Whole c =
    λ page starts n. sym (ap (inner_indents c.args.indents)
    (layout-shaped n (sym c.in-Whole.is ∙ c.shape_of.ensures)))

pub returns-in-Minus : goal.returns-in-Minus
returns-in-Minus c =
    λ page starts n. sym (ap (inner_indents c.args.indents)
    (layout-shaped n (sym c.in-Minus.is ∙ c.shape_of.ensures)))

pub returns-in-Suffixed : goal.returns-in-Suffixed
returns-in-Suffixed c =
    λ page starts n. sym (ap (inner_indents c.args.indents)
    (layout-shaped n (sym c.in-Suffixed.is ∙ c.shape_of.ensures)))

pub returns-in-Enclosed : goal.returns-in-Enclosed
returns-in-Enclosed c =
    λ page starts n. sym (ap (inner_indents c.args.indents)
    (layout-shaped n (sym c.in-Enclosed.is ∙ c.shape_of.ensures)))

pub returns-in-Infixed : goal.returns-in-Infixed
returns-in-Infixed c =
    λ page starts n. sym (ap (inner_indents c.args.indents)
    (layout-shaped n (sym c.in-Infixed.is ∙ c.shape_of.ensures)))
