-- `split::inner_level` meets its contract: by the node's shape. Assumes nothing.
use mathlib.Core.Path.{sym, ap, ◌∙◌}
use native.Mathlib.Numerals.{add-one}
use native.Mathlib.Omega.{arith}
use Rattle.text.specs.Layout.{inner_level}
use Rattle.view.proofs.NodeLaws.{layout-shaped}
use Rattle.split.proofs.inner_level.Goals as goal

pub returns-in-Whole : goal.returns-in-Whole
returns-in-Whole c =
    record {
      is = λ page starts n. sym (ap (inner_level c.args.level)
          (layout-shaped n (sym c.in-Whole.is ∙ c.shape_of.ensures)));
      most = omega arith;
    }

pub returns-in-Minus : goal.returns-in-Minus
returns-in-Minus c =
    record {
      is = λ page starts n. sym (ap (inner_level c.args.level)
          (layout-shaped n (sym c.in-Minus.is ∙ c.shape_of.ensures)));
      most = omega arith;
    }

pub returns-in-Suffixed : goal.returns-in-Suffixed
returns-in-Suffixed c =
    record {
      is = λ page starts n. sym (ap (inner_level c.args.level)
          (layout-shaped n (sym c.in-Suffixed.is ∙ c.shape_of.ensures)));
      most = omega arith;
    }

pub returns-in-Enclosed : goal.returns-in-Enclosed
returns-in-Enclosed c =
    record {
      is = λ page starts n. add-one _ ∙ sym (ap (inner_level c.args.level)
          (layout-shaped n (sym c.in-Enclosed.is ∙ c.shape_of.ensures)));
      most = omega arith;
    }

pub returns-in-Infixed : goal.returns-in-Infixed
returns-in-Infixed c =
    record {
      is = λ page starts n. add-one _ ∙ sym (ap (inner_level c.args.level)
          (layout-shaped n (sym c.in-Infixed.is ∙ c.shape_of.ensures)));
      most = omega arith;
    }
