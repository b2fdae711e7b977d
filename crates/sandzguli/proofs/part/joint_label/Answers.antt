-- `sandzguli::part::joint_label` meets its contract: the bytes of the part. Assumes nothing.
use mathlib.Core.Path.{ap, ◌∙◌}
use Rattle.ast.specs.Part.{part_of}
use Rattle.sandzguli.proofs.part.joint_label.Goals as goal

pub text_at-requires : goal.text_at-requires
text_at-requires c =
    c.label_span.ensures.lies

pub returns : goal.returns
returns c =
    c.text_at.ensures ∙ ap (part_of c.args.page.now) c.label_span.ensures.is
