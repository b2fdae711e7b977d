-- `judge::label::has_joint` meets its contract: such a label stands before the end of the page. Assumes nothing.
use lib.ListN.{drop}
use Rattle.records.specs.Answers.{labels_on}
use Rattle.judge.proofs.LabelLaws.{joint-before}
use Rattle.judge.proofs.label.has_joint.Goals as goal

pub returns : goal.returns
returns c =
    let page = c.args.page.now in
    joint-before page (labels_on page c.args.on c.args.ons) c.args.groups
    (drop c.args.group page) c.first_joint.result c.first_joint.ensures
