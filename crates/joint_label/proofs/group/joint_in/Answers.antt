-- `joint_label::group::joint_in` meets its contract: the list is read before its labels are looked at. Assumes nothing.
use mathlib.Core.Path.{sym, ap, ◌∙◌}
use lib.ListN.{length, drop}
use Rattle.page.specs.Answers.{itself, list_on}
use Rattle.page.specs.Text.{read_any_text}
use Rattle.records.specs.Answers.{labels_on}
use Rattle.judge.proofs.ReadLaws.{ok-got, none-refused}
use Rattle.joint_label.specs.Answers.{part_at}
use Rattle.joint_label.proofs.PlacedLaws.{found-as, list-got, list-refused}
use Rattle.joint_label.proofs.group.joint_in.Goals as goal

pub returns : goal.returns
returns c =
    let page = c.args.page.now in
    let on = labels_on page c.args.on c.args.ons in
    let e = ok-got itself page c.read_count.result c.ok.ensures.value c.in_ok-count.was c.read_count.ensures in
    let g = ok-got (list_on read_any_text page) page c.labels_from.result c.ok-2.ensures.value c.in_ok-ok.was
    c.labels_from.ensures.reads in
    let first = list-got page on c.in_ok-count.count (drop c.in_ok-count.start page) g in
    found-as page c.label_at.result (rw (← e) (first ∙ ap (part_at (length page)) (sym c.first_joint.ensures)))
    c.label_at.ensures

pub returns-in_err-ok : goal.returns-in_err-ok
returns-in_err-ok c =
    let page = c.args.page.now in
    let on = labels_on page c.args.on c.args.ons in
    let e = ok-got itself page c.read_count.result c.ok.ensures.value c.in_ok-count.was c.read_count.ensures in
    let g = none-refused (list_on read_any_text page) page c.labels_from.result c.ok-2.ensures.value c.in_err-ok.was
    c.labels_from.ensures.reads in
    rw (c.from_residual-in_err-ok.ensures, ← e) (list-refused page on c.in_ok-count.count (drop c.in_ok-count.start page) g.1)
