-- `joint_label::group::joint_after` meets its contract, field by field. Assumes nothing.
use lib.ListN.{drop}
use Rattle.page.specs.Answers.{itself}
use Rattle.page.specs.Number.{read_choice}
use Rattle.records.specs.Answers.{label_modifier_on}
use Rattle.ast.specs.Part.{placed_forms}
use Rattle.judge.proofs.ReadLaws.{ok-got}
use Rattle.joint_label.proofs.PlacedLaws.{no-on}
use Rattle.joint_label.proofs.group.joint_after.Goals as goal

pub returns-in-None : goal.returns-in-None
returns-in-None c =
    let page = c.args.page.now in
    let e = ok-got itself page c.read_flag.result c.ok.ensures.value c.in_ok-next.was c.read_flag.ensures in
    let f = ok-got (label_modifier_on page) page c.read_label_modifier.result c.ok-2.ensures.value c.in_ok-matching.was
    c.read_label_modifier.ensures.reads in
    let g = rw c.in-None.is at f in
    rw (← e, ← g) (no-on page (read_choice placed_forms (drop c.in_ok-matching.card page)))

pub returns-in-Some-Exclude : goal.returns-in-Some-Exclude
returns-in-Some-Exclude c =
    let page = c.args.page.now in
    let e = ok-got itself page c.read_flag.result c.ok.ensures.value c.in_ok-next.was c.read_flag.ensures in
    let f = ok-got (label_modifier_on page) page c.read_label_modifier.result c.ok-2.ensures.value c.in_ok-matching.was
    c.read_label_modifier.ensures.reads in
    let inner = rw c.in-Some-Exclude.is at c.in-Some-Exclude.field-0-is in
    let g = rw (c.in-Some-Exclude.is, inner) at f in
    rw (← e, ← g) (no-on page (read_choice placed_forms (drop c.in_ok-matching.card page)))
