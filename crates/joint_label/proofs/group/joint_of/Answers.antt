-- `joint_label::group::joint_of` meets its contract, form by form. Assumes nothing.
use Rattle.page.specs.Answers.{itself}
use lib.ListN.{drop}
use native.Mathlib.Omega.{arith}
use Rattle.records.specs.Answers.{labels_on}
use Rattle.judge.proofs.ReadLaws.{ok-got, none-refused}
use Rattle.joint_label.proofs.PlacedLaws.{found-as, no-group}
use Rattle.joint_label.proofs.group.joint_of.Goals as goal

pub returns-in-1 : goal.returns-in-1
returns-in-1 c =
    let e = ok-got itself c.args.page.now c.read_number.result c.ok.ensures.value c.in_ok-form.was c.read_number.ensures.reads in
    found-as c.args.page.now c.joint_in.result (simp (← e, c.in-1.is)) c.joint_in.ensures

pub returns-in-2 : goal.returns-in-2
returns-in-2 c =
    let e = ok-got itself c.args.page.now c.read_number.result c.ok.ensures.value c.in_ok-form.was c.read_number.ensures.reads in
    found-as c.args.page.now c.joint_in-in-2.result (simp (← e, c.in-2.is)) c.joint_in-in-2.ensures

pub returns-in_default : goal.returns-in_default
returns-in_default c =
    let page = c.args.page.now in
    let e = ok-got itself page c.read_number.result c.ok.ensures.value c.in_ok-form.was c.read_number.ensures.reads in
    rw (← e)
    (no-group page (labels_on page c.args.on c.args.ons) c.in_ok-form.form
    (drop c.in_ok-form.next page) (λ q. omega arith) (λ q. omega arith))

pub returns-in_err-form : goal.returns-in_err-form
returns-in_err-form c =
    let e = none-refused itself c.args.page.now c.read_number.result c.ok.ensures.value c.in_err-form.was c.read_number.ensures.reads in
    rw (c.from_residual.ensures, ← e.1)
