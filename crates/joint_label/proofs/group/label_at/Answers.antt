-- `joint_label::group::label_at` meets its contract: what was read, or nothing. Assumes nothing.
use Rattle.judge.proofs.ReadLaws.{ok-got, ok-says, none-refused}
use Rattle.page.specs.Answers.{span_on, Lies}
use Rattle.page.specs.declared.text.Span.{Span}
use mathlib.Core.Path.{◌≡◌, subst}
use Prim.Native.Nat.{ℕ}
use lib.ListN.{drop}
use Rattle.page.specs.Read.{got}
use Rattle.page.specs.Text.{read_any_text}
use Rattle.joint_label.proofs.PlacedLaws.{part-got, part-refused}
use Rattle.joint_label.proofs.group.label_at.Goals as goal

pub returns : goal.returns
returns c =
    let page = c.args.page.now in
    let lies = ok-says (λ (f : Span × ℕ). Lies page f.0 × (f.1 ≡ f.0.end)) c.read_text.result c.ok.ensures.value c.in_ok-label.was c.read_text.ensures.lies in
    let e = ok-got (span_on page) page c.read_text.result c.ok.ensures.value c.in_ok-label.was c.read_text.ensures.reads in
    part-got page c.args.at (rw lies.1 at e) lies.0

pub returns-in_err-label : goal.returns-in_err-label
returns-in_err-label c =
    let page = c.args.page.now in
    let e = none-refused (span_on page) page c.read_text.result c.ok.ensures.value c.in_err-label.was c.read_text.ensures.reads in
    rw c.from_residual.ensures (part-refused page c.args.at e.1)
