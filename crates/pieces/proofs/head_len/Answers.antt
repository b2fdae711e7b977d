-- `pieces::head_len` meets its contract: by what stands at the node's foot. Assumes nothing.
use Prim.Native.Nat.{min}
use lib.ListN.{length}
use mathlib.Core.Path.{refl, ap, ◌∙◌}
use native.Mathlib.Omega.{arith}
use Rattle.leaves.specs.Escape.{quote}
use Rattle.text.specs.Layout.{enclosed}
use Rattle.view.proofs.NodeLaws.{layout-read, number-layout}
use Rattle.pieces.proofs.ShapeLaws.{subquery-head, binary-head, minus-head, paren-head}
use Rattle.pieces.proofs.head_len.Goals as goal

pub returns-in-Number : goal.returns-in-Number
returns-in-Number c =
    let node = c.requires in
    rw (number-layout node c.literal_of.ensures)
    (omega (arith, c.capped_add.ensures, c.numeral_len.ensures.literal))

pub returns-in-String : goal.returns-in-String
returns-in-String c =
    let node = c.requires in
    rw (layout-read node node.chain.sets c.string_of.ensures.reads refl)
    (c.quoted_len.ensures
    ∙ ap (λ (x : _). min (length (quote x)) c.args.cap) c.text_at-text.ensures)

pub returns-in-Selector : goal.returns-in-Selector
returns-in-Selector c =
    let node = c.requires in
    rw (layout-read node c.attached_of.ensures c.selector_of-selector.ensures.reads refl)
    c.selector_len.ensures

pub returns-in-Subquery : goal.returns-in-Subquery
returns-in-Subquery c =
    omega (arith, ap length (subquery-head c.requires c.in-Subquery.is))

pub returns-in-Unary : goal.returns-in-Unary
returns-in-Unary c =
    omega (arith, c.capped_add-in-Unary.ensures, ap length (minus-head c.requires c.in-Unary.is))

pub returns-in-Paren : goal.returns-in-Paren
returns-in-Paren c =
    omega (arith, ap length (paren-head c.requires c.in-Paren.is))

pub returns-in-Binary : goal.returns-in-Binary
returns-in-Binary c =
    omega (arith, ap length (binary-head c.requires c.in-Binary.is))

pub returns-in-Aggregate : goal.returns-in-Aggregate
returns-in-Aggregate c =
    let node = c.requires in
    rw (layout-read node node.chain.sets c.aggregator_of-own.ensures.reads.reads refl)
    c.aggregator_len.ensures

pub returns-in-Call : goal.returns-in-Call
returns-in-Call c =
    let node = c.requires in
    let own = c.function_of.ensures.reads in
    rw (layout-read node node.chain.sets own.reads refl ∙ ap enclosed own.named)
    (omega (arith, c.capped_add-in-Call.ensures, ap length c.text_at-name.ensures))
