-- `pieces::put_head` meets its contract: by what stands at the node's foot. Assumes nothing.
use mathlib.Core.Path.{refl, sym, ap, ◌∙◌}
use Rattle.leaves.specs.Escape.{quote}
use Rattle.text.proofs.WriteLaws.{wrote_nothing, wrote_as}
use Rattle.text.specs.Layout.{enclosed}
use Rattle.view.proofs.NodeLaws.{layout-read, number-layout}
use Rattle.pieces.proofs.ShapeLaws.{subquery-head, binary-head, minus-head, paren-head}
use Rattle.pieces.proofs.put_head.Goals as goal

pub put_literal-requires : goal.put_literal-requires
put_literal-requires c =
    let p = c.requires in
    rw (number-layout p.node c.literal_of.ensures) at p.room

pub put_quoted-requires : goal.put_quoted-requires
put_quoted-requires c =
    let p = c.requires in
    rw c.text_at-text.ensures
    (rw (layout-read p.node p.node.chain.sets c.string_of.ensures.reads refl) at p.room)

pub put_selector-requires : goal.put_selector-requires
put_selector-requires c =
    let p = c.requires in
    let own = c.selector_of-selector.ensures in
    record { lies = own.lies; room = rw (layout-read p.node c.attached_of.ensures own.reads refl) at p.room }

pub put_byte-requires : goal.put_byte-requires
put_byte-requires c =
    let p = c.requires in
    rw (minus-head p.node c.in-Unary.is) at p.room

pub put_aggregator-requires : goal.put_aggregator-requires
put_aggregator-requires c =
    let p = c.requires in
    let own = c.aggregator_of-own.ensures in
    record {
      stored = own.stored;
      room = rw (layout-read p.node p.node.chain.sets own.reads.reads refl) at p.room;
    }

pub put_bytes-requires : goal.put_bytes-requires
put_bytes-requires c =
    let p = c.requires in
    let own = c.function_of.ensures.reads in
    rw c.text_at-name.ensures
    (rw (layout-read p.node p.node.chain.sets own.reads refl ∙ ap enclosed own.named) at p.room)

pub returns-in-Number : goal.returns-in-Number
returns-in-Number c =
    let p = c.requires in
    rw (number-layout p.node c.literal_of.ensures) c.put_literal.ensures

pub returns-in-String : goal.returns-in-String
returns-in-String c =
    let p = c.requires in
    rw (layout-read p.node p.node.chain.sets c.string_of.ensures.reads refl)
    (wrote_as (ap quote (sym c.text_at-text.ensures)) c.put_quoted.ensures)

pub returns-in-Selector : goal.returns-in-Selector
returns-in-Selector c =
    let p = c.requires in
    rw (layout-read p.node c.attached_of.ensures c.selector_of-selector.ensures.reads refl)
    c.put_selector.ensures

pub returns-in-Subquery : goal.returns-in-Subquery
returns-in-Subquery c =
    wrote_nothing _ _ (subquery-head c.requires.node c.in-Subquery.is)

pub returns-in-Unary : goal.returns-in-Unary
returns-in-Unary c =
    let p = c.requires in
    rw (minus-head p.node c.in-Unary.is) c.put_byte.ensures

pub returns-in-Paren : goal.returns-in-Paren
returns-in-Paren c =
    wrote_nothing _ _ (paren-head c.requires.node c.in-Paren.is)

pub returns-in-Binary : goal.returns-in-Binary
returns-in-Binary c =
    wrote_nothing _ _ (binary-head c.requires.node c.in-Binary.is)

pub returns-in-Aggregate : goal.returns-in-Aggregate
returns-in-Aggregate c =
    let p = c.requires in
    rw (layout-read p.node p.node.chain.sets c.aggregator_of-own.ensures.reads.reads refl)
    c.put_aggregator.ensures

pub returns-in-Call : goal.returns-in-Call
returns-in-Call c =
    let p = c.requires in
    let own = c.function_of.ensures.reads in
    rw (layout-read p.node p.node.chain.sets own.reads refl ∙ ap enclosed own.named)
    (wrote_as (sym c.text_at-name.ensures) c.put_bytes.ensures)
