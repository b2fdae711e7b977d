-- `records::stored::stored_matcher` meets its contract: each byte and each text is there, because the matcher can be
-- read. Assumes nothing.
use Rattle.records.proofs.StoredLaws.{flag-chosen, flag-stored, name-stored, value-stored}
use Rattle.records.proofs.StoredLaws.{pattern-flag-stored, is-pattern, is-negated}
use Rattle.records.proofs.stored.stored_matcher.Goals as goal
use Rattle.records.proofs.stored.stored_matcher.Goals.{then-number-eq2, else-number-eq2}

pub stored_text-name-requires : goal.stored_text-name-requires
stored_text-name-requires c = name-stored c.args.page.now c.args.at c.requires

pub stored_text-value-requires : goal.stored_text-value-requires
stored_text-value-requires c = value-stored c.args.page.now c.args.at c.requires c.stored_text-name.ensures.reads

pub bounds-page-next : goal.bounds-page-next
bounds-page-next c =
    (flag-chosen c.args.page.now c.stored_text-value.result.end
    (pattern-flag-stored c.args.page.now c.args.at c.requires
    c.stored_text-name.ensures.reads c.stored_text-value.ensures.reads
    c.if-number-eq0.false c.if-number-eq1.false)).inside

pub returns-clause-reads : goal.returns-clause-reads
returns-clause-reads c =
    let flag = flag-stored c.args.page.now c.stored_text-value.result.end
    (pattern-flag-stored c.args.page.now c.args.at c.requires
    c.stored_text-name.ensures.reads c.stored_text-value.ensures.reads
    c.if-number-eq0.false c.if-number-eq1.false) in
    elim c.if-number-eq2.branch [
      | then-number-eq2 w ↦
          rw w.op-is
          (is-pattern c.args.page.now c.args.at c.requires
          c.stored_text-name.ensures.reads c.stored_text-value.ensures.reads flag w.if-number-eq2.true)
      | else-number-eq2 w ↦
          rw w.op-is
          (is-negated c.args.page.now c.args.at c.requires
          c.stored_text-name.ensures.reads c.stored_text-value.ensures.reads flag
          c.if-number-eq0.false c.if-number-eq1.false w.if-number-eq2.false)
    ]
