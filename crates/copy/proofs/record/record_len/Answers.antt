-- `copy::record::record_len` meets its contract: one record alone has another length in the copy. Assumes nothing.
use mathlib.Core.Path.{sym, ◌∙◌}
use native.Mathlib.Omega.{arith}
use Rattle.copy.proofs.OperatorLaws.{operator-wide, plain_copy, absent-length, present-length}
use Rattle.copy.proofs.SpanLaws.{span-wide, same_length}
use Rattle.copy.proofs.NumberCopyLaws.{unchanged-length}
use Rattle.copy.proofs.record.record_len.Goals as goal

pub bounds-page-start : goal.bounds-page-start
bounds-page-start c =
    omega (arith, span-wide c.requires, c.requires.inside)

pub bounds-page-start-then-page-start-eq9 : goal.bounds-page-start-then-page-start-eq9
bounds-page-start-then-page-start-eq9 c =
    omega (arith, operator-wide c.requires c.if-page-start-eq9.true, c.requires.inside)

pub bounds-page-start-then-is_set_operator : goal.bounds-page-start-then-is_set_operator
bounds-page-start-then-is_set_operator c =
    omega (arith, operator-wide c.requires c.if-page-start-eq9.true, c.requires.inside)

pub returns-then-page-start-eq0 : goal.returns-then-page-start-eq0
returns-then-page-start-eq0 c =
    sym (absent-length (record {
      span = c.requires;
      kind = c.if-page-start-eq9.true;
      set = sym c.is_set_operator.ensures ∙ c.if-is_set_operator.true;
    }) c.if-page-start-eq0.true)

pub overflow_sub-result : goal.overflow_sub-result
overflow_sub-result c =
    omega (arith, span-wide c.requires)

pub returns-else-page-start-eq9 : goal.returns-else-page-start-eq9
returns-else-page-start-eq9 c =
    elim c.else-page-start-eq9.branch [
      | goal.else-page-start-eq9-via-then-page-start-eq9+then-is_set_operator+else-page-start-eq0 w ↦
          sym (present-length (record {
            span = c.requires;
            kind = w.if-page-start-eq9.true;
            set = sym w.is_set_operator.ensures ∙ w.if-is_set_operator.true;
          }) w.if-page-start-eq0.false)
      | goal.else-page-start-eq9-via-then-page-start-eq9+else-is_set_operator w ↦
          sym (same_length c.requires
          (plain_copy c.requires w.if-page-start-eq9.true
          (sym w.is_set_operator.ensures ∙ w.if-is_set_operator.false)))
      | goal.else-page-start-eq9-via-else-page-start-eq9 w ↦ sym (unchanged-length c.requires w.if-page-start-eq9.false)
    ]
