-- `copy::number::form_after` meets its contract. Invariant: what is left to negate is the whole. Assumes nothing.
use Rattle.std.proofs.Common.{◌≡◌, ◌-◌, drop}
use Rattle.std.specs.Fn.{iterate}
use Rattle.copy.specs.RecordCopy.{negated_form, form_after}
use Rattle.copy.proofs.number.form_after.Given as goal

abbrev pub invariant-loop : goal.invariant-loop
invariant-loop l =
    form_after l.form (drop l.at l.page) ≡ iterate negated_form (l.end - l.counter) l.negated
