-- `indented::put_spaces` meets its contract. Invariant: the levels that are left are left to be written. Assumes nothing.
use Prim.Native.Nat.{◌-◌}
use Rattle.base.proofs.SpliceLaws.{Writing}
use Rattle.text.specs.Pretty.{indent}
use Rattle.indented.proofs.put_spaces.Given as goal

abbrev pub invariant-loop : goal.invariant-loop
invariant-loop l =
    Writing l.initial.out l.out l.at (indent l.level) (indent (l.level - l.counter)) l.pos
