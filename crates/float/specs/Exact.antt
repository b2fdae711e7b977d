-- The literals of a record are within the limit of a page's numbers, so that their floats are exact.
use Rattle.std.proofs.Math.Option.{Option, none, some}
use Rattle.records.specs.Float.{IsExact}
use Rattle.records.specs.Allowed.{IsFill}
use Rattle.records.specs.Modifier.{BinModifier}
use Rattle.records.specs.Record.{Leaf, number, string, selector, Record, leaf, wrapper, binary, aggregate, call}

pub record FillsExact (m : BinModifier) : Type 0 where
  pub lhs : IsFill m.fill_values.lhs
  pub rhs : IsFill m.fill_values.rhs

abbrev pub ModifierExact : Option BinModifier → Type 0
ModifierExact none = Unit {0}
ModifierExact (some m) = FillsExact m

abbrev pub LeafExact : Leaf → Type 0
LeafExact (number l) = IsExact l
LeafExact (string t) = Unit {0}
LeafExact (selector s) = Unit {0}

abbrev pub RecordExact : Record → Type 0
RecordExact (leaf l) = LeafExact l
RecordExact (wrapper w) = Unit {0}
RecordExact (binary c m) = ModifierExact m
RecordExact (aggregate c m n) = Unit {0}
RecordExact (call f n) = Unit {0}
