-- Places in split text, as the code holds them: with one field anew, and that of a node's first operand.
use Rattle.std.specs.Prelude.{ℕ, Bool, List}
use Rattle.text.specs.Layout.{inner_indents, inner_level}
use Rattle.view.specs.View.{layout_at}
use Rattle.view.specs.declared.Node.{Node}
use Rattle.split.specs.declared.place.Place.{Place}

abbrev pub with_numberless : Bool → Place → Place
with_numberless numberless place = record { numberless = numberless; indents = place.indents; level = place.level }

abbrev pub with_indents : Bool → Place → Place
with_indents indents place = record { numberless = place.numberless; indents = indents; level = place.level }

-- `indents` and level by the node's; `numberless` is said of the operand already
abbrev pub inner_place : List ℕ → Node → Place → Place
inner_place page node place = record {
  numberless = place.numberless;
  indents = inner_indents place.indents (layout_at page node);
  level = inner_level place.level (layout_at page node);
}
