-- What the answers of the functions that show parts of records mean: the numbers that they stand for.
use Rattle.std.specs.Prelude.{ℕ, Bool, List, [], ◌∷◌, ◌++◌, Option, Some, None}
use Rattle.page.specs.Read.{Reader}
use Rattle.record_lines.specs.Numbers.{span_numbers, flag_number, read_label_numbers, read_matcher_numbers, read_kind_numbers}
use Rattle.record_lines.specs.declared.element.Elements.{Elements}
use Rattle.record_lines.specs.declared.element.Elements.TheVariants.{Labels, Matchers, Kinds}
use Rattle.record_lines.specs.declared.element.Element.{Element}
use Rattle.record_lines.specs.declared.element.Element.TheVariants.{Label, Matcher, Kind}

-- the flag of a pattern
abbrev pub mark_numbers : Option Bool → List ℕ
mark_numbers None = []
mark_numbers (Some flag) = flag_number flag ∷ []

abbrev pub element_numbers : Element → List ℕ
element_numbers (Label s) = span_numbers s
element_numbers (Matcher op name value mark) = op ∷ span_numbers name ++ span_numbers value ++ mark_numbers mark
element_numbers (Kind n) = n ∷ []

abbrev pub read_element : Elements → List ℕ → Reader (List ℕ)
read_element Labels page = read_label_numbers page
read_element Matchers page = read_matcher_numbers page
read_element Kinds page = read_kind_numbers
