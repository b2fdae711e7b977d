-- The label of 19 on one computed page: that of the group list, where the on list has the same labels in another order.
use Rattle.std.specs.Prelude.{ℕ, Bool, false, ◌&&◌, List, T, eqb}
use Rattle.page.specs.Bytes.{hex}
use Rattle.records.specs.Record.{read_record, read_page}
use Rattle.records.specs.Outcome.{Outcome, answer, refusal}
use Rattle.ast.specs.CheckAst.{check_ast}
use Rattle.ast.specs.CheckPage.{apply, check_page, check}
use Rattle.ast.specs.Part.{Part, label_part}

-- `up + on (x, y) group_left (y, x) up`: y stands at 19 in the on list and at 23 in the group list
abbrev pub joint_page : List ℕ
joint_page = hex "0202757000 0202757000 090101000102017801790102017901780000"

abbrev is_joint : ℕ → Outcome → Bool
is_joint i (answer k n) = false
is_joint i (refusal n j) = eqb n 19 && eqb i j

abbrev is_part : ℕ → ℕ → Part → Bool
is_part start size p = eqb start p.start && eqb size p.size

joint_label : T (is_joint 2 (check joint_page) && is_part 23 1 (label_part joint_page (check joint_page)))
unfolding read_record read_page check_ast apply check_page label_part
joint_label = tt
