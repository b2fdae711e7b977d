-- Where a label stands that is in two lists.
use Rattle.std.specs.Prelude.{ℕ, zero, suc, List, []}
use Rattle.page.specs.Bytes.{pick}
use Rattle.page.specs.Read.{Read, refused, got}
use Rattle.page.specs.Text.{Text, read_any_text}
use Rattle.records.specs.Field.{Labels}
use Rattle.ast.specs.CheckAst.{has_label}

-- the bytes from a label on where it is in the list, else from a later one on
abbrev pub from_label : Labels → List ℕ → Read Text → (List ℕ → List ℕ) → List ℕ
from_label on s (refused f) later = []
from_label on s (got label rest) later = pick (has_label on label) s (later rest)

-- the bytes from the first of so many labels on that is in the list; none where there is no such label
unfoldable pub from_joint : Labels → ℕ → List ℕ → List ℕ
from_joint on zero s = []
from_joint on (suc n) s = from_label on s (read_any_text s) (λ t. from_joint on n t)
