-- Binary records as they are written: the code is one byte, then the modifier; of a set operator's modifier that is
-- present the form of its cardinality alone changes. Assumes nothing.
use Prim.Native.Nat.{ℕ}
use mathlib.Core.Path.{◌≡◌, refl, ap, ◌∙◌}
use mathlib.Core.Bool.{Bool, true, false}
use mathlib.Core.List.{List, [], ◌∷◌, ◌++◌}
use mathlib.Core.Option.{Option, none, some}
use native.Mathlib.Omega.{arith}
use lib.ListN.{get_or}
use lib.Dec.{T, leb→le, leb}
use Rattle.page.specs.Number.{write_number}
use Rattle.page.proofs.NumberLaws.{right_of, write-small}
use Rattle.page.proofs.ReaderLaws.{append_assoc}
use Rattle.records.specs.Code.{is_code}
use Rattle.records.specs.Literal.{write_literal}
use Rattle.records.specs.Field.{write_flag, write_option, write_labels}
use Rattle.records.specs.Modifier.{Cardinality, one_to_one, many_to_many, many_to_one, one_to_many, BinModifier}
use Rattle.records.specs.Modifier.{write_label_modifier, write_cardinality, write_bin_modifier}
use Rattle.records.specs.Record.{binary, write_record}
use Rattle.ast.specs.CheckAst.{many_to_many_of, set_operator_modifier}
use Rattle.copy.specs.RecordCopy.{set_cardinality}

-- ## Cardinalities: a form, and labels where it is grouped

abbrev pub form_of : Cardinality → ℕ
form_of one_to_one = 0
form_of (many_to_one ls) = 1
form_of (one_to_many ls) = 2
form_of many_to_many = 3

abbrev group_of : Cardinality → List ℕ
group_of one_to_one = []
group_of (many_to_one ls) = write_labels ls
group_of (one_to_many ls) = write_labels ls
group_of many_to_many = []

cardinality-written : (c : Cardinality) → write_cardinality c ≡ form_of c ∷ group_of c
cardinality-written one_to_one = refl
cardinality-written (many_to_one ls) = refl
cardinality-written (one_to_many ls) = refl
cardinality-written many_to_many = refl

cardinality-set : (c : Cardinality) → write_cardinality (many_to_many_of c) ≡ set_cardinality (form_of c) ∷ group_of c
cardinality-set one_to_one = refl
cardinality-set (many_to_one ls) = refl
cardinality-set (one_to_many ls) = refl
cardinality-set many_to_many = refl

-- ## Binary records

-- a code is one byte
code-written : (c : ℕ) → T (is_code c) → write_number c ≡ c ∷ []
code-written c h = write-small c (omega (arith, leb→le c 30 (right_of (leb 1 c) (leb c 30) h)))

-- what stands before the cardinality, and after its form
abbrev pub before : ℕ → BinModifier → List ℕ
before c m = 9 ∷ c ∷ 1 ∷ (write_flag m.return_bool ++ write_label_modifier m.matching)

abbrev pub after : BinModifier → List ℕ
after m = group_of m.card ++ write_option write_literal m.fill_values.lhs ++ write_option write_literal m.fill_values.rhs

pub binary-written : (c : ℕ) → T (is_code c) → (m : Option BinModifier) → write_record (binary c m) ≡ 9 ∷ c ∷ write_option write_bin_modifier m
unfolding write_record
binary-written c h m = ap {B = List ℕ} (λ (s : List ℕ). (9 ∷ s) ++ write_option write_bin_modifier m) (code-written c h)

pub modifier-written : (c : ℕ) → T (is_code c) → (m : BinModifier) → write_record (binary c (some m)) ≡ before c m ++ (form_of m.card ∷ after m)
modifier-written c h m =
    binary-written c h (some m)
    ∙ simp (cardinality-written, append_assoc)

pub modifier-set : (c : ℕ) → T (is_code c) → (m : BinModifier)
    → write_record (binary c (some (set_operator_modifier (some m))))
    ≡ before c m ++ (set_cardinality (form_of m.card) ∷ after m)
modifier-set c h m =
    binary-written c h (some (set_operator_modifier (some m)))
    ∙ simp (cardinality-set, append_assoc)

-- a modifier is absent where its first byte is 0
pub modifier-absent : (m : Option BinModifier) (rest : List ℕ) → get_or (write_option write_bin_modifier m ++ rest) 0 0 ≡ 0 → m ≡ none
modifier-absent none rest h = refl
modifier-absent (some m) rest h = absurd (omega arith)

pub modifier-present : (m : Option BinModifier) (rest : List ℕ)
    → (get_or (write_option write_bin_modifier m ++ rest) 0 0 ≡ 0 → ⊥) → (k : BinModifier) × (m ≡ some k)
modifier-present none rest h = absurd (h refl)
modifier-present (some m) rest h = (m, refl)

pub flag-byte : (b : Bool) → (f : ℕ) × (write_flag b ≡ f ∷ [])
flag-byte false = (0, refl)
flag-byte true = (1, refl)
