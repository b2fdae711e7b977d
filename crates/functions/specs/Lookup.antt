-- The function of a name in a table, and what a call's signature is beside it (document 02, No. 2: "Refused: 37 for an
-- unknown name, after the call's fields and before 2; 38 for a signature unlike the table's, next").
use Rattle.std.specs.Prelude.{ℕ, suc, Bool, ◌&&◌, ◌||◌, not, List, [], ◌∷◌, map, eqb}
use Rattle.std.proofs.Math.Option.{Option, none, some}
use Rattle.page.specs.Bytes.{pick, equal}
use Rattle.page.specs.Text.{Text}
use Rattle.records.specs.Kind.{kind_number, equal_kind}
use Rattle.records.specs.Signature.{Variadic, fixed, unlimited, up_to, Function}
use Rattle.records.specs.Record.{Record, leaf, wrapper, binary, aggregate, call, Records}
use Rattle.records.specs.Outcome.{Outcome}
use Rattle.ast.specs.Table.{is_of_check}
use Rattle.ast.specs.Rules.{Rules, check_by}
use Rattle.functions.specs.Functions.{functions}

-- `get_function` (function.rs): names are compared exactly
unfoldable pub lookup : List Function → Text → Option Function
lookup [] name = none
lookup (f ∷ fs) name = pick (equal f.name name) (some f) (lookup fs name)

-- the extra as one number; an upper bound of 0, which no page has, is unlike both others
abbrev pub extra_number : Variadic → ℕ
extra_number fixed = 0
extra_number unlimited = 1
extra_number (up_to n) = suc (suc n)

-- kinds, extra and result are the same; a signature that would act alike is unlike
abbrev pub equal_signature : Function → Function → Bool
equal_signature f g =
    equal (map kind_number f.arg_types) (map kind_number g.arg_types)
    && eqb (extra_number f.variadic) (extra_number g.variadic)
    && equal_kind f.return_type g.return_type

abbrev pub unlike : Function → Option Function → Option ℕ
unlike f none = some 37
unlike f (some g) = pick (equal_signature f g) none (some 38)

-- the fault of a record beside a table; only a call can have one
abbrev pub signature_fault : List Function → Record → Option ℕ
signature_fault table (leaf l) = none
signature_fault table (wrapper w) = none
signature_fault table (binary c m) = none
signature_fault table (aggregate c m n) = none
signature_fault table (call f n) = unlike f (lookup table f.name)

-- the rules of a check with a table: asked before the operands are counted
abbrev pub with_table : List Function → Rules
with_table table = record { before = signature_fault table; after = λ r ks. none }

-- "A page may now be checked with the table too"
abbrev pub check_table : List ℕ → Outcome
check_table = check_by (with_table functions)

-- with any table: document 02's No. 13 asks for it with two more
abbrev pub check_table_of : List Function → List ℕ → Outcome
check_table_of table = check_by (with_table table)

-- the refusals of the check with the table: those of document 01's check, but no 29, and 37 and 38
abbrev pub is_of_table : ℕ → Bool
is_of_table n = (is_of_check n && not (eqb n 29)) || eqb n 37 || eqb n 38

-- ## The table's signatures in the place of those that are carried

abbrev known : Function → Option Function → Function
known f none = f
known f (some g) = g

abbrev pub signed_by : List Function → Record → Record
signed_by table (leaf l) = leaf l
signed_by table (wrapper w) = wrapper w
signed_by table (binary c m) = binary c m
signed_by table (aggregate c m n) = aggregate c m n
signed_by table (call f n) = call (known f (lookup table f.name)) n

abbrev pub signed_records : List Function → Records → Records
signed_records table page = record { records = map (signed_by table) page.records; ending = page.ending }
