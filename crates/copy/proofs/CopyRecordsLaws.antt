-- The records of a copy: they are allowed where those of the page are, and no more of them than of the page. The set
-- operator's change is done once. Assumes nothing.
use Prim.Native.Nat.{ℕ, suc, ◌≤◌}
use mathlib.Core.Path.{◌≡◌, refl, ap}
use mathlib.Core.Bool.{Bool, true, false}
use mathlib.Core.List.{List, [], ◌∷◌}
use mathlib.Core.Option.{Option, none, some}
use native.Mathlib.Omega.{arith}
use lib.ListN.{length}
use Rattle.page.specs.Bytes.{pick}
use Rattle.page.specs.Allowed.{Each}
use Rattle.records.specs.Code.{is_set_operator}
use Rattle.records.specs.Modifier.{Cardinality, one_to_one, many_to_many, many_to_one, one_to_many, BinModifier}
use Rattle.records.specs.Record.{number, string, selector, range, subquery, at, offset, unary, paren, Record, leaf, wrapper, binary, aggregate, call}
use Rattle.records.specs.Allowed.{IsOptionOf, IsCardinality, IsBinModifier, IsAllowed}
use Rattle.ast.specs.CheckAst.{many_to_many_of, set_operator_modifier, checked_modifier}
use Rattle.copy.specs.Copy.{copy_record, copy_records}
use Rattle.copy.proofs.FrontLaws.{copy_number-allowed, copy_number-length}
use Rattle.copy.proofs.FrontLaws.{copy_offset-allowed, copy_offset-length}

-- ## checked_modifier

many_to_many_of-allowed : (c : Cardinality) → IsCardinality c → IsCardinality (many_to_many_of c)
many_to_many_of-allowed one_to_one h = tt
many_to_many_of-allowed many_to_many h = tt
many_to_many_of-allowed (many_to_one ls) h = h
many_to_many_of-allowed (one_to_many ls) h = h

set_operator_modifier-allowed : (m : Option BinModifier) → IsOptionOf IsBinModifier m → IsBinModifier (set_operator_modifier m)
set_operator_modifier-allowed none h = (tt, tt, tt, tt)
set_operator_modifier-allowed (some m) h = (h.0, many_to_many_of-allowed m.card h.1, h.2, h.3)

pub checked_modifier-allowed : (c : ℕ) (m : Option BinModifier) → IsOptionOf IsBinModifier m → IsOptionOf IsBinModifier (checked_modifier c m)
checked_modifier-allowed c m h = by (is_set_operator c)
  where
    by : (b : Bool) → IsOptionOf IsBinModifier (pick b (some (set_operator_modifier m)) m)
    by true = set_operator_modifier-allowed m h
    by false = h

many_to_many_of-once : (c : Cardinality) → many_to_many_of (many_to_many_of c) ≡ many_to_many_of c
many_to_many_of-once one_to_one = refl
many_to_many_of-once many_to_many = refl
many_to_many_of-once (many_to_one ls) = refl
many_to_many_of-once (one_to_many ls) = refl

set_operator_modifier-once : (m : Option BinModifier) → set_operator_modifier (some (set_operator_modifier m)) ≡ set_operator_modifier m
set_operator_modifier-once none = refl
set_operator_modifier-once (some m) =
    ap (λ (c : Cardinality). record { return_bool = m.return_bool; matching = m.matching; card = c; fill_values = m.fill_values }) (many_to_many_of-once m.card)

pub checked_modifier-once : (c : ℕ) (m : Option BinModifier) → checked_modifier c (checked_modifier c m) ≡ checked_modifier c m
checked_modifier-once c m = by (is_set_operator c)
  where
    by : (b : Bool)
        → pick b (some (set_operator_modifier (pick b (some (set_operator_modifier m)) m)))
        (pick b (some (set_operator_modifier m)) m) ≡ pick b (some (set_operator_modifier m)) m
    by true = ap some (set_operator_modifier-once m)
    by false = refl

-- ## copy_records

copy_record-allowed : (r : Record) (rs : List Record) → IsAllowed r → Each IsAllowed rs → Each IsAllowed (copy_record r rs)
copy_record-allowed (leaf (number l)) rs h k = copy_number-allowed l rs h k
copy_record-allowed (leaf (string t)) rs h k = (h, k)
copy_record-allowed (leaf (selector s)) rs h k = (h, k)
copy_record-allowed (wrapper (range n)) rs h k = (h, k)
copy_record-allowed (wrapper (subquery r s)) rs h k = (h, k)
copy_record-allowed (wrapper (at a)) rs h k = (h, k)
copy_record-allowed (wrapper (offset o)) rs h k = copy_offset-allowed o rs h k
copy_record-allowed (wrapper unary) rs h k = (h, k)
copy_record-allowed (wrapper paren) rs h k = (h, k)
copy_record-allowed (binary c m) rs h k = ((h.0, checked_modifier-allowed c m h.1), k)
copy_record-allowed (aggregate c m n) rs h k = (h, k)
copy_record-allowed (call f n) rs h k = (h, k)

pub copy_records-allowed : (rs : List Record) → Each IsAllowed rs → Each IsAllowed (copy_records rs)
copy_records-allowed [] h = tt
copy_records-allowed (r ∷ rs) h = copy_record-allowed r (copy_records rs) h.0 (copy_records-allowed rs h.1)

copy_record-length : (r : Record) (rs : List Record) → length (copy_record r rs) ≤ suc (length rs)
copy_record-length (leaf (number l)) rs = copy_number-length l rs
copy_record-length (leaf (string t)) rs = omega arith
copy_record-length (leaf (selector s)) rs = omega arith
copy_record-length (wrapper (range n)) rs = omega arith
copy_record-length (wrapper (subquery r s)) rs = omega arith
copy_record-length (wrapper (at a)) rs = omega arith
copy_record-length (wrapper (offset o)) rs = omega (arith, copy_offset-length o rs)
copy_record-length (wrapper unary) rs = omega arith
copy_record-length (wrapper paren) rs = omega arith
copy_record-length (binary c m) rs = omega arith
copy_record-length (aggregate c m n) rs = omega arith
copy_record-length (call f n) rs = omega arith

pub copy_records-length : (rs : List Record) → length (copy_records rs) ≤ length rs
copy_records-length [] = omega arith
copy_records-length (r ∷ rs) = further (copy_record-length r (copy_records rs)) (copy_records-length rs)
  where
    further : length (copy_record r (copy_records rs)) ≤ suc (length (copy_records rs))
        → length (copy_records rs) ≤ length rs → length (copy_record r (copy_records rs)) ≤ suc (length rs)
    further h k = omega arith
