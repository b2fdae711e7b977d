-- Records that the copy leaves as they are: no unary stands on a number record, every set operator has cardinality 3,
-- and no offset stands right before an @.
use Rattle.std.specs.Prelude.{ℕ, Bool, true, false, ◌&&◌, ◌||◌, not, List, [], ◌∷◌, eqb}
use Rattle.std.proofs.Math.Option.{Option}
use Rattle.records.specs.Code.{is_set_operator}
use Rattle.records.specs.Field.{has}
use Rattle.records.specs.Modifier.{Cardinality, one_to_one, many_to_many, many_to_one, one_to_many, BinModifier}
use Rattle.records.specs.Record.{number, string, selector, range, subquery, at, offset, unary, paren, Record, leaf}
use Rattle.records.specs.Record.{wrapper, binary, aggregate, call, record_kind}

-- the first of these records is of this kind
abbrev pub start_with : ℕ → List Record → Bool
start_with k [] = false
start_with k (r ∷ rs) = eqb (record_kind r) k

abbrev pub is_many_to_many : Cardinality → Bool
is_many_to_many one_to_one = false
is_many_to_many many_to_many = true
is_many_to_many (many_to_one ls) = false
is_many_to_many (one_to_many ls) = false

abbrev pub is_settled_modifier : ℕ → Option BinModifier → Bool
is_settled_modifier c m = not (is_set_operator c) || has (λ x. is_many_to_many x.card) m

-- a record right before these: 7 is the kind of a unary record, 5 that of an @
abbrev pub is_settled_before : Record → List Record → Bool
is_settled_before (leaf (number l)) rs = not (start_with 7 rs)
is_settled_before (leaf (string t)) rs = true
is_settled_before (leaf (selector s)) rs = true
is_settled_before (wrapper (range n)) rs = true
is_settled_before (wrapper (subquery r s)) rs = true
is_settled_before (wrapper (at a)) rs = true
is_settled_before (wrapper (offset o)) rs = not (start_with 5 rs)
is_settled_before (wrapper unary) rs = true
is_settled_before (wrapper paren) rs = true
is_settled_before (binary c m) rs = is_settled_modifier c m
is_settled_before (aggregate c m n) rs = true
is_settled_before (call f n) rs = true

abbrev pub is_settled : List Record → Bool
is_settled [] = true
is_settled (r ∷ rs) = is_settled_before r rs && is_settled rs
