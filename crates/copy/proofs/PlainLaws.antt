-- Plain records, which the copy leaves as they are: no unary stands on a number, every modifier is as the check gives it,
-- and no offset stands right before an @. The records of any copy are plain, so a copy is copied to itself.
-- Assumes nothing.
use mathlib.Core.Path.{◌≡◌, refl, ap, ◌∙◌}
use mathlib.Core.Bool.{false}
use mathlib.Core.List.{List, [], ◌∷◌}
use Rattle.records.specs.Record.{number, string, selector, range, subquery, at, offset, unary, paren, Record}
use Rattle.records.specs.Record.{leaf, wrapper, binary, aggregate, call}
use Rattle.ast.specs.CheckAst.{checked_modifier}
use Rattle.copy.specs.Copy.{copy_record, copy_records}
use Rattle.copy.specs.Settled.{start_with}
use Rattle.copy.proofs.FrontLaws.{copy_number-by, copy_number-alone, copy_offset-by, copy_offset-alone}
use Rattle.copy.proofs.CopyRecordsLaws.{checked_modifier-once}

-- a record right before these
abbrev pub Plain : Record → List Record → Type 0
Plain (leaf (number l)) rs = start_with 7 rs ≡ false
Plain (leaf (string t)) rs = Unit {0}
Plain (leaf (selector s)) rs = Unit {0}
Plain (wrapper (range n)) rs = Unit {0}
Plain (wrapper (subquery r s)) rs = Unit {0}
Plain (wrapper (at a)) rs = Unit {0}
Plain (wrapper (offset o)) rs = start_with 5 rs ≡ false
Plain (wrapper unary) rs = Unit {0}
Plain (wrapper paren) rs = Unit {0}
Plain (binary c m) rs = checked_modifier c m ≡ m
Plain (aggregate c m n) rs = Unit {0}
Plain (call f n) rs = Unit {0}

abbrev pub AllPlain : List Record → Type 0
AllPlain [] = Unit {0}
AllPlain (r ∷ rs) = Plain r rs × AllPlain rs

-- ## Plain records are their own copy

plain_copied : (r : Record) (rs : List Record) → Plain r rs → copy_record r rs ≡ r ∷ rs
plain_copied (leaf (number l)) rs h = copy_number-alone l rs h
plain_copied (leaf (string t)) rs h = refl
plain_copied (leaf (selector s)) rs h = refl
plain_copied (wrapper (range n)) rs h = refl
plain_copied (wrapper (subquery r s)) rs h = refl
plain_copied (wrapper (at a)) rs h = refl
plain_copied (wrapper (offset o)) rs h = copy_offset-alone o rs h
plain_copied (wrapper unary) rs h = refl
plain_copied (wrapper paren) rs h = refl
plain_copied (binary c m) rs h = ap {B = List Record} (λ x. binary c x ∷ rs) h
plain_copied (aggregate c m n) rs h = refl
plain_copied (call f n) rs h = refl

pub plain-own : (rs : List Record) → AllPlain rs → copy_records rs ≡ rs
plain-own [] h = refl
plain-own (r ∷ rs) h = ap (copy_record r) (plain-own rs h.1) ∙ plain_copied r rs h.0

-- ## The records of a copy are plain

copy_record-plain : (r : Record) (rs : List Record) → AllPlain rs → AllPlain (copy_record r rs)
copy_record-plain (leaf (number l)) rs h =
    copy_number-by (λ l rs qs. AllPlain rs → AllPlain qs) (λ l rs other h. (other, h)) (λ l rs qs more h. more h.1) l rs h
copy_record-plain (leaf (string t)) rs h = (tt, h)
copy_record-plain (leaf (selector s)) rs h = (tt, h)
copy_record-plain (wrapper (range n)) rs h = (tt, h)
copy_record-plain (wrapper (subquery r s)) rs h = (tt, h)
copy_record-plain (wrapper (at a)) rs h = (tt, h)
copy_record-plain (wrapper (offset o)) rs h =
    copy_offset-by o (λ rs qs. AllPlain rs → AllPlain qs) (λ rs other h. (other, h)) (λ a rs qs more h. (tt, more h.1)) rs h
copy_record-plain (wrapper unary) rs h = (tt, h)
copy_record-plain (wrapper paren) rs h = (tt, h)
copy_record-plain (binary c m) rs h = (checked_modifier-once c m, h)
copy_record-plain (aggregate c m n) rs h = (tt, h)
copy_record-plain (call f n) rs h = (tt, h)

pub copy_records-plain : (rs : List Record) → AllPlain (copy_records rs)
copy_records-plain [] = tt
copy_records-plain (r ∷ rs) = copy_record-plain r (copy_records rs) (copy_records-plain rs)

-- a copy is copied to itself
pub copy_records-once : (rs : List Record) → copy_records (copy_records rs) ≡ copy_records rs
copy_records-once rs = plain-own (copy_records rs) (copy_records-plain rs)
