-- The copy record by record, as the code makes it: what the record at the front of some bytes becomes, and how many
-- records of the page that takes. `Copy.antt` defines the copy; that it is these one after the other, but for an offset
-- right before an @, is proved in proofs/StartsLaws and proofs/PairLaws.
use Rattle.std.specs.Prelude.{ℕ, zero, suc, Bool, false, ◌&&◌, List, [], ◌∷◌, eqb}
use Rattle.page.specs.Bytes.{pick}
use Rattle.page.specs.Read.{Read, refused, got}
use Rattle.records.specs.Literal.{Literal, negate}
use Rattle.records.specs.Record.{Leaf, number, string, selector, Record, leaf, wrapper, binary, aggregate, call, read_record, write_record, record_kind}
use Rattle.ast.specs.CheckAst.{checked_modifier}

-- how many unary records stand in front: each is the byte 7
abbrev pub unaries : List ℕ → ℕ
unaries [] = 0
unaries (b ∷ bs) =
    let more : ℕ = suc (unaries bs) in
    pick (eqb b 7) more 0

-- negated so many times
abbrev pub negated : ℕ → Literal → Literal
negated zero l = l
negated (suc k) l = negated k (negate l)

-- a record with these bytes after it: a number takes the unary records there in, a set operator has its changed
-- modifier
abbrev pub copied_leaf : Leaf → List ℕ → Leaf
copied_leaf (number l) rest = number (negated (unaries rest) l)
copied_leaf (string t) rest = string t
copied_leaf (selector s) rest = selector s

abbrev pub copied : Record → List ℕ → Record
copied (leaf l) rest = leaf (copied_leaf l rest)
copied (wrapper w) rest = wrapper w
copied (binary c m) rest = binary c (checked_modifier c m)
copied (aggregate c m n) rest = aggregate c m n
copied (call f n) rest = call f n

-- how many records after it a record takes in
abbrev pub absorbed_by_leaf : Leaf → List ℕ → ℕ
absorbed_by_leaf (number l) rest = unaries rest
absorbed_by_leaf (string t) rest = 0
absorbed_by_leaf (selector s) rest = 0

abbrev pub absorbed : Record → List ℕ → ℕ
absorbed (leaf l) rest = absorbed_by_leaf l rest
absorbed (wrapper w) rest = 0
absorbed (binary c m) rest = 0
absorbed (aggregate c m n) rest = 0
absorbed (call f n) rest = 0

-- what the record that was read becomes
abbrev pub copy_of_read : Read Record → List ℕ
copy_of_read (refused f) = []
copy_of_read (got r rest) = write_record (copied r rest)

unfoldable pub record_copy : List ℕ → List ℕ
record_copy s = copy_of_read (read_record s)

abbrev pub absorbed_read : Read Record → ℕ
absorbed_read (refused f) = 0
absorbed_read (got r rest) = absorbed r rest

unfoldable pub absorbed_of : List ℕ → ℕ
absorbed_of s = absorbed_read (read_record s)

-- ## An offset right before an @

-- the first of these bytes is this one: a record's first byte is its kind
abbrev pub first_is : ℕ → List ℕ → Bool
first_is k [] = false
first_is k (b ∷ bs) = eqb b k

-- an offset, kind 6, and an @, kind 5, right behind it: the two stand in the copy in the other order
abbrev pub before_at_read : Read Record → Bool
before_at_read (refused f) = false
before_at_read (got r rest) = eqb (record_kind r) 6 && first_is 5 rest

unfoldable pub is_before_at : List ℕ → Bool
is_before_at s = before_at_read (read_record s)

-- ## In bytes

-- the form of the negated number (document 01, 'The page', kind 0; document 02, No. 5): 0 whole and 1 negative whole, 3
-- Inf and 4 -Inf, 5 and 6 fractions, plus and minus; NaN stays
abbrev pub negated_form : ℕ → ℕ
negated_form f = pick (eqb f 0) 1 (pick (eqb f 1) 0 (pick (eqb f 3) 4 (pick (eqb f 4) 3 (pick (eqb f 5) 6 (pick (eqb f 6) 5 f)))))

-- the form of a number with these bytes after it
abbrev pub form_after : ℕ → List ℕ → ℕ
form_after f [] = f
form_after f (b ∷ bs) =
    let more : ℕ = form_after (negated_form f) bs in
    pick (eqb b 7) more f

-- the form of a set operator's cardinality (kind 9): 0 one-to-one becomes 3 many-to-many
abbrev pub set_cardinality : ℕ → ℕ
set_cardinality f = pick (eqb f 0) 3 f

-- an absent modifier written out for a set operator: present, no bool, no matching, many-to-many, no fills
abbrev pub set_modifier : List ℕ
set_modifier = 1 ∷ 0 ∷ 0 ∷ 3 ∷ 0 ∷ 0 ∷ []
