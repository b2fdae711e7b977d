-- The working-out of chosen pages, computed: a statement cannot be weakened by changing what the working-out sees. Each
-- row has the PromQL of its page, what is seen of each record, and the kinds of the values left, the last one first.
use Rattle.std.specs.Prelude.{ℕ, Bool, true, false, ◌&&◌, List, [], ◌∷◌, ◌++◌, map, replicate, T, eqb}
use Rattle.std.proofs.Math.Option.{Option}
use Rattle.page.specs.Bytes.{pick, hex, all, any}
use Rattle.page.specs.Bytes.{equal as equal_numbers}
use Rattle.records.specs.Kind.{Kind, vector, scalar, matrix, string, kind_number}
use Rattle.records.specs.Literal.{Literal}
use Rattle.records.specs.Record.{Record, read_record, read_page}
use Rattle.working_out.specs.WorkingOut.{Step, Finish, left as left_values, ended as ended_there, WorkedOut, work_page}
use Rattle.working_out.specs.WorkingOut.{is_set_aside, is_set_aside_literal}
use Rattle.working_out.specs.Demand3.{kind_refusals, documented_refusals}

-- what is seen of a record: set aside or not, as asked or not
data Mark : Type 0 where
  fine forbidden aside aside_forbidden : Mark

data End : Type 0 where
  left : List Kind → End
  ended : End

record TraceRow : Type 0 where
  page : List ℕ
  marks : List Mark
  finish : End

abbrev row : List ℕ → List Mark → End → TraceRow
row p m f = record { page = p; marks = m; finish = f }

abbrev rows : List TraceRow
rows =
    -- `limitk("a", up)`
    row (hex "010161 0202757000 0a1d0002") (fine ∷ fine ∷ aside_forbidden ∷ []) (left (vector ∷ []))
    -- `limitk(5, up)`
    ∷ row (hex "000005 0202757000 0a1d0002") (fine ∷ fine ∷ fine ∷ []) (left (vector ∷ []))
    -- `limit_ratio("a", up)`
    ∷ row (hex "010161 0202757000 0a1e0002") (fine ∷ fine ∷ aside_forbidden ∷ []) (left (vector ∷ []))
    -- `limit_ratio(5, up)`
    ∷ row (hex "000005 0202757000 0a1e0002") (fine ∷ fine ∷ fine ∷ []) (left (vector ∷ []))
    -- `limitk()`
    ∷ row (hex "0a1d0000") (fine ∷ []) (ended)
    -- `limitk(up)`
    ∷ row (hex "0202757000 0a1d0001") (fine ∷ aside ∷ []) (left (vector ∷ []))
    -- `topk(5, up)`
    ∷ row (hex "000005 0202757000 0a1c0002") (fine ∷ fine ∷ fine ∷ []) (left (vector ∷ []))
    -- `topk(up, 5): the operands in the other order`
    ∷ row (hex "0202757000 000005 0a1c0002") (fine ∷ fine ∷ forbidden ∷ []) (left (vector ∷ []))
    -- `count_values("a", up)`
    ∷ row (hex "010161 0202757000 0a140002") (fine ∷ fine ∷ fine ∷ []) (left (vector ∷ []))
    -- `count_values(5, up)`
    ∷ row (hex "000005 0202757000 0a140002") (fine ∷ fine ∷ forbidden ∷ []) (left (vector ∷ []))
    -- `sum(up, up, 5): only the last argument is asked`
    ∷ row (hex "0202757000 0202757000 000005 0a1b0003") (fine ∷ fine ∷ fine ∷ forbidden ∷ []) (left (vector ∷ []))
    -- `sum("a", 5, up, up)`
    ∷ row (hex "010161 000005 0202757000 0202757000 0a1b0004") (fine ∷ fine ∷ fine ∷ fine ∷ fine ∷ []) (left (vector ∷ []))
    -- `sum()`
    ∷ row (hex "0a1b0000") (fine ∷ []) (ended)
    -- `"a" + 1`
    ∷ row (hex "010161 000001 090100") (fine ∷ fine ∷ forbidden ∷ []) (left (vector ∷ []))
    -- `1 > 2, compared without bool`
    ∷ row (hex "000001 000002 090500") (fine ∷ fine ∷ forbidden ∷ []) (left (scalar ∷ []))
    -- `1 > bool 2`
    ∷ row (hex "000001 000002 0905010100000000") (fine ∷ fine ∷ fine ∷ []) (left (scalar ∷ []))
    -- `1 > up`
    ∷ row (hex "000001 0202757000 090500") (fine ∷ fine ∷ fine ∷ []) (left (vector ∷ []))
    -- `1 and up`
    ∷ row (hex "000001 0202757000 090600") (fine ∷ fine ∷ forbidden ∷ []) (left (vector ∷ []))
    -- `up limitk up: the code of an aggregator in a binary`
    ∷ row (hex "0202757000 0202757000 091d00") (fine ∷ fine ∷ fine ∷ []) (ended)
    -- `+(up): the code of an operator in an aggregate`
    ∷ row (hex "0202757000 0a010001") (fine ∷ fine ∷ []) (ended)
    -- `ln(0), no declared kinds and an extra: out of place, and set aside`
    ∷ row (hex "000000 0b026c6e00010001") (fine ∷ aside ∷ []) (ended)
    -- `ln(0)`
    ∷ row (hex "000000 0b026c6e0100000001") (fine ∷ aside_forbidden ∷ []) (left (vector ∷ []))
    -- `ln((0)): no bare number`
    ∷ row (hex "000000 08 0b026c6e0100000001") (fine ∷ fine ∷ forbidden ∷ []) (left (vector ∷ []))
    -- `log2(0)`
    ∷ row (hex "000000 0b046c6f67320100000001") (fine ∷ aside_forbidden ∷ []) (left (vector ∷ []))
    -- `ln(-5)`
    ∷ row (hex "000005 07 0b026c6e0100000001") (fine ∷ fine ∷ aside_forbidden ∷ []) (left (vector ∷ []))
    -- `ln(-(-5))`
    ∷ row (hex "000005 07 07 0b026c6e0100000001") (fine ∷ fine ∷ fine ∷ forbidden ∷ []) (left (vector ∷ []))
    -- `exp(-Inf), Inf negated`
    ∷ row (hex "0003 07 0b036578700100000001") (fine ∷ fine ∷ aside_forbidden ∷ []) (left (vector ∷ []))
    -- `exp(0)`
    ∷ row (hex "000000 0b036578700100000001") (fine ∷ forbidden ∷ []) (left (vector ∷ []))
    -- `f(up, 1, 2), declared vector and scalar, the last one repeating`
    ∷ row (hex "0202757000 000001 000002 0b0166020001010303") (fine ∷ fine ∷ fine ∷ fine ∷ []) (left (string ∷ []))
    -- `f(up, 1, up), declared vector and scalar`
    ∷ row (hex "0202757000 000001 0202757000 0b0166020001010303") (fine ∷ fine ∷ fine ∷ forbidden ∷ []) (left (string ∷ []))
    -- `f(1, 2, 3, 4)`, declared scalar, the last one repeating
    ∷ row (hex "000001 000002 000003 000004 0b01660101010004") (fine ∷ fine ∷ fine ∷ fine ∷ fine ∷ []) (left (vector ∷ []))
    -- `up{a="x"}`
    ∷ row (hex "02027570010001610178") (fine ∷ []) (left (vector ∷ []))
    -- `-"a", then a subquery of it: the working-out goes on`
    ∷ row (hex "010161 07 040100") (fine ∷ forbidden ∷ forbidden ∷ []) (left (matrix ∷ []))
    -- `up[1ms] offset 1ms, in brackets`
    ∷ row (hex "0202757000 0301 060001 08") (fine ∷ fine ∷ fine ∷ fine ∷ []) (left (matrix ∷ []))
    -- a unary on nothing
    ∷ row (hex "07") [] (ended)
    -- `1 and then 2: two values left`
    ∷ row (hex "000001 000002") (fine ∷ fine ∷ []) (left (scalar ∷ scalar ∷ []))
    -- a byte that is no record
    ∷ row (hex "63") [] (ended)
    -- the empty page
    ∷ row ([]) [] (left ([]))
    -- `up` in 255 brackets: 256 records; and one more
    ∷ row (hex "0202757000" ++ replicate 255 0x08) (replicate 256 fine) (left (vector ∷ []))
    ∷ row (hex "0202757000" ++ replicate 256 0x08) (replicate 256 fine) (ended)
    ∷ []

abbrev mark_number : Mark → ℕ
mark_number fine = 3
mark_number forbidden = 2
mark_number aside = 1
mark_number aside_forbidden = 0

abbrev step_number : Step → ℕ
step_number s = pick s.not_set_aside (pick s.as_asked 3 2) (pick s.as_asked 1 0)

abbrev finishes : End → Finish (Unit {0}) → Bool
finishes (left ks) (left_values vs) = equal_numbers (map kind_number ks) (map (λ v. kind_number v.kind) vs)
finishes (left ks) ended_there = false
finishes ended (left_values vs) = false
finishes ended ended_there = true

-- what is set aside is a parameter
abbrev holds : (Record → List Kind → List (Option Literal) → Bool) → TraceRow → Bool
holds is_aside r =
    let worked : WorkedOut (Unit {0}) = work_page is_aside (λ i. tt) (read_page r.page) in
    equal_numbers (map mark_number r.marks) (map step_number worked.steps) && finishes r.finish worked.finish

traces : T (all (holds is_set_aside) rows)
unfolding read_record read_page
traces = tt

-- ## Where the literal exception alone is set aside

abbrev documented_rows : List TraceRow
documented_rows =
    -- `limitk("a", up)`
    row (hex "010161 0202757000 0a1d0002") (fine ∷ fine ∷ forbidden ∷ []) (left (vector ∷ []))
    -- `limitk(1, up)`
    ∷ row (hex "000001 0202757000 0a1d0002") (fine ∷ fine ∷ fine ∷ []) (left (vector ∷ []))
    -- `limit_ratio("a", up)`
    ∷ row (hex "010161 0202757000 0a1e0002") (fine ∷ fine ∷ forbidden ∷ []) (left (vector ∷ []))
    -- `limit_ratio(NaN, up)`
    ∷ row (hex "0002 0202757000 0a1e0002") (fine ∷ fine ∷ fine ∷ []) (left (vector ∷ []))
    -- `limitk(up)`: of one argument only a vector is asked
    ∷ row (hex "0202757000 0a1d0001") (fine ∷ fine ∷ []) (left (vector ∷ []))
    -- `limitk("a", limitk("b", up))`
    ∷ row (hex "010161 010162 0202757000 0a1d0002 0a1d0002") (fine ∷ fine ∷ fine ∷ forbidden ∷ forbidden ∷ []) (left (vector ∷ []))
    -- `limitk(1, limitk("a", up))`
    ∷ row (hex "000001 010161 0202757000 0a1d0002 0a1d0002") (fine ∷ fine ∷ fine ∷ forbidden ∷ fine ∷ []) (left (vector ∷ []))
    -- `limitk(ln(0), up)`: the call is set aside still, and gives a vector
    ∷ row (hex "000000 0b026c6e0100000001 0202757000 0a1d0002") (fine ∷ aside_forbidden ∷ fine ∷ forbidden ∷ []) (left (vector ∷ []))
    -- `limitk("a", ln(0))`
    ∷ row (hex "010161 000000 0b026c6e0100000001 0a1d0002") (fine ∷ fine ∷ aside_forbidden ∷ forbidden ∷ []) (left (vector ∷ []))
    ∷ []

documented_traces : T (all (holds is_set_aside_literal) documented_rows)
unfolding read_record read_page
documented_traces = tt

-- ## The kind refusals, over 1 to 42

abbrev up_to42 : List ℕ
up_to42 =
    1 ∷ 2 ∷ 3 ∷ 4 ∷ 5 ∷ 6 ∷ 7 ∷ 8 ∷ 9 ∷ 10 ∷ 11 ∷ 12 ∷ 13 ∷ 14 ∷ 15 ∷ 16 ∷ 17
    ∷ 18 ∷ 19 ∷ 20 ∷ 21 ∷ 22 ∷ 23 ∷ 24 ∷ 25 ∷ 26 ∷ 27 ∷ 28 ∷ 29 ∷ 30 ∷ 31 ∷ 32 ∷ 33 ∷ 34
    ∷ 35 ∷ 36 ∷ 37 ∷ 38 ∷ 39 ∷ 40 ∷ 41 ∷ 42 ∷ []

-- 1 at each number of the list
abbrev marked : List ℕ → List ℕ
marked for_kinds = map (λ n. pick (any (eqb n) for_kinds) 1 0) up_to42

abbrev up_to41_marked : List ℕ
up_to41_marked =
    -- 1 to 17: 6 alone
    0 ∷ 0 ∷ 0 ∷ 0 ∷ 0 ∷ 1 ∷ 0 ∷ 0 ∷ 0 ∷ 0 ∷ 0 ∷ 0 ∷ 0 ∷ 0 ∷ 0 ∷ 0 ∷ 0
    -- 18 to 34: 18, 20, 22, 25, 30, 31, 32
    ∷ 1 ∷ 0 ∷ 1 ∷ 0 ∷ 1 ∷ 0 ∷ 0 ∷ 1 ∷ 0 ∷ 0 ∷ 0 ∷ 0 ∷ 1 ∷ 1 ∷ 1 ∷ 0 ∷ 0
    -- 35 to 41: none
    ∷ 0 ∷ 0 ∷ 0 ∷ 0 ∷ 0 ∷ 0 ∷ 0 ∷ []

refusals_for_kinds : T (equal_numbers (marked kind_refusals) (up_to41_marked ++ 0 ∷ []))
refusals_for_kinds = tt

-- 42 is the added check's alone
documented_for_kinds : T (equal_numbers (marked documented_refusals) (up_to41_marked ++ 1 ∷ []))
documented_for_kinds = tt
