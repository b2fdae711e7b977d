-- What a call did on a page, told by computation: the tests of the tables of pages.
use Rattle.std.specs.Prelude.{ℕ, Bool, false, ◌&&◌, List, ◌++◌, replicate, length, eqb}
use Rattle.page.specs.Bytes.{equal as equal_bytes}
use Rattle.records.specs.Kind.{Kind, equal_kind}
use Rattle.records.specs.Outcome.{Outcome, answer, refusal}
use Rattle.outcomes.specs.Calls.{Called}

-- a buffer with bytes of its own
abbrev pub lent : ℕ → List ℕ
lent size = replicate size 7

-- a call with so large a buffer answered this kind, and these bytes stand at its start, with the buffer's own after them
abbrev pub writes : ℕ → Kind → List ℕ → Called → Bool
writes size k t c = answers c.outcome && equal_bytes (c.buffer ++ lent (length t)) (t ++ lent size)
  where
    answers : Outcome → Bool
    answers (answer j n) = equal_kind k j && eqb n (length t)
    answers (refusal n i) = false

-- refused with this number at this record
abbrev pub is_refusal : ℕ → ℕ → Outcome → Bool
is_refusal n i (answer k m) = false
is_refusal n i (refusal m j) = eqb n m && eqb i j
