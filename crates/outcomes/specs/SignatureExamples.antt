-- Signatures that the call writes, names that it refuses, and answers that it does not give, proved together by one
-- computed test.
use Rattle.std.specs.Prelude.{ℕ, ◌+◌, ◌-◌, Bool, not, ◌&&◌, List, [], ◌∷◌, length, T}
use Prim.Native.String.{String}
use Rattle.page.specs.Bytes.{bytes, hex, all}
use Rattle.page.specs.Bytes.{equal as equal_bytes}
use Rattle.records.specs.Kind.{Kind, vector, scalar}
use Rattle.functions.specs.Functions.{functions}
use Rattle.functions.specs.Lookup.{lookup}
use Rattle.outcomes.specs.Calls.{Called}
use Rattle.outcomes.specs.Signature.{signature}
use Rattle.outcomes.specs.Computed.{lent, writes, is_refusal}

abbrev asked : String → ℕ → Called
asked name size = signature (bytes name) (lent size)

-- refused with this number at 0 with so large a buffer, which stays as it was
abbrev refuses : ℕ → ℕ → Called → Bool
refuses n size c = is_refusal n 0 c.outcome && equal_bytes c.buffer (lent size)

-- written to a larger buffer and to one that it just fills; one byte less is too short
abbrev signs : String → Kind → List ℕ → Bool
signs name k t =
    writes (length t + 5) k t (asked name (length t + 5))
    && writes (length t) k t (asked name (length t))
    && refuses 5 (length t - 1) (asked name (length t - 1))

-- with room and without: 37 comes before 5
abbrev is_unknown : String → Bool
is_unknown name = refuses 37 8 (asked name 8) && refuses 37 0 (asked name 0)

examples : T (
    signs "abs" vector (hex "01 00 00 00")
    -- an upper extra of 1
    && signs "round" vector (hex "02 0001 0201 00")
    -- the longest signature
    && signs "label_replace" vector (hex "05 0003030303 00 00")
    -- no kinds, and a scalar
    && signs "time" scalar (hex "00 00 01")
    -- a capital, no letters, an aggregator, the beginning of a name, a name with a line feed
    && all is_unknown ("Abs" ∷ "" ∷ "sum" ∷ "ab" ∷ "abs\n" ∷ [])
    -- not the result kind in front, and no signature for an aggregator
    && not (signs "time" scalar (hex "01 00 00"))
    && not (signs "sum" vector (hex "01 00 00 00"))
    )
unfolding functions lookup
examples = tt
