-- A printed matcher's text in the pieces that are written, and in the order of others. Assumes nothing.
use Prim.Native.Nat.{ℕ}
use mathlib.Core.List.{List, [], ◌∷◌, ◌++◌, append-nil}
use mathlib.Core.Path.{◌≡◌, sym, ap}
use Rattle.base.specs.Splice.{join}
use Rattle.leaves.specs.Escape.{quote}
use Rattle.page.specs.Answers.{span_on}
use Rattle.records.specs.Answers.{op_of}
use Rattle.label.specs.declared.printed.Printed.{Printed}
use Rattle.label.specs.declared.parts.Parts.{Parts}
use Rattle.label.specs.Label.{display_label, match_op_token}
use Rattle.label.specs.Symbols.{matcher_text}
use Rattle.label.specs.Printed.{printed_text, parts_text, name_of, value_of}

pub printed_text-pieces : (page : List ℕ) (p : Printed)
    → printed_text page p ≡ join (display_label (span_on page (name_of p)) ∷ match_op_token (op_of p.op) ∷ quote (span_on page (value_of p)) ∷ [])
unfolding printed_text matcher_text join
printed_text-pieces page p =
    ap (λ (l : List ℕ). display_label (span_on page (name_of p)) ++ (match_op_token (op_of p.op) ++ l))
    (sym (append-nil (quote (span_on page (value_of p)))))

-- the parts that `parts` answers have the same text
pub parts_text-printed : (page : List ℕ) (p : Printed) (a : Parts) → a.name.now ≡ span_on page (name_of p) → a.value.now ≡ span_on page (value_of p)
    → a.op ≡ p.op → parts_text a ≡ printed_text page p
unfolding printed_text
parts_text-printed page p a name value op = rw (name, value, op)
