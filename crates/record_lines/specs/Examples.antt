-- A record of each of the twelve kinds and its line, as the oracle prints it of the same page (`oracle show`), proved
-- together by one computed test; and lines that the contract rules out.
use Rattle.std.specs.Prelude.{ℕ, Bool, true, false, ◌&&◌, List, [], ◌∷◌, T, length, replicate, Some, None}
use Prim.Native.String.{String}
use Rattle.std.proofs.Common.{subst}
use Rattle.base.specs.Splice.{splice, join}
use Rattle.page.specs.Bytes.{bytes, hex, all, equal}
use Rattle.page.specs.Read.{bad_field}
use Rattle.page.specs.Listed.{listed}
use Rattle.page.specs.declared.list.List as page-list
use Rattle.page.specs.declared.text.Span.{Span}
use Rattle.leaves.specs.Decimal.{digits, decimal}
use Rattle.records.specs.declared.kind.Kind.TheVariants.{Scalar}
use Rattle.records.specs.declared.literal.Literal.TheVariants.{Whole, Negative, Fraction, NegativeFraction}
use Rattle.records.specs.declared.modifier.LabelModifier.TheVariants.{Include, Exclude}
use Rattle.records.specs.declared.modifier.Cardinality.TheVariants.{OneToMany}
use Rattle.records.specs.declared.time.AtModifier.TheVariants.{Before}
use Rattle.records.specs.declared.time.Offset.TheVariants.{Neg}
use Rattle.records.specs.declared.signature.Variadic.TheVariants.{UpTo}
use Rattle.reader.specs.declared.Record.{Record}
use Rattle.reader.specs.declared.Record.TheVariants as code
use Rattle.record_lines.specs.Line.{Line, put, put_all, Puts, spaced}
use Rattle.record_lines.specs.Numbers.{read_label_numbers, read_pattern_flag_numbers, read_matcher_texts, read_matcher_numbers, read_kind_numbers, list_numbers}
use Rattle.record_lines.specs.Lines.{record_line, fault_line, end_line}

-- a page with one record, what is read of it, the position after it, and its line
record Example : Type 0 where
  page : List ℕ
  shown : Record
  next : ℕ
  line : String

abbrev example : List ℕ → Record → ℕ → String → Example
example p r n l = record { page = p; shown = r; next = n; line = l }

abbrev span : ℕ → ℕ → Span
span start end = record { start = start; end = end }

abbrev list : ℕ → ℕ → page-list.List
list start count = record { start = start; count = count }

-- a selector without a name, and two matchers: `a!="b"` and `a!~"b"`
abbrev two_matchers : List ℕ
two_matchers = hex "0200020101610162030161016201"

abbrev selector : Record
selector = code.Selector (record { name = span 2 2; matchers = list 3 2; facts = record { named = false; empty = false; wrong_flag = false } })

-- on (a), group_right (), a left fill of 5
abbrev modified : Record
modified =
    code.Binary 1 (Some (record {
      returns_bool = true;
      matching = Some (Include (list 6 1));
      card = OneToMany (list 10 0);
      lhs = Some (Whole 5);
      rhs = None;
    }))

-- vector and scalar, at most 3 more, a scalar
abbrev call : Record
call = code.Call (record { name = span 2 4; kinds = list 5 2; variadic = UpTo 3; result = Scalar }) 2

abbrev examples : List Example
examples =
    example (hex "000105") (code.Number (Negative 5)) 3 "3 0 1 5\n"
    -- 0.95 and -0.000001: form, digits, places
    ∷ example (hex "00055f02") (code.Number (Fraction 2 95)) 4 "4 0 5 95 2\n"
    ∷ example (hex "00060106") (code.Number (NegativeFraction 6 1)) 4 "4 0 6 1 6\n"
    ∷ example (hex "010161") (code.String (span 2 3)) 3 "3 1 2 1\n"
    ∷ example two_matchers selector 14 "14 2 2 0 2 1 5 1 7 1 3 10 1 12 1 1\n"
    ∷ example (hex "0305") (code.Range 5) 2 "2 3 5\n"
    ∷ example (hex "04050107") (code.Subquery 5 (Some 7)) 4 "4 4 5 1 7\n"
    ∷ example (hex "050307") (code.At (Before 7)) 3 "3 5 3 7\n"
    ∷ example (hex "060109") (code.Offset (Neg 9)) 3 "3 6 1 9\n"
    ∷ example (hex "07") code.Unary 1 "1 7\n"
    ∷ example (hex "08") code.Paren 1 "1 8\n"
    ∷ example (hex "0901010101010161020001000500") modified 14 "14 9 1 1 1 1 1 7 1 2 0 1 0 5 0\n"
    ∷ example (hex "0a1b02020161016201") (code.Aggregate 27 (Some (Exclude (list 4 2))) 1) 9 "9 10 27 2 2 5 1 7 1 1\n"
    ∷ example (hex "0b026c6e02000102030102") call 11 "11 11 2 2 2 0 1 2 3 1 2\n"
    ∷ []

abbrev holds : Example → Bool
holds e = equal (join (record_line e.page e.shown e.next)) (bytes e.line)

twelve_kinds : T (all holds examples && equal (join (fault_line bad_field 1)) (bytes "fault 1 at 1\n") && equal (join (end_line 12)) (bytes "end 12\n"))
unfolding join listed digits decimal spaced read_label_numbers read_pattern_flag_numbers read_matcher_texts read_matcher_numbers read_kind_numbers list_numbers
twelve_kinds = tt

-- ## Lines that the contract of `record_line` rules out

abbrev RuledOut : List ℕ → Record → ℕ → String → Type 0
RuledOut page r next line = Puts (replicate (length (bytes line)) 0) 0 (record_line page r next) (bytes line) (length (bytes line)) → ⊥

-- the end of a text in the place of its size
end_for_size : RuledOut (hex "010161") (code.String (span 2 3)) 3 "3 1 2 3\n"
unfolding splice put put_all digits decimal spaced
end_for_size p = subst (λ (l : Line). T (equal l.buffer (bytes "3 1 2 1\n"))) p.is tt

-- the flag of `!~` shown as 0
flag_forgotten : RuledOut two_matchers selector 14 "14 2 2 0 2 1 5 1 7 1 3 10 1 12 1 0\n"
unfolding splice put put_all join listed digits decimal spaced read_label_numbers read_pattern_flag_numbers read_matcher_texts read_matcher_numbers list_numbers
flag_forgotten p = subst (λ (l : Line). T (equal l.buffer (bytes "14 2 2 0 2 1 5 1 7 1 3 10 1 12 1 1\n"))) p.is tt
