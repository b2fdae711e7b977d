-- What is read after the kind of a node's foot, field by field. The fields that are not asked for are not read: the
-- record of the tables has them (`readable`).
use Prim.Native.Nat.{ℕ, suc, ◌+◌, ◌<◌}
use native.Mathlib.Omega.{arith}
use mathlib.Core.Path.{◌≡◌, refl, sym, ap, subst, ◌∙◌}
use mathlib.Core.List.{List}
use mathlib.Core.Option.{Option, none, some}
use lib.ListN.{length, drop, get_or}
use Prim.{tt}
use Rattle.page.specs.Read.{FieldFault, Read, refused, got, Reader, and_then, ◌>>=◌, return, repeat}
use Rattle.page.specs.Number.{read_number}
use Rattle.page.specs.Text.{Text, read_any_text, read_metric_name, read_function_name, read_count, read_list}
use Rattle.page.specs.Listed.{listed, AllRead}
use Rattle.page.specs.Answers.{span_on}
use Rattle.page.specs.declared.text.Span.{Span}
use Rattle.page.proofs.ListLaws.{read-listed, read_length}
use Rattle.records.specs.Kind.{Kind}
use Rattle.records.specs.Literal as literal
use Rattle.records.specs.Field.{read_kind, read_option}
use Rattle.records.specs.Matcher as matcher
use Rattle.records.specs.Modifier as modifier
use Rattle.records.specs.Signature as signature
use Rattle.records.specs.Allowed.{IsOptionOf, IsBinModifier}
use Rattle.records.specs.Record.{string, selector, subquery, Record, leaf, wrapper, binary, aggregate, call, read_code, read_record}
use Rattle.float.specs.Exact.{ModifierExact}
use Rattle.ast.specs.Expr.{scalar_value}
use Rattle.ast.specs.Tables.{tree_at}
use Rattle.text.specs.LaidOut.{Reads}
use Rattle.text.proofs.EntryLaws.{allowed}
use Rattle.fields.specs.Fields.{CallAt, HasCode, AggregateAt}
use Rattle.view.specs.View.{Starts, FootAt, NodeAt}
use Rattle.view.specs.declared.Foot.{Foot}
use Rattle.view.specs.declared.Foot.TheVariants as foot
use Rattle.view.specs.declared.Node.{Node}
use Rattle.view.proofs.KindLaws.{unreadable, fields, readable, one_field, first_field, no_field}
use Rattle.view.proofs.ViewLaws.{number-value}
use Rattle.view.proofs.ChainedLaws.{chained-here}

-- the bytes of record i
abbrev record_at : List ℕ → List ℕ → ℕ → List ℕ
record_at page starts i = drop (get_or starts i 0) page

-- those after its kind
abbrev fields_at : List ℕ → List ℕ → ℕ → List ℕ
fields_at page starts i = drop (get_or starts i 0 + 1) page

module _ {page starts : List ℕ} {node : Node} (n : NodeAt page starts node) where
  pub base-known : Starts page starts (suc node.base)
  base-known = chained-here n.known n.chain

  pub base-inside : node.base < length starts
  base-inside = omega (arith, base-known.tables.few, base-known.tables.starts-size)

  foot-is : {f : Foot} → node.foot ≡ f → FootAt page starts node.base f
  foot-is e = subst (FootAt page starts node.base) e n.foot

  -- a refusal of a field would be one of the record
  never : {f : FieldFault} → read_record (record_at page starts node.base) ≡ refused f → ⊥
  never e = unreadable _ base-known (sym e)

  pub literal-there : node.foot ≡ foot.Number → scalar_value (tree_at page node.base) ≡ none → ⊥
  literal-there f v = differ (sym v ∙ number-value base-known (foot-is f).is)
    where
      differ : {l : literal.Literal} → none ≡ some l → ⊥
      differ h = let z : ◌≡◌ {A = ℕ} 0 1 = cc in omega arith

  module _ (f : node.foot ≡ foot.String) where
    pub string-reads : {t : Text} {rest : List ℕ} → got t rest ≡ read_any_text (fields_at page starts node.base)
        → Reads page starts node.base (leaf (string t))
    string-reads = one_field base-known (foot-is f) read_any_text (λ t. leaf (string t)) (λ s. refl)

    pub string-there : {x : FieldFault} → refused x ≡ read_any_text (fields_at page starts node.base) → ⊥
    string-there = no_field base-known (foot-is f) read_any_text (λ t. return (leaf (string t))) (λ s. refl)

  module _ (f : node.foot ≡ foot.Selector) where
    abbrev selector_more : Text → Reader Record
    selector_more t = read_list matcher.read_matcher >>= λ ms. return (leaf (selector (record { name = t; matchers = ms })))

    selector-fields : {t : Text} {r : List ℕ} {m : Read ℕ} → got t r ≡ read_metric_name (fields_at page starts node.base) → m ≡ read_count r
        → read_record (record_at page starts node.base)
        ≡ and_then (and_then m (λ k. repeat k matcher.read_matcher)) (λ ms. return (leaf (selector (record { name = t; matchers = ms }))))
    selector-fields {t} e h =
        first_field base-known (foot-is f) read_metric_name selector_more (λ s. refl) e
        ∙ ap (λ (m : Read ℕ). and_then (and_then m (λ k. repeat k matcher.read_matcher))
        (λ ms. return (leaf (selector (record { name = t; matchers = ms }))))) (sym h)

    pub selector-reads : {t : Text} {r r' : List ℕ} {count : ℕ} → got t r ≡ read_metric_name (fields_at page starts node.base) → got count r' ≡ read_count r
        → Reads page starts node.base (leaf (selector (record { name = t; matchers = listed matcher.read_matcher count r' })))
        × AllRead matcher.read_matcher count r'
    selector-reads {t} {r} {r'} {count} e h =
        readable base-known (repeat count matcher.read_matcher r')
        (λ ms. return (leaf (selector (record { name = t; matchers = ms })))) (selector-fields e h)
        (λ ms rest q is.
        let same = read-listed matcher.read_matcher count r' (sym q) in (
          record { rest = rest; reads = ap (λ (x : List matcher.Matcher). got (leaf (selector (record { name = t; matchers = x }))) rest) same ∙ sym is },
          ap length same ∙ read_length matcher.read_matcher count r' (sym q),
        ))

    pub name-there : {x : FieldFault} → refused x ≡ read_metric_name (fields_at page starts node.base) → ⊥
    name-there = no_field base-known (foot-is f) read_metric_name selector_more (λ s. refl)

    pub matchers-there : {t : Text} {r : List ℕ} {x : FieldFault} → got t r ≡ read_metric_name (fields_at page starts node.base) → refused x ≡ read_count r → ⊥
    matchers-there e h = never (selector-fields e h)

  module _ (f : node.foot ≡ foot.Subquery) where
    abbrev spacing_more : ℕ → Reader Record
    spacing_more d = read_option read_number >>= λ s. return (wrapper (subquery d s))

    spacing-fields : {d : ℕ} {r : List ℕ} {m : Read (Option ℕ)} → got d r ≡ read_number (fields_at page starts node.base) → m ≡ read_option read_number r
        → read_record (record_at page starts node.base) ≡ and_then m (λ s. return (wrapper (subquery d s)))
    spacing-fields {d} e h =
        first_field base-known (foot-is f) read_number spacing_more (λ s. refl) e
        ∙ ap (λ (m : Read (Option ℕ)). and_then m (λ s. return (wrapper (subquery d s)))) (sym h)

    pub spacing-reads : {d : ℕ} {r r' : List ℕ} {s : Option ℕ} → got d r ≡ read_number (fields_at page starts node.base) → got s r' ≡ read_option read_number r
        → Reads page starts node.base (wrapper (subquery d s))
    spacing-reads e h = record { rest = _; reads = sym (spacing-fields e h) }

    pub range-there : {x : FieldFault} → refused x ≡ read_number (fields_at page starts node.base) → ⊥
    range-there = no_field base-known (foot-is f) read_number spacing_more (λ s. refl)

    pub step-there : {d : ℕ} {r : List ℕ} {x : FieldFault} → got d r ≡ read_number (fields_at page starts node.base) → refused x ≡ read_option read_number r → ⊥
    step-there e h = never (spacing-fields e h)

  module _ (f : node.foot ≡ foot.Binary) where
    abbrev operator_more : ℕ → Reader Record
    operator_more c = read_option modifier.read_bin_modifier >>= λ m. return (binary c m)

    operator-fields : {c : ℕ} {r : List ℕ} {m : Read (Option modifier.BinModifier)} → got c r ≡ read_code (fields_at page starts node.base)
        → m ≡ read_option modifier.read_bin_modifier r → read_record (record_at page starts node.base) ≡ and_then m (λ o. return (binary c o))
    operator-fields {c} e h =
        first_field base-known (foot-is f) read_code operator_more (λ s. refl) e
        ∙ ap (λ (m : Read (Option modifier.BinModifier)). and_then m (λ o. return (binary c o))) (sym h)

    pub operator-reads : {c : ℕ} {r r' : List ℕ} {m : Option modifier.BinModifier} → got c r ≡ read_code (fields_at page starts node.base)
        → got m r' ≡ read_option modifier.read_bin_modifier r → Reads page starts node.base (binary c m)
    operator-reads e h = record { rest = _; reads = sym (operator-fields e h) }

    operator-there : {x : FieldFault} → refused x ≡ read_code (fields_at page starts node.base) → ⊥
    operator-there = no_field base-known (foot-is f) read_code operator_more (λ s. refl)

    pub modifier-there : {c : ℕ} {r : List ℕ} {x : FieldFault} → got c r ≡ read_code (fields_at page starts node.base)
        → refused x ≡ read_option modifier.read_bin_modifier r → ⊥
    modifier-there e h = never (operator-fields e h)

  module _ (f : node.foot ≡ foot.Aggregate) where
    abbrev aggregator_more : ℕ → Reader Record
    aggregator_more c = modifier.read_label_modifier >>= λ m. read_count >>= λ k. return (aggregate c m k)

    aggregator-fields : {c : ℕ} {r : List ℕ} {m : Read (Option modifier.LabelModifier)} → got c r ≡ read_code (fields_at page starts node.base)
        → m ≡ modifier.read_label_modifier r → read_record (record_at page starts node.base) ≡ and_then m (λ o. read_count >>= λ k. return (aggregate c o k))
    aggregator-fields {c} e h =
        first_field base-known (foot-is f) read_code aggregator_more (λ s. refl) e
        ∙ ap (λ (m : Read (Option modifier.LabelModifier)). and_then m (λ o. read_count >>= λ k. return (aggregate c o k))) (sym h)

    pub aggregator-reads : {c : ℕ} {r r' : List ℕ} {m : Option modifier.LabelModifier} → got c r ≡ read_code (fields_at page starts node.base)
        → got m r' ≡ modifier.read_label_modifier r → AggregateAt page starts node.base c m
    aggregator-reads {c} {r} {r'} {m} e h =
        readable base-known (read_count r') (λ k. return (aggregate c m k)) (aggregator-fields e h) (λ k rest q is.
        record { count = k; reads = record { rest = rest; reads = sym is } })

    aggregator-there : {x : FieldFault} → refused x ≡ read_code (fields_at page starts node.base) → ⊥
    aggregator-there = no_field base-known (foot-is f) read_code aggregator_more (λ s. refl)

    pub grouping-there : {c : ℕ} {r : List ℕ} {x : FieldFault} → got c r ≡ read_code (fields_at page starts node.base)
        → refused x ≡ modifier.read_label_modifier r → ⊥
    grouping-there e h = never (aggregator-fields e h)

  -- a node with a code has it
  pub code-there : HasCode node.foot → {x : FieldFault} → refused x ≡ read_code (fields_at page starts node.base) → ⊥
  code-there h e = by node.foot refl h
    where
      by : (f : Foot) → node.foot ≡ f → HasCode f → ⊥
      by foot.Number q k = k
      by foot.String q k = k
      by foot.Selector q k = k
      by foot.Subquery q k = k
      by foot.Unary q k = k
      by foot.Paren q k = k
      by foot.Binary q k = operator-there q e
      by foot.Aggregate q k = aggregator-there q e
      by foot.Call q k = k

  module _ (f : node.foot ≡ foot.Call) where
    abbrev function : Text → List Kind → signature.Variadic → Kind → signature.Function
    function t ks v k = record { name = t; arg_types = ks; variadic = v; return_type = k }

    abbrev named : Text → Reader signature.Function
    named t = read_list read_kind >>= λ ks. signature.read_variadic >>= λ v. read_kind >>= λ k. return (function t ks v k)

    abbrev called : Read signature.Function → Read Record
    called m = and_then m (λ g. read_count >>= λ k. return (call g k))

    function-fields : {m : Read Text} → m ≡ read_function_name (fields_at page starts node.base)
        → read_record (record_at page starts node.base) ≡ called (and_then m named)
    function-fields e = fields base-known (foot-is f) ∙ ap (λ (m : Read Text). called (and_then m named)) (sym e)

    -- a field of the signature can be read
    reads_on : {A C : Type 0} (m : Read A) (more : A → Reader signature.Function) → read_record (record_at page starts node.base) ≡ called (and_then m more)
        → ((a : A) (rest : List ℕ) → read_record (record_at page starts node.base) ≡ called (more a rest) → C) → C
    reads_on (refused x) more h k = absurd (never h)
    reads_on (got a rest) more h k = k a rest h

    pub function-reads : (name : Span) {r : List ℕ} → got (span_on page name) r ≡ read_function_name (fields_at page starts node.base)
        → CallAt page starts node.base name
    function-reads name {r} e =
        let t = span_on page name in
        reads_on (read_list read_kind r) _ (function-fields e) (λ ks s h.
        reads_on (signature.read_variadic s) (λ v. read_kind >>= λ k. return (function t ks v k)) h (λ v s' h'.
        reads_on (read_kind s') (λ k. return (function t ks v k)) h' (λ k s'' h''.
        readable base-known (read_count s'') (λ c. return (call (function t ks v k) c)) h'' (λ c rest q is.
        record { function = function t ks v k; count = c; reads = record { rest = rest; reads = sym is }; named = refl }))))

    pub function-there : {x : FieldFault} → refused x ≡ read_function_name (fields_at page starts node.base) → ⊥
    function-there e = never (function-fields e)

-- ## Fills

exact : (m : Option modifier.BinModifier) → IsOptionOf IsBinModifier m → ModifierExact m
exact none h = tt
exact (some m) h = record { lhs = h.2; rhs = h.3 }

pub reads-exact : {page starts : List ℕ} {i c : ℕ} {m : Option modifier.BinModifier} → Reads page starts i (binary c m) → ModifierExact m
reads-exact {m = m} r = exact m (allowed _ r.reads).1
