-- Any table of the form: which texts its arrays hold, which place a name has in it, and which function stands there.
-- Assumes nothing.
use Prim.Native.Nat.{ℕ, zero, suc, ◌+◌, ◌<◌}
use mathlib.Core.Path.{◌≡◌, refl, sym, ap, ◌∙◌, subst}
use mathlib.Core.Bool.{Bool, false}
use mathlib.Core.List.{List, [], ◌∷◌, ◌++◌, map}
use mathlib.Core.Option.{Option, none, some}
use native.Mathlib.Nat.{not-suc-le-zero, le_of_suc-le-suc}
use native.Mathlib.Omega.{arith}
use lib.ListN.{length, get_or, length-append, length-map}
use lib.Seq.{take_at, get_or-append-add}
use lib.Dec.{T}
use Rattle.page.specs.Bytes.{pick, equal}
use Rattle.page.specs.Text.{Text}
use Rattle.records.specs.Signature.{Function, write_signature}
use Rattle.functions.specs.Order.{is_before, ascend}
use Rattle.functions.specs.Table.{cut, count_of, names_in, place_from, place_of, names, Formed}
use Rattle.functions.specs.Lookup.{lookup, equal_signature, unlike}
use Rattle.functions.specs.Answers.{begins_with}
use Rattle.functions.proofs.OrderLaws.{equal-texts, unequal-apart, order-before, ascend-order, ascend-once}
use Rattle.functions.proofs.CutLaws.{table-form, length_cut, length-names_in}
use Rattle.functions.proofs.PlaceLaws.{FoundAt, place_found, place-missing}
use Rattle.functions.proofs.SignatureLaws.{begins-signature}

-- ## Formed

module _ {letters starts : List ℕ} {table : List Function} (formed : Formed letters starts table) where
  pub formed-count : count_of starts ≡ length table
  formed-count =
      let paired = (table-form letters starts formed.is-table).paired in
      let texts = sym (length_cut letters starts) ∙ ap length formed.holds ∙ length-append (names table) (map write_signature table) in
      omega (arith, paired, texts, length-map table (λ f. f.name), length-map table write_signature)

  -- the names of the arrays are the table's
  pub formed-names : names_in letters starts ≡ names table
  formed-names =
      rw formed.holds
      (take_at (names table) (map write_signature table) (count_of starts) (length-map table (λ f. f.name) ∙ sym formed-count))

  pub formed-place : (name : Text) → place_of letters starts name ≡ place_from 0 (names table) name
  unfolding place_of
  formed-place name = ap (λ (ts : List Text). place_from 0 ts name) formed-names

-- ## The row at a place

module _ {A : Type 0} where
  abbrev pub row_at : List A → ℕ → Option A
  row_at [] i = none
  row_at (x ∷ xs) zero = some x
  row_at (x ∷ xs) (suc i) = row_at xs i

-- what is made of every row, at a place
row-map : (make : Function → Text) (table : List Function) (i : ℕ) {f : Function} → row_at table i ≡ some f
    → get_or (map make table) i [] ≡ make f
row-map make [] i e = let z : ◌≡◌ {A = ℕ} 0 1 = cc in absurd (omega arith)
row-map make (g ∷ table) zero {f} e = let same : g ≡ f = cc in ap make same
row-map make (g ∷ table) (suc i) e = row-map make table i e

-- there is one
record Row (table : List Function) (i : ℕ) : Type 0 where
  row : Function
  is_row : row_at table i ≡ some row

row_inside : (table : List Function) (i : ℕ) → i < length table → Row table i
row_inside [] i h = absurd (not-suc-le-zero h)
row_inside (f ∷ table) zero h = record { row = f; is_row = refl }
row_inside (f ∷ table) (suc i) h = let more = row_inside table i (le_of_suc-le-suc h) in record { row = more.row; is_row = more.is_row }

row_below : (table : List Function) (i : ℕ) {f : Function} → row_at table i ≡ some f → i < length table
row_below [] i e = let z : ◌≡◌ {A = ℕ} 0 1 = cc in absurd (omega arith)
row_below (g ∷ table) zero e = omega arith
row_below (g ∷ table) (suc i) e = omega (arith, row_below table i e)

-- ## lookup

-- the first row of the name
lookup-row : (table : List Function) (name : Text) (i : ℕ) → FoundAt (names table) name i → lookup table name ≡ row_at table i
unfolding lookup
lookup-row [] name i found = absurd (not-suc-le-zero found.inside)
lookup-row (f ∷ table) name zero found = rw found.named
lookup-row (f ∷ table) name (suc i) found =
    rw (found.first 0 (omega arith))
    (lookup-row table name i
    (record {
      inside = le_of_suc-le-suc found.inside;
      named = found.named;
      first = λ k l. found.first (suc k) (omega arith);
    }))

lookup-none : (table : List Function) (name : Text) → ((k : ℕ) → k < length (names table) → equal (get_or (names table) k []) name ≡ false)
    → lookup table name ≡ none
unfolding lookup
lookup-none [] name h = refl
lookup-none (f ∷ table) name h = rw (h 0 (omega arith)) (lookup-none table name (λ k l. h (suc k) (omega arith)))

-- the function of a name, and its place
pub record Stands (table : List Function) (name : Text) (i : ℕ) : Type 0 where
  pub row : Function
  pub is_row : row_at table i ≡ some row
  pub is_found : lookup table name ≡ some row
  pub named : row.name ≡ name
  pub name-at : get_or (names table) i [] ≡ name
  pub inside : i < length table

pub place-row : (table : List Function) (name : Text) (i : ℕ) → place_from 0 (names table) name ≡ some i → Stands table name i
place-row table name i e =
    let found = place_found (names table) name i e in
    let inside : i < length table = omega (arith, found.inside, length-map table (λ f. f.name)) in
    let here = row_inside table i inside in
    let named = equal-texts (get_or (names table) i []) name (subst (λ (x : Bool). T x) (sym found.named) tt) in
    record {
      row = here.row;
      is_row = here.is_row;
      is_found = lookup-row table name i found ∙ here.is_row;
      named = sym (row-map (λ f. f.name) table i here.is_row) ∙ named;
      name-at = named;
      inside = inside;
    }

pub place-unknown : (table : List Function) (name : Text) → place_from 0 (names table) name ≡ none → lookup table name ≡ none
place-unknown table name e = lookup-none table name (place-missing 0 (names table) name e)

-- ## Any table of the form

module _ {letters starts : List ℕ} {table : List Function} (formed : Formed letters starts table) where
  names-ascend : T (ascend (names table))
  names-ascend = subst (λ (ts : List Text). T (ascend ts)) (formed-names formed) (table-form letters starts formed.is-table).named

  -- any two names are in order
  pub formed-order : (i j : ℕ) → i < j → j < length table → T (is_before (get_or (names table) i []) (get_or (names table) j []))
  formed-order i j h l =
      order-before (get_or (names table) i []) (get_or (names table) j [])
      (ascend-order (names table) names-ascend i j h (omega (arith, length-map table (λ f. f.name))))

  -- no name stands twice
  pub formed-once : (i j : ℕ) → i < length table → j < length table → get_or (names table) i [] ≡ get_or (names table) j [] → i ≡ j
  formed-once i j h l =
      ascend-once (names table) names-ascend i j (omega (arith, length-map table (λ f. f.name)))
      (omega (arith, length-map table (λ f. f.name)))

  -- a place that is found has that name, and its row is the function of the name
  pub formed-found : (name : Text) (i : ℕ) → place_of letters starts name ≡ some i → Stands table name i
  formed-found name i e = place-row table name i (sym (formed-place formed name) ∙ e)

  -- where none is found, there is no function of the name, and no row has it
  pub formed-unknown : (name : Text) → place_of letters starts name ≡ none → lookup table name ≡ none
  formed-unknown name e = place-unknown table name (sym (formed-place formed name) ∙ e)

  pub formed-missing : (name : Text) → place_of letters starts name ≡ none → (i : ℕ) {f : Function} → row_at table i ≡ some f
      → f.name ≡ name → ⊥
  formed-missing name e i {f} is same =
      unequal-apart (get_or (names table) i []) name
      (place-missing 0 (names table) name (sym (formed-place formed name) ∙ e) i
      (omega (arith, row_below table i is, length-map table (λ f. f.name))))
      (row-map (λ f. f.name) table i is ∙ same)

-- ## A signature beside a table's

module _ {letters starts : List ℕ} {table : List Function} (formed : Formed letters starts table) where
  -- the signature of a place is that of the row there
  pub formed-signature : (i : ℕ) {f : Function} → row_at table i ≡ some f
      → get_or (cut letters starts) (count_of starts + i) [] ≡ write_signature f
  formed-signature i e =
      let front : count_of starts ≡ length (names table) = formed-count formed ∙ sym (length-map table (λ f. f.name)) in
      rw (formed.holds, front)
      (get_or-append-add (names table) (map write_signature table) i [] ∙ row-map write_signature table i e)

  -- the fault of a call beside the table
  module _ (f : Function) where
    pub compare-unknown : none ≡ place_of letters starts f.name → some 37 ≡ unlike f (lookup table f.name)
    compare-unknown e = rw (formed-unknown formed f.name (sym e))

    pub compare-found : (i : ℕ) → some i ≡ place_of letters starts f.name
        → (bytes rest : List ℕ) → bytes ≡ write_signature f ++ rest
        → (b : Bool) → begins_with (get_or (cut letters starts) (count_of starts + i) []) bytes ≡ b
        → pick b none (some 38) ≡ unlike f (lookup table f.name)
    compare-found i e bytes rest s b q =
        let stands = formed-found formed f.name i (sym e) in
        let like : equal_signature f stands.row ≡ b
        = sym (begins-signature f stands.row bytes rest s)
        ∙ ap (λ (t : Text). begins_with t bytes) (sym (formed-signature i stands.is_row)) ∙ q in
        rw (stands.is_found, like)

-- a place that is found is one of the names'
pub place_of-inside : (letters starts : List ℕ) (name : Text) (i : ℕ) → some i ≡ place_of letters starts name → i < count_of starts
unfolding place_of
place_of-inside letters starts name i e =
    omega (arith, (place_found (names_in letters starts) name i (sym e)).inside, length-names_in letters starts)
