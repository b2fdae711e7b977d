-- Where records stand: the walk's tables say it of every record that it accepted (`tables-standing`), and behind those
-- stands the next one, if there is one that can be read (`reached-one`, `reached-bad`). Assumes nothing.
use Prim.Native.Nat.{ℕ, zero, suc, ◌+◌, ◌-◌, ◌≤◌, ◌<◌}
use mathlib.Core.Path.{◌≡◌, refl, sym, ap, ap₂, subst, ◌∙◌}
use mathlib.Core.List.{List, [], ◌∷◌}
use native.Mathlib.Omega.{arith}
use lib.ListN.{length, get_or, set, drop, length-drop, length-set}
use lib.Seq.{get_or-set_same, get_or-set_other}
use Rattle.base.proofs.Cases.{by-eq}
use borrow.Author.Tests.{lt-leb}
use Rattle.page.specs.Limits.{page_limit}
use Rattle.page.specs.Read.{FieldFault, past_limit, Read, refused, got}
use Rattle.page.specs.Answers.{Within}
use Rattle.page.proofs.StoredLaws.{not-refused}
use Rattle.records.specs.Record.{Record, unreadable, Records, no_records, followed, read_record, read_records, read_page}
use Rattle.ast.specs.Part.{behind, from_record}
use Rattle.ast.specs.Table.{record_count}
use Rattle.ast.specs.Tables.{Tables}
use Rattle.ast.proofs.TablesLaws.{from_record-next}
use Rattle.ast.proofs.WalkLaws.{page-limit}
use Rattle.walk.proofs.FromLaws.{records-next, drop-next}
use Rattle.walk.proofs.ProgressLaws.{read_short}
use Rattle.table_check.specs.Standing.{RecordStands, Standing, NextStands, Reaches}

-- ## read_records

-- a record is at least one byte
some_bytes : (bytes : List ℕ) {r : Record} {rest : List ℕ} → got r rest ≡ read_record bytes → 0 < length bytes
unfolding read_record
some_bytes [] e = absurd (let z : ◌≡◌ {A = ℕ} 0 1 = cc in omega arith)
some_bytes (b ∷ bytes) e = omega arith

-- what cannot be read gives no record
none_read : (fuel : ℕ) (bytes : List ℕ) {f : FieldFault} → refused f ≡ read_record bytes → (read_records fuel bytes).records ≡ []
none_read zero [] e = refl
none_read zero (b ∷ bytes) e = refl
none_read (suc fuel) [] e = refl
none_read (suc fuel) (b ∷ bytes) e = ap (λ (m : Read Record). (followed m (λ rest. read_records fuel rest)).records) (sym e)

-- a page above the limit is not read
read-long : (page : List ℕ) → 8192 < length page → read_page page ≡ no_records (unreadable past_limit)
unfolding read_page
read-long page h = rw (lt-leb (length page) page_limit h)

module _ (page : List ℕ) where
  -- a record that is read where the records behind the first i are read
  stands_here : (i at : ℕ) {r : Record} {rest : List ℕ} → i < 256 → got r rest ≡ read_record (drop at page)
      → drop i (read_page page).records ≡ (read_records (256 - i) (drop at page)).records → RecordStands page at i
  stands_here i at {r} {rest} few reads left =
      let fuel : 256 - i ≡ suc (256 - suc i) = omega arith in
      record {
        item = r;
        rest = rest;
        reads = reads;
        listed = left ∙ ap (λ (n : ℕ). (read_records n (drop at page)).records) fuel
            ∙ records-next (256 - suc i) (drop at page) (some_bytes (drop at page) reads) reads;
      }

  -- ## Tables

  module _ {starts firsts : List ℕ} {n : ℕ} (short : length page ≤ 8192) (tables : Tables page starts firsts n) where
    tables-stands : (i : ℕ) → i < n → drop i (read_page page).records ≡ (read_records (256 - i) (from_record i page)).records
        → RecordStands page (get_or starts i 0) i
    tables-stands i below left =
        let entry = tables.entry i below in
        stands_here i (get_or starts i 0) (omega (arith, tables.few)) entry.reads
        (left ∙ ap (λ (s : List ℕ). (read_records (256 - i) s).records) (sym entry.stands))

    tables-left : (i : ℕ) → i ≤ n → drop i (read_page page).records ≡ (read_records (256 - i) (from_record i page)).records
    tables-left zero h = ap (λ (p : Records). p.records) (read_short page short)
    tables-left (suc i) h =
        let entry = tables.entry i h in
        let stands = tables-stands i h (tables-left i (omega arith)) in
        let next : from_record (suc i) page ≡ stands.rest =
        from_record-next i page ∙ ap behind (ap read_record (sym entry.stands) ∙ sym stands.reads) in
        drop-next (read_page page).records i stands.listed ∙ ap (λ (s : List ℕ). (read_records (256 - suc i) s).records) (sym next)

    pub tables-standing : Standing page starts n
    tables-standing = record {
      sized = omega (arith, tables.few, tables.starts-size);
      entry = λ i below. tables-stands i below (tables-left i (omega arith));
    }

  -- ## The record behind them

  pub next-first : length page ≤ 8192 → NextStands page 0 0
  next-first short = record { inside = omega arith; left = ap (λ (p : Records). p.records) (read_short page short) }

  pub next-behind : {starts : List ℕ} {count next at : ℕ} {r : Record} → Standing page starts count → (count ≡ 0 → ⊥)
      → got r (drop next page) ≡ read_record (drop (get_or starts (count - 1) 0) page) → Within page next at → NextStands page count at
  next-behind {starts} {count} {next} {at} {r} known some reads within =
      let last : suc (count - 1) ≡ count = omega arith in
      let stands = known.entry (count - 1) (omega arith) in
      record {
        inside = within.inside;
        left = ap (λ (k : ℕ). drop k (read_page page).records) (sym last)
            ∙ drop-next (read_page page).records (count - 1) stands.listed
            ∙ ap₂ (λ (k : ℕ) (s : List ℕ). (read_records (256 - k) s).records) last (same (stands.reads ∙ sym reads) ∙ sym within.same);
      }
    where
      same : {x : Record} {u : List ℕ} → got x u ≡ got r (drop next page) → u ≡ drop next page
      same e = cc

  -- the last of them can be read
  pub last-reads : {starts : List ℕ} {count : ℕ} {B : Type 0} {f : FieldFault} → Standing page starts count → (count ≡ 0 → ⊥)
      → refused f ≡ read_record (drop (get_or starts (count - 1) 0) page) → B
  last-reads {starts} {count} known some e = not-refused ((known.entry (count - 1) (omega arith)).reads ∙ sym e)

  -- ## How many records are reached

  count_left : (index k : ℕ) → index ≤ record_count page → length (drop index (read_page page).records) ≡ k → record_count page ≡ index + k
  count_left index k h e = let size = length-drop index (read_page page).records in omega arith

  -- the refused one is none of the page's
  reached-none : {starts : List ℕ} {index : ℕ} → Standing page starts index → record_count page ≡ index → Reaches page index starts index
  reached-none known size = record { known = known; is_count = omega arith }

  module _ {starts : List ℕ} {index : ℕ} (sized : length starts ≡ 256) (some : index ≤ record_count page) (known : Standing page starts index) where
    pub reached-long : 8192 < length page → Reaches page index starts index
    reached-long long = reached-none known (let none = long-none long in omega arith)
      where
        long-none : 8192 < length page → record_count page ≡ 0
        long-none h = ap (λ (p : Records). length p.records) (read-long page h)

    pub reached-limit : index ≡ 256 → Reaches page index starts index
    reached-limit e = reached-none known (let most = page-limit page in omega arith)

    module _ {at : ℕ} (next : NextStands page index at) where
      pub reached-bad : {f : FieldFault} → refused f ≡ read_record (drop at page) → Reaches page index starts index
      reached-bad e =
          reached-none known (let size = count_left index 0 some (ap length (next.left ∙ none_read (256 - index) (drop at page) e)) in omega arith)

      module _ {r : Record} {rest : List ℕ} (few : index ≡ 256 → ⊥) (reads : got r rest ≡ read_record (drop at page)) where
        below : index < 256
        below = let most = page-limit page in omega (arith, some, most, few)

        here : RecordStands page at index
        here = stands_here index at below reads next.left

        pub reached-one : Reaches page index (set starts index at) (index + 1)
        reached-one = record {
          known = record {
            sized = rw (length-set starts index at) (omega (arith, sized, below));
            entry = λ i h. by-eq i index
                (λ e. subst (λ (k : ℕ). RecordStands page (get_or (set starts index at) k 0) k) (sym e)
                (rw (get_or-set_same starts index at 0 (omega (arith, sized, below))) here))
                (λ other. rw (get_or-set_other starts index i at 0 other) (known.entry i (omega arith)));
          };
          is_count = let size = count_left index _ some (ap length here.listed) in omega arith;
        }
