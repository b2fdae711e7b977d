-- A page that the check refuses with 19 has its label at the part that `label_part` answers: the record named is a
-- binary record with a label in both lists (`check-refuses`), and `read_joint` at that record finds the first one, with
-- its place (`read_joint-written`). Assumes nothing.
use Prim.Native.Nat.{ℕ, zero, suc, ◌+◌, ◌-◌, ◌≤◌}
use mathlib.Core.Path.{◌≡◌, refl, sym, ap, ap₂, ◌∙◌, subst}
use mathlib.Core.Bool.{Bool, true, false, not}
use mathlib.Core.List.{List, [], ◌∷◌, ◌++◌, append_assoc}
use mathlib.Core.Option.{none, some}
use native.Mathlib.Omega.{arith}
use lib.ListN.{length, take, drop, length-append}
use lib.Seq.{take-append_seam, drop-append_seam, length-take-le}
use borrow.Author.Tests.{ne_eqb}
use lib.Dec.{T}
use Rattle.page.specs.Bytes.{pick, all, any}
use Rattle.page.specs.Read.{got}
use Rattle.page.specs.Number.{write_number}
use Rattle.page.specs.Text.{Text, is_text, write_text, write_all}
use Rattle.page.specs.Allowed.{Each}
use Rattle.page.proofs.NumberLaws.{left-of, right_of, is_byte}
use Rattle.records.specs.Literal.{write_literal}
use Rattle.records.specs.Field.{Labels, write_flag, write_option}
use Rattle.records.specs.Modifier.{BinModifier, Cardinality, one_to_one, many_to_many, many_to_one, one_to_many, write_label_modifier, write_cardinality}
use Rattle.records.specs.Record.{number, string, selector}
use Rattle.records.specs.Record.{Record, leaf, wrapper, binary, aggregate, call, read_record, write_record, read_page}
use Rattle.records.specs.Outcome.{Outcome, refusal}
use Rattle.records.specs.Allowed.{IsAnyText, IsCardinality, IsAllowed}
use Rattle.records.proofs.PageLaws.{read_page-allowed}
use Rattle.ast.specs.CheckAst.{has_label, on_labels, group_labels, is_joint, check_ast}
use Rattle.ast.specs.CheckPage.{apply, check_page, check}
use Rattle.ast.specs.Part.{Part, empty_part, part_of, from_record, Placed, read_joint, part_in, label_part, write_group_head, written_before, HoldsJointLabel}
use Rattle.ast.specs.PartExample.{joint_page}
use Rattle.ast.proofs.RefusalLaws.{is_of_record}
use Rattle.ast.proofs.CheckLaws.{check-refuses}
use Rattle.ast.proofs.RecordAtLaws.{RecordAt, read_page-at}
use Rattle.ast.proofs.PlaceLaws.{to_fills, read_joint-written, Shared, first-shared}

-- ## Its label

write_all-append : (xs ys : Labels) → write_all write_text (xs ++ ys) ≡ write_all write_text xs ++ write_all write_text ys
write_all-append [] ys = refl
write_all-append (x ∷ xs) ys =
    ap (λ (s : List ℕ). write_text x ++ s) (write_all-append xs ys) ∙ sym (append_assoc (write_text x) (write_all write_text xs) (write_all write_text ys))

head-labels : (c : Cardinality) → write_cardinality c ≡ write_group_head c ++ write_all write_text (group_labels c)
head-labels one_to_one = refl
head-labels many_to_many = refl
head-labels (many_to_one ls) = refl
head-labels (one_to_many ls) = refl

-- the labels of a group before one of them, it and those after it
group-apart : (c : Cardinality) (earlier : Labels) (label : Text) (more : Labels) → group_labels c ≡ earlier ++ (label ∷ more)
    → write_cardinality c ≡ write_group_head c ++ (write_all write_text earlier ++ (write_text label ++ write_all write_text more))
group-apart c earlier label more e =
    head-labels c ∙ ap (λ (s : List ℕ). write_group_head c ++ s) (ap (write_all write_text) e ∙ write_all-append earlier (label ∷ more))

-- the fields of a binary record and what stands after it, and those before and after a label of its group, one after
-- the other
fields-apart : (kind code mark bool matching card left right rest : List ℕ)
    → (kind ++ code) ++ (mark ++ (bool ++ matching ++ card ++ left ++ right)) ++ rest
    ≡ kind ++ (code ++ (mark ++ (bool ++ (matching ++ (card ++ (left ++ (right ++ rest)))))))
fields-apart kind code mark bool matching card left right rest = simp append_assoc

label-apart : (records kind code mark bool matching head earlier size label more rest : List ℕ)
    → records ++ (kind ++ (code ++ (mark ++ (bool ++ (matching ++ ((head ++ (earlier ++ ((size ++ label) ++ more))) ++ rest))))))
    ≡ (records ++ (kind ++ code) ++ (mark ++ bool) ++ matching ++ head ++ earlier ++ size) ++ (label ++ (more ++ rest))
label-apart records kind code mark bool matching head earlier size label more rest = simp append_assoc

-- a part by what stands before it and after it
module _ (page before label rest : List ℕ) (e : page ≡ before ++ (label ++ rest)) where
  abbrev part : Part
  part = part_in (length page) (got (record { label = label; left = length rest } ∷ []) [])

  start_is : part.start ≡ length before
  start_is = subtract (ap length e ∙ length-append before (label ++ rest)) (length-append label rest)
    where
      subtract : length page ≡ length before + length (label ++ rest) → length (label ++ rest) ≡ length label + length rest
          → length page - length rest - length label ≡ length before
      subtract g h = omega arith

  place_is : take part.start page ≡ before
  place_is = ap (λ (n : ℕ). take n page) start_is ∙ ap (take (length before)) e ∙ take-append_seam before (label ++ rest)

  part-holds : part_of page part ≡ label
  part-holds =
      ap (λ (n : ℕ). take (length label) (drop n page)) start_is
      ∙ ap (λ (s : List ℕ). take (length label) (drop (length before) s)) e
      ∙ ap (take (length label)) (drop-append_seam before (label ++ rest))
      ∙ take-append_seam label rest

  part_lies : part.start + part.size ≤ length page
  part_lies = omega (arith, start_is, ap length e, length-append before (label ++ rest), length-append label rest)

module _ (page : List ℕ) (bytes : T (all is_byte page)) (i : ℕ) where
  part-found : (c : ℕ) (m : BinModifier) (later : List Record) → drop i (read_page page).records ≡ binary c (some m) ∷ later
      → T (any (has_label (on_labels m.matching)) (group_labels m.card)) → HoldsJointLabel page i (label_part page (refusal 19 i))
  unfolding label_part write_record
  part-found c m later e h =
      rw (ap (part_in (length page)) reads) (
      record {
        code = c;
        modifier = m;
        later = later;
        earlier = shared.earlier;
        label = shared.label;
        more = shared.more;
        is_record = e;
        is_group = shared.is_group;
        is_shared = shared.is_shared;
        is_first = shared.is_first;
        is_place = place_is page before shared.label after whole;
        is_size = refl;
        holds = part-holds page before shared.label after whole;
        lies = part_lies page before shared.label after whole;
      }
      )
    where
      at : RecordAt page i (read_page page).records (binary c (some m))
      at = read_page-at page bytes i (binary c (some m)) later e

      -- the fills and all after the record
      rest : List ℕ
      rest = write_option write_literal m.fill_values.lhs ++ (write_option write_literal m.fill_values.rhs ++ at.rest)

      here : from_record i page ≡ to_fills c m rest
      here = at.is_record
          ∙ fields-apart (9 ∷ []) (write_number c) (1 ∷ []) (write_flag m.return_bool)
          (write_label_modifier m.matching) (write_cardinality m.card)
          (write_option write_literal m.fill_values.lhs) (write_option write_literal m.fill_values.rhs) at.rest

      shared : Shared (on_labels m.matching) (group_labels m.card) rest
      shared = first-shared (on_labels m.matching) rest (group_labels m.card) h

      reads : read_joint (from_record i page) ≡ got (record { label = shared.label; left = length (write_all write_text shared.more ++ rest) } ∷ []) rest
      reads = ap read_joint here ∙ read_joint-written c m rest at.is_allowed ∙ ap (λ (ps : List Placed). got ps rest) shared.is_found

      before : List ℕ
      before = written_before (take i (read_page page).records) c m shared.earlier shared.label

      after : List ℕ
      after = write_all write_text shared.more ++ rest

      whole : page ≡ before ++ (shared.label ++ after)
      whole =
          at.is_whole
          ∙ ap (λ (s : List ℕ). write_all write_record (take i (read_page page).records) ++ s) here
          ∙ ap (λ (s : List ℕ). write_all write_record (take i (read_page page).records)
          ++ (9
          ∷ (write_number c
          ++ (1 ∷ (write_flag m.return_bool ++ (write_label_modifier m.matching ++ (s ++ rest)))))))
          (group-apart m.card shared.earlier shared.label shared.more shared.is_group)
          ∙ label-apart (write_all write_record (take i (read_page page).records)) (9 ∷ []) (write_number c) (1 ∷ [])
          (write_flag m.return_bool) (write_label_modifier m.matching)
          (write_group_head m.card) (write_all write_text shared.earlier) (write_number (length shared.label))
          shared.label (write_all write_text shared.more) rest

  record-found : (r : Record) (later : List Record) → drop i (read_page page).records ≡ r ∷ later
      → T (is_of_record r 19) → HoldsJointLabel page i (label_part page (refusal 19 i))
  record-found (leaf (number l)) later e h = absurd h
  record-found (leaf (string t)) later e h = absurd h
  record-found (leaf (selector s)) later e h = absurd h
  record-found (wrapper w) later e h = absurd h
  record-found (binary c none) later e h = absurd h
  record-found (binary c (some m)) later e h = part-found c m later e (left-of (is_joint (some m)) true h)
  record-found (aggregate c m n) later e h = absurd h
  record-found (call f n) later e h = absurd h

  -- a page refused with 19: the part is the first group label of the record named that is also in its on list, where it
  -- stands in the group list
  pub label_part-joint : check page ≡ refusal 19 i → HoldsJointLabel page i (label_part page (check page))
  label_part-joint e =
      let refuses = check-refuses page 19 i (omega arith) e in
      let found = record-found refuses.0.refused_record refuses.0.later refuses.0.is_record refuses.1 in
      subst (λ (o : Outcome). HoldsJointLabel page i (label_part page o)) (sym e) found

-- any other outcome has an empty part
pub label_part-otherwise : (page : List ℕ) (i n : ℕ) → (n ≡ 19 → ⊥) → label_part page (refusal n i) ≡ empty_part
unfolding label_part
label_part-otherwise page i n h = ap (λ (b : Bool). pick b (part_in (length page) (read_joint (from_record i page))) empty_part) (ne_eqb n 19 h)

-- ## There is one such part

both_ways : (b : Bool) → T b → T (not b) → ⊥
both_ways true p q = q
both_ways false p q = p

-- the first element that passes a test, and those before it
split-unique : (test : Text → Bool) (xs ys : Labels) (x y : Text) (more others : Labels) → xs ++ (x ∷ more) ≡ ys ++ (y ∷ others)
    → T (test x) → T (test y) → T (all (λ t. not (test t)) xs) → T (all (λ t. not (test t)) ys) → (xs ≡ ys) × (x ≡ y)
split-unique test [] [] x y more others e p q h k = (refl, cc)
split-unique test [] (b ∷ ys) x y more others e p q h k =
    let same : x ≡ b = cc in
    absurd (both_ways (test b) (rw same at p) (left-of (not (test b)) (all (λ t. not (test t)) ys) k))
split-unique test (a ∷ xs) [] x y more others e p q h k =
    let same : y ≡ a = cc in
    absurd (both_ways (test a) (rw same at q) (left-of (not (test a)) (all (λ t. not (test t)) xs) h))
split-unique test (a ∷ xs) (b ∷ ys) x y more others e p q h k =
    let first : a ≡ b = cc in
    let tails : xs ++ (x ∷ more) ≡ ys ++ (y ∷ others) = cc in
    let same = split-unique test xs ys x y more others tails p q
    (right_of (not (test a)) (all (λ t. not (test t)) xs) h)
    (right_of (not (test b)) (all (λ t. not (test t)) ys) k) in
    (ap₂ {C = Labels} (λ t ts. t ∷ ts) first same.0, same.1)

module _ {page : List ℕ} {i : ℕ} {part : Part} (h : HoldsJointLabel page i part) where
  start-written : part.start ≡ length (written_before (take i (read_page page).records) h.code h.modifier h.earlier h.label)
  start-written = sym (length-take-le part.start page (within h.lies)) ∙ ap length h.is_place
    where
      within : part.start + part.size ≤ length page → part.start ≤ length page
      within g = omega arith

-- what `HoldsJointLabel` says is said of one part only
pub label-unique : {page : List ℕ} {i : ℕ} {part other : Part} → HoldsJointLabel page i part → HoldsJointLabel page i other → part ≡ other
label-unique {page} {i} {part} {other} h k =
    let records : binary h.code (some h.modifier) ∷ h.later ≡ binary k.code (some k.modifier) ∷ k.later = sym h.is_record ∙ k.is_record in
    let code : h.code ≡ k.code = cc in
    let modifier : h.modifier ≡ k.modifier = cc in
    let group : h.earlier ++ (h.label ∷ h.more)
    ≡ k.earlier ++ (k.label ∷ k.more) = sym h.is_group
    ∙ ap (λ (m : BinModifier). group_labels m.card) modifier ∙ k.is_group in
    let same =
    split-unique (has_label (on_labels h.modifier.matching)) h.earlier k.earlier h.label k.label h.more k.more group
    h.is_shared (rw (← modifier) at k.is_shared) h.is_first (rw (← modifier) at k.is_first) in
    let start : part.start ≡ other.start = start-written h ∙ (rw (code, modifier, same.0, same.1)) ∙ sym (start-written k) in
    ap₂ (λ (s n : ℕ). record { start = s; size = n }) start (h.is_size ∙ ap length same.1 ∙ sym k.is_size)

-- so the same label in the on list is not the part
label-of-on : HoldsJointLabel joint_page 2 (record { start = 19; size = 1 }) → ⊥
unfolding read_record read_page check_ast apply check_page label_part
label-of-on h =
    let same : ◌≡◌ {A = ℕ} 19 23 = ap (λ (p : Part). p.start) (label-unique h (label_part-joint joint_page tt 2 refl)) in
    omega arith

-- ## The label is well-formed UTF-8

each_at : (i : ℕ) (rs : List Record) (r : Record) (later : List Record) → Each IsAllowed rs → drop i rs ≡ r ∷ later
    → IsAllowed r
each_at zero [] r later a e = absurd (let z : ◌≡◌ {A = ℕ} 0 1 = cc in omega arith)
each_at zero (x ∷ rs) r later a e = let same : x ≡ r = cc in subst IsAllowed same a.0
each_at (suc i) [] r later a e = absurd (let z : ◌≡◌ {A = ℕ} 0 1 = cc in omega arith)
each_at (suc i) (x ∷ rs) r later a e = each_at i rs r later a.1 e

each-among : (earlier : Labels) (label : Text) (more : Labels) → Each IsAnyText (earlier ++ (label ∷ more))
    → IsAnyText label
each-among [] label more a = a.0
each-among (l ∷ earlier) label more a = each-among earlier label more a.1

group-allowed : (c : Cardinality) → IsCardinality c → Each IsAnyText (group_labels c)
group-allowed one_to_one a = tt
group-allowed many_to_many a = tt
group-allowed (many_to_one ls) a = a.1
group-allowed (one_to_many ls) a = a.1

pub label-utf8 : {page : List ℕ} {i : ℕ} {part : Part} → HoldsJointLabel page i part → T (is_text (part_of page part))
label-utf8 {page} {i} h =
    let allowed = each_at i (read_page page).records _ h.later (read_page-allowed page) h.is_record in
    let group = subst (Each IsAnyText) h.is_group (group-allowed h.modifier.card allowed.1.1) in
    rw h.holds (each-among h.earlier h.label h.more group).1
