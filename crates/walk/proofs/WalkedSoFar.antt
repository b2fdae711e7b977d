-- The invariant of the walk's loop, and what each way out of the loop's body makes of it.
use Prim.Native.Nat.{ℕ, suc, ◌+◌, ◌-◌, ◌≤◌, ◌<◌}
use mathlib.Core.Path.{◌≡◌, refl, sym, ap, subst, ◌∙◌}
use mathlib.Core.Bool.{Bool}
use mathlib.Core.List.{List, [], ◌∷◌, map}
use native.Mathlib.Omega.{arith}
use native.Mathlib.Numerals.{add-one}
use lib.ListN.{length, get_or, set, drop}
use lib.Seq.{drop-set-lt, drop-drop}
use Rattle.page.specs.Read.{FieldFault, fault_number, refused as refused_field, got}
use Rattle.records.specs.Kind.{Kind}
use Rattle.records.specs.Record.{Record, read_record}
use Rattle.records.specs.Record as records
use Rattle.ast.specs.Refusal.{refused, ok}
use Rattle.ast.specs.Expr.{Expr, value_type}
use Rattle.ast.specs.Walk.{Checked, accepted, refused_at, at_end}
use Rattle.ast.specs.CheckPage.{apply}
use Rattle.ast.specs.Rules.{Rules, check_page_by}
use Rattle.ast.specs.Limits.{limit_rules}
use Rattle.ast.specs.Operand.{Operand, string_operand, operand_kind, operand_of}
use Rattle.ast.specs.Judge.{judgement_by}
use Rattle.ast.specs.Tables.{stack_at, newest, tree_at, Tables}
use Rattle.ast.proofs.RulesLaws.{ruled-passes}
use Rattle.ast.proofs.OperandLaws.{operand_of-kind}
use Rattle.page.specs.Answers.{Within}
use Rattle.walk.specs.Answers.{Accepts, Refuses}
use Rattle.walk.specs.Walk.{first_of}
use Rattle.walk.proofs.ApplyLaws.{Pushed, apply-pushes, operands-there, Applied, applied, unapplied}
use Rattle.walk.proofs.BasesLaws.{first-right}
use Rattle.walk.proofs.ProgressLaws.{Progress, too-long-by, progress_start, at-stack, progress-end, progress-over}
use Rattle.walk.proofs.ProgressLaws.{progress-bad, progress-refused, progress-next}
use Rattle.walk.proofs.TableLaws.{tables_start, tables-next, entry_of}
use Rattle.walk.proofs.HeldLaws.{Holds, stack-length, holds-next}

pub record WalkedSoFar (limits : Bool) (page starts₀ firsts₀ starts firsts : List ℕ) (operands : List Operand)
    (bases : List ℕ) (at count : ℕ) : Type 0 where
  -- the trees of which the stack holds the operands and the first records
  pub stack : List Expr
  pub progress : Progress (limit_rules limits) page at count stack
  pub holds : Holds page operands bases count stack
  pub tables : Tables page starts firsts count
  -- the entries after them are those that were lent
  pub starts-kept : drop count starts ≡ drop count starts₀
  pub firsts-kept : drop count firsts ≡ drop count firsts₀

kept_next : (table before : List ℕ) (n entry : ℕ) → drop n table ≡ drop n before → drop (suc n) (set table n entry) ≡ drop (suc n) before
kept_next table before n entry e =
    drop-set-lt (suc n) table n entry (omega arith)
    ∙ ap (λ (k : ℕ). drop k table) (sym (add-one n)) ∙ sym (drop-drop 1 n table) ∙ ap (drop 1) e
    ∙ drop-drop 1 n before ∙ ap (λ (k : ℕ). drop k before) (add-one n)

pub walked_start : (limits : Bool) {page starts firsts bases : List ℕ} → length page ≤ 8192 → length bases ≡ 256
    → length starts ≡ 256 → length firsts ≡ 256 → WalkedSoFar limits page starts firsts starts firsts [] bases 0 0
walked_start limits {page} {starts} {firsts} short b s f = record {
  stack = [];
  progress = progress_start (limit_rules limits) page short;
  holds = record { summaries = refl; firsts = tt; bases-size = b; depth-range = omega arith };
  tables = tables_start page starts firsts s f;
  starts-kept = refl;
  firsts-kept = refl;
}

-- a page too long: no record was read
pub too-long-refused : (limits : Bool) {page starts firsts : List ℕ} → 8192 < length page → length starts ≡ 256
    → length firsts ≡ 256 → Refuses (check_page_by (limit_rules limits) page) page starts firsts 3 0
too-long-refused limits {page} {starts} {firsts} h s f =
    record { tables = tables_start page starts firsts s f; refuses = too-long-by (limit_rules limits) page h }

-- after a record that takes n operands and puts the operand x
pub record NextTurn (limits : Bool) (page starts₀ firsts₀ starts firsts : List ℕ) (operands : List Operand) (bases : List ℕ)
    (at count n next : ℕ) (x : Operand) : Type 0 where
  pub there : n ≤ length operands
  pub room : length operands < 256 + n
  pub walked-again : (end : ℕ) → Within page next end →
      let first = first_of n count (length operands - n) bases in
      WalkedSoFar limits page starts₀ firsts₀ (set starts count at) (set firsts count first) (x ∷ drop n operands) (set bases (length operands - n) first)
      end (count + 1)

module _ {limits : Bool} {page starts₀ firsts₀ starts firsts : List ℕ} {operands : List Operand} {bases : List ℕ}
    {at count : ℕ} (so_far : WalkedSoFar limits page starts₀ firsts₀ starts firsts operands bases at count) where
  abbrev rules : Rules
  rules = limit_rules limits

  abbrev trees : List Expr
  trees = so_far.stack

  -- a refusal of the record that would come next
  refuses-next : {n : ℕ} → check_page_by rules page ≡ refused_at n count → Refuses (check_page_by rules page) page starts firsts n count
  refuses-next e = record { tables = so_far.tables; refuses = e }

  -- ## The page's end

  not-one : (s : List Expr) → (length s ≡ 1 → ⊥) → at_end records.end count s ≡ refused_at 2 count
  not-one [] h = refl
  not-one (e ∷ []) h = absurd (h refl)
  not-one (e ∷ f ∷ s) h = refl

  pub ends-refused : length page ≤ at → (length operands ≡ 1 → ⊥) → Refuses (check_page_by rules page) page starts firsts 2 count
  ends-refused h other =
      refuses-next (progress-end so_far.progress h ∙ not-one trees (λ e. other (sym (stack-length so_far.holds) ∙ e)))

  -- one tree is left, and its operand lies on top
  pub record Left : Type 0 where
    pub tree : Expr
    pub is : trees ≡ tree ∷ []
    pub operand : get_or operands 0 string_operand ≡ operand_of tree

  left_one : length operands ≡ 1 → Left
  left_one e = go trees refl (stack-length so_far.holds ∙ e) so_far.holds.summaries
    where
      go : (s : List Expr) → trees ≡ s → length s ≡ 1 → operands ≡ map operand_of s → Left
      go [] same h p = absurd (let z : ⊥ = omega arith in z)
      go (t ∷ []) same h p = record { tree = t; is = same; operand = ap (λ (xs : List Operand). get_or xs 0 string_operand) p }
      go (t ∷ u ∷ s) same h p = absurd (let z : ⊥ = omega arith in z)

  module _ (over : length page ≤ at) (one : length operands ≡ 1) where
    left-tree : check_page_by rules page ≡ accepted (left_one one).tree count
    left-tree = progress-end so_far.progress over ∙ ap (at_end records.end count) (left_one one).is

    pub ends-accepted : {k : Kind} → k ≡ operand_kind (get_or operands 0 string_operand)
        → Accepts (check_page_by rules page) page starts firsts k count
    unfolding tree_at
    ends-accepted {k} is =
        let last : suc (count - 1) ≡ count = omega (arith, one, so_far.holds.depth-range) in
        let tree_is : newest (stack_at page (suc (count - 1)))
        ≡ (left_one one).tree = ap (λ (n : ℕ). newest (stack_at page n)) last
        ∙ ap newest (at-stack so_far.progress ∙ (left_one one).is) in
        let kind-is : k ≡ value_type (left_one one).tree = is ∙ ap operand_kind (left_one one).operand ∙ operand_of-kind (left_one one).tree in
        record {
          tables = so_far.tables;
          tree = left-tree ∙ ap {B = Checked Expr} (λ t. accepted t count) (sym tree_is);
          kind = ap value_type tree_is ∙ sym kind-is;
        }

  -- ## A record is left

  module _ (more : at < length page) where
    pub too_many : count ≡ 256 → Refuses (check_page_by rules page) page starts firsts 3 count
    too_many e = refuses-next (progress-over so_far.progress more e)

    module _ (few : count ≡ 256 → ⊥) where
      pub unreadable : (f : FieldFault) {n : ℕ} → refused_field f ≡ read_record (drop at page) → n ≡ fault_number f
          → Refuses (check_page_by rules page) page starts firsts n count
      unreadable f e number = rw number (refuses-next (progress-bad so_far.progress more few f e))

      module _ {r : Record} (next : ℕ) (read : got r (drop next page) ≡ read_record (drop at page)) where
        pub unfit : {n : ℕ} → refused n ≡ judgement_by rules r operands
            → Refuses (check_page_by rules page) page starts firsts n count
        unfit e =
            refuses-next (progress-refused so_far.progress more few next read
            (unapplied rules r trees so_far.progress.sound (e ∙ ap (judgement_by rules r) so_far.holds.summaries)))

        module _ {x : Operand} (put : ok x ≡ judgement_by rules r operands) (n : ℕ) (takes : n ≡ records.operands r) where
          done : Applied rules r trees x
          done = applied rules r trees so_far.progress.sound (put ∙ ap (judgement_by rules r) so_far.holds.summaries)

          abbrev after : List Expr
          after = done.after

          own : apply r trees ≡ ok after
          own = (ruled-passes rules r (map value_type trees) (apply r trees) after done.applies).passes

          there : records.operands r ≤ length operands
          there = operands-there limits r operands x put

          enough : n ≤ length operands
          enough = rw takes there

          room : length operands < 256 + n
          room = omega (arith, so_far.holds.depth-range, so_far.progress.count-range, few)

          new : Pushed trees (records.operands r) after
          new = apply-pushes r trees own

          operand-is : operand_of new.tree ≡ x
          operand-is = head (ap (map operand_of) (sym new.is) ∙ done.held_operands)
            where
              head : {y z : Operand} {ys zs : List Operand} → y ∷ ys ≡ z ∷ zs → y ≡ z
              head e = cc

          first-is : (first_of n count (length operands - n) bases ≤ count) × (stack_at page (first_of n count (length operands - n) bases) ≡ drop n trees)
          first-is =
              subst (λ (k : ℕ). (first_of n count (k - n) bases ≤ count) × (stack_at page (first_of n count (k - n) bases) ≡ drop n trees))
              (stack-length so_far.holds)
              (first-right page count bases n trees (at-stack so_far.progress) so_far.holds.firsts
              (omega (arith, enough, stack-length so_far.holds)))

          module _ (end : ℕ) (w : Within page next end) where
            onward : Progress rules page end (suc count) after
            onward = progress-next so_far.progress more few end (ap (λ (s : List ℕ). got r s) w.same ∙ read) w.inside after done.applies

            walked_next :
                let first = first_of n count (length operands - n) bases in
                WalkedSoFar limits page starts₀ firsts₀ (set starts count at) (set firsts count first)
                (x ∷ drop n operands) (set bases (length operands - n) first) end (suc count)
            walked_next = record {
              stack = new.tree ∷ drop n trees;
              progress = subst (λ (s : List Expr). Progress rules page end (suc count) s)
                  (new.is ∙ ap {B = List Expr} (λ k. new.tree ∷ drop k trees) (sym takes)) onward;
              holds = holds-next so_far.holds n (first_of n count (length operands - n) bases) x new.tree operand-is
                  (omega (arith, so_far.progress.count-range, few)) (omega (arith, first-is.0)) first-is.1;
              tables = tables-next so_far.tables (omega (arith, so_far.progress.count-range, few)) at (first_of n count (length operands - n) bases)
                  (entry_of page at (first_of n count (length operands - n) bases) count so_far.progress.stands read
                  (at-stack so_far.progress) (at-stack onward)
                  (omega (arith, enough, takes, stack-length so_far.holds)) own first-is.0 (first-is.1 ∙ ap (λ (k : ℕ). drop k trees) takes));
              starts-kept = kept_next starts starts₀ count at so_far.starts-kept;
              firsts-kept = kept_next firsts firsts₀ count (first_of n count (length operands - n) bases) so_far.firsts-kept;
            }

          pub stepped : NextTurn limits page starts₀ firsts₀ starts firsts operands bases at count n next x
          stepped = record { there = enough; room = room; walked-again = λ end w. rw add-one (walked_next end w) }
