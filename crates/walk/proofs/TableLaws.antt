-- One entry more in the tables of the walk. Assumes nothing.
use Prim.Native.Nat.{ℕ, suc, ◌≤◌, ◌<◌}
use mathlib.Core.Path.{◌≡◌, sym, ap, subst, ◌∙◌}
use mathlib.Core.List.{List, ◌∷◌}
use native.Mathlib.Omega.{arith}
use lib.ListN.{length, get_or, set, drop, length-set}
use lib.Seq.{get_or-set_same, get_or-set_other}
use Rattle.base.proofs.Cases.{by-eq}
use Rattle.page.specs.Read.{got}
use Rattle.records.specs.Record.{Record, operands, read_record}
use Rattle.ast.specs.Refusal.{ok}
use Rattle.ast.specs.Expr.{Expr}
use Rattle.ast.specs.CheckPage.{apply}
use Rattle.ast.specs.Part.{from_record}
use Rattle.ast.specs.Tables.{stack_at, newest, tree_at, Entry, Tables}
use Rattle.walk.proofs.ApplyLaws.{Pushed, apply-pushes}

-- no entry yet
pub tables_start : (page starts firsts : List ℕ) → length starts ≡ 256 → length firsts ≡ 256 → Tables page starts firsts 0
tables_start page starts firsts s f = record {
  few = omega arith;
  starts-size = s;
  firsts-size = f;
  entry = λ i h. absurd (let z : ⊥ = omega arith in z);
}

module _ {page starts firsts : List ℕ} {count : ℕ} (tables : Tables page starts firsts count) (few : count < 256) where
  pub tables-next : (at first : ℕ) → Entry page at first count → Tables page (set starts count at) (set firsts count first) (suc count)
  tables-next at first new = record {
    few = few;
    starts-size = length-set starts count at ∙ tables.starts-size;
    firsts-size = length-set firsts count first ∙ tables.firsts-size;
    entry = λ i h. by-eq i count
        (λ e. subst (λ (k : ℕ). Entry page (get_or (set starts count at) k 0) (get_or (set firsts count first) k 0) k)
        (sym e) here) (λ n. there i h n);
  }
    where
      here : Entry page (get_or (set starts count at) count 0) (get_or (set firsts count first) count 0) count
      here =
          rw (get_or-set_same starts count at 0 (rw tables.starts-size few), get_or-set_same firsts count first 0 (rw tables.firsts-size few)) new

      there : (i : ℕ) → i < suc count → (i ≡ count → ⊥) → Entry page (get_or (set starts count at) i 0) (get_or (set firsts count first) i 0) i
      there i h n =
          rw (get_or-set_other starts count i at 0 n, get_or-set_other firsts count i first 0 n) (tables.entry i (omega arith))

-- the entry of a record that was applied
pub entry_of : (page : List ℕ) (start first i : ℕ) {r : Record} {rest : List ℕ} {stack after : List Expr}
    → drop start page ≡ from_record i page → got r rest ≡ read_record (drop start page)
    → stack_at page i ≡ stack → stack_at page (suc i) ≡ after → operands r ≤ length stack → apply r stack ≡ ok after
    → first ≤ i → stack_at page first ≡ drop (operands r) stack → Entry page start first i
unfolding tree_at
entry_of page start first i {r} {rest} {stack} {after} stands reads here next enough applies low below = record {
  stands = stands;
  item = r;
  rest = rest;
  reads = reads;
  enough = rw here enough;
  applies = rw (here, next) applies;
  low = low;
  below = rw here below;
  grows = rw (next, below) (one_more (apply-pushes r stack applies));
}
  where
    one_more : Pushed stack (operands r) after → after ≡ newest after ∷ drop (operands r) stack
    one_more p = p.is ∙ ap {B = List Expr} (λ e. newest e ∷ drop (operands r) stack) (sym p.is)
