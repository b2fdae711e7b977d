-- Declared kinds read again from the page, and arguments matched against them one by one. Assumes nothing.
use Prim.Native.Nat.{ℕ, ◌+◌, ◌-◌, ◌≤◌, ◌<◌}
use mathlib.Core.Path.{◌≡◌, refl, sym, ap, ◌∙◌}
use mathlib.Core.Bool.{Bool, true, false, ◌&&◌, not}
use mathlib.Core.List.{List, [], ◌∷◌, map}
use native.Mathlib.Omega.{arith}
use lib.ListN.{length, get_or}
use Rattle.page.specs.Bytes.{is_empty}
use Rattle.page.specs.Read.{FieldFault, refused, got}
use Rattle.page.specs.Listed.{listed}
use Rattle.page.proofs.ListLaws.{listed_more, listed-refused, listed-none}
use Rattle.records.specs.Kind.{Kind, equal_kind}
use Rattle.records.specs.Field.{read_kind}
use Rattle.records.specs.Stack.{operands_of}
use Rattle.ast.specs.CheckAst.{args_match}
use Rattle.ast.specs.Operand.{Operand, string_operand, operand_kind}
use Rattle.rules.proofs.StackLaws.{operands-first}
use Rattle.judge.specs.Call.{undeclared, next, next_kind}

-- ## The kinds from a place of the page on

module _ (n : ℕ) (s : List ℕ) where
  pub next_more : {k : Kind} {t : List ℕ} → 0 < n → got k t ≡ read_kind s → true ≡ not (is_empty (listed read_kind (n - 1) t))
      → next k (listed read_kind (n - 1) t) ≡ next_kind (listed read_kind n s)
  next_more {k} {t} h e more = go (listed read_kind (n - 1) t) more ∙ sym (ap next_kind (listed_more read_kind n s h e))
    where
      go : (ks : List Kind) → true ≡ not (is_empty ks) → next k ks ≡ next_kind (k ∷ ks)
      go [] f = absurd (let z : ◌≡◌ {A = ℕ} 0 1 = cc in omega arith)
      go (j ∷ ks) f = refl

  pub next_last : {k : Kind} {t : List ℕ} → 0 < n → got k t ≡ read_kind s → false ≡ not (is_empty (listed read_kind (n - 1) t))
      → next k (listed read_kind n s) ≡ next_kind (listed read_kind n s)
  next_last {k} {t} h e last = rw (listed_more read_kind n s h e) (go (listed read_kind (n - 1) t) last)
    where
      go : (ks : List Kind) → false ≡ not (is_empty ks) → next k (k ∷ ks) ≡ next_kind (k ∷ ks)
      go [] f = refl
      go (j ∷ ks) f = absurd (let z : ◌≡◌ {A = ℕ} 0 1 = cc in omega arith)

  pub next-refused : {f : FieldFault} → refused f ≡ read_kind s → undeclared ≡ next_kind (listed read_kind n s)
  next-refused e = sym (ap next_kind (listed-refused read_kind n s e))

  pub next-none : n ≤ 0 → undeclared ≡ next_kind (listed read_kind n s)
  next-none h = sym (ap next_kind (listed-none read_kind n s h))

-- ## args_match

match-next : (ks js : List Kind) (k a : Kind) (args : List Kind) → next k js ≡ next_kind ks → args_match ks (a ∷ args) ≡ equal_kind k a && args_match js args
match-next [] js k a args e = absurd (let z : ◌≡◌ {A = ℕ} 0 1 = cc in omega arith)
match-next (i ∷ []) js k a args e = let same : k ≡ i = cc in let rest : js ≡ i ∷ [] = cc in rw (same, rest)
match-next (i ∷ j ∷ ks) js k a args e = let same : k ≡ i = cc in let rest : js ≡ j ∷ ks = cc in rw (same, rest)

match-undeclared : (ks : List Kind) (a : Kind) (args : List Kind) → undeclared ≡ next_kind ks → args_match ks (a ∷ args) ≡ false
match-undeclared [] a args e = refl
match-undeclared (i ∷ []) a args e = absurd (let z : ◌≡◌ {A = ℕ} 0 1 = cc in omega arith)
match-undeclared (i ∷ j ∷ ks) a args e = absurd (let z : ◌≡◌ {A = ℕ} 0 1 = cc in omega arith)

-- the loop over arguments: `left` of them are left, matched against the kinds `ks`
module _ (stack : List Operand) (left : ℕ) (any : 0 < left) (fits : left ≤ length stack) (ks : List Kind) where
  abbrev first : Kind
  first = operand_kind (get_or stack (left - 1) string_operand)

  abbrev rest : List Kind
  rest = map operand_kind (operands_of (left - 1) stack)

  arguments : map operand_kind (operands_of left stack) ≡ first ∷ rest
  arguments =
      let one : left ≡ (left - 1) + 1 = omega arith in
      ap (λ (n : ℕ). map operand_kind (operands_of n stack)) one
      ∙ ap (map operand_kind) (operands-first stack (left - 1) (omega arith))

  module _ {whole : Bool} (inv : whole ≡ args_match ks (map operand_kind (operands_of left stack))) where
    by_next : {k : Kind} {js : List Kind} → next k js ≡ next_kind ks → whole ≡ equal_kind k first && args_match js rest
    by_next {k} {js} e = inv ∙ ap (args_match ks) arguments ∙ match-next ks js k first rest e

    -- the next argument has another kind, or the right one
    pub match-other : {k : Kind} {js : List Kind} → next k js ≡ next_kind ks → equal_kind k first ≡ false → false ≡ whole
    match-other e is = sym (by_next e ∙ rw is)

    pub match-more : {k : Kind} {js : List Kind} → next k js ≡ next_kind ks → equal_kind k first ≡ true → whole ≡ args_match js rest
    match-more e is = by_next e ∙ rw is

    pub match_none : undeclared ≡ next_kind ks → false ≡ whole
    match_none e = sym (inv ∙ ap (args_match ks) arguments ∙ match-undeclared ks first rest e)
