-- Classes of codes are lists of codes: one computed test over the codes 0 to 30, and none beyond.
use Prim.Native.Nat.{ℕ, ◌-◌, ◌≤◌, ◌<◌}
use Prim.Native.String.{String}
use mathlib.Core.Path.{◌≡◌, refl, sym, ◌∙◌}
use mathlib.Core.Bool.{Bool, true, false, beq}
use mathlib.Core.List.{List, []}
use native.Mathlib.Omega.{arith}
use borrow.Author.Tests.{ne_eqb}
use lib.Dec.{T, eqb}
use lib.ListN.{replicate}
use Rattle.base.proofs.Cases.{by-lt}
use Rattle.base.proofs.Table.{every, at}
use Rattle.page.specs.Bytes.{bytes, any, equal}
use Rattle.records.specs.Code.{tokens, is_one_of}
use Rattle.rules.proofs.StackLaws.{get_or-past}

same : (a b : Bool) → T (beq a b) → a ≡ b
same true true h = refl
same true false h = absurd h
same false true h = absurd h
same false false h = refl

-- a place for each code from 0 to 30
abbrev codes : List ℕ
codes = replicate 31 0

-- a test of codes is a class of tokens, where they agree below 31, no token is empty, and the test fails from 31 on
pub is_one_of-test : (ws : List String) (test : ℕ → Bool) → T (every (λ c x. beq (test c) (is_one_of ws c)) 0 codes) → any (λ w. equal (bytes w) []) ws ≡ false
    → (c : ℕ) → (31 ≤ c → test c ≡ false) → test c ≡ is_one_of ws c
is_one_of-test ws test table full c beyond =
    by-lt c 31 (λ h. same (test c) (is_one_of ws c) (at (λ c x. beq (test c) (is_one_of ws c)) codes table c h))
    (λ h. beyond h ∙ sym (rw (get_or-past tokens (c - 1) "" (omega arith)) full))

-- a code from 31 on is none below
pub is-not : (c n : ℕ) → 31 ≤ c → n < 31 → eqb c n ≡ false
is-not c n h l = ne_eqb c n (omega arith)
