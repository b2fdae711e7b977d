-- Every literal that is read off a page is within the limit: a record that is read is allowed. Assumes nothing.
use Prim.Native.Nat.{ℕ}
use mathlib.Core.List.{List}
use mathlib.Core.Option.{none, some}
use mathlib.Core.Path.{◌≡◌, subst}
use native.Mathlib.Omega.{arith}
use Rattle.page.specs.Read.{Read, refused, got}
use Rattle.page.proofs.ReadBackLaws.{Got, gives_as}
use Rattle.records.specs.Record.{Record, number, string, selector, leaf, wrapper, binary, aggregate, call, read_record}
use Rattle.records.specs.Allowed.{IsAllowed}
use Rattle.records.proofs.AllowedLaws.{read_record-gives}
use Rattle.float.specs.Exact.{RecordExact}

-- a fact of what was read is a fact of an answer that means it
pub of-got : {A : Type 0} (P : A → Type 0) {a : A} {t : List ℕ} (m : Read A) → got a t ≡ m → Got P m → P a
of-got P (refused x) e g = let z : ◌≡◌ {A = ℕ} 0 1 = cc in absurd (omega arith)
of-got P {a} (got b u) e g = let same : b ≡ a = cc in subst P same g

allowed-exact : (r : Record) → IsAllowed r → RecordExact r
allowed-exact (leaf (number l)) h = h
allowed-exact (leaf (string t)) h = tt
allowed-exact (leaf (selector s)) h = tt
allowed-exact (wrapper w) h = tt
allowed-exact (binary c none) h = tt
allowed-exact (binary c (some m)) h = record { lhs = h.1.2; rhs = h.1.3 }
allowed-exact (aggregate c m n) h = tt
allowed-exact (call f n) h = tt

pub read_record-exact : (s : List ℕ) → Got RecordExact (read_record s)
read_record-exact s = (gives_as read_record-gives allowed-exact).gives s
