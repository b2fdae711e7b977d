-- What the answers of the check mean: document 01's kinds and numbers, and what the walk leaves in its tables.
use Rattle.std.specs.Prelude.{ℕ, ◌-◌, List, ◌≡◌, drop, Result, Ok, Err}
use Rattle.records.specs.Kind.{Kind}
use Rattle.records.specs.Outcome as spec
use Rattle.records.specs.Answers.{kind_of}
use Rattle.ast.specs.Walk.{Checked, accepted, refused_at}
use Rattle.ast.specs.Expr.{Expr, value_type}
use Rattle.ast.specs.Tables.{tree_at, Tables}
use Rattle.records.specs.declared.kind.Kind.{Kind as KindCode}
use Rattle.rules.specs.Answers.{refusal_number}
use Rattle.rules.specs.declared.refusal.Refusal.{Refusal}
use Rattle.walk.specs.declared.answer.Accepted.{Accepted}
use Rattle.walk.specs.declared.answer.Refused.{Refused}
use Rattle.walk.specs.declared.Walked.{Walked}

-- the kind and the count of bytes written, or the refusal's number and the record's index
abbrev pub outcome_meant : Result Accepted Refused → spec.Outcome
outcome_meant (Ok a) = spec.answer (kind_of a.kind) a.written
outcome_meant (Err r) = spec.refusal (refusal_number r.refusal) r.index

-- What a check comes to is the first argument of the claims below: document 01's, or the one with the rule of limitk.

-- an accepted page of n records: the tables, the tree that its last record ends, and the kind of this tree
pub record Accepts (checked : Checked Expr) (page starts firsts : List ℕ) (k : Kind) (n : ℕ) : Type 0 where
  pub tables : Tables page starts firsts n
  pub tree : checked ≡ accepted (tree_at page (n - 1)) n
  pub kind : value_type (tree_at page (n - 1)) ≡ k

-- a page refused with a number at record i: the tables of the records before it
pub record Refuses (checked : Checked Expr) (page starts firsts : List ℕ) (number i : ℕ) : Type 0 where
  pub tables : Tables page starts firsts i
  pub refuses : checked ≡ refused_at number i

-- what the walk's answer says of the page and of the tables
abbrev pub WalkSays : Checked Expr → List ℕ → List ℕ → List ℕ → Result Walked Refused → Type 0
WalkSays checked page starts firsts (Ok w) = Accepts checked page starts firsts (kind_of w.kind) w.count
WalkSays checked page starts firsts (Err r) = Refuses checked page starts firsts (refusal_number r.refusal) r.index

-- how many records were accepted, each with an entry in both tables
abbrev pub entries_of : Result Walked Refused → ℕ
entries_of (Ok w) = w.count
entries_of (Err r) = r.index

-- the answer, from what the records come to and how many of them were accepted
abbrev pub walked_as : Result KindCode Refusal → ℕ → Result Walked Refused
walked_as (Ok k) n = Ok (record { kind = k; count = n })
walked_as (Err r) n = Err (record { refusal = r; index = n })

-- the walk's answer, and that the entries after those of the records accepted are as they were
pub record Walks (checked : Checked Expr) (page starts_before firsts_before starts firsts : List ℕ) (r : Result Walked Refused) : Type 0 where
  pub says : WalkSays checked page starts firsts r
  pub starts-kept : drop (entries_of r) starts ≡ drop (entries_of r) starts_before
  pub firsts-kept : drop (entries_of r) firsts ≡ drop (entries_of r) firsts_before
