-- What the walk over a page leaves in two tables for the calls that write: where each record starts, and which record
-- is the first of the expression that it ends. The operands of a record are then found without a stack: the last one
-- ends at the record before it, and the one before that ends right before the first record of the last one.
use Rattle.std.specs.Prelude.{ℕ, suc, ◌≤◌, ◌<◌, ◌≡◌, List, [], ◌∷◌, length, drop, get_or}
use Rattle.page.specs.Limits.{record_limit}
use Rattle.page.specs.Read.{got}
use Rattle.records.specs.Literal.{nan}
use Rattle.records.specs.Record.{Record, operands, read_record, read_page}
use Rattle.ast.specs.Refusal.{ok}
use Rattle.ast.specs.Expr.{Expr, NumberLiteral}
use Rattle.ast.specs.Walk.{Walked, stack, stopped, stack_after}
use Rattle.ast.specs.CheckPage.{apply}
use Rattle.ast.specs.Part.{from_record}

abbrev pub entries : Walked Expr → List Expr
entries (stack s) = s
entries (stopped n i) = []

-- the stack after the first k records of a page; empty where one of them is refused
unfoldable pub stack_at : List ℕ → ℕ → List Expr
stack_at page k = entries (stack_after apply k (read_page page))

abbrev pub newest : List Expr → Expr
newest [] = NumberLiteral nan
newest (e ∷ es) = e

-- the tree that record i ends
unfoldable pub tree_at : List ℕ → ℕ → Expr
tree_at page i = newest (stack_at page (suc i))

-- entry i of the tables: record i stands at `start`, and its operands go down to the stack after the first `first`
-- records
pub record Entry (page : List ℕ) (start first i : ℕ) : Type 0 where
  pub stands : drop start page ≡ from_record i page
  pub item : Record
  pub rest : List ℕ
  pub reads : got item rest ≡ read_record (drop start page)
  pub enough : operands item ≤ length (stack_at page i)
  pub applies : apply item (stack_at page i) ≡ ok (stack_at page (suc i))
  pub low : first ≤ i
  pub below : stack_at page first ≡ drop (operands item) (stack_at page i)
  pub grows : stack_at page (suc i) ≡ tree_at page i ∷ stack_at page first

-- the first n entries of both tables
pub record Tables (page starts firsts : List ℕ) (n : ℕ) : Type 0 where
  pub few : n ≤ record_limit
  pub starts-size : length starts ≡ record_limit
  pub firsts-size : length firsts ≡ record_limit
  pub entry : (i : ℕ) → i < n → Entry page (get_or starts i 0) (get_or firsts i 0) i
