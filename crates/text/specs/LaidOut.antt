-- What the functions that write a page's texts know of the tree that a record ends: how its text is put together, and
-- where its operands lie. They are the newest expressions after the first `end` records, `count` of them.
use Rattle.std.specs.Prelude.{ℕ, ◌-◌, ◌≤◌, ◌≡◌, List, length, drop, get_or}
use Rattle.std.proofs.Math.Option.{none}
use Rattle.page.specs.Read.{got}
use Rattle.records.specs.Stack.{operands_of}
use Rattle.records.specs.Record.{Record, read_record}
use Rattle.ast.specs.Expr.{scalar_value}
use Rattle.ast.specs.Tables.{stack_at, tree_at}
use Rattle.text.specs.Layout.{Layout, negation, layout_of, children}

-- the record that stands where the tables say
pub record Reads (page starts : List ℕ) (i : ℕ) (item : Record) : Type 0 where
  pub rest : List ℕ
  pub reads : got item rest ≡ read_record (drop (get_or starts i 0) page)

pub record LaidOut (page : List ℕ) (i : ℕ) (own : Layout) (end count : ℕ) : Type 0 where
  pub layout : layout_of (tree_at page i) ≡ own
  pub operands : children (tree_at page i) ≡ operands_of count (stack_at page end)
  pub enough : count ≤ length (stack_at page end)
  pub low : end ≤ i
  -- the minus of a bare number is part of the number
  pub unsigned : own ≡ negation → scalar_value (tree_at page (end - 1)) ≡ none
