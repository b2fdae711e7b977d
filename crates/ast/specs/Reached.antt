-- How far document 01's check comes on a page, and the first record there that is refused for something else: by these
-- the check with rules is known from document 01's and from what is asked of the records (`check_page_by-first`,
-- `check_page_by-none`). They serve proofs; what the check with rules is stands in `Rules`.
use Rattle.std.specs.Prelude.{ℕ, suc, ◌<◌, min, ◌≡◌, List, ◌∷◌, take, drop}
use Rattle.std.proofs.Math.Option.{Option, none, some}
use Rattle.page.specs.Allowed.{Each}
use Rattle.records.specs.Record.{Record}
use Rattle.ast.specs.Expr.{Expr}
use Rattle.ast.specs.Walk.{Checked, accepted, refused_at}
use Rattle.ast.specs.Table.{record_count}

-- how many records document 01's check comes to: all of an accepted page; else up to the refused one, if it can be read
abbrev pub reached_count : List ℕ → Checked Expr → ℕ
reached_count page (accepted e n) = n
reached_count page (refused_at n i) = min (suc i) (record_count page)

-- record i is the first of so many that is refused, with this number
pub record FirstAsked (asked : Record → Option ℕ) (rs : List Record) (count n i : ℕ) : Type 0 where
  pub below : i < count
  pub passed : Each (λ r. asked r ≡ none) (take i rs)
  pub item : Record
  pub later : List Record
  pub stands : drop i rs ≡ item ∷ later
  pub refuses : asked item ≡ some n
