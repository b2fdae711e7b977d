use Prim.Native.Nat.{ℕ, ◌+◌, ◌-◌, ◌/◌, ◌<◌}
use native.Mathlib.Omega.{arith}
use mathlib.Core.Path.{◌≡◌, sym, ◌∙◌}
use mathlib.Core.List.{[]}
use lib.ListN.{get_or}
use Rattle.functions.specs.Order.{order_of}
use Rattle.functions.specs.Table.{count_of, names_in, place_of}
use Rattle.functions.proofs.CutLaws.{length-names_in, table-form, names_in-at}
use Rattle.functions.proofs.PlaceLaws.{left-all, left-none}
use Rattle.functions.proofs.PlaceLaws.{Halved, left_behind, left-front, left-found}
use Rattle.functions.proofs.form.Table.find.Goals as goal
use Rattle.functions.proofs.form.Table.find.Goals.{After-order_of, In-loop-low}

abbrev middle : ℕ → ℕ → ℕ
middle low high = low + (high - low) / 2

-- the place is one of those left
half : (c : In-loop-low) →
    Halved (names_in c.args.self.now.letters.now c.args.self.now.starts.now) c.args.name.now
    c.loop-low.low c.loop-low.high (middle c.loop-low.low c.loop-low.high)
half c =
    record {
      sorted = (table-form c.args.self.now.letters.now c.args.self.now.starts.now c.args.self.now.formed).named;
      left = c.loop-low.invariant;
      from = omega arith;
      to = omega (arith, c.loop-low-test.true);
    }

inside : (c : In-loop-low) →
    middle c.loop-low.low c.loop-low.high < count_of c.args.self.now.starts.now
inside c =
    omega (
      arith,
      (half c).to,
      (half c).left.inside,
      length-names_in c.args.self.now.letters.now c.args.self.now.starts.now,
    )

-- the name there, beside the name that is looked for
order : (c : After-order_of) → middle c.loop-low.low c.loop-low.high < count_of c.args.self.now.starts.now →
    order_of
    (get_or (names_in c.args.self.now.letters.now c.args.self.now.starts.now)
    (middle c.loop-low.low c.loop-low.high) [])
    c.args.name.now
    ≡ c.order_of.result
order c within =
    rw (
      names_in-at c.args.self.now.letters.now c.args.self.now.starts.now _ within,
      ← c.text.ensures,
    )
    (sym c.order_of.ensures)

pub loop-low-init : goal.loop-low-init
loop-low-init c =
    left-all _ _ _ (length-names_in c.args.self.now.letters.now c.args.self.now.starts.now)

pub overflow_add-middle : goal.overflow_add-middle
overflow_add-middle c =
    omega (arith, inside (goal.at.overflow_add-middle c).In-loop-low)

pub text-requires : goal.text-requires
text-requires c =
    omega (arith, inside (goal.at.text-requires c).In-loop-low)

pub returns-in-Equal : goal.returns-in-Equal
unfolding place_of
returns-in-Equal c =
    left-found (half (goal.at.returns-in-Equal c).In-loop-low)
    (order (goal.at.returns-in-Equal c).After-order_of (inside (goal.at.returns-in-Equal c).In-loop-low)
    ∙ c.in-Equal.is)

pub overflow_add-low : goal.overflow_add-low
overflow_add-low c =
    omega (arith, inside (goal.at.overflow_add-low c).In-loop-low)

pub loop-low-preserved-in-Less : goal.loop-low-preserved-in-Less
loop-low-preserved-in-Less c =
    left_behind (half (goal.at.loop-low-preserved-in-Less c).In-loop-low)
    (order (goal.at.loop-low-preserved-in-Less c).After-order_of
    (inside (goal.at.loop-low-preserved-in-Less c).In-loop-low) ∙ c.in-Less.is)

pub loop-low-preserved : goal.loop-low-preserved
loop-low-preserved c =
    left-front (half (goal.at.loop-low-preserved c).In-loop-low)
    (order (goal.at.loop-low-preserved c).After-order_of (inside (goal.at.loop-low-preserved c).In-loop-low)
    ∙ c.in-Greater.is)

pub returns : goal.returns
unfolding place_of
returns c =
    left-none c.loop-low.invariant c.loop-low-test.false
