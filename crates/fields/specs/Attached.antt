-- What the code's `Attached` means.
use Rattle.std.specs.Prelude.{ℕ, ◌-◌, List}
use Rattle.page.specs.Answers.{itself, option_of}
use Rattle.text.specs.Answers.{times_of}
use Rattle.view.specs.View.{Sets}
use Rattle.fields.specs.declared.attached.Attached.{Attached}

-- what is attached is what the records above record j, up to record i, set
abbrev pub SetsAttached : List ℕ → List ℕ → ℕ → ℕ → Attached → Type 0
SetsAttached page starts i j attached = Sets page starts i j (option_of itself attached.range) (times_of attached.times)

-- record j sets its own over what the records above it set
abbrev pub SetsOver : List ℕ → List ℕ → ℕ → Attached → Attached → Type 0
SetsOver page starts j above attached = (i : ℕ) → SetsAttached page starts i j above → SetsAttached page starts i (j - 1) attached
