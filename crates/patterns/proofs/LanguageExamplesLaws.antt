-- The table of specs/LanguageExamples speaks of the language: a row that `accepts` answers so is so. Assumes nothing.
use mathlib.Core.Path.{◌≡◌, refl}
use mathlib.Core.Bool.{Bool, true, false}
use mathlib.Core.Logic.{◌↔◌}
use mathlib.Core.List.{List, [], ◌∷◌}
use mathlib.Core.Option.{Option, none, some}
use lib.Dec.{T}
use Rattle.page.specs.Bytes.{bytes, all}
use Rattle.page.proofs.NumberLaws.{left-of, right_of}
use Rattle.patterns.specs.Language.{Matches}
use Rattle.patterns.specs.Accepts.{accepts}
use Rattle.patterns.specs.EmptyTextExamples.{same}
use Rattle.patterns.specs.LanguageExamples.{Example, examples, holds, examples_hold}
use Rattle.patterns.proofs.AcceptsLaws.{accepts-language}

same_true : (x y : Option Bool) → T (same x y) → x ≡ y
same_true none none h = refl
same_true none (some b) h = absurd h
same_true (some a) none h = absurd h
same_true (some true) (some true) h = refl
same_true (some true) (some false) h = absurd h
same_true (some false) (some true) h = absurd h
same_true (some false) (some false) h = refl

-- each row says of its text what the language says
abbrev pub InLanguage : List Example → Type 0
InLanguage [] = Unit {0}
InLanguage (e ∷ es) = (T e.answer ↔ Matches (bytes e.pattern) e.text) × InLanguage es

rows-language : (rows : List Example) → T (all holds rows) → InLanguage rows
rows-language [] h = tt
rows-language (e ∷ es) h =
    let answered : Option Bool = accepts (bytes e.pattern) e.text in
    let row = same_true answered (some e.answer) (left-of (holds e) (all holds es) h) in (
      accepts-language (bytes e.pattern) e.text e.answer row,
      rows-language es (right_of (holds e) (all holds es) h),
    )

pub examples-language : InLanguage examples
examples-language = rows-language examples examples_hold
