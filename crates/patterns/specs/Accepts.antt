-- Whether a text is in the language of a covered pattern (document 02, No. 7), computed from the tree: every way to cut
-- the text is tried. The check needs empty text alone, and this pins the language on every text: that the two say the
-- same is proved (proofs/AcceptsLaws), and specs/LanguageExamples holds a table of answers.
use Rattle.std.specs.Prelude.{ℕ, zero, suc, ◌+◌, ◌*◌, Bool, true, false, ◌||◌, ◌&&◌, List, [], ◌∷◌, map, length, eqb}
use Rattle.std.proofs.Math.Option.{Option, none, some}
use Rattle.page.specs.Bytes.{is_empty, any as any_of}
use Rattle.patterns.specs.Pattern.{Repeat, once, star, plus, optional, Choice, last, or, Sequence, done, then}
use Rattle.patterns.specs.Pattern.{Item, single, any, group}
use Rattle.patterns.specs.Language.{Characters, is_any}
use Rattle.patterns.specs.Search.{Found, missing, found, read_choice}

-- ## Texts

-- the text of one character that passes the test
abbrev pub is_one : (ℕ → Bool) → Characters → Bool
is_one test [] = false
is_one test (x ∷ []) = test x
is_one test (x ∷ y ∷ t) = false

-- every way to cut a text in two
abbrev pub cuts : Characters → List (Characters × Characters)
cuts [] = ([], []) ∷ []
cuts (x ∷ t) = ([], x ∷ t) ∷ map (λ (p : Characters × Characters). (x ∷ p.0, p.1)) (cuts t)

-- one of them makes a first text and a second text that pass these tests
abbrev pub in_two : (Characters → Bool) → (Characters → Bool) → Characters → Bool
in_two first second t = any_of (λ (p : Characters × Characters). first p.0 && second p.1) (cuts t)

-- texts that pass the test, one after the other: at most so many, and none of them empty
abbrev pub in_many : (Characters → Bool) → ℕ → Characters → Bool
in_many test zero t = is_empty t
in_many test (suc n) [] = true
in_many test (suc n) (x ∷ t) = in_two (λ u. test (x ∷ u)) (λ v. in_many test n v) t

-- ## Trees

-- texts that are not empty are at most as many as the characters
abbrev pub accepts_repeated : Repeat → (Characters → Bool) → Characters → Bool
accepts_repeated once test t = test t
accepts_repeated star test t = in_many test (length t) t
accepts_repeated plus test t = in_two test (λ v. in_many test (length v) v) t
accepts_repeated optional test t = is_empty t || test t

abbrev mutual
  pub accepts_choice : Choice → Characters → Bool
  accepts_choice (last s) t = accepts_sequence s t
  accepts_choice (or s c) t = accepts_sequence s t || accepts_choice c t

  pub accepts_sequence : Sequence → Characters → Bool
  accepts_sequence done t = is_empty t
  accepts_sequence (then i s) t = in_two (λ u. accepts_item i u) (λ v. accepts_sequence s v) t

  pub accepts_item : Item → Characters → Bool
  accepts_item (single b h r) t = accepts_repeated r (is_one (eqb b)) t
  accepts_item (any r) t = accepts_repeated r (is_one is_any) t
  accepts_item (group c r) t = accepts_repeated r (λ u. accepts_choice c u) t

-- ## The whole pattern

abbrev pub accepts_whole : Found Choice → Characters → Option Bool
accepts_whole missing t = none
accepts_whole (found c []) t = some (accepts_choice c t)
accepts_whole (found c (b ∷ bs)) t = none

-- whether a covered pattern, as it is written, matches a text; none of any other
abbrev pub accepts : List ℕ → Characters → Option Bool
accepts pattern t = accepts_whole (read_choice (3 * length pattern + 3) pattern) t
