-- Patterns with their answers, by one computed test: those of the request, and near ones.
use Prim.Native.String.{String}
use Rattle.std.specs.Prelude.{Bool, true, false, not, List, [], ◌∷◌, T}
use Rattle.std.proofs.Math.Option.{Option, none, some}
use Rattle.page.specs.Bytes.{bytes, all}
use Rattle.patterns.specs.Pattern.{is_single}
use Rattle.patterns.specs.Search.{read_choice, matches_empty_text}

record Example : Type 0 where
  pattern : String
  answer : Option Bool

abbrev is : String → Option Bool → Example
is p a = record { pattern = p; answer = a }

-- covered, and empty text is in its language
abbrev empty : String → Example
empty p = is p (some true)

-- covered, and it is not
abbrev full : String → Example
full p = is p (some false)

abbrev uncovered : String → Example
uncovered p = is p none

abbrev pub same : Option Bool → Option Bool → Bool
same none none = true
same none (some b) = false
same (some a) none = false
same (some true) (some b) = b
same (some false) (some b) = not b

abbrev examples : List Example
examples =
    empty "" ∷ empty "a*" ∷ empty "a?" ∷ empty ".*" ∷ empty "a|" ∷ empty "|a" ∷ empty "|" ∷ empty "()" ∷ empty "()+"
    ∷ empty "(|)" ∷ empty "()*" ∷ empty "(a)*" ∷ empty "(a*)+" ∷ empty "(a*)*" ∷ empty "(a|b?)c*" ∷ empty "(a|)(b|)"
    ∷ full "a" ∷ full "a+" ∷ full "." ∷ full ".+" ∷ full "a|b" ∷ full "(a|b)?c" ∷ full "((a))" ∷ full "5.."
    ∷ full "a-b_C9" ∷ full "x-y*" ∷ full "Zz" ∷ full "(a|)b" ∷ full "(a+)+"
    ∷ uncovered "a**" ∷ uncovered "a*?" ∷ uncovered "a+?" ∷ uncovered "a?*" ∷ uncovered "(a)*+" ∷ uncovered "*a"
    ∷ uncovered "(*)" ∷ uncovered "|*" ∷ uncovered "(" ∷ uncovered ")" ∷ uncovered "a)" ∷ uncovered "(a" ∷ uncovered "a)|(b"
    ∷ uncovered ")(" ∷ uncovered "(?:)" ∷ uncovered "(?i)a" ∷ uncovered "^$" ∷ uncovered "[a]*" ∷ uncovered "a{2}"
    ∷ uncovered "\\d*" ∷ uncovered "a b" ∷ uncovered "a/b" ∷ uncovered "a:b" ∷ uncovered "a,b" ∷ uncovered "a@" ∷ []

examples_hold : T (all (λ e. same (matches_empty_text (bytes e.pattern)) e.answer) examples)
unfolding read_choice matches_empty_text is_single
examples_hold = tt
