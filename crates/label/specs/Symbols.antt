-- How the code sees matchers' texts while it sorts them: what its contracts cite beside the definition.
--     symbols t                the quoted text of t as symbols: a byte that stands for itself, or a backslash with its letter
--     matcher_text name op value      a matcher's text from its parts
--     matcher_symbols ..        the same as symbols
--     placed f h ks            h among ks, which are in the order of the texts that f gives
use Rattle.std.specs.Prelude.{ℕ, ◌+◌, ◌*◌, Bool, List, [], ◌∷◌, ◌++◌, map}
use Rattle.page.specs.Bytes.{pick}
use Rattle.page.specs.Text.{Text}
use Rattle.leaves.specs.Escape.{escape_byte, quote}
use Rattle.records.specs.Matcher.{MatchOp}
use Rattle.label.specs.Label.{display_label, match_op_token, at_most}

-- 256 times the first byte, and the second or 0
abbrev pub symbol_of : List ℕ → ℕ
symbol_of [] = 0
symbol_of (a ∷ []) = a * 256
symbol_of (a ∷ b ∷ more) = a * 256 + b

unfoldable pub symbol : ℕ → ℕ
symbol b = symbol_of (escape_byte b)

-- 8704 is a quote
unfoldable pub symbols : Text → List ℕ
symbols t = 8704 ∷ (map symbol t ++ (8704 ∷ []))

unfoldable pub matcher_text : Text → MatchOp → Text → List ℕ
matcher_text name op value = display_label name ++ (match_op_token op ++ quote value)

-- the symbols of a name: bare, or quoted
unfoldable pub name_symbols : Bool → Text → List ℕ
name_symbols bare t = pick bare (map symbol t) (symbols t)

unfoldable pub matcher_symbols : Bool → Text → MatchOp → Text → List ℕ
matcher_symbols bare name op value = name_symbols bare name ++ (map symbol (match_op_token op) ++ symbols value)

-- `insert`, of what the texts are the texts of
module _ {A : Type 0} where
  unfoldable pub placed : (A → List ℕ) → A → List A → List A
  placed f h [] = h ∷ []
  placed f h (k ∷ ks) = pick (at_most (f h) (f k)) (h ∷ k ∷ ks) (k ∷ placed f h ks)
