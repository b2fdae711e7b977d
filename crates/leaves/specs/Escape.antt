-- Escaped and quoted texts (util/string.rs, `escape_string`).
use Rattle.std.specs.Prelude.{ℕ, List, [], ◌∷◌, ◌++◌, eqb, Option, Some, None}
use Rattle.page.specs.Bytes.{pick, bytes}
use Rattle.page.specs.Text.{Text}

-- string.rs, `escape_string`, at one byte
unfoldable pub escape_byte : ℕ → List ℕ
escape_byte c =
    pick (eqb c 92) (bytes "\\\\")
    (pick (eqb c 34) (bytes "\\\"")
    (pick (eqb c 10) (bytes "\\n")
    (pick (eqb c 13) (bytes "\\r")
    (pick (eqb c 9) (bytes "\\t")
    (c ∷ [])))))

-- a byte that stands for itself, or a backslash and a letter
abbrev pub escape_with : ℕ → Option ℕ → List ℕ
escape_with c None = c ∷ []
escape_with c (Some letter) = bytes "\\" ++ (letter ∷ [])

unfoldable pub escape : Text → List ℕ
escape [] = []
escape (c ∷ cs) = escape_byte c ++ escape cs

unfoldable pub quote : Text → List ℕ
quote t = bytes "\"" ++ escape t ++ bytes "\""
