-- The calls on a page that write (document 01, 'Outcomes of a page'): what each answers, and what the lent buffer holds
-- afterwards.
use Rattle.std.specs.Prelude.{ℕ, ◌≡◌, List, ◌++◌, length, drop, leb}
use Rattle.page.specs.Bytes.{pick}
use Rattle.records.specs.Kind.{Kind}
use Rattle.ast.specs.Expr.{Expr, value_type}
use Rattle.ast.specs.Walk.{Checked, accepted, refused_at}
use Rattle.ast.specs.CheckPage.{check_page}
use Rattle.records.specs.Outcome.{Outcome, answer, refusal}
use Rattle.copy.specs.Copy.{copy_page}
use Rattle.text.specs.Display.{display}
use Rattle.text.specs.Pretty.{prettify}

-- what a call answers, and what the buffer holds afterwards
pub record Called : Type 0 where
  pub outcome : Outcome
  pub buffer : List ℕ

abbrev pub too_short : ℕ
too_short = 5

-- a text written to the start of a buffer: the bytes after it stay. 5 where it does not fit, and then nothing is
-- written
abbrev pub written : Kind → ℕ → List ℕ → List ℕ → Called
written k records text buffer =
    pick (leb (length text) (length buffer))
    (record { outcome = answer k (length text); buffer = text ++ drop (length text) buffer })
    (record { outcome = refusal too_short records; buffer = buffer })

-- a call that writes something of the accepted tree
abbrev pub writing : (Expr → List ℕ) → Checked Expr → List ℕ → Called
writing text_of (accepted e n) buffer = written (value_type e) n (text_of e) buffer
writing text_of (refused_at n i) buffer = record { outcome = refusal n i; buffer = buffer }

-- what a call did: its answer, and what the buffer holds afterwards, are those
pub record Does (called : Called) (outcome : Outcome) (buffer : List ℕ) : Type 0 where
  pub answers : outcome ≡ called.outcome
  pub leaves : buffer ≡ called.buffer

abbrev pub copy : List ℕ → List ℕ → Called
copy page = writing (λ e. copy_page page) (check_page page)

abbrev pub canonical_text : List ℕ → List ℕ → Called
canonical_text page = writing display (check_page page)

abbrev pub split_text : List ℕ → List ℕ → Called
split_text page = writing prettify (check_page page)
