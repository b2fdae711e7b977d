-- The program's output, from what `split` did to the first 65,536 bytes of a buffer with a byte more. The buffer's own
-- bytes do not matter to the line; what `split` keeps (demand 1) makes its text the first piece of a run, and leaves
-- the buffer to the words of a refusal. Assumes nothing.
use Prim.Native.Nat.{ℕ, ◌+◌, ◌≤◌, ◌<◌}
use native.Mathlib.Nat.{zero-add}
use native.Mathlib.Omega.{arith}
use mathlib.Core.Path.{◌≡◌, refl, sym, ap, ◌∙◌, subst}
use mathlib.Core.Bool.{Bool, true, false}
use mathlib.Core.List.{List, [], ◌∷◌, ◌++◌, append_assoc}
use lib.ListN.{length, take, drop, length-append, length-drop, length-replicate, take-append-drop}
use lib.Seq.{take-append_seam, take_all, drop-append-le, length-take-le}
use lib.Dec.{leb}
use Rattle.base.proofs.Cases.{by-lt}
use Rattle.base.specs.Splice.{Wrote, join}
use Rattle.base.proofs.SpliceLaws.{wrote-length, splice-start, cut, cut-last, begin, step, finish}
use Rattle.page.specs.Bytes.{pick, bytes}
use Rattle.page.specs.Limits.{record_limit}
use Rattle.records.specs.Kind.{Kind}
use Rattle.records.specs.Outcome.{Outcome, answer, refusal}
use Rattle.leaves.specs.Decimal.{decimal}
use Rattle.leaves.proofs.DecimalLaws.{decimal-short-64}
use Rattle.ast.specs.Expr.{Expr, value_type}
use Rattle.ast.specs.Walk.{Checked, accepted, refused_at}
use Rattle.ast.specs.CheckPage.{check_page}
use Rattle.ast.specs.Table.{is_in_table, InTable}
use Rattle.walk.proofs.ProgressLaws.{too_long}
use Rattle.text.specs.Pretty.{prettify}
use Rattle.outcomes.specs.Calls.{Called, too_short, written, writing, split_text, Does}
use Rattle.outcomes.specs.Output.{program_buffer, refused_line, program_line, program_output}
use Rattle.outcomes.specs.Demand1.{Keeps}
use Rattle.outcomes.proofs.CallsLaws.{is_in_table-small, in_table-record, split_text-demand1}

abbrev line_of : Called → List ℕ
line_of c = program_line c.outcome c.buffer

-- ## The line, for any buffer of this length

-- where the text fits, and where it does not
abbrev chosen_line : Kind → ℕ → List ℕ → List ℕ → Bool → List ℕ
chosen_line k records text buffer fits =
    line_of (pick fits (record { outcome = answer k (length text); buffer = text ++ drop (length text) buffer })
    (record { outcome = refusal too_short records; buffer = buffer }))

written-line : (k : Kind) (records : ℕ) (text a b : List ℕ) → length a ≡ length b → line_of (written k records text a) ≡ line_of (written k records text b)
written-line k records text a b h = ap (λ (n : ℕ). chosen_line k records text a (leb (length text) n)) h ∙ same (leb (length text) (length b))
  where
    same : (fits : Bool) → chosen_line k records text a fits ≡ chosen_line k records text b fits
    same true = ap (λ (l : List ℕ). l ++ bytes "\n") (take-append_seam text (drop (length text) a) ∙ sym (take-append_seam text (drop (length text) b)))
    same false = refl

writing-line : (text_of : Expr → List ℕ) (c : Checked Expr) (a b : List ℕ) → length a ≡ length b → line_of (writing text_of c a) ≡ line_of (writing text_of c b)
writing-line text_of (accepted e n) a b h = written-line (value_type e) n (text_of e) a b h
writing-line text_of (refused_at n i) a b h = refl

pub output-any : (page buffer : List ℕ) → length buffer ≡ 65536 → line_of (split_text page buffer) ≡ program_output page
unfolding program_output
output-any page buffer h = writing-line prettify (check_page page) buffer program_buffer (h ∙ sym (length-replicate {A = ℕ} 65536 0))

-- ## A page beyond the limit

pub output-long : (page : List ℕ) → 8192 < length page → program_output page ≡ refused_line 3 0
unfolding program_output
output-long page h = ap (λ (c : Checked Expr). line_of (writing prettify c program_buffer)) (too_long page h)

-- the first 8,193 bytes say it
pub output-first : (page : List ℕ) → program_output (take 8193 page) ≡ program_output page
output-first page = by-lt 8192 (length page) long (λ h. ap program_output (take_all 8193 page (omega arith)))
  where
    long : 8192 < length page → program_output (take 8193 page) ≡ program_output page
    long h = output-long (take 8193 page) (omega (arith, length-take-le 8193 page (omega arith))) ∙ sym (output-long page h)

-- ## The words of a refusal

pub refused_line-pieces : (n i : ℕ) → refused_line n i ≡ join (bytes "refused " ∷ decimal n ∷ bytes " at " ∷ decimal i ∷ bytes "\n" ∷ [])
unfolding join
refused_line-pieces n i = simp append_assoc

refused_line-short : (page : List ℕ) (n i : ℕ) → InTable is_in_table page (refusal n i) → length (refused_line n i) ≤ 65537
refused_line-short page n i h = by (is_in_table-small n h.0) (in_table-record is_in_table page n i h)
  where
    by : n ≤ 255 → i ≤ record_limit → length (refused_line n i) ≤ 65537
    by g l = simp length-append (omega (arith, decimal-short-64 n (omega arith), decimal-short-64 i (omega arith)))

-- ## What `split` did

module _ (page before : List ℕ) {after : List ℕ} {o : Outcome} (d : Does (split_text page before) o after) where
  kept : Keeps before o after
  kept =
      subst (λ (x : Outcome). Keeps before x after) (sym d.answers)
      (subst (λ (l : List ℕ). Keeps before (split_text page before).outcome l) (sym d.leaves) ((split_text-demand1 page).keeps before))

  listed : InTable is_in_table page o
  listed = subst (InTable is_in_table page) (sym d.answers) ((split_text-demand1 page).in_table before)

  output : length before ≡ 65536 → program_output page ≡ program_line o after
  output h =
      sym (output-any page before h) ∙ ap (λ (x : Outcome). program_line x (split_text page before).buffer) (sym d.answers)
      ∙ ap (program_line o) (sym d.leaves)

-- ## The length

line-short : (page : List ℕ) (o : Outcome) (before after : List ℕ) → length before ≡ 65536 → Keeps before o after → InTable is_in_table page o
    → length (program_line o after) ≤ 65537
line-short page (answer k n) before after e h t =
    omega (arith, length-append (take n after) (bytes "\n"), length-take-le n after (omega (arith, h.0, h.1)), h.1)
line-short page (refusal n i) before after e h t = refused_line-short page n i t

output-short : (page : List ℕ) → length (program_output page) ≤ 65537
unfolding program_output
output-short page =
    let called : Called = split_text page program_buffer in
    let d = split_text-demand1 page in
    line-short page called.outcome program_buffer called.buffer (length-replicate {A = ℕ} 65536 0) (d.keeps program_buffer) (d.in_table program_buffer)

-- the end of what was written lies in the buffer
pub output-within : (page out : List ℕ) {last : List ℕ} {r : ℕ} → 65537 ≡ length out → Wrote out last 0 (program_output page) r → r ≤ length last
output-within page out h w = omega (arith, w.ends, output-short page, wrote-length w (omega (arith, output-short page)))

-- ## The whole buffer

module _ (page out : List ℕ) (size : 65537 ≡ length out) where
  abbrev lent : List ℕ
  lent = take 65536 out

  abbrev rest : List ℕ
  rest = drop 65536 out

  lent-size : length lent ≡ 65536
  lent-size = length-take-le 65536 out (omega arith)

  module _ {after : List ℕ} {k : Kind} {n : ℕ} (d : Does (split_text page lent) (answer k n) after) where
    text-size : length (take n after) ≡ n
    text-size = length-take-le n after (omega (arith, (kept page lent d).0, (kept page lent d).1))

    behind : drop n after ++ rest ≡ drop n out
    behind =
        ap (λ (l : List ℕ). l ++ rest) (kept page lent d).2 ∙ sym (drop-append-le n lent rest (kept page lent d).1)
        ∙ ap (drop n) (take-append-drop 65536 out)

    -- the text at the start, and all after it as it was
    text-wrote : Wrote out (after ++ rest) 0 (take n after) n
    text-wrote =
        record {
          holds = ap (λ (l : List ℕ). l ++ rest) (sym (take-append-drop n after)) ∙ append_assoc (take n after) (drop n after) rest
              ∙ ap (λ (l : List ℕ). take n after ++ l) (behind ∙ ap (λ (m : ℕ). drop m out) (sym text-size)) ∙ sym (splice-start out (take n after));
          ends = sym (zero-add (length (take n after)) ∙ text-size);
        }

    pub answer-room : n + 1 ≤ length (after ++ rest)
    answer-room = simp (length-append, length-drop) (omega (arith, (kept page lent d).0, (kept page lent d).1, lent-size))

    line-room : 0 + length (take n after ++ bytes "\n") ≤ length out
    line-room = omega (arith, length-append (take n after) (bytes "\n"), text-size, (kept page lent d).1, lent-size)

    pub answer-line : {last : List ℕ} {r : ℕ} → Wrote (after ++ rest) last n (10 ∷ []) r → Wrote out last 0 (program_output page) r
    answer-line {last} {r} w =
        subst (λ (l : List ℕ). Wrote out last 0 l r) (sym (output page lent d lent-size))
        (finish (step (step (begin out 0 (take n after ++ bytes "\n") line-room) (cut (take n after) (bytes "\n")) text-wrote) (cut-last (bytes "\n")) w) refl)

  module _ {after : List ℕ} {n i : ℕ} (d : Does (split_text page lent) (refusal n i) after) where
    same-buffer : after ++ rest ≡ out
    same-buffer = ap (λ (l : List ℕ). l ++ rest) (kept page lent d) ∙ take-append-drop 65536 out

    pub refused-room : 0 + length (refused_line n i) ≤ length (after ++ rest)
    refused-room = omega (arith, refused_line-short page n i (listed page lent d), ap length same-buffer)

    pub refused-line : {last : List ℕ} {r : ℕ} → Wrote (after ++ rest) last 0 (refused_line n i) r → Wrote out last 0 (program_output page) r
    refused-line {last} {r} w =
        subst (λ (l : List ℕ). Wrote out last 0 l r) (sym (output page lent d lent-size))
        (subst (λ (l : List ℕ). Wrote l last 0 (refused_line n i) r) same-buffer w)
