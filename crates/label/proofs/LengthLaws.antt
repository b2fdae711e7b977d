-- How long the texts of labels and matchers can be: with what separates them at most four bytes for each byte that they
-- have on the page, where a text has its length before it. Assumes nothing.
use Prim.Native.Nat.{◌+◌, ◌*◌, ◌≤◌}
use native.Mathlib.Omega.{arith}
use mathlib.Core.Bool.{Bool, true, false}
use mathlib.Core.List.{List, [], ◌∷◌, ◌++◌, map}
use lib.ListN.{length, length-append}
use Rattle.page.specs.Bytes.{pick, bytes, join_rest}
use Rattle.page.specs.Number.{write_number}
use Rattle.page.specs.Text.{Text, is_label, write_text, write_all}
use Rattle.page.proofs.LengthLaws.{write_text-some}
use Rattle.records.specs.Field.{Labels, write_labels}
use Rattle.records.specs.Matcher.{MatchOp, equal, not_equal, re, not_re, Matcher, match_op_number, write_pattern_flag, write_matcher}
use Rattle.leaves.specs.Escape.{quote}
use Rattle.leaves.proofs.LengthLaws.{quote-short}
use Rattle.label.specs.Label.{display_label, display_labels, display_more_labels, match_op_token, display_matcher, more_by_commas, display_matchers}
use Rattle.label.proofs.JoinLaws.{more-length, display_matchers-length}

-- ## Labels

display_label-short : (t : Text) → length (display_label t) ≤ 2 * length t + 2
unfolding display_label
display_label-short t = by (is_label t)
  where
    by : (b : Bool) → length (pick b t (quote t)) ≤ 2 * length t + 2
    by true = omega arith
    by false = quote-short t

display_more_labels-short : (ls : Labels) → length (display_more_labels ls) ≤ 4 * length (write_all write_text ls)
unfolding display_more_labels
display_more_labels-short [] = omega arith
display_more_labels-short (l ∷ ls) =
    omega (
      arith,
      length-append (display_label l) (join_rest (bytes ", ") (map display_label ls)),
      length-append (write_text l) (write_all write_text ls),
      display_label-short l,
      write_text-some l,
      display_more_labels-short ls,
    )

-- a separator less than with one before each
display_labels-more : (ls : Labels) → length (display_labels ls) ≤ length (display_more_labels ls)
unfolding display_labels display_more_labels
display_labels-more [] = omega arith
display_labels-more (l ∷ ls) = omega arith

pub display_labels-short : (ls : Labels) → length (display_labels ls) ≤ 4 * length (write_labels ls)
display_labels-short ls = omega (arith, display_labels-more ls, display_more_labels-short ls, length-append (write_number (length ls)) (write_all write_text ls))

-- ## Matchers

match_op_token-short : (o : MatchOp) → length (match_op_token o) ≤ 2
match_op_token-short equal = omega arith
match_op_token-short not_equal = omega arith
match_op_token-short (re b) = omega arith
match_op_token-short (not_re b) = omega arith

display_matcher-short : (m : Matcher) → 1 + length (display_matcher m) ≤ 4 * length (write_matcher m)
unfolding display_matcher
display_matcher-short m =
    omega (
      arith,
      length-append (display_label m.name ++ match_op_token m.op) (quote m.value),
      length-append (display_label m.name) (match_op_token m.op),
      display_label-short m.name,
      match_op_token-short m.op,
      quote-short m.value,
      length-append ((match_op_number m.op ∷ write_text m.name) ++ write_text m.value) (write_pattern_flag m.op),
      length-append (match_op_number m.op ∷ write_text m.name) (write_text m.value),
      write_text-some m.name,
      write_text-some m.value,
    )

more_by_commas-short : (ms : List Matcher) → length (more_by_commas (map display_matcher ms)) ≤ 4 * length (write_all write_matcher ms)
unfolding more_by_commas
more_by_commas-short [] = omega arith
more_by_commas-short (m ∷ ms) =
    omega (
      arith,
      more-length (display_matcher m) (map display_matcher ms),
      length-append (write_matcher m) (write_all write_matcher ms),
      display_matcher-short m,
      more_by_commas-short ms,
    )

pub display_matchers-short : (ms : List Matcher) → length (display_matchers ms) ≤ 4 * length (write_all write_matcher ms)
display_matchers-short ms = omega (arith, display_matchers-length ms, more_by_commas-short ms)
