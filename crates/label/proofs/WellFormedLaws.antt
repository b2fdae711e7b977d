-- Labels and matchers print well-formed texts: as they are or quoted, sorted and joined. Assumes nothing.
use mathlib.Core.Bool.{Bool, true, false}
use mathlib.Core.List.{List, [], ◌∷◌, map}
use lib.Dec.{T}
use Rattle.page.specs.Bytes.{pick}
use Rattle.page.specs.Text.{Text, is_label, is_text}
use Rattle.page.specs.Allowed.{Each}
use Rattle.page.proofs.WellFormedLaws.{WellFormed, text-append, text-word, text-pick, text-join}
use Rattle.records.specs.Field.{Labels}
use Rattle.records.specs.Matcher.{MatchOp, equal, not_equal, re, not_re, Matcher}
use Rattle.records.specs.Allowed.{IsAnyText, AreLabels, IsMatcher}
use Rattle.leaves.proofs.WellFormedLaws.{quote-text}
use Rattle.label.specs.Label.{display_label, display_labels, match_op_token, display_matcher, at_most, insert, sort}
use Rattle.label.specs.Label.{joined_by_commas, display_matchers}

-- ## Labels

printed-label : (t : Text) → T (is_text t) → WellFormed (display_label t)
unfolding display_label
printed-label t h = text-pick (is_label t) (record { passes = h }) (quote-text t h)

each_label : (ls : Labels) → Each IsAnyText ls → Each WellFormed (map display_label ls)
each_label [] h = tt
each_label (l ∷ ls) h = (printed-label l h.0.1, each_label ls h.1)

pub labels-text : (ls : Labels) → AreLabels ls → WellFormed (display_labels ls)
unfolding display_labels
labels-text ls h = text-join (map display_label ls) (text-word ", " tt) (each_label ls h.1)

-- ## Matchers

op-text : (o : MatchOp) → WellFormed (match_op_token o)
op-text equal = text-word "=" tt
op-text not_equal = text-word "!=" tt
op-text (re b) = text-word "=~" tt
op-text (not_re b) = text-word "!~" tt

matcher-text : (m : Matcher) → IsMatcher m → WellFormed (display_matcher m)
unfolding display_matcher
matcher-text m h =
    text-append (text-append (printed-label m.name h.0.1) (op-text m.op)) (quote-text m.value h.1.1)

each-matcher : (ms : List Matcher) → Each IsMatcher ms → Each WellFormed (map display_matcher ms)
each-matcher [] h = tt
each-matcher (m ∷ ms) h = (matcher-text m h.0, each-matcher ms h.1)

-- sorted texts are the same texts
insert-each : (t : Text) (ts : List Text) → WellFormed t → Each WellFormed ts → Each WellFormed (insert t ts)
unfolding insert
insert-each t [] h hs = (h, tt)
insert-each t (u ∷ us) h hs = by (at_most t u) (insert-each t us h hs.1)
  where
    by : (b : Bool) → Each WellFormed (insert t us) → Each WellFormed (pick b (t ∷ u ∷ us) (u ∷ insert t us))
    by true more = (h, hs)
    by false more = (hs.0, more)

sort-each : (ts : List Text) → Each WellFormed ts → Each WellFormed (sort ts)
unfolding sort
sort-each [] h = tt
sort-each (t ∷ ts) h = insert-each t (sort ts) h.0 (sort-each ts h.1)

pub matchers-text : (ms : List Matcher) → Each IsMatcher ms → WellFormed (display_matchers ms)
unfolding display_matchers joined_by_commas
matchers-text ms h =
    text-join (sort (map display_matcher ms)) (text-word "," tt) (sort-each (map display_matcher ms) (each-matcher ms h))
