-- The names of kinds and refusals, for people who repair a page: the words of documents 01 and 02 ('Refused when'), made
-- to stand alone.
use Rattle.std.specs.Prelude.{ℕ, List, [], ◌∷◌, get_or}
use Prim.Native.String.{String}
use Rattle.page.specs.Bytes.{bytes}

-- by number, from 0
abbrev pub kind_names : List String
kind_names = "vector" ∷ "scalar" ∷ "matrix" ∷ "string" ∷ []

-- by number; no refusal has the number 0, 35, 36, 39 or 40
abbrev pub refusal_names : List String
refusal_names =
    ""
    ∷ "record cut short, bad number or code"
    ∷ "operands missing, or not one expression at the end"
    ∷ "a limit passed (page, records, text, list, count or time)"
    ∷ "text not allowed, or not a name"
    ∷ "the lent buffer is too short"
    ∷ "unary on a string literal or range selector"
    ∷ "range after offset"
    ∷ "range after @"
    ∷ "range on anything but a selector"
    ∷ "@ set already"
    ∷ "@ on no selector, range or subquery"
    ∷ "offset set already"
    ∷ "offset on no selector, range or subquery"
    ∷ "aggregate of 0 arguments"
    ∷ "aggregate of another count than 1, or 2 with a parameter"
    ∷ "binary code is an aggregator"
    ∷ "bool without comparison"
    ∷ "two scalars compared without bool"
    ∷ "a label in both on and group"
    ∷ "a side of a set operator is a scalar"
    ∷ "set operator between vectors has a grouping"
    ∷ "a side is a string or a matrix"
    ∷ "matching labels, but a side is no vector"
    ∷ "aggregate code is an operator"
    ∷ "aggregate operand is no vector, or parameter of the wrong kind"
    ∷ "fixed signature with another count of arguments"
    ∷ "fewer arguments than declared kinds less one"
    ∷ "more arguments than declared kinds less one plus the upper extra"
    ∷ "arguments, but no declared kinds"
    ∷ "argument of another kind than declared"
    ∷ "unary operand is no scalar or vector"
    ∷ "subquery operand is no vector"
    ∷ "metric name and a __name__ matcher"
    ∷ "no name, and no matcher or only ones that accept empty text"
    ∷ "" ∷ ""
    ∷ "a function that the table does not have"
    ∷ "a signature unlike the function table's"
    ∷ "" ∷ ""
    ∷ "the flag of a pattern is wrong: 1 if it matches empty text, else 0"
    ∷ "the parameter of limitk or limit_ratio is no scalar"
    ∷ []

-- the name of a number; empty where it has none
abbrev pub name_in : List String → ℕ → List ℕ
name_in names n = bytes (get_or names n "")

unfoldable pub kind_name : ℕ → List ℕ
kind_name = name_in kind_names

unfoldable pub refusal_name : ℕ → List ℕ
refusal_name = name_in refusal_names
