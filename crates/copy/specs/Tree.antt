-- The records of a tree in one order: operands first, then the node, then its @ and then its offset. The copy of an
-- accepted page is these records (proofs/TreeLaws).
use Rattle.std.specs.Prelude.{ℕ, suc, List, [], ◌∷◌, ◌++◌}
use Rattle.std.proofs.Math.Option.{Option, none, some}
use Rattle.records.specs.Time.{Times, AtModifier, Offset}
use Rattle.records.specs.Record.{number, string, selector, range, subquery, at, offset, unary, paren, Record, leaf}
use Rattle.records.specs.Record.{wrapper, binary, aggregate, call}
use Rattle.ast.specs.Expr.{Expr, Args, no_args, arg, Aggregate, AggregateParam, Unary, Binary, Paren, Subquery}
use Rattle.ast.specs.Expr.{NumberLiteral, StringLiteral, VectorSelector, MatrixSelector, Call}

abbrev pub at_records : Option AtModifier → List Record
at_records none = []
at_records (some a) = wrapper (at a) ∷ []

abbrev pub offset_records : Option Offset → List Record
offset_records none = []
offset_records (some o) = wrapper (offset o) ∷ []

-- document 02, No. 14: "Write @ first wherever both are set on one expression"
abbrev pub times_records : Times → List Record
times_records t = at_records t.at ++ offset_records t.offset

abbrev pub arg_count : Args → ℕ
arg_count no_args = 0
arg_count (arg e es) = suc (arg_count es)

abbrev mutual
  pub records_of : Expr → List Record
  records_of (Aggregate c m e) = records_of e ++ (aggregate c m 1 ∷ [])
  records_of (AggregateParam c m p e) = records_of p ++ (records_of e ++ (aggregate c m 2 ∷ []))
  records_of (Unary e) = records_of e ++ (wrapper unary ∷ [])
  records_of (Binary c m l r) = records_of l ++ (records_of r ++ (binary c m ∷ []))
  records_of (Paren e) = records_of e ++ (wrapper paren ∷ [])
  records_of (Subquery e r s t) = records_of e ++ (wrapper (subquery r s) ∷ times_records t)
  records_of (NumberLiteral l) = leaf (number l) ∷ []
  records_of (StringLiteral t) = leaf (string t) ∷ []
  records_of (VectorSelector s t) = leaf (selector s) ∷ times_records t
  records_of (MatrixSelector s t r) = leaf (selector s) ∷ wrapper (range r) ∷ times_records t
  records_of (Call f es) = arg_records es ++ (call f (arg_count es) ∷ [])

  pub arg_records : Args → List Record
  arg_records no_args = []
  arg_records (arg e es) = records_of e ++ arg_records es
