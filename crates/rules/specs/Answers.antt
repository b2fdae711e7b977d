-- What the answers of the judges mean: operands, and the refusals by their numbers in document 01's table.
use Rattle.std.specs.Prelude.{ℕ, Result, Ok, Err}
use Rattle.records.specs.Answers.{kind_of}
use Rattle.ast.specs.Refusal as ast
use Rattle.ast.specs.Operand as spec
use Rattle.rules.specs.declared.operand.Operand.{Operand}
use Rattle.rules.specs.declared.operand.Operand.TheVariants.{Number, Fraction, String, Selector, Range, Subquery, Other}
use Rattle.rules.specs.declared.refusal.Refusal.{Refusal}
use Rattle.rules.specs.declared.refusal.Refusal.TheVariants as refusal

abbrev pub operand_meant : Operand → spec.Operand
operand_meant (Number x) = spec.number_operand x
operand_meant (Fraction s) = spec.fraction_operand s
operand_meant String = spec.string_operand
operand_meant (Selector a o) = spec.selector_operand a o
operand_meant (Range a o) = spec.range_operand a o
operand_meant (Subquery a o) = spec.subquery_operand a o
operand_meant (Other k) = spec.other_operand (kind_of k)

-- document 01, 'Outcomes of a page', the refusal table, and document 02
abbrev pub refusal_number : Refusal → ℕ
-- record cut short, bad number or code
refusal_number refusal.BadField = 1
-- operands missing, or not one expression at the end
refusal_number refusal.OperandsMissing = 2
-- a limit passed
refusal_number refusal.PastLimit = 3
-- text not allowed
refusal_number refusal.BadText = 4
-- output too short
refusal_number refusal.OutputTooShort = 5
-- unary on a string literal or range selector
refusal_number refusal.UnaryOnLiteral = 6
-- range after offset
refusal_number refusal.RangeAfterOffset = 7
-- range after @
refusal_number refusal.RangeAfterAt = 8
-- range on anything but a selector
refusal_number refusal.RangeOnNoSelector = 9
-- @ set already
refusal_number refusal.AtTwice = 10
-- @ on no selector, range or subquery
refusal_number refusal.AtOnNoSelector = 11
-- offset set already
refusal_number refusal.OffsetTwice = 12
-- offset on none of these
refusal_number refusal.OffsetOnNoSelector = 13
-- aggregate of 0 arguments
refusal_number refusal.AggregateOfNothing = 14
-- other count than 1, or 2 with a parameter
refusal_number refusal.ArgumentCount = 15
-- binary code is an aggregator
refusal_number refusal.AggregatorAsOperator = 16
-- bool without comparison
refusal_number refusal.BoolWithoutComparison = 17
-- two scalars compared without bool
refusal_number refusal.ScalarsCompared = 18
-- a label in both on and group
refusal_number refusal.LabelInBothLists = 19
-- set operator, a side scalar
refusal_number refusal.SetOfScalar = 20
-- set operator between vectors, grouped
refusal_number refusal.SetGrouped = 21
-- a side string or matrix
refusal_number refusal.SideKind = 22
-- matching labels not empty, a side no vector
refusal_number refusal.MatchingWithoutVectors = 23
-- aggregate code is an operator
refusal_number refusal.OperatorAsAggregator = 24
-- aggregate operand or parameter kind
refusal_number refusal.AggregateKind = 25
-- fixed signature, other count
refusal_number refusal.FixedArity = 26
-- fewer than declared kinds less one (at least 0)
refusal_number refusal.TooFewArguments = 27
-- more than that plus the upper extra
refusal_number refusal.TooManyArguments = 28
-- no declared kinds, yet arguments
refusal_number refusal.NoDeclaredKinds = 29
-- argument kind
refusal_number refusal.ArgumentKind = 30
-- other unary operand not scalar or vector
refusal_number refusal.UnaryKind = 31
-- subquery operand not vector
refusal_number refusal.SubqueryKind = 32
-- metric name and a `__name__` matcher
refusal_number refusal.NameTwice = 33
-- no name, and no matcher or only ones that accept empty text
refusal_number refusal.EmptySelector = 34
-- a function that the table does not have (document 02, No. 2)
refusal_number refusal.UnknownFunction = 37
-- a signature unlike the table's (the same)
refusal_number refusal.UnlikeSignature = 38
-- the flag of a covered pattern is wrong (document 02, No. 7)
refusal_number refusal.WrongFlag = 41
-- the parameter of limitk or limit_ratio is no scalar (document 02, No. 8)
refusal_number refusal.LimitParameter = 42

abbrev pub verdict_meant : Result Operand Refusal → ast.Result spec.Operand
verdict_meant (Ok x) = ast.ok (operand_meant x)
verdict_meant (Err r) = ast.refused (refusal_number r)
