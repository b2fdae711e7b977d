-- Literals as operands: what holds of every float and of every sign holds of the operand of a literal. Its negation and
-- the literal exception are those of the literal: of a fraction the sign decides. Assumes nothing.
use mathlib.Core.Path.{◌≡◌, refl, sym, ap}
use mathlib.Core.Bool.{Bool, true, false, ◌&&◌, ◌||◌}
use lib.Ieee.{Float}
use Rattle.page.specs.Text.{Text}
use Rattle.records.specs.Literal.{whole, fraction, infinite, Literal, plus, minus, nan, negate}
use Rattle.records.specs.Float.{float, HasFloat, IsExact}
use Rattle.records.specs.LiteralException.{is_exp, is_logarithm, is_exempt_literal}
use Rattle.records.proofs.FloatLaws.{float-negate, float-is_nan, float-is_infinite, float-at_most_zero}
use Rattle.ast.specs.Refusal.{Result, ok}
use Rattle.ast.specs.Operand.{Operand, number_operand, fraction_operand, literal_operand}
use Rattle.ast.specs.Judge.{judge_unary, is_exempt_float, is_exempt_operand}

pub by-literal : (P : Operand → Type 0) → ((x : Float) → P (number_operand x)) → ((s : Bool) → P (fraction_operand s))
    → (l : Literal) → P (literal_operand l)
by-literal P number sign (plus (whole n)) = number _
by-literal P number sign (plus (fraction d p)) = sign false
by-literal P number sign (plus infinite) = number _
by-literal P number sign (minus (whole n)) = number _
by-literal P number sign (minus (fraction d p)) = sign true
by-literal P number sign (minus infinite) = number _
by-literal P number sign nan = number _

-- ## Negation

negated-float : (l : Literal) → judge_unary (number_operand (float l)) ≡ ok (number_operand (float (negate l)))
negated-float l = ap {B = Result Operand} (λ x. ok (number_operand x)) (sym (float-negate l))

pub literal-negated : (l : Literal) → judge_unary (literal_operand l) ≡ ok (literal_operand (negate l))
literal-negated (plus (whole n)) = negated-float (plus (whole n))
literal-negated (plus (fraction d p)) = refl
literal-negated (plus infinite) = negated-float (plus infinite)
literal-negated (minus (whole n)) = negated-float (minus (whole n))
literal-negated (minus (fraction d p)) = refl
literal-negated (minus infinite) = negated-float (minus infinite)
literal-negated nan = negated-float nan

-- ## The literal exception

exempt-float : (name : Text) (l : Literal) → IsExact l → HasFloat l → is_exempt_float name (float l) ≡ is_exempt_literal name l
exempt-float name l h f = rw (float-is_nan l h f, float-is_infinite l h f, float-at_most_zero l h f)

-- no NaN and no infinity: exp is out, and a logarithm asks for the sign
sign-decides : (exp logarithm negative : Bool) → (logarithm && negative) ≡ (exp && false || logarithm && negative)
sign-decides true logarithm negative = refl
sign-decides false logarithm negative = refl

pub literal-exempt : (name : Text) (l : Literal) → IsExact l → is_exempt_operand name (literal_operand l) ≡ is_exempt_literal name l
literal-exempt name (plus (whole n)) h = exempt-float name (plus (whole n)) h tt
literal-exempt name (plus (fraction d p)) h = sign-decides (is_exp name) (is_logarithm name) false
literal-exempt name (plus infinite) h = exempt-float name (plus infinite) h tt
literal-exempt name (minus (whole n)) h = exempt-float name (minus (whole n)) h tt
literal-exempt name (minus (fraction d p)) h = sign-decides (is_exp name) (is_logarithm name) true
literal-exempt name (minus infinite) h = exempt-float name (minus infinite) h tt
literal-exempt name nan h = exempt-float name nan h tt
