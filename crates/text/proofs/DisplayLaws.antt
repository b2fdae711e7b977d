-- Canonical text by pieces: a node's front, its operands' texts joined by what it writes between them, its rear.
use Prim.Native.Nat.{ℕ}
use mathlib.Core.Path.{◌≡◌, refl, sym, ap}
use mathlib.Core.Bool.{Bool, true, false}
use mathlib.Core.List.{List, [], ◌∷◌, ◌++◌, map, append_assoc, append-nil}
use mathlib.Core.Option.{Option, none, some}
use Rattle.page.specs.Bytes.{pick, bytes, join}
use Rattle.records.specs.Code.{token, is_set_operator}
use Rattle.records.specs.Modifier.{BinModifier, Cardinality, one_to_one, many_to_many, many_to_one, one_to_many}
use Rattle.ast.specs.Expr.{Expr, Args, no_args, arg, Aggregate, AggregateParam, Unary, Binary, Paren, Subquery}
use Rattle.ast.specs.Expr.{NumberLiteral, StringLiteral, VectorSelector, MatrixSelector, Call}
use Rattle.ast.specs.CheckAst.{many_to_many_of, set_operator_modifier, checked_modifier}
use Rattle.text.specs.Display.{display, display_all, display_operator, display_modifier, optional}
use Rattle.text.specs.Layout.{layout_of, args_list, children, front, between, rear, joined}

display_all-map : (es : Args) → display_all es ≡ map display (args_list es)
unfolding display
display_all-map no_args = refl
display_all-map (arg e es) = ap (λ (ts : List (List ℕ)). display e ∷ ts) (display_all-map es)

texts-map : (f : Expr → List ℕ) (separator : List ℕ) (es : List Expr) → joined separator f f es ≡ join separator (map f es)
unfolding joined
texts-map f separator [] = refl
texts-map f separator (e ∷ es) = refl

pub by-pieces : (e : Expr) → display e ≡ front (layout_of e) ++ (joined (between (layout_of e)) display display (children e) ++ rear (layout_of e))
unfolding display joined
by-pieces (Aggregate c m e) = simp (append_assoc, append-nil)
by-pieces (AggregateParam c m p e) = simp (append_assoc, append-nil)
by-pieces (Unary e) = simp (append_assoc, append-nil)
by-pieces (Binary c m l r) = simp (append_assoc, append-nil)
by-pieces (Paren e) = simp (append_assoc, append-nil)
by-pieces (Subquery e r s t) = simp (append_assoc, append-nil)
by-pieces (NumberLiteral l) = sym (append-nil _)
by-pieces (StringLiteral t) = sym (append-nil _)
by-pieces (VectorSelector s t) = sym (append-nil _)
by-pieces (MatrixSelector s t r) = simp (append_assoc, append-nil)
by-pieces (Call f es) = rw (texts-map display (bytes ", ") (args_list es), ← display_all-map es) (simp append_assoc)

-- what an accepted set operator does to its modifier prints nothing
pub display_operator-checked : (c : ℕ) (m : Option BinModifier) → display_operator c (checked_modifier c m) ≡ display_operator c m
display_operator-checked c m = by (is_set_operator c)
  where
    prints : (k : Option BinModifier) → optional display_modifier (some (set_operator_modifier k)) ≡ optional display_modifier k
    prints none = refl
    prints (some k) = card k.card
      where
        card : (r : Cardinality)
            → display_modifier
            (record {
              return_bool = k.return_bool;
              matching = k.matching;
              card = many_to_many_of r;
              fill_values = k.fill_values;
            })
            ≡ display_modifier (record { return_bool = k.return_bool; matching = k.matching; card = r; fill_values = k.fill_values })
        card one_to_one = refl
        card many_to_many = refl
        card (many_to_one ls) = refl
        card (one_to_many ls) = refl

    by : (b : Bool) → display_operator c (pick b (some (set_operator_modifier m)) m) ≡ display_operator c m
    by true = ap (λ (t : List ℕ). token c ++ t) (prints m)
    by false = refl
