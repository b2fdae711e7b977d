-- What the answers of the functions that read signatures mean on a page.
use Rattle.std.specs.Prelude.{ℕ, List, ◌≡◌, length}
use Rattle.page.specs.Read.{Reader, ◌>>=◌, return}
use Rattle.page.specs.Text.{Text}
use Rattle.page.specs.Answers.{span_on, Lies}
use Rattle.records.specs.Kind.{Kind}
use Rattle.records.specs.Field.{read_kind}
use Rattle.records.specs.Signature as signature
use Rattle.records.specs.Answers.{kind_of, kinds_on}
use Rattle.records.specs.declared.signature.Variadic.{Variadic}
use Rattle.records.specs.declared.signature.Variadic.TheVariants.{Fixed, Unlimited, UpTo}
use Rattle.records.specs.declared.signature.Function.{Function}

abbrev pub variadic_of : Variadic → signature.Variadic
variadic_of Fixed = signature.fixed
variadic_of Unlimited = signature.unlimited
variadic_of (UpTo n) = signature.up_to n

abbrev function_of : Text → List Kind → signature.Variadic → Kind → signature.Function
function_of n ks v k = record { name = n; arg_types = ks; variadic = v; return_type = k }

abbrev pub function_on : List ℕ → Function → signature.Function
function_on page f = function_of (span_on page f.name) (kinds_on page f.kinds.start f.kinds.count) (variadic_of f.variadic) (kind_of f.result)

-- the name lies on the page, and there are as many kinds as are declared
pub record FunctionLies (page : List ℕ) (f : Function) : Type 0 where
  pub name : Lies page f.name
  pub kinds : length (kinds_on page f.kinds.start f.kinds.count) ≡ f.kinds.count

-- what follows the name and the kinds in `read_function`
abbrev pub read_function_rest : Text → List Kind → Reader signature.Function
read_function_rest n ks = signature.read_variadic >>= λ v. read_kind >>= λ k. return (function_of n ks v k)
