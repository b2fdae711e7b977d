-- `functions::form::Table::signature` meets its contract: there are as many signatures as names. Assumes nothing.
use native.Mathlib.Omega.{arith}
use Rattle.functions.proofs.CutLaws.{table-form}
use Rattle.functions.proofs.form.Table.signature.Goals as goal

pub text-requires : goal.text-requires
text-requires c =
    let table = c.args.self.now in
    let form = table-form table.letters.now table.starts.now table.formed in
    omega (arith, form.paired, c.requires)
