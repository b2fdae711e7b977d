-- `names::refusal::refusal_name` meets its contract: the arrays hold the names of the definition, by computation.
-- Assumes nothing.
use Rattle.names.specs.Names.{refusal_names, refusal_name}
use Rattle.names.proofs.TableLaws.{name_at-run}
use Rattle.names.proofs.WrittenLaws.{does-as}
use Rattle.names.proofs.refusal.refusal_name.Goals as goal

pub returns : goal.returns
unfolding refusal_name
returns c =
    does-as c.args.out.now (name_at-run refusal_names c.args.number)
    c.write_name.ensures
