-- `view::literal::literal_at` meets its contract: the literal stands after the kind. Assumes nothing.
use mathlib.Core.Path.{refl}
use Rattle.page.specs.Read.{return}
use Rattle.records.specs.Literal.{read_literal}
use Rattle.records.specs.Record.{number, leaf}
use Rattle.view.proofs.KindLaws.{one_field, no_field}
use Rattle.view.proofs.literal.literal_at.Goals as goal

pub returns-in-Ok : goal.returns-in-Ok
returns-in-Ok c =
    one_field c.requires.starts c.requires.kind read_literal (λ l. leaf (number l)) (λ t. refl)
    (rw (c.in-Ok.is, c.fields_start.ensures) at
    c.read_literal.ensures)

pub returns-in-Err : goal.returns-in-Err
returns-in-Err c =
    absurd (no_field c.requires.starts c.requires.kind read_literal (λ l. return (leaf (number l))) (λ t. refl)
    (rw (c.in-Err.is, c.fields_start.ensures) at
    c.read_literal.ensures))
