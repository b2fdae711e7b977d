-- `page::utf8::character_end` meets its contract: a first byte, then what is due after it. Assumes nothing.
use Rattle.page.proofs.Utf8Laws.{character-none, character-whole, character-ends}
use Rattle.page.specs.CharacterEnd.{due_meant}
use mathlib.Core.Path.{ap}
use native.Mathlib.Omega.{arith}
use Rattle.page.proofs.utf8.character_end.Goals as goal

pub returns-in-NoCharacter : goal.returns-in-NoCharacter
returns-in-NoCharacter c =
    let start = c.args in
    character-none start.text.now start.i _ (omega arith) c.due_of.ensures
    c.in-NoCharacter.is

pub returns-in-Zero : goal.returns-in-Zero
returns-in-Zero c =
    let start = c.args in
    character-whole start.text.now start.i _ (omega arith) c.due_of.ensures
    c.in-Zero.is

pub returns-in-One : goal.returns-in-One
returns-in-One c =
    let start = c.args in
    character-ends start.text.now start.i c.due_of.result (omega arith)
    c.due_of.ensures _
    c.end_of_one.result (ap due_meant c.in-One.is) c.end_of_one.ensures

pub returns-in-Two : goal.returns-in-Two
returns-in-Two c =
    let start = c.args in
    character-ends start.text.now start.i c.due_of.result (omega arith)
    c.due_of.ensures _
    c.end_of_two.result (ap due_meant c.in-Two.is) c.end_of_two.ensures

pub returns-in-Three : goal.returns-in-Three
returns-in-Three c =
    let start = c.args in
    character-ends start.text.now start.i c.due_of.result (omega arith)
    c.due_of.ensures _
    c.end_of_three.result (ap due_meant c.in-Three.is) c.end_of_three.ensures
