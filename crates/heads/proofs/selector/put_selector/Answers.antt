-- `heads::selector::put_selector` meets its contract: the name, and the braces. Assumes nothing.
use Prim.Native.Nat.{ℕ}
use mathlib.Core.Path.{refl}
use mathlib.Core.List.{List}
use Rattle.base.proofs.SpliceLaws.{begin, first, room, step, finish, cut-last}
use Rattle.reader.specs.Answers.{selector_on}
use Rattle.leaves.proofs.PartLaws.{part-fits, part-wrote}
use Rattle.heads.proofs.HeadLaws.{selector-cut}
use Rattle.heads.proofs.selector.put_selector.Goals as goal

pub put_bytes-behind-requires : goal.put_bytes-behind-requires
put_bytes-behind-requires c =
    part-fits (λ (l : List ℕ). l) c.text_at.ensures _ _
    (first _ _ c.requires.room
    (selector-cut (selector_on c.args.page.now c.args.selector)))

pub put_braces-requires : goal.put_braces-requires
put_braces-requires c =
    record {
      stored = c.requires.stored;
      limits = c.requires.limits;
      room = room (step (begin _ _ _ c.requires.room)
          (selector-cut (selector_on c.args.page.now c.args.selector))
          (part-wrote (λ (l : List ℕ). l) c.text_at.ensures c.put_bytes-behind.ensures))
          (cut-last _);
    }

pub returns : goal.returns
returns c =
    finish (step (step (begin _ _ _ c.requires.room)
    (selector-cut (selector_on c.args.page.now c.args.selector))
    (part-wrote (λ (l : List ℕ). l) c.text_at.ensures c.put_bytes-behind.ensures))
    (cut-last _) c.put_braces.ensures) refl
