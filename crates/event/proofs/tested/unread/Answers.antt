-- By the row, then by the first word.
use mathlib.Core.Path.{sym, ap, ap₂, ◌∙◌}
use mathlib.Core.Bool.{cond, ◌||◌}
use borrow.Author.Tests.{le-leb, lt-leb}
use Rattle.shape.specs.Offsets.{plain_refusal}
use Rattle.message.specs.Read.{is_event}
use Rattle.event.proofs.tested.unread.Goals as goal
use Rattle.event.proofs.tested.unread.Goals.{then-x-le4-via-then-x-le4, then-x-le4-via-else-x-le4+then-is_event}

pub returns-then-x-le4 : goal.returns-then-x-le4
returns-then-x-le4 c =
    let a = c.args in
    sym (elim c.then-x-le4.branch [
      | then-x-le4-via-then-x-le4 w ↦ ap (λ t. cond (t || is_event a.m.now) a.x (plain_refusal 5)) (le-leb a.x.row 4 w.if-x-le4.true)
      | then-x-le4-via-else-x-le4+then-is_event w ↦ ap₂ (λ t u. cond (t || u) a.x (plain_refusal 5)) (lt-leb a.x.row 4 w.if-x-le4.false) (sym w.is_event.ensures ∙ w.if-is_event.true)
    ])

pub returns : goal.returns
returns c =
    let a = c.args in
    c.plain_refusal.ensures
    ∙ sym (ap₂ (λ t u. cond (t || u) a.x (plain_refusal 5)) (lt-leb a.x.row 4 c.if-x-le4.false) (sym c.is_event.ensures ∙ c.if-is_event.false))
