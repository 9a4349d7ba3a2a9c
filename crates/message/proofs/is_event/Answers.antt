-- The text is read to know that a value stands there; then its first element decides.
use mathlib.Core.Path.{sym, ◌∙◌}
use Rattle.message.proofs.Worded.{event_first, event_none}
use Rattle.message.proofs.is_event.Goals as goal

pub returns-then-is_some : goal.returns-then-is_some
returns-then-is_some c =
    let w = c.space-at.ensures in
    c.is_event_at.ensures ∙ simp (c.first.ensures, w) (event_first _ (simp (w, c.value.ensures) at (sym c.is_some.ensures ∙ c.if-is_some.true)))

pub returns-else-is_some : goal.returns-else-is_some
returns-else-is_some c = c.if-is_some.false ∙ event_none _ (simp (c.space-at.ensures, c.value.ensures) at (sym c.is_some.ensures ∙ c.if-is_some.false))
