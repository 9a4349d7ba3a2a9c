-- The first bytes of the id.
use mathlib.Core.Path.{ap, ◌∙◌}
use Rattle.wire.specs.Field.{field_at}
use Rattle.table.specs.Layout.{id_in}
use Rattle.slots.specs.Marks.{id_mark}
use Rattle.slots.proofs.twice.id_mark.Goals as goal

pub returns : goal.returns
unfolding id_mark id_in
returns c = c.le_at.ensures.is ∙ ap (λ l. field_at l 0 2) c.piece.ensures
