-- Both ids are parts of their slots.
use mathlib.Core.Path.{ap₂, ◌∙◌}
use Rattle.wire.specs.Bytes.{same_bytes}
use Rattle.table.specs.Layout.{id_in}
use Rattle.slots.specs.Slots.{same_id_in}
use Rattle.slots.proofs.Bytes.{same_is}
use Rattle.slots.proofs.same_id.Goals as goal

pub returns : goal.returns
unfolding same_id_in id_in
returns c = c.eq.ensures ∙ same_is _ _ ∙ ap₂ same_bytes c.piece.ensures c.piece-2.ensures
