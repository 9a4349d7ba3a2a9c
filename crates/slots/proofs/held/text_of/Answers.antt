-- The slot's own number says how long.
use mathlib.Core.Path.{ap, ◌∙◌}
use Rattle.wire.specs.Bytes.{part}
use Rattle.table.specs.Layout.{length_in, text_in}
use Rattle.slots.proofs.held.text_of.Goals as goal

pub returns : goal.returns
unfolding length_in text_in
returns c = c.piece.ensures ∙ ap (part c.args.s.now 112) c.le_at.ensures.is
