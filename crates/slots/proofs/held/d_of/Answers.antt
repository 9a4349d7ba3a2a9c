-- The slot's own numbers say where.
use mathlib.Core.Path.{ap, ap₂, ◌∙◌}
use Rattle.wire.specs.Bytes.{part}
use Rattle.table.specs.Layout.{d_in, text_in}
use Rattle.slots.specs.Slots.{d_bytes_in}
use Rattle.slots.proofs.held.d_of.Goals as goal

pub returns : goal.returns
unfolding d_in d_bytes_in
returns c = c.piece.ensures ∙ ap (λ t. part t c.le_at-at.result c.le_at-len.result) c.text_of.ensures ∙ ap₂
    (part (text_in c.args.s.now)) c.le_at-at.ensures.is c.le_at-len.ensures.is
