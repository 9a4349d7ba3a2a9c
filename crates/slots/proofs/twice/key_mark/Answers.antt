-- A law for each way out.
use mathlib.Core.Path.{sym, ap, ap₂, ◌∙◌}
use Rattle.wire.specs.Bytes.{part}
use Rattle.table.specs.Layout.{kind_in}
use Rattle.slots.specs.Slots.{pubkey_bytes}
use Rattle.slots.specs.Marks.{key_number}
use Rattle.slots.proofs.Marks.{mark_keyed, mark_plain}
use Rattle.slots.proofs.twice.key_mark.Goals as goal

pub returns-then-keyed : goal.returns-then-keyed
unfolding kind_in pubkey_bytes
returns-then-keyed c = mark_keyed _ c.le_at-kind.ensures.is (sym c.keyed.ensures ∙ c.if-keyed.true)
    (c.key_number.ensures ∙ ap₂ key_number c.d_of.ensures (c.piece-pubkey.ensures ∙ ap (λ t. part t 4 64) c.text_of.ensures))

pub returns : goal.returns
unfolding kind_in
returns c = mark_plain _ c.le_at-kind.ensures.is (sym c.keyed.ensures ∙ c.if-keyed.false) c.id_mark.ensures
