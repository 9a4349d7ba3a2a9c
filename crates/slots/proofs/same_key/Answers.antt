-- A law for each way out.
use mathlib.Core.Bool.{false≢true}
use mathlib.Core.Path.{sym, ap, ap₂, ◌∙◌}
use borrow.Author.Tests.{ne_eqb}
use Rattle.wire.specs.Bytes.{same_bytes, part}
use Rattle.slots.specs.Slots.{pubkey_bytes}
use Rattle.slots.proofs.Bytes.{same_is}
use Rattle.slots.proofs.Keys.{other_kinds, no_key, other_pubkey, d_decides}
use Rattle.slots.proofs.same_key.Goals as goal
use Rattle.slots.proofs.same_key.Goals.{then-k-le_at, else-k-le_at, then-keyed, else-keyed}

pub returns-then-eq : goal.returns-then-eq
unfolding pubkey_bytes
returns-then-eq c =
    elim c.if-keyed.branch [
      | then-keyed w ↦
          elim c.if-k-le_at.branch [
            | then-k-le_at u ↦ d_decides _ _ c.le_at-k.ensures.is c.le_at.ensures.is
                u.if-k-le_at.true u.keyed.ensures (sym u.value-is ∙ w.if-keyed.true)
                (w.eq.ensures ∙ same_is _ _ ∙ ap₂ same_bytes
                (w.piece.ensures ∙ ap (λ p. part p 4 64) w.text_of.ensures)
                (w.piece-then-keyed.ensures ∙ ap (λ p. part p 4 64) w.text_of-then-keyed.ensures))
                (sym w.value-is ∙ c.if-eq.true)
                (c.eq-then-eq.ensures ∙ same_is _ _ ∙ ap₂ same_bytes c.d_of.ensures c.d_of-then-eq.ensures)
            | else-k-le_at u ↦ absurd (false≢true (sym (u.value-is ∙ ne_eqb _ _ u.if-k-le_at.false) ∙ w.if-keyed.true))
          ]
      | else-keyed w ↦ absurd (false≢true (sym (w.value-is ∙ w.if-keyed.false) ∙ c.if-eq.true))
    ]

pub returns-else-eq : goal.returns-else-eq
unfolding pubkey_bytes
returns-else-eq c =
    elim c.if-keyed.branch [
      | then-keyed w ↦
          elim c.if-k-le_at.branch [
            | then-k-le_at u ↦ c.if-eq.false ∙ other_pubkey _ _ c.le_at-k.ensures.is c.le_at.ensures.is
                u.if-k-le_at.true u.keyed.ensures (sym u.value-is ∙ w.if-keyed.true)
                (w.eq.ensures ∙ same_is _ _ ∙ ap₂ same_bytes
                (w.piece.ensures ∙ ap (λ p. part p 4 64) w.text_of.ensures)
                (w.piece-then-keyed.ensures ∙ ap (λ p. part p 4 64) w.text_of-then-keyed.ensures))
                (sym w.value-is ∙ c.if-eq.false)
            | else-k-le_at u ↦ absurd (false≢true (sym (u.value-is ∙ ne_eqb _ _ u.if-k-le_at.false) ∙ w.if-keyed.true))
          ]
      | else-keyed w ↦
          elim c.if-k-le_at.branch [
            | then-k-le_at u ↦ c.if-eq.false ∙ no_key _ _ c.le_at-k.ensures.is c.le_at.ensures.is u.if-k-le_at.true u.keyed.ensures
                (sym u.value-is ∙ w.if-keyed.false)
            | else-k-le_at u ↦ c.if-eq.false ∙ other_kinds _ _ c.le_at-k.ensures.is c.le_at.ensures.is u.if-k-le_at.false
          ]
    ]
