-- A law for each way out.
use mathlib.Core.Bool.{false≢true}
use mathlib.Core.Path.{sym, ◌∙◌}
use native.Mathlib.Omega.{arith}
use Rattle.slots.proofs.Whole.{header_bad, few, slots_bad, twice_held, later_decides}
use Rattle.slots.proofs.sound.Goals as goal
use Rattle.slots.proofs.sound.Goals.{then-slots_sound, else-slots_sound}

pub returns-then-not-header_sound : goal.returns-then-not-header_sound
returns-then-not-header_sound c = header_bad _ c.header_sound.ensures c.if-not-header_sound.true

pub apart-requires : goal.apart-requires
apart-requires c =
    let f = few _ c.header_sound.ensures c.if-not-header_sound.false c.le_at-n.ensures.is c.le_at-c.ensures.is in
    omega arith

pub overflow_sub-n : goal.overflow_sub-n
overflow_sub-n c =
    let f = few _ c.header_sound.ensures c.if-not-header_sound.false c.le_at-n.ensures.is c.le_at-c.ensures.is in
    omega arith

pub returns-then-apart : goal.returns-then-apart
returns-then-apart c =
    elim c.if-slots_sound.branch [
      | then-slots_sound w ↦ later_decides _ c.header_sound.ensures c.if-not-header_sound.false c.le_at-c.ensures.is c.slots_sound.ensures
          w.if-slots_sound.true w.apart.ensures (sym w.value-is ∙ c.if-apart.true) c.le_at-n.ensures.is c.piece.ensures c.is_zero.ensures
      | else-slots_sound w ↦ absurd (false≢true (sym (w.value-is ∙ w.if-slots_sound.false) ∙ c.if-apart.true))
    ]

pub returns-else-apart : goal.returns-else-apart
returns-else-apart c =
    elim c.if-slots_sound.branch [
      | then-slots_sound w ↦ c.if-apart.false ∙ twice_held _ c.header_sound.ensures c.if-not-header_sound.false c.le_at-c.ensures.is c.slots_sound.ensures
          w.if-slots_sound.true w.apart.ensures (sym w.value-is ∙ c.if-apart.false)
      | else-slots_sound w ↦ c.if-apart.false ∙ slots_bad _ c.header_sound.ensures c.if-not-header_sound.false c.le_at-c.ensures.is c.slots_sound.ensures w.if-slots_sound.false
    ]
