use mathlib.Core.Path.{sym, ap, ◌∙◌}
use Rattle.table.specs.Sound.{slot_sound}
use Rattle.slots.proofs.Walk.{all_more, all_bad, all_end}
use Rattle.slots.proofs.held.slots_sound.Goals as goal

pub returns-then-not-slot_sound : goal.returns-then-not-slot_sound
returns-then-not-slot_sound c =
    let l = c.loop-k in
    sym (all_bad _ l.k _ slot_sound l.invariant c.loop-k-test.true (sym (c.slot_sound.ensures ∙ ap slot_sound c.slot.ensures) ∙ c.if-not-slot_sound.true))

pub loop-k-preserved : goal.loop-k-preserved
loop-k-preserved c =
    let l = c.loop-k in
    all_more _ l.k _ slot_sound l.invariant c.loop-k-test.true (sym (c.slot_sound.ensures ∙ ap slot_sound c.slot.ensures) ∙ c.if-not-slot_sound.false)

pub returns : goal.returns
returns c = let l = c.loop-k in sym (all_end _ l.k _ slot_sound l.invariant c.loop-k-test.false)
