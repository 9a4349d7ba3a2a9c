use mathlib.Core.Path.{sym, ap, ◌∙◌}
use Rattle.slots.specs.Slots.{same_id_in}
use Rattle.slots.proofs.Walk.{any_more, any_met, any_end}
use Rattle.offers.proofs.id_held.Goals as goal

pub returns-then-same_id : goal.returns-then-same_id
returns-then-same_id c =
    let l = c.loop-k in
    sym
    (any_met _ l.k _ _ l.invariant c.loop-k-test.true (sym (c.same_id.ensures ∙ ap (same_id_in _) c.slot.ensures) ∙ c.if-same_id.true))

pub loop-k-preserved : goal.loop-k-preserved
loop-k-preserved c =
    let l = c.loop-k in
    any_more _ l.k _ _ l.invariant c.loop-k-test.true (sym (c.same_id.ensures ∙ ap (same_id_in _) c.slot.ensures) ∙ c.if-same_id.false)

pub returns : goal.returns
returns c = let l = c.loop-k in sym (any_end _ l.k _ _ l.invariant c.loop-k-test.false)
