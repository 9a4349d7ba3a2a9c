use mathlib.Core.Path.{◌≡◌, sym, ap, ◌∙◌}
use native.Mathlib.Omega.{arith}
use Rattle.slots.specs.Slots.{same_key_in}
use Rattle.offers.proofs.First.{find_more, find_met, find_end}
use Rattle.offers.proofs.find_key.Goals as goal

pub returns-then-has_key : goal.returns-then-has_key
returns-then-has_key c =
    let l = c.loop-k in
    sym
    (find_met _ l.k _ _ l.invariant c.loop-k-test.true (sym (c.has_key.ensures ∙ ap (same_key_in _) c.slot.ensures) ∙ c.if-has_key.true))

pub loop-k-preserved : goal.loop-k-preserved
loop-k-preserved c =
    let l = c.loop-k in
    find_more _ l.k _ _ l.invariant c.loop-k-test.true (sym (c.has_key.ensures ∙ ap (same_key_in _) c.slot.ensures) ∙ c.if-has_key.false)

pub returns : goal.returns
returns c = let l = c.loop-k in let z : c.args.c ≡ l.k = omega arith in z ∙ sym (find_end _ l.k _ _ l.invariant c.loop-k-test.false)
