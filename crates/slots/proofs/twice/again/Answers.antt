use mathlib.Core.Path.{sym, ◌∙◌}
use Rattle.slots.proofs.Walk.{any_more, any_met, any_end}
use Rattle.slots.proofs.Marks.{none_alike}
use Rattle.slots.proofs.twice.again.Goals as goal

pub returns-then-not-maybe : goal.returns-then-not-maybe
returns-then-not-maybe c = none_alike c.args.i c.requires.marked c.requires.c_le_most_slots.1 (c.maybe.ensures c.if-not-maybe.true)

pub returns-then-alike : goal.returns-then-alike
returns-then-alike c = let l = c.loop-j in sym (any_met _ l.j _ _ l.invariant c.loop-j-test.true (sym c.alike.ensures ∙ c.if-alike.true))

pub loop-j-preserved : goal.loop-j-preserved
loop-j-preserved c = let l = c.loop-j in any_more _ l.j _ _ l.invariant c.loop-j-test.true (sym c.alike.ensures ∙ c.if-alike.false)

pub returns : goal.returns
returns c = let l = c.loop-j in sym (any_end _ l.j _ _ l.invariant c.loop-j-test.false)
