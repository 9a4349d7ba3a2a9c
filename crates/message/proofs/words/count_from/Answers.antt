use mathlib.Core.Path.{◌∙◌}
use Rattle.message.proofs.Taken.{count_all, count_turn, count_past, count_stopped}
use Rattle.message.proofs.words.count_from.Goals as goal

pub loop-k-init : goal.loop-k-init
loop-k-init c = count_all _ _

pub loop-k-preserved : goal.loop-k-preserved
loop-k-preserved c = count_turn _ _ _ _ _ c.loop-k-test.true c.in-At.is c.next-x.ensures ∙ c.loop-k.invariant

pub returns-in_default : goal.returns-in_default
returns-in_default c = count_stopped c.args.s.now _ _ c.in_default.not-At ∙ c.loop-k.invariant

pub returns : goal.returns
returns c = count_past c.args.s.now _ c.loop-k.x c.loop-k-test.false c.loop-k.auto.k-end ∙ c.loop-k.invariant
