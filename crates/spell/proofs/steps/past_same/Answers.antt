use borrow.Author.Rules.{rules}
use Rattle.spell.proofs.Runs.{same_start, same_byte, same_pair}
use Rattle.spell.proofs.steps.past_same.Goals as goal

pub loop-n-preserved-then-b-eq92 : goal.loop-n-preserved-then-b-eq92
loop-n-preserved-then-b-eq92 c = same_pair c.loop-n.invariant c.loop-n-test.true c.if-b-eq92.true c.byte.ensures c.stays.ensures c.if-not-stays.false-raw

pub loop-n-preserved : goal.loop-n-preserved
loop-n-preserved c = same_byte c.loop-n.invariant c.loop-n-test.true c.if-b-lt32.false c.if-b-eq34.false c.if-b-eq92.false

pub loop-n-init : goal.loop-n-init
loop-n-init c = search (same_start, rules)
