use Rattle.text.proofs.Windows.{seen_none, seen_more, seen_all}
use Rattle.text.proofs.octets.is_utf8.Goals as goal

pub loop-x-init : goal.loop-x-init
loop-x-init c = seen_none _

pub loop-x-preserved : goal.loop-x-preserved
loop-x-preserved c = seen_more c.loop-x.invariant c.loop-x-test.true _ c.is_wrong-wrong.ensures

pub returns : goal.returns
returns c = seen_all c.loop-x.invariant c.loop-x-test.false _ c.wants_tail.ensures
