use borrow.Author.Rules.{rules}
use Rattle.relay.proofs.Turns.{ready}
use Rattle.relay.proofs.run.Goals as goal

pub loop-init : goal.loop-init
loop-init g c = search (ready, rules)
