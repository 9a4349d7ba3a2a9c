-- The number is 0 or it is not: a law for either.
use Rattle.capi_relay.proofs.given.Parts.{not_accepted, is_accepted_lem}
use Rattle.capi_relay.proofs.given.accepted_in.Goals as goal

pub returns-then-accepted-eq0 : goal.returns-then-accepted-eq0
returns-then-accepted-eq0 c = not_accepted c.args.l.now c.number_in-accepted.ensures c.if-accepted-eq0.true

pub returns : goal.returns
returns c = is_accepted_lem c.args.l.now c.number_in-accepted.ensures c.if-accepted-eq0.false
