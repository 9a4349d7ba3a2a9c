-- What `event_matched` promises of the filter that `find` promises.
use Rattle.event.specs.Lent.{said, event_of}
use Rattle.matching.proofs.several.Ways.{filter_is}
use Rattle.matching.proofs.several.one_match.Goals as goal

pub returns : goal.returns
returns c = let a = c.args in filter_is (said a.b.now a.p.id) (event_of a.b.now a.p.body) c.event_matched.ensures c.find-k.ensures
