-- Both halves.
use Rattle.event.proofs.Text.{text_put}
use Rattle.event.proofs.writing.put_whole.Goals as goal

pub returns : goal.returns
returns c = text_put _ _ c.put_front-a.ensures c.put_back.ensures
