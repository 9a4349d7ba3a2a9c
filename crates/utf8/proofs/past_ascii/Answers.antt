-- What is passed is ASCII.
use Rattle.utf8.proofs.Laws.{ascii_passed}
use Rattle.utf8.proofs.past_ascii.Goals as goal

pub returns : goal.returns
returns c = ascii_passed _ _ _ c.requires c.ascii_len.ensures.within c.ascii_len.ensures.ascii
