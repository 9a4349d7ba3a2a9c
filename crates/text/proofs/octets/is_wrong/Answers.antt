-- The definition's tests.
use Rattle.text.specs.Inner.Windows.{is_wrong}
use Rattle.text.proofs.octets.is_wrong.Goals as goal

pub returns : goal.returns
unfolding is_wrong
returns c = rw (c.wants_tail-w.ensures, c.is_narrow.ensures)
