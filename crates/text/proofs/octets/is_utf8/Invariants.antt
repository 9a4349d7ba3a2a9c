-- What was seen so far and the rest decide.
use Rattle.utf8.specs.Utf8.{is_utf8}
use Rattle.text.proofs.Windows.{Seen}
use Rattle.text.proofs.octets.is_utf8.Given as goal

abbrev pub invariant-loop-x : goal.invariant-loop-x
invariant-loop-x l = Seen (is_utf8 l.s) l.s l.x-index l.c l.b l.a l.wrong
