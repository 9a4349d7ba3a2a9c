-- The invariant: the answer, seen from the index on, where the digits passed spell what v is but for the cap.
use Rattle.numeral.specs.Inner.{digits_sum}
use Rattle.numeral.proofs.Ways.{Seen}
use Rattle.numeral.proofs.digits_sum.Given as goal

abbrev pub invariant-loop-x : goal.invariant-loop-x
invariant-loop-x l = Seen (digits_sum 0 l.p) l.p l.x-index l.v
