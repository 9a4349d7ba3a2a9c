-- What is left of the bytes, at the place reached, decides.
use mathlib.Core.Path.{◌≡◌}
use lib.ListN.{drop}
use Rattle.text.specs.Read.{stands_at}
use Rattle.text.proofs.body.stands.Given as goal

abbrev pub invariant-loop-b : goal.invariant-loop-b
invariant-loop-b l = stands_at l.s (drop l.b-index l.w) l.i ≡ stands_at l.s l.w l.at
