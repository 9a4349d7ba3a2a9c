-- The invariant: the bytes that are left give the whole.
use mathlib.Core.Path.{◌≡◌}
use lib.ListN.{drop}
use Rattle.fields.specs.Number.{natural_field}
use Rattle.fields.proofs.natural.Given as goal

abbrev pub invariant-loop-b : goal.invariant-loop-b
invariant-loop-b l = natural_field l.v (drop l.b-index l.p) ≡ natural_field 0 l.p
