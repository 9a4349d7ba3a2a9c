-- The invariant: where no byte so far ended a line, none before b did.
use mathlib.Core.Path.{◌≡◌}
use mathlib.Core.Bool.{true}
use Rattle.feed.specs.Inner.{NoEndFrom}
use Rattle.feed.proofs.none_ends.Given as goal

abbrev pub invariant-loop-b : goal.invariant-loop-b
invariant-loop-b l = l.none ≡ true → NoEndFrom l.block 0 l.b-index
