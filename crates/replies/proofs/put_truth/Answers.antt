-- A word for each.
use mathlib.Core.Bool.{true, false}
use Rattle.replies.proofs.Written.{truth_put}
use Rattle.replies.proofs.put_truth.Goals as goal

pub returns-then-accepted : goal.returns-then-accepted
returns-then-accepted c = truth_put true c.if-accepted.true c.put.ensures

pub returns : goal.returns
returns c = truth_put false c.if-accepted.false c.put-2.ensures
