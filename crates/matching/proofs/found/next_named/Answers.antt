-- What `value` and then `after` promise, arm by arm, are the clauses of `next_named`.
use mathlib.Core.Path.{◌∙◌}
use mathlib.Core.Logic.{⊎_elim}
use Rattle.matching.proofs.found.Ways.{next_bad, more_is}
use Rattle.matching.proofs.found.next_named.Goals as goal

pub returns-in_err-n : goal.returns-in_err-n
returns-in_err-n c = c.from_residual.ensures ∙ next_bad _ _ c.value.ensures c.in_err-n.was

pub returns-in-More : goal.returns-in-More
returns-in-More c = more_is _ _ c.after.ensures c.in-More.is ∙ next_bad _ _ c.value.ensures c.in_ok-n.was

pub returns-in-Done : goal.returns-in-Done
returns-in-Done c = ⊎_elim (λ q. more_is _ _ c.after.ensures q.1) (λ q. more_is _ _ c.after.ensures q) c.in-Done.is ∙ next_bad _ _ c.value.ensures c.in_ok-n.was
