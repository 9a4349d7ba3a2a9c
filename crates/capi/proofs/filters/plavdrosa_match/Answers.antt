-- All three answers by one law, `said_match`: `matched` got the parts that the numbers give.
use Rattle.std.specs.Prelude.{Ok}
use mathlib.Core.Path.{ap, ◌∙◌}
use Rattle.capi.proofs.Query.{said_match}
use Rattle.capi.proofs.filters.plavdrosa_match.Goals as goal

pub returns-in-Ok-true : goal.returns-in-Ok-true
returns-in-Ok-true c = said_match _ _ _ _ c.event_from-p.ensures c.filters_from-fs.ensures c.number_in-n.ensures c.matched.ensures.value (c.in-Ok-true.is ∙ ap Ok c.in-Ok-true.field-0-test)

pub returns-in-Ok-false : goal.returns-in-Ok-false
returns-in-Ok-false c = said_match _ _ _ _ c.event_from-p.ensures c.filters_from-fs.ensures c.number_in-n.ensures c.matched.ensures.value (c.in-Ok-false.is ∙ ap Ok c.in-Ok-false.field-0-test)

pub returns-in-Err : goal.returns-in-Err
returns-in-Err c = said_match _ _ _ _ c.event_from-p.ensures c.filters_from-fs.ensures c.number_in-n.ensures c.matched.ensures.value c.in-Err.is
