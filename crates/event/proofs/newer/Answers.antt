-- Times first, then ids.
use mathlib.Core.Path.{◌∙◌}
use borrow.Author.Tests.{ne_eqb}
use Rattle.event.proofs.Order.{newer_yes, newer_no, newer_tie}
use Rattle.event.proofs.newer.Goals as goal

pub returns-then-time_b-time_a : goal.returns-then-time_b-time_a
returns-then-time_b-time_a c = let f = c.ranges in c.if-time_b-time_a.true ∙ newer_yes _ _ f.time_a f.time_b _ _ c.if-time_b-time_a.true

pub returns-then-time_b-time_a-2 : goal.returns-then-time_b-time_a-2
returns-then-time_b-time_a-2 c = let f = c.ranges in newer_tie _ _ f.time_a f.time_b _ _ _ c.if-time_b-time_a.false c.if-time_b-time_a-2.true c.is_lower.ensures

pub returns-else-time_b-time_a-2 : goal.returns-else-time_b-time_a-2
returns-else-time_b-time_a-2 c = let f = c.ranges in ne_eqb _ _ c.if-time_b-time_a-2.false ∙ newer_no _ _ f.time_a f.time_b _ _ c.if-time_b-time_a.false c.if-time_b-time_a-2.false
