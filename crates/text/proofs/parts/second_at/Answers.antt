-- After the name stands a comma and the second string, or the tag ends.
use mathlib.Core.Path.{sym, ◌∙◌}
use native.Mathlib.Omega.{arith}
use Rattle.text.proofs.Ways.{body_inside}
use Rattle.text.proofs.Named.{second_none, second_bad, second_empty, second_is}
use Rattle.text.proofs.parts.second_at.Goals as goal

pub returns-then-not-stands : goal.returns-then-not-stands
returns-then-not-stands c = second_none _ _ (sym c.stands.ensures ∙ c.if-not-stands.true)

pub returns-in_default : goal.returns-in_default
returns-in_default c = second_bad _ _ (sym c.stands.ensures ∙ c.if-not-stands.false) (sym c.body_end.ensures ∙ c.in_default.is)

pub returns-then-len-eq0 : goal.returns-then-len-eq0
returns-then-len-eq0 c = second_empty _ _ (sym c.stands.ensures ∙ c.if-not-stands.false) _ (sym c.body_end.ensures ∙ c.in-Some.is) c.if-len-eq0.true

pub returns : goal.returns
returns c = second_is _ _ (sym c.stands.ensures ∙ c.if-not-stands.false) _ (sym c.body_end.ensures ∙ c.in-Some.is) c.if-len-eq0.false

pub overflow_sub-len : goal.overflow_sub-len
overflow_sub-len c = let h = body_inside _ _ _ (sym c.body_end.ensures ∙ c.in-Some.is) in omega arith

pub overflow_sub-len-2 : goal.overflow_sub-len-2
overflow_sub-len-2 c = let h = body_inside _ _ _ (sym c.body_end.ensures ∙ c.in-Some.is) in omega arith
