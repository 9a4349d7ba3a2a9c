-- Once found it stays; else the tag is named d or not.
use mathlib.Core.Path.{refl, sym, ◌∙◌}
use Rattle.text.proofs.Rows.{stands_inside}
use Rattle.text.proofs.Named.{look_known, look_d, look_other}
use Rattle.text.proofs.parts.look.Goals as goal
use Rattle.text.proofs.parts.look.Goals.{then-is_some-via-then-is_some, then-is_some-via-else-is_some+then-not-stands}

pub second_at-requires : goal.second_at-requires
second_at-requires c = stands_inside _ _ _ _ refl (sym c.stands.ensures ∙ c.if-not-stands.false)

pub returns-then-is_some : goal.returns-then-is_some
returns-then-is_some c = elim c.then-is_some.branch [
  | then-is_some-via-then-is_some w ↦ look_known _ _ _ (sym c.is_some.ensures ∙ w.if-is_some.true)
  | then-is_some-via-else-is_some+then-not-stands w ↦ look_other _ _ _ (sym c.is_some.ensures ∙ w.if-is_some.false) (sym w.stands.ensures ∙ w.if-not-stands.true)
]

pub returns : goal.returns
returns c = look_d _ _ _ (sym c.is_some.ensures ∙ c.if-is_some.false) (sym c.stands.ensures ∙ c.if-not-stands.false) _ c.second_at.ensures
