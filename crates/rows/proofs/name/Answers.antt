-- A name is a string, which lies within the text, and a colon follows it.
use mathlib.Core.Path.{sym, ◌∙◌}
use Rattle.rows.specs.Strings.{spelled_at}
use Rattle.rows.proofs.Laws.{string_within}
use Rattle.rows.proofs.name.Goals as goal

pub inner-requires : goal.inner-requires
inner-requires c = string_within _ _ _ (sym c.string.ensures ∙ c.in_ok-end.was)

pub returns : goal.returns
unfolding spelled_at
returns c = simp (
  c.if-not-named.false,
  ← c.string.ensures,
  c.in_ok-end.was,
  ← c.space.ensures,
  ← c.colon.ensures,
  c.in_ok-v.was,
  c.refused.ensures,
  c.inner.ensures,
)
