-- A string has two quotes and lies within the text.
use mathlib.Core.Path.{sym, ◌∙◌}
use Rattle.rows.specs.Strings.{spelled_at}
use Rattle.rows.proofs.Laws.{string_within}
use Rattle.rows.proofs.spelled.Goals as goal

pub inner-requires : goal.inner-requires
inner-requires c = string_within _ _ _ (sym c.string.ensures ∙ c.in-Some.is)

pub returns-in-Some : goal.returns-in-Some
unfolding spelled_at
returns-in-Some c = c.inner.ensures ∙ simp (← c.string.ensures, c.in-Some.is)

pub returns-in-None : goal.returns-in-None
unfolding spelled_at
returns-in-None c = simp (← c.string.ensures, c.in-None.is)
