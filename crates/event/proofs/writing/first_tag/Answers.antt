-- What the two calls answer.
use mathlib.Core.Path.{◌∙◌}
use Rattle.event.specs.Inner.{first_tag}
use Rattle.event.proofs.writing.first_tag.Goals as goal

pub returns-in_err-value : goal.returns-in_err-value
unfolding first_tag
returns-in_err-value c = c.from_residual.ensures ∙ simp (← c.value.ensures, c.in_err-value.was)

pub returns : goal.returns
unfolding first_tag
returns c = c.begun.ensures ∙ simp (← c.value.ensures, c.in_ok-value.was)
