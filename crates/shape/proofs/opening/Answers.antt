-- Each way out is a clause of `opening_of`, of what `begin` found; in an array with elements `word_form` is asked.
use Rattle.shape.specs.Shape.{name_at}
use Rattle.shape.proofs.opening.Goals as goal

pub returns-in-Many-default-false : goal.returns-in-Many-default-false
unfolding name_at
returns-in-Many-default-false c = simp (
  ← c.begin.ensures,
  c.in-Many-default-false.is,
  c.in-Many-default-false.field-1-test,
  ← c.spelled.ensures,
  c.word_form.ensures,
)
