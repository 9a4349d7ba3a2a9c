-- What is taken off stops at 0.
use mathlib.Core.Path.{ap, ◌∙◌}
use Rattle.wire.specs.Field.{field_at}
use Rattle.slots.specs.Marks.{word_from}
use Rattle.slots.proofs.twice.word.Goals as goal

pub returns : goal.returns
unfolding word_from
returns c = c.le_at.ensures.is ∙ ap (λ k. field_at c.args.d.now k 4) c.saturating_sub.ensures
