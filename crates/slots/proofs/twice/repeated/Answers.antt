-- No later mark is in a bucket of slot i's, or the marks are looked at.
use mathlib.Core.Path.{◌∙◌}
use Rattle.slots.proofs.Marks.{none_alike, unmet}
use Rattle.slots.proofs.twice.repeated.Goals as goal

pub returns-else-met : goal.returns-else-met
returns-else-met c =
    let (d, e) = c.met.ensures c.if-met.false in
    c.if-met.false ∙ none_alike c.args.i c.requires.marked c.requires.c_le_most_slots.1 (unmet c.requires.noted d e)
