-- What stands there decides.
use mathlib.Core.Path.{ap, ◌∙◌}
use Rattle.std.specs.Prelude.{Some}
use Rattle.numeral.specs.Whole.{whole_of, whole_answer}
use Rattle.matching.specs.Inner.Finds.{small_from}
use Rattle.matching.proofs.found.Members.{small_is}
use Rattle.matching.proofs.found.small_at.Goals as goal

pub returns-in-Some-Num : goal.returns-in-Some-Num
returns-in-Some-Num c = c.small_from.ensures
    ∙ ap small_from (c.read_whole.ensures ∙ ap (λ p. whole_answer (whole_of p)) (rw c.saturating_sub.ensures at c.piece.ensures))
    ∙ small_is _ _ c.scalar.ensures (c.in-Some-Num.is ∙ ap Some c.in-Some-Num.field-0-is)

pub returns-in-Some-Str : goal.returns-in-Some-Str
returns-in-Some-Str c = small_is _ _ c.scalar.ensures (c.in-Some-Str.is ∙ ap Some c.in-Some-Str.field-0-is)

pub returns-in-Some-Word : goal.returns-in-Some-Word
returns-in-Some-Word c = small_is _ _ c.scalar.ensures (c.in-Some-Word.is ∙ ap Some c.in-Some-Word.field-0-is)

pub returns-in-None : goal.returns-in-None
returns-in-None c = small_is _ _ c.scalar.ensures c.in-None.is
