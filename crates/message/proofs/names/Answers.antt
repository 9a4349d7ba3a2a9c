-- As `read`: where rows 1 to 5 do not hold, a message has its shape.
use mathlib.Core.Path.{◌∙◌}
use Rattle.message.proofs.Reading.{named_is, named_early, named_late, naming_is}
use Rattle.message.proofs.names.Goals as goal

pub returns-then-early : goal.returns-then-early
returns-then-early c =
    let both = let e = c.message_refusal-refusal.ensures in
    naming_is _ e (named_early _ e c.early.ensures c.if-early.true) in record { value = both.0; row_value = both.1 }

pub returns : goal.returns
returns c =
    let both = let e = c.message_refusal-refusal.ensures in
    naming_is _ e (c.named_in-named.ensures ∙ simp (c.word_place-i.ensures, c.opening_at.ensures, c.second.ensures) (named_is _ (named_late _ e c.early.ensures c.if-early.false))) in record { value = both.0; row_value = both.1 }
