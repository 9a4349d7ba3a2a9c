-- A message that no row refuses has its shape, so its parts stand where they are looked for.
use mathlib.Core.Path.{◌∙◌}
use Rattle.message.proofs.Reading.{read_is, with_row, own_row, read_refused}
use Rattle.message.proofs.read.Goals as goal

pub returns-then-refusal-ne0 : goal.returns-then-refusal-ne0
returns-then-refusal-ne0 c = let both = with_row _ (read_refused _ c.message_refusal-refusal.ensures c.if-refusal-ne0.true) in record { value = both.0; result_value = both.1 }

pub returns : goal.returns
returns c = let both = with_row _ (c.parts.ensures ∙ simp (c.word_place-i.ensures, c.opening_at.ensures, c.second.ensures) (read_is _ (own_row _ c.message_refusal-refusal.ensures c.if-refusal-ne0.false))) in record { value = both.0; result_value = both.1 }
