-- A law for each way out: the lowest row in the value, 2 where its bytes are no UTF-8, 5 where no value stands.
use mathlib.Core.Path.{sym, ◌∙◌}
use Rattle.shape.proofs.Values.{value_told, value_bytes, value_wrong}
use Rattle.shape.proofs.value_row.Goals as goal

pub returns-then-is_utf8 : goal.returns-then-is_utf8
returns-then-is_utf8 c = c.row_of.ensures ∙ value_told _ _ _ c.sort_form.ensures (sym c.in-Some.is ∙ c.judge.ensures) c.cut.ensures (sym c.is_utf8.ensures ∙ c.if-is_utf8.true)

pub returns-else-is_utf8 : goal.returns-else-is_utf8
returns-else-is_utf8 c = value_bytes _ _ _ c.sort_form.ensures (sym c.in-Some.is ∙ c.judge.ensures) c.cut.ensures (sym c.is_utf8.ensures ∙ c.if-is_utf8.false)

pub returns-in_default : goal.returns-in_default
returns-in_default c = value_wrong _ _ _ c.sort_form.ensures (sym c.in_default.is ∙ c.judge.ensures)
