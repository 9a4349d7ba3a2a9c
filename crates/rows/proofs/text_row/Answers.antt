-- A law for each way out.
use mathlib.Core.Path.{sym, ◌∙◌}
use Rattle.rows.proofs.Laws.{row_long, row_bytes, row_raw, row_told_lem}
use Rattle.rows.proofs.text_row.Goals as goal

pub returns-then-s-gt-MOST_MESSAGE : goal.returns-then-s-gt-MOST_MESSAGE
returns-then-s-gt-MOST_MESSAGE c = row_long _ c.if-s-gt-MOST_MESSAGE.true

pub returns-then-not-is_utf8 : goal.returns-then-not-is_utf8
returns-then-not-is_utf8 c = row_bytes _ c.if-s-gt-MOST_MESSAGE.false (sym c.is_utf8.ensures ∙ c.if-not-is_utf8.true)

pub returns-then-has_control : goal.returns-then-has_control
returns-then-has_control c =
    row_raw _ c.if-s-gt-MOST_MESSAGE.false (sym c.is_utf8.ensures ∙ c.if-not-is_utf8.false) (sym c.has_control.ensures ∙ c.if-has_control.true)

pub returns : goal.returns
returns c =
    row_told_lem _ c.if-s-gt-MOST_MESSAGE.false _ _ (sym c.is_utf8.ensures ∙ c.if-not-is_utf8.false) (sym c.has_control.ensures ∙ c.if-has_control.false)
    c.whole.ensures c.told.ensures
