-- Row 1 by the length, row 2 by UTF-8, a control character that stands raw, and then one walk over the text.
use mathlib.Core.Path.{sym, ◌∙◌}
use Rattle.shape.proofs.Openings.{message_long, message_bytes, message_control, message_wrong, message_told}
use Rattle.shape.proofs.Openings.{message_early}
use Rattle.shape.proofs.message_refusal.Goals as goal
use Rattle.shape.proofs.message_refusal.Goals.{in_default-via-in-Some+else-x-s, in_default-via-in_default}

pub returns-then-not-is_utf8 : goal.returns-then-not-is_utf8
returns-then-not-is_utf8 c = c.plain_refusal-then-not-is_utf8.ensures ∙ message_bytes _ c.if-s-gt-MOST_MESSAGE.false (sym c.is_utf8.ensures ∙ c.if-not-is_utf8.true)

pub returns-then-has_control : goal.returns-then-has_control
returns-then-has_control c = c.plain_refusal-then-has_control.ensures
    ∙ message_control _ c.if-s-gt-MOST_MESSAGE.false (sym c.is_utf8.ensures ∙ c.if-not-is_utf8.false) (sym c.has_control.ensures ∙ c.if-has_control.true)

pub returns-in-Some : goal.returns-in-Some
returns-in-Some c = message_told _ c.if-s-gt-MOST_MESSAGE.false (sym c.is_utf8.ensures ∙ c.if-not-is_utf8.false) (sym c.has_control.ensures ∙ c.if-has_control.false) c.space-at.ensures c.opening.ensures _
    (sym c.in-Some.is ∙ c.judge.ensures) c.if-x-s.true c.row_of.ensures c.offset_of.ensures

pub returns-in_default : goal.returns-in_default
returns-in_default c = c.plain_refusal-in_default.ensures ∙ elim c.in_default.branch [
  | in_default-via-in-Some+else-x-s w ↦ message_early _ c.if-s-gt-MOST_MESSAGE.false (sym c.is_utf8.ensures ∙ c.if-not-is_utf8.false) (sym c.has_control.ensures ∙ c.if-has_control.false) c.space-at.ensures c.opening.ensures _
      (sym w.in-Some.is ∙ c.judge.ensures) w.if-x-s.false
  | in_default-via-in_default w ↦ message_wrong _ c.if-s-gt-MOST_MESSAGE.false (sym c.is_utf8.ensures ∙ c.if-not-is_utf8.false) (sym c.has_control.ensures ∙ c.if-has_control.false) c.space-at.ensures c.opening.ensures
      (sym w.in_default.is ∙ c.judge.ensures)
]

pub returns-then-s-gt-MOST_MESSAGE : goal.returns-then-s-gt-MOST_MESSAGE
returns-then-s-gt-MOST_MESSAGE c = c.plain_refusal.ensures ∙ message_long _ c.if-s-gt-MOST_MESSAGE.true
