-- A law for each way out.
use mathlib.Core.Path.{◌∙◌}
use native.Mathlib.Omega.{arith}
use Rattle.slots.proofs.Fields.{long_text, unread_lem, fields_bad, rest_decides}
use Rattle.slots.proofs.held.slot_sound.Goals as goal

pub returns-then-n-gt-MOST_TEXT : goal.returns-then-n-gt-MOST_TEXT
returns-then-n-gt-MOST_TEXT c = long_text _ c.le_at-n.ensures.is c.if-n-gt-MOST_TEXT.true

pub returns-then-agrees : goal.returns-then-agrees
returns-then-agrees c = rest_decides _ c.le_at-n.ensures.is c.piece.ensures
    c.read_text.ensures.value (omega arith) c.in-Ok.is
    c.agrees.ensures c.if-agrees.true
    c.piece-then-agrees.ensures c.is_zero.ensures

pub returns-else-agrees : goal.returns-else-agrees
returns-else-agrees c = c.if-agrees.false ∙ fields_bad _ c.le_at-n.ensures.is c.piece.ensures
    c.read_text.ensures.value (omega arith) c.in-Ok.is
    c.agrees.ensures c.if-agrees.false

pub returns-in-Err : goal.returns-in-Err
returns-in-Err c = unread_lem _ c.le_at-n.ensures.is c.piece.ensures c.read_text.ensures.value c.in-Err.is
