-- Five bytes more for each control character; a text has at most 65,535 bytes.
use native.Mathlib.Omega.{arith}
use Rattle.slot_replies.proofs.Answers.{text-size}
use Rattle.slot_replies.proofs.text_size.Goals as goal

pub returns : goal.returns
returns c = text-size _ c.le_at-n.ensures c.piece-t.ensures c.control_count.ensures

pub overflow_mul-result : goal.overflow_mul-result
overflow_mul-result c = omega (arith, (returns c).1)

pub overflow_add-result : goal.overflow_add-result
overflow_add-result c = omega (arith, (returns c).1)
