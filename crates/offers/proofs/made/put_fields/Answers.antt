-- By what is read from the text.
use Rattle.offers.proofs.Makes.{read_answers, same_read, not_unread}
use Rattle.offers.proofs.made.put_fields.Goals as goal

pub put_head-requires : goal.put_head-requires
put_head-requires c = record { spells_hex = c.requires.spells_hex; slot_size_in_bounds = c.requires.slot_size_in_bounds }

pub returns-in-Ok : goal.returns-in-Ok
returns-in-Ok c = λ e r. rw (same_read c.in-Ok.is (read_answers e c.piece.ensures c.read_text.ensures.value r)) at c.put_head.ensures

pub returns-in-Err : goal.returns-in-Err
returns-in-Err c = λ e r. absurd (not_unread c.in-Err.is (read_answers e c.piece.ensures c.read_text.ensures.value r))
