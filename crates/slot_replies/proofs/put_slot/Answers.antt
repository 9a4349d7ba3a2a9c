-- A law for each way out.
use mathlib.Core.Path.{sym, ◌∙◌}
use Rattle.slot_replies.proofs.Pieces.{slot_put, slot_none}
use Rattle.slot_replies.proofs.put_slot.Goals as goal

pub put_numbers-b-requires : goal.put_numbers-b-requires
put_numbers-b-requires c = record { is = sym c.in-Ok.is ∙ c.read_text.ensures.value }

pub put_strings-c-requires : goal.put_strings-c-requires
put_strings-c-requires c = record { is = sym c.in-Ok.is ∙ c.read_text.ensures.value }

pub returns-in-Ok : goal.returns-in-Ok
returns-in-Ok c = slot_put _ c.le_at-n.ensures c.piece-t.ensures _
    (sym c.in-Ok.is ∙ c.read_text.ensures.value) c.piece.ensures
    c.piece-in-Ok.ensures
    c.put_front-a.ensures c.put_numbers-b.ensures c.put_strings-c.ensures
    c.put_back.ensures

pub returns-in-Err : goal.returns-in-Err
returns-in-Err c = slot_none _ c.le_at-n.ensures c.piece-t.ensures _
    (sym c.in-Err.is ∙ c.read_text.ensures.value) c.put.ensures
