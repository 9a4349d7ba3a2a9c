-- A law for each way out.
use mathlib.Core.Path.{sym, ◌∙◌}
use Rattle.event.proofs.Answers.{room_kept, prefix-length, large-offered, own_id, other_id}
use Rattle.event.proofs.Complete.{event_complete}
use Rattle.event.proofs.tested.rest.Goals as goal

pub put_whole-n-requires : goal.put_whole-n-requires
put_whole-n-requires c = c.begun-known.ensures ∙ event_complete _ _ c.requires.p_value

pub slice_bounds-hashed-end-2 : goal.slice_bounds-hashed-end-2
slice_bounds-hashed-end-2 c =
    let p = c.put_whole-n.ensures in
    prefix-length (room_kept c.requires.t_len p) p

pub returns-then-h-ne0 : goal.returns-then-h-ne0
returns-then-h-ne0 c =
    let p = c.put_whole-n.ensures in
    large-offered _ _ c.requires.p_value (room_kept c.requires.t_len p) p c.hashed-h.ensures c.if-h-ne0.true

pub returns-then-spells_id : goal.returns-then-spells_id
returns-then-spells_id c = own_id _ _ c.requires.p_value (room_kept c.requires.t_len c.put_whole-n.ensures) c.put_whole-n.ensures c.hashed-h.ensures c.if-h-ne0.false (sym c.if-spells_id.true ∙ c.spells_id.ensures)

pub returns : goal.returns
returns c = other_id _ _ c.requires.p_value (room_kept c.requires.t_len c.put_whole-n.ensures) c.put_whole-n.ensures c.hashed-h.ensures c.if-h-ne0.false (sym c.if-spells_id.false ∙ c.spells_id.ensures)
