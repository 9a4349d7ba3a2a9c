-- Hash value and block are read, taken on and written back, and the count with them. Assumes nothing.
use Rattle.digest.proofs.Lent.{lent_out_lem}
use Rattle.digest.proofs.bytes.take_in_state.Goals as goal

pub returns : goal.returns
returns c =
    let p = c.requires in
    lent_out_lem _ _ p.0 p.1 c.words_in-h.ensures c.block_in-b.ensures p.2 c.take_in.ensures.h_after
    c.take_in.ensures.b_after c.write_state.ensures
