-- A law for each way out: too few bytes, too long a count, and the state that was taken on.
use Rattle.std.proofs.Common.{arith, length-take}
use Rattle.digest.proofs.Lent.{lent_short, lent_refused, lent_row_lem}
use Rattle.digest.proofs.Sha256.update_lent.Goals as goal

pub returns-then-total-gt-MOST : goal.returns-then-total-gt-MOST
returns-then-total-gt-MOST c = let both = lent_refused _ _ c.if-state-lt-STATE_SIZE.false c.total_in-total.ensures (omega arith) in record { value = both.0; state_after = both.1 }

pub returns-then-n-total : goal.returns-then-n-total
returns-then-n-total c = let both = lent_refused _ _ c.if-state-lt-STATE_SIZE.false c.total_in-total.ensures (omega arith) in record { value = both.0; state_after = both.1 }

pub take_in_state-requires : goal.take_in_state-requires
take_in_state-requires c = (c.if-state-lt-STATE_SIZE.false, c.total_in-total.ensures, omega arith)

pub returns : goal.returns
returns c = record { value = lent_row_lem _ _ c.if-state-lt-STATE_SIZE.false c.total_in-total.ensures (omega arith); state_after = c.take_in_state.ensures }

pub returns-then-state-lt-STATE_SIZE : goal.returns-then-state-lt-STATE_SIZE
returns-then-state-lt-STATE_SIZE c = let both = lent_short _ _ c.if-state-lt-STATE_SIZE.true in record { value = both.0; state_after = both.1 }

pub slice_bounds-total_in-end-2 : goal.slice_bounds-total_in-end-2
slice_bounds-total_in-end-2 c = simp length-take (omega arith)

pub total_in-total-requires : goal.total_in-total-requires
total_in-total-requires c = simp length-take (omega arith)
