-- A law for each way out: too few bytes for a state, too many fed, or what `put_digest` answers and leaves.
use Rattle.capi.proofs.Pieces.{end_short, end_refused, end_wrote}
use Rattle.capi.proofs.digests.plavdrosa_digest_finish.Goals as goal

pub returns-then-state-lt-STATE_SIZE : goal.returns-then-state-lt-STATE_SIZE
returns-then-state-lt-STATE_SIZE c = let both = end_short _ _ c.if-state-lt-STATE_SIZE.true in record { value = both.0; out_after = both.1 }

pub returns-in-TooLong : goal.returns-in-TooLong
returns-in-TooLong c = let both = end_refused _ _ c.if-state-lt-STATE_SIZE.false c.state_in.ensures c.finish-f.ensures.value c.finish-f.ensures.answer_value c.in-TooLong.is in record { value = both.0; out_after = both.1 }

pub returns-in-Done : goal.returns-in-Done
returns-in-Done c = let both = end_wrote _ _ c.if-state-lt-STATE_SIZE.false c.state_in.ensures c.finish-f.ensures.value c.finish-f.ensures.answer_value c.in-Done.is c.put_digest.ensures.value c.put_digest.ensures.out_after in record { value = both.0; out_after = both.1 }
