-- Too many bytes are refused, others are hashed behind those that wait. Assumes nothing.
use Rattle.std.proofs.Common.{sym, ◌∙◌, arith}
use Rattle.digest.specs.State.{waiting, state_after}
use Rattle.digest.specs.Claims.{update_done, update_refused}
use Rattle.digest.proofs.Laws.{updates}
use Rattle.digest.proofs.Sha256.update.Goals as goal

pub returns-then-total-gt-MOST : goal.returns-then-total-gt-MOST
returns-then-total-gt-MOST c = let both = updates _ _ (sym (update_refused _ _ (omega arith))) in record { value = both.0; answer_value = both.1 }

pub returns-then-n-total : goal.returns-then-n-total
returns-then-n-total c = let both = updates _ _ (sym (update_refused _ _ (omega arith))) in record { value = both.0; answer_value = both.1 }

pub returns : goal.returns
unfolding waiting state_after
returns c = let both = updates _ _ (sym (update_done _ _ (omega arith) ∙ simp (c.take_in.ensures.h_after, c.take_in.ensures.b_after))) in record { value = both.0; answer_value = both.1 }
