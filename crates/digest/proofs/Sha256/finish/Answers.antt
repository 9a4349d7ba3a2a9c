-- A count over the limit is refused, otherwise the padding is hashed behind the bytes that wait. Assumes nothing.
use Rattle.std.proofs.Common.{sym, ◌∙◌, arith}
use Rattle.digest.specs.State.{waiting}
use Rattle.digest.specs.Claims.{finish_done, finish_refused}
use Rattle.digest.proofs.Laws.{finishes}
use Rattle.digest.proofs.Sha256.finish.Goals as goal

pub returns-then-total-gt-MOST : goal.returns-then-total-gt-MOST
returns-then-total-gt-MOST c = let both = finishes _ (sym (finish_refused _ (omega arith))) in record { value = both.0; answer_value = both.1 }

pub returns : goal.returns
unfolding waiting
returns c = let both = finishes _ (sym (finish_done _ (omega arith) ∙ rw (c.split-bytes.ensures, c.close.ensures))) in record { value = both.0; answer_value = both.1 }
