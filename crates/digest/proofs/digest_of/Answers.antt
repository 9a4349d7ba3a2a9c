-- What is too long is refused, otherwise the whole blocks are hashed and then the end. Assumes nothing.
use Rattle.std.proofs.Common.{sym, arith, rules}
use Rattle.digest.specs.Claims.{digest_done, digest_refused}
use Rattle.digest.proofs.Laws.{length_hashed, digests}
use Rattle.digest.proofs.Ends.{ends}
use Rattle.digest.proofs.digest_of.Goals as goal

pub returns-then-n-gt-MOST : goal.returns-then-n-gt-MOST
returns-then-n-gt-MOST c = let both = digests _ (sym (digest_refused _ (omega arith))) in record { value = both.0; answer_value = both.1 }

pub close-requires : goal.close-requires
close-requires c = (rw c.absorb.ensures (length_hashed _ _ _ c.initial-h.type_inv.1.0.1), search rules)

pub returns : goal.returns
returns c =
    let both = let i = c.initial-h.ensures in
    let e = ends _ i c.absorb.ensures c.lay.ensures c.close.ensures in
    digests _ (rw (c.split-bytes.ensures, e) (sym (digest_done _ (omega arith)))) in record { value = both.0; answer_value = both.1 }
