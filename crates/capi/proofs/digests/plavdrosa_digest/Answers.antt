-- Too many bytes are row 8, and nothing is written; else `put_digest` takes the bytes that `digest_of` promises.
use mathlib.Core.Path.{sym, ap, ◌∙◌}
use native.Mathlib.Omega.{arith}
use Rattle.digest.specs.declared.Digest.{Digest}
use Rattle.digest.specs.State.{answer_number}
use Rattle.capi.proofs.Laws.{lent_refused, lent_on}
use Rattle.capi.proofs.digests.plavdrosa_digest.Goals as goal

pub returns-in-TooLong : goal.returns-in-TooLong
returns-in-TooLong c =
    let both = lent_refused _ _ _ _ (ap answer_number (sym c.in-TooLong.is) ∙ c.digest_of-d.ensures.answer_value) (λ q. omega (arith, q)) in
    record { value = both.0; out_after = both.1 }

pub returns-in-Done : goal.returns-in-Done
returns-in-Done c =
    let d = c.digest_of-d.ensures in
    let p = c.put_digest.ensures in
    let both = lent_on _ _ _ _ _ (sym d.answer_value ∙ ap answer_number c.in-Done.is) (ap (λ (y : Digest). y.bytes) d.value) p.value p.out_after in
    record { value = both.0; out_after = both.1 }
