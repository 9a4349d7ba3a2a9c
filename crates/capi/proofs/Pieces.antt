-- Laws of the calls on a state that is lent as bytes, for each way out.
use mathlib.Core.Path.{◌≡◌, refl, sym, ap, ◌∙◌}
use mathlib.Core.List.{List, append-nil}
use Prim.Native.Nat.{ℕ, ◌≤◌, ◌<◌}
use native.Mathlib.Omega.{arith}
use borrow.Author.Tests.{le-leb, lt-leb}
use lib.ListN.{length, take, replicate}
use lib.Seq.{length-take-le}
use Rattle.wire.specs.Put.{Puts}
use Rattle.wire.proofs.Laws.{puts_whole}
use Rattle.digest.specs.declared.Answer.TheVariants.{Done, TooLong}
use Rattle.digest.specs.declared.Sha256.{Sha256}
use Rattle.digest.specs.declared.Finished.{Finished}
use Rattle.digest.specs.State.{answer_number, count_row, finished}
use Rattle.digest.specs.Bytes.{state_in, state_lent}
use Rattle.capi.specs.Calls.{lent_row, lent_out}
use Rattle.capi.specs.Digest.{end_row, end_out}
use Rattle.capi.proofs.Laws.{lent_refused, lent_on}

-- the first 104 bytes, copied
pub copied : (st : List ℕ) {r : ℕ} {o : List ℕ} → 104 ≤ length st → Puts (replicate 104 0) 0 (take 104 st) r o → o ≡ take 104 st
copied st h p =
    let n = length-take-le 104 st h in
    (puts_whole (omega (arith, n)) p).1 ∙ rw n (append-nil (take 104 st))

pub state_read : (st : List ℕ) {b : List ℕ} {s : Sha256} → b ≡ take 104 st → s ≡ state_in b → s ≡ state_lent st
unfolding state_lent
state_read st e f = f ∙ ap state_in e

module _ (st out : List ℕ) where
  pub end_short : length st < 104 → (13 ≡ end_row st out) × (out ≡ end_out st out)
  unfolding end_row end_out
  end_short h = rw (lt-leb 104 (length st) h) (refl, refl)

  module _ (long : 104 ≤ length st) {s : Sha256} {u : Finished} (e : s ≡ state_lent st) (f : u ≡ finished s) (n : answer_number u.answer ≡ count_row s.total) where
    total : count_row (state_lent st).total ≡ answer_number u.answer
    total = sym (n ∙ ap (λ (x : Sha256). count_row x.total) e)

    pub end_refused : u.answer ≡ TooLong → (8 ≡ end_row st out) × (out ≡ end_out st out)
    unfolding end_row end_out
    end_refused a = rw (le-leb 104 (length st) long) (lent_refused _ _ _ _ (sym (total ∙ ap answer_number a)) (λ q. omega (arith, q)))

    pub end_wrote : {o : List ℕ} {x : ℕ} → u.answer ≡ Done → x ≡ lent_row 0 32 out → o ≡ lent_out 0 32 u.bytes out → (x ≡ end_row st out) × (o ≡ end_out st out)
    unfolding end_row end_out
    end_wrote a b c =
        rw (le-leb 104 (length st) long)
        (lent_on _ _ _ _ _ (total ∙ ap answer_number a) (ap (λ (x : Finished). x.bytes) (f ∙ ap finished e)) b c)
