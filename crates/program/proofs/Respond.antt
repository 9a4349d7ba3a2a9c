-- One message answered into a lent output: the first claims of specs/Claims/Respond.
use mathlib.Core.Path.{◌≡◌, refl}
use mathlib.Core.Bool.{Bool, true, false, cond}
use mathlib.Core.Logic.{◌≢◌}
use mathlib.Core.List.{List}
use Prim.Native.Nat.{ℕ, ◌≤◌, ◌<◌}
use native.Mathlib.Omega.{arith}
use borrow.Author.Tests.{eq-eqb, ne_eqb, ltb-true, ltb-false}
use lib.Dec.{ltb}
use lib.ListN.{length}
use Rattle.reply.specs.Lent.{short_row}
use Rattle.program.specs.Respond.{response, respond_row, responded, responded_out, responded_table}
use Rattle.program.specs.Claims.Respond.{RespondRowIs, RespondedMeans}
use Rattle.reply.proofs.Lent.{writes_or}

-- ---- row 13
pub short_if : (t out : List ℕ) → short_row t out ≢ 0 → (short_row t out ≡ 13) × (length out < length t)
short_if t out = go (ltb (length out) (length t)) refl
  where
    go : (x : Bool) → ltb (length out) (length t) ≡ x → ◌≢◌ {A = ℕ} (cond x 13 0) 0 → (◌≡◌ {A = ℕ} (cond x 13 0) 13) × (length out < length t)
    go true e ne = (refl, ltb-true (length out) (length t) e)
    go false e ne = absurd (ne refl)

pub fits_if : (t out : List ℕ) → short_row t out ≡ 0 → length t ≤ length out
fits_if t out = go (ltb (length out) (length t)) refl
  where
    go : (x : Bool) → ltb (length out) (length t) ≡ x → ◌≡◌ {A = ℕ} (cond x 13 0) 0 → length t ≤ length out
    go true e z = absurd (omega arith)
    go false e z = ltb-false (length out) (length t) e

pub respond_row_is : RespondRowIs
unfolding respond_row
respond_row_is b m out = (short_if (response b m) out, λ (e, l) z. absurd (omega arith))

pub responded_means : RespondedMeans
unfolding respond_row responded responded_out responded_table
responded_means b m out = (
  writes_or (respond_row b m out) (response b m) out (fits_if (response b m) out),
  λ e. rw (eq-eqb (respond_row b m out) 0 e),
  λ ne. rw (ne_eqb (respond_row b m out) 0 ne),
)
