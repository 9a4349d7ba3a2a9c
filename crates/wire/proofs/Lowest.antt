-- The lower of two rows, and what the lowest row is of two rules, of one, and of a rule that says alike.
use mathlib.Core.Path.{◌≡◌, refl, ◌∙◌}
use mathlib.Core.Bool.{true, false, cond}
use mathlib.Core.Logic.{◌⊎◌, inl, inr, ⊎_elim, ◌≢◌}
use Prim.Native.Nat.{ℕ, min, ◌≤◌, ◌<◌}
use native.Mathlib.Omega.{arith}
use native.Mathlib.Decide.{dec_lt}
use borrow.Author.Tests.{eqb-false, ne_eqb}
use lib.Dec.{eqb}
use Rattle.wire.specs.Lowest.{lower_row, Lowest}
use Rattle.wire.proofs.Cases.{bool}

-- ---- the lower of two
lower_one : (r s : ℕ) → (lower_row r s ≡ r) ⊎ (lower_row r s ≡ s)
lower_one r s = go (bool (eqb r 0)) (bool (eqb s 0))
  where
    go : (eqb r 0 ≡ true) ⊎ (eqb r 0 ≡ false) → (eqb s 0 ≡ true) ⊎ (eqb s 0 ≡ false) → (lower_row r s ≡ r) ⊎ (lower_row r s ≡ s)
    go (inl e) f = inr (rw e)
    go (inr e) (inl f) = inl (rw (e, f))
    go (inr e) (inr f) = rw (e, f) (smaller (dec_lt r s))
      where
        smaller : Dec (r < s) → (min r s ≡ r) ⊎ (min r s ≡ s)
        smaller (yes l) = inl (omega arith)
        smaller (no l) = inr (omega arith)

lower_left : (r s : ℕ) → r ≢ 0 → (lower_row r s ≢ 0) × (lower_row r s ≤ r)
lower_left r s ne = rw (ne_eqb r 0 ne) (go (bool (eqb s 0)))
  where
    go : (eqb s 0 ≡ true) ⊎ (eqb s 0 ≡ false) → (cond (eqb s 0) r (min r s) ≢ 0) × (cond (eqb s 0) r (min r s) ≤ r)
    go (inl e) = rw e (ne, omega arith)
    go (inr e) = rw e (λ q. eqb-false s 0 e (omega (arith, ne)), omega arith)

lower_right : (r s : ℕ) → s ≢ 0 → (lower_row r s ≢ 0) × (lower_row r s ≤ s)
lower_right r s ne = rw (ne_eqb s 0 ne) (go (bool (eqb r 0)))
  where
    go : (eqb r 0 ≡ true) ⊎ (eqb r 0 ≡ false) → (cond (eqb r 0) s (min r s) ≢ 0) × (cond (eqb r 0) s (min r s) ≤ s)
    go (inl e) = rw e (ne, omega arith)
    go (inr e) = rw e (λ q. eqb-false r 0 e (omega (arith, ne)), omega arith)

-- ---- the lowest of what either says, of one row, and of what another says alike
pub join : {P Q : ℕ → Type 0} (r s : ℕ) → Lowest P r → Lowest Q s → Lowest (λ k. P k ⊎ Q k) (lower_row r s)
join {P} {Q} r s p q = record {
  holds = λ ne. ⊎_elim (λ e. inl (rw e (p.holds (λ z. ne (e ∙ z))))) (λ e. inr (rw e (q.holds (λ z. ne (e ∙ z))))) (lower_one r s);
  least = λ k h ne. ⊎_elim (left k ne) (right k ne) h;
}
  where
    left : (k : ℕ) → k ≢ 0 → P k → (lower_row r s ≢ 0) × (lower_row r s ≤ k)
    left k ne h = let (a, b) = p.least k h ne in let (c, d) = lower_left r s a in (c, omega arith)

    right : (k : ℕ) → k ≢ 0 → Q k → (lower_row r s ≢ 0) × (lower_row r s ≤ k)
    right k ne h = let (a, b) = q.least k h ne in let (c, d) = lower_right r s a in (c, omega arith)

pub alike : {P Q : ℕ → Type 0} {r : ℕ} → ((k : ℕ) → P k → Q k) → ((k : ℕ) → Q k → P k) → Lowest P r → Lowest Q r
alike {r = r} to from p = record { holds = λ ne. to r (p.holds ne); least = λ k h ne. p.least k (from k h) ne }

pub alone : (r : ℕ) → Lowest (λ k. k ≡ r) r
alone r = record { holds = λ ne. refl; least = λ k e ne. (λ q. ne (e ∙ q), omega arith) }
