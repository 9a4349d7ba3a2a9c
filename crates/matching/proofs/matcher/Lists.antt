-- Members found beforehand, passed one by one.
use mathlib.Core.Path.{◌≡◌, refl, sym, ap, ◌∙◌}
use mathlib.Core.Bool.{Bool, true, false, ◌||◌}
use mathlib.Core.List.{List, [], ◌∷◌}
use Prim.Native.Nat.{ℕ, suc, ◌+◌, ◌*◌, ◌/◌, ◌≤◌, ◌<◌}
use native.Mathlib.Omega.{arith}
use lib.ListN.{length, get_or, drop, length-drop}
use lib.Seq.{drop-cons}
use Rattle.wire.specs.Bytes.{same_bytes, part}
use Rattle.spell.specs.Spell.{decode}
use Rattle.law.specs.Lists.{any}
use Rattle.query.specs.Match.{is_member}
use Rattle.matching.specs.Inner.Found.{spelled_by}

-- pair number k, and those after it
two : (s : List ℕ) (k : ℕ) → k < length s / 2 → drop (k * 2) s ≡ get_or s (k * 2) 0 ∷ get_or s (k * 2 + 1) 0 ∷ drop ((k + 1) * 2) s
two s k l =
    let e : suc (k * 2) ≡ k * 2 + 1 = omega arith in
    let f : suc (k * 2 + 1) ≡ (k + 1) * 2 = omega arith in
    drop-cons s (k * 2) 0 (omega arith) ∙ ap (λ r. get_or s (k * 2) 0 ∷ r) (ap (λ j. drop j s) e ∙ drop-cons s (k * 2 + 1) 0 (omega arith) ∙ ap (λ j. get_or s (k * 2 + 1) 0 ∷ drop j s) f)

-- two spellings compared, one of them by its place
pub test : (w : List ℕ) {q p : List ℕ} {r t : Bool} → r ≡ same_bytes (decode w) (decode q) → q ≡ p → r ≡ t → same_bytes (decode w) (decode p) ≡ t
test w e p h = sym (e ∙ ap (λ (y : List ℕ). same_bytes (decode w) (decode y)) p) ∙ h

-- whether v is among the pairs from number k on
abbrev pub Left : List ℕ → List ℕ → List ℕ → ℕ → Type 0
Left v m s k = is_member (spelled_by m s) v ≡ any (same_bytes v) (spelled_by m (drop (k * 2) s))

module _ (v m s : List ℕ) where
  pub left_end : (k : ℕ) → Left v m s k → length s / 2 ≤ k → is_member (spelled_by m s) v ≡ false
  unfolding spelled_by
  left_end k e l = e ∙ go (drop (k * 2) s) (omega (arith, length-drop (k * 2) s))
    where
      go : (r : List ℕ) → length r ≤ 1 → any (same_bytes v) (spelled_by m r) ≡ false
      go [] q = refl
      go (a ∷ []) q = refl
      go (a ∷ n ∷ r) q = absurd (omega arith)

  module _ (k : ℕ) (i : Left v m s k) (l : k < length s / 2) where
    pub left_hit : same_bytes v (decode (part m (get_or s (k * 2) 0) (get_or s (k * 2 + 1) 0))) ≡ true → is_member (spelled_by m s) v ≡ true
    unfolding spelled_by
    left_hit e = i ∙ ap (λ r. any (same_bytes v) (spelled_by m r)) (two s k l) ∙ ap (λ y. y || any (same_bytes v) (spelled_by m (drop ((k + 1) * 2) s))) e

    pub left_miss : same_bytes v (decode (part m (get_or s (k * 2) 0) (get_or s (k * 2 + 1) 0))) ≡ false → Left v m s (k + 1)
    unfolding spelled_by
    left_miss e = i ∙ ap (λ r. any (same_bytes v) (spelled_by m r)) (two s k l) ∙ ap (λ y. y || any (same_bytes v) (spelled_by m (drop ((k + 1) * 2) s))) e
