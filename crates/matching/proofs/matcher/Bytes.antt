-- Bytes compared as they stand, turn by turn; what is spelled by the same bytes is the same.
use mathlib.Core.Path.{◌≡◌, sym, ap, ◌∙◌}
use mathlib.Core.Bool.{Bool, true, false, ◌&&◌, and_assoc, and_comm}
use mathlib.Core.List.{List}
use Prim.Native.Nat.{ℕ, ◌+◌, ◌≤◌, ◌<◌}
use native.Mathlib.Numerals.{add-one}
use lib.Dec.{eqb}
use lib.ListN.{length, get_or, drop}
use lib.Seq.{drop-cons}
use Rattle.wire.specs.Bytes.{same_bytes}
use Rattle.wire.proofs.Bytes.{same_equal, equal_same}
use Rattle.spell.specs.Spell.{decode}
use Rattle.slots.proofs.Bytes.{is_false, same_end}

module _ (p q : List ℕ) where
  pub first_differs : {x y : ℕ} → x ≡ get_or p 0 0 → y ≡ get_or q 0 0 → (x ≡ y → ⊥) → false ≡ same_bytes p q
  first_differs e f n = sym (is_false (same_bytes p q) (λ s. n (e ∙ ap (λ (l : List ℕ). get_or l 0 0) (same_equal p q s) ∙ sym f)))

  -- what was seen before i, and the rest
  module _ (i : ℕ) (x : Bool) where
    pub seen_more : i < length p → i < length q
        → (x && same_bytes (drop i p) (drop i q)) ≡ ((x && eqb (get_or p i 0) (get_or q i 0)) && same_bytes (drop (i + 1) p) (drop (i + 1) q))
    unfolding same_bytes
    seen_more h k = ap (λ y. x && y) turn ∙ sym (and_assoc x (eqb (get_or p i 0) (get_or q i 0)) (same_bytes (drop (i + 1) p) (drop (i + 1) q)))
      where
        turn : same_bytes (drop i p) (drop i q) ≡ (eqb (get_or p i 0) (get_or q i 0) && same_bytes (drop (i + 1) p) (drop (i + 1) q))
        turn = rw (add-one i, drop-cons p i 0 h, drop-cons q i 0 k)

    pub seen_all : length p ≤ i → length q ≤ i → (x && same_bytes (drop i p) (drop i q)) ≡ x
    seen_all h k = ap (λ y. x && y) (same_end p q i h k) ∙ and_comm x true

-- one of the bytes compared is given by its place
pub spelled_alike : (w : List ℕ) {q p : List ℕ} {r : Bool} → r ≡ same_bytes w q → q ≡ p → r ≡ true → same_bytes (decode w) (decode p) ≡ true
spelled_alike w {q} {p} e f h = equal_same (decode w) (decode p) (ap decode (same_equal w q (sym e ∙ h) ∙ f))
