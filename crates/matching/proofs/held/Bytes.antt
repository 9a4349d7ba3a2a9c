-- The byte of one slot and filter stored.
use mathlib.Core.Path.{◌≡◌, refl, sym, ap, ◌∙◌}
use mathlib.Core.Bool.{Bool, true, false, not}
use mathlib.Core.List.{List}
use Prim.Native.Nat.{ℕ, ◌+◌, ◌*◌, ◌<◌}
use native.Mathlib.Omega.{arith}
use native.Mathlib.Decide.{dec_lt}
use lib.Dec.{eqb}
use mir.Val.{bool_byte}
use lib.ListN.{length, get_or, set}
use lib.Seq.{get_or-set_same, get_or-set_other}
use Rattle.query.specs.Filter.{Filter}
use Rattle.query.specs.Answer.{matches_slot}
use Rattle.matching.specs.Inner.Hits.{hit_at, Filled}

pub as_byte : (r : Bool) → not (eqb (bool_byte r) 0) ≡ r
as_byte true = refl
as_byte false = refl

pub filled_none : (b : List ℕ) (f : Filter) (j : ℕ) (h : List ℕ) → Filled b f j 0 h h
filled_none b f j h = record { here = λ s l. absurd (omega arith); others = λ i s l n. refl }

module _ {b : List ℕ} {f : Filter} {j k : ℕ} {h o : List ℕ} (w : Filled b f j k h o) (small : j < 4) (room : k * 4 + j < length o) {r : Bool} (e : r ≡ matches_slot b f k) where
  pub filled_more : (v : ℕ) → not (eqb v 0) ≡ r → Filled b f j (k + 1) h (set o (k * 4 + j) v)
  unfolding hit_at
  filled_more v q = record { here = λ s l. here s l (dec_lt s k); others = λ i s l n. other i s l n }
    where
      here : (s : ℕ) → s < k + 1 → Dec (s < k) → not (eqb (get_or (set o (k * 4 + j) v) (s * 4 + j) 0) 0) ≡ matches_slot b f s
      here s l (yes p) =
          let ne : s * 4 + j ≡ k * 4 + j → ⊥ = λ z. absurd (omega arith) in
          ap (λ (x : ℕ). not (eqb x 0)) (get_or-set_other o (k * 4 + j) (s * 4 + j) v 0 ne) ∙ w.here s p
      here s l (no p) =
          let z : s ≡ k = omega arith in
          ap (λ (x : ℕ). not (eqb (get_or (set o (k * 4 + j) v) (x * 4 + j) 0) 0)) z ∙ ap (λ (x : ℕ). not (eqb x 0)) (get_or-set_same o (k * 4 + j) v 0 room) ∙ q ∙ e ∙ ap (matches_slot b f) (sym z)

      other : (i s : ℕ) → i < 4 → (i ≡ j → ⊥) → not (eqb (get_or (set o (k * 4 + j) v) (s * 4 + i) 0) 0) ≡ hit_at h i s
      other i s l n =
          let ne : s * 4 + i ≡ k * 4 + j → ⊥ = λ z. n (omega arith) in
          ap (λ (x : ℕ). not (eqb x 0)) (get_or-set_other o (k * 4 + j) (s * 4 + i) v 0 ne) ∙ w.others i s l n
