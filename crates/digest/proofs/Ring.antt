-- Rounds over a ring of sixteen words are the rounds over the schedule. Assumes nothing.
use Rattle.std.proofs.Common.{◌≡◌, ℕ, zero, suc, ◌+◌, ◌-◌, ◌%◌, ◌<◌, ◌≤◌, List, [], ◌∷◌, length, set, sym, refl, ap, ◌∙◌, ap₂, add-zero, add-suc, arith, length-append, length-set, get_or-set_other, get_or-set_same}
use native.Mathlib.Decide.{dec_lt}
use lib.ListN.{get_or-append}
use lib.Seq.{get_or_at}
use Rattle.digest.specs.Block.{K, at, round, rounds, schedule, next_word}
use Rattle.digest.specs.Inner.{ring_word, ring_after, rounds_from}

-- ---- one round more, from round t on: x are the working variables and v the ring after n rounds
module _ (t : ℕ) (w s : List ℕ) where
  pub record Turned (n : ℕ) (x v : List ℕ) : Type 0 where
    pub variables : x ≡ rounds_from t w s n
    pub ring : v ≡ ring_after w n

  pub turned_none : Turned 0 s w
  unfolding rounds_from ring_after
  turned_none = record { variables = refl; ring = refl }

  pub turned_more : {n k : ℕ} {x v y u : List ℕ} → Turned n x v → k ≡ at K (t + n) → y ≡ round k (ring_word v n) x
      → u ≡ set v n (ring_word v n) → Turned (suc n) y u
  unfolding rounds_from ring_after
  turned_more p e f g = record { variables = f ∙ rw (e, p.variables, p.ring); ring = g ∙ rw p.ring }

-- ---- and over the schedule W: x are the working variables after t rounds
module _ (W s : List ℕ) where
  pub record Rounded (t : ℕ) (x : List ℕ) : Type 0 where
    pub variables : x ≡ rounds W s t

  pub rounded_none : Rounded 0 s
  unfolding rounds
  rounded_none = record { variables = refl }

  pub rounded_more : {t k : ℕ} {x y : List ℕ} → Rounded t x → k ≡ at K t → y ≡ round k (at W t) x → Rounded (suc t) y
  unfolding rounds
  rounded_more p e f = record { variables = f ∙ rw (e, p.variables) }

-- ---- the schedule: a word that stands in it stays, and word k + 16 is made from words before it
module _ (M : List ℕ) (sixteen : length M ≡ 16) where
  long : (k : ℕ) → length (schedule M k) ≡ k + 16
  unfolding schedule
  long zero = sixteen
  long (suc k) = length-append (schedule M k) (next_word (schedule M k) k ∷ []) ∙ rw (long k) (omega arith)

  stays : (k n j : ℕ) → j < k + 16 → at (schedule M (k + n)) j ≡ at (schedule M k) j
  unfolding schedule
  stays k zero j h = rw add-zero refl
  stays k (suc n) j h =
      rw add-suc (get_or-append (schedule M (k + n)) (next_word (schedule M (k + n)) (k + n) ∷ []) 0 j (omega (arith, long (k + n))) ∙ stays k n j h)

  newest : (k : ℕ) → at (schedule M (suc k)) (k + 16) ≡ next_word (schedule M k) k
  unfolding schedule
  newest k = get_or_at (schedule M k) (next_word (schedule M k) k) [] 0 (k + 16) (long k)

  begins : schedule M 0 ≡ M
  unfolding schedule
  begins = refl

  abbrev W : List ℕ
  W = schedule M 48

  word : (k j : ℕ) → k ≤ 48 → j < k + 16 → at W j ≡ at (schedule M k) j
  word k j e h = let s : 48 ≡ k + (48 - k) = omega arith in ap (λ (m : ℕ). at (schedule M m) j) s ∙ stays k (48 - k) j h

  first : (j : ℕ) → j < 16 → at W j ≡ at M j
  first j h = word 0 j (omega arith) h ∙ ap (λ (m : List ℕ). at m j) begins

  made : (k : ℕ) → k < 48 → at W (k + 16) ≡ next_word W k
  made k h =
      word (suc k) (k + 16) (omega arith) (omega arith) ∙ newest k
      ∙ sym (rw (
        word k (k + 14) (omega arith) (omega arith),
        word k (k + 9) (omega arith) (omega arith),
        word k (k + 1) (omega arith) (omega arith),
        word k k (omega arith) (omega arith),
      ))

  -- a ring before round t: word j of the last sixteen stands at j % 16
  record Held (t : ℕ) (w : List ℕ) : Type 0 where
    full : length w ≡ 16
    held : (j : ℕ) → j < t → t ≤ j + 16 → at w (j % 16) ≡ at W j

  held_first : Held 16 M
  held_first = record { full = sixteen; held = λ j h k. let e : j % 16 ≡ j = omega arith in rw e (sym (first j h)) }

  held_at : {t : ℕ} {w : List ℕ} → Held t w → (i j : ℕ) → i ≡ j % 16 → j < t → t ≤ j + 16 → at w i ≡ at W j
  held_at p i j e h k = rw e (p.held j h k)

  held_word : {t : ℕ} {w : List ℕ} → Held t w → 16 ≤ t → t < 64 → (i : ℕ) → i ≡ t % 16 → ring_word w i ≡ at W t
  held_word {t} p h k i e =
      let f : t ≡ (t - 16) + 16 = omega arith in
      rw (
        held_at p ((i + 14) % 16) ((t - 16) + 14) (omega arith) (omega arith) (omega arith),
        held_at p ((i + 9) % 16) ((t - 16) + 9) (omega arith) (omega arith) (omega arith),
        held_at p ((i + 1) % 16) ((t - 16) + 1) (omega arith) (omega arith) (omega arith),
        held_at p i (t - 16) (omega arith) (omega arith) (omega arith),
      )
      (sym (ap (at W) f ∙ made (t - 16) (omega arith)))

  held_more : {t : ℕ} {w : List ℕ} → Held t w → (i v : ℕ) → i ≡ t % 16 → v ≡ at W t → Held (suc t) (set w i v)
  held_more {t} {w} p i v e f = record {
    full = simp length-set p.full;
    held = λ j h k. go j h k (dec_lt j t);
  }
    where
      go : (j : ℕ) → j < suc t → suc t ≤ j + 16 → Dec (j < t) → at (set w i v) (j % 16) ≡ at W j
      go j h k (yes l) = get_or-set_other w i (j % 16) v 0 (omega arith) ∙ p.held j l (omega arith)
      go j h k (no l) =
          let q : j ≡ t = omega arith in
          rw (q, ← e) (get_or-set_same w i v 0 (omega (arith, p.full)) ∙ f)

  -- sixteen rounds from round t on
  module _ (t : ℕ) (w h : List ℕ) (whole : t % 16 ≡ 0) (later : 16 ≤ t) (last : t + 16 ≤ 64) (begun : Held t w) where
    passed : (n : ℕ) → n ≤ 16 → Held (t + n) (ring_after w n)
    unfolding ring_after
    passed zero k = rw add-zero begun
    passed (suc n) k =
        let p = passed n (omega arith) in
        rw add-suc (held_more p n _ (omega arith) (held_word p (omega arith) (omega arith) n (omega arith)))

    turned : (n : ℕ) → n ≤ 16 → rounds_from t w (rounds W h t) n ≡ rounds W h (t + n)
    unfolding rounds_from rounds
    turned zero k = rw add-zero refl
    turned (suc n) k =
        ap₂ (round (at K (t + n))) (held_word (passed n (omega arith)) (omega arith) (omega arith) n (omega arith)) (turned n (omega arith))
        ∙ rw add-suc refl

  -- the first sixteen
  read : (h : List ℕ) (n : ℕ) → n ≤ 16 → rounds M h n ≡ rounds W h n
  unfolding rounds
  read h zero k = refl
  read h (suc n) k = rw (read h n (omega arith), first n (omega arith))

  -- and all 64
  pub ring_rounds : (h : List ℕ) →
      rounds_from 48 (ring_after (ring_after M 16) 16) (rounds_from 32 (ring_after M 16) (rounds_from 16 M (rounds M h 16) 16) 16) 16
      ≡ rounds W h 64
  ring_rounds h =
      let a = held_first in
      let b = passed 16 M h refl (omega arith) (omega arith) a 16 (omega arith) in
      let c = passed 32 _ h refl (omega arith) (omega arith) b 16 (omega arith) in
      rw (
        read h 16 (omega arith),
        turned 16 M h refl (omega arith) (omega arith) a 16 (omega arith),
        turned 32 (ring_after M 16) h refl (omega arith) (omega arith) b 16 (omega arith),
      )
      (turned 48 (ring_after (ring_after M 16) 16) h refl (omega arith) (omega arith) c 16 (omega arith))
