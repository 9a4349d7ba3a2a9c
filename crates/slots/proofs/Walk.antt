-- The slots from one on, turn by turn: what the rest gives once one more is looked at.
use mathlib.Core.Path.{◌≡◌, refl, sym, ap, ◌∙◌}
use mathlib.Core.Bool.{Bool, true, false, not, ◌&&◌, ◌||◌}
use mathlib.Core.List.{List, [], ◌∷◌}
use Prim.Native.Nat.{ℕ, zero, suc, ◌+◌, ◌-◌, ◌≤◌, ◌<◌}
use native.Mathlib.Nat.{sub-zero}
use native.Mathlib.Omega.{arith}
use lib.ListN.{drop}
use lib.Seq.{drop-drop}
use Rattle.text.specs.Event.{all}
use Rattle.table.specs.Cells.{cells}
use Rattle.law.specs.Lists.{any}
use Rattle.table.specs.Layout.{slot_size, slot_place, slot_at}
use Rattle.table.specs.Sound.{none_twice}
use Rattle.slots.specs.Slots.{slots_from}

module _ (b : List ℕ) (k c : ℕ) where
  pub from_more : k < c → slots_from b k (c - k) ≡ slot_at b k ∷ slots_from b (k + 1) (c - (k + 1))
  unfolding slots_from
  from_more h =
      let n : c - k ≡ suc (c - (k + 1)) = omega arith in
      let p : slot_place k + slot_size ≡ slot_place (k + 1) = omega arith in
      ap (λ m. cells slot_size m (drop (slot_place k) b)) n
      ∙ ap (λ l. slot_at b k ∷ cells slot_size (c - (k + 1)) l) (drop-drop slot_size (slot_place k) b ∙ ap (λ m. drop m b) p)

  pub from_none : c ≤ k → slots_from b k (c - k) ≡ []
  unfolding slots_from
  from_none h = let n : c - k ≡ 0 = omega arith in ap (λ m. cells slot_size m (drop (slot_place k) b)) n

  -- ---- x is the whole answer
  module _ (p : List ℕ → Bool) where
    pub all_more : {x : Bool} → x ≡ all p (slots_from b k (c - k)) → k < c → p (slot_at b k) ≡ true → x ≡ all p (slots_from b (k + 1) (c - (k + 1)))
    unfolding all
    all_more e h q = e ∙ ap (all p) (from_more h) ∙ ap (◌&& all p (slots_from b (k + 1) (c - (k + 1)))) q

    pub all_bad : {x : Bool} → x ≡ all p (slots_from b k (c - k)) → k < c → p (slot_at b k) ≡ false → x ≡ false
    unfolding all
    all_bad e h q = e ∙ ap (all p) (from_more h) ∙ ap (◌&& all p (slots_from b (k + 1) (c - (k + 1)))) q

    pub all_end : {x : Bool} → x ≡ all p (slots_from b k (c - k)) → c ≤ k → x ≡ true
    unfolding all
    all_end e h = e ∙ ap (all p) (from_none h)

    pub any_more : {x : Bool} → x ≡ any p (slots_from b k (c - k)) → k < c → p (slot_at b k) ≡ false → x ≡ any p (slots_from b (k + 1) (c - (k + 1)))
    any_more e h q = e ∙ ap (any p) (from_more h) ∙ ap (◌|| any p (slots_from b (k + 1) (c - (k + 1)))) q

    pub any_met : {x : Bool} → x ≡ any p (slots_from b k (c - k)) → k < c → p (slot_at b k) ≡ true → x ≡ true
    any_met e h q = e ∙ ap (any p) (from_more h) ∙ ap (◌|| any p (slots_from b (k + 1) (c - (k + 1)))) q

    pub any_end : {x : Bool} → x ≡ any p (slots_from b k (c - k)) → c ≤ k → x ≡ false
    any_end e h = e ∙ ap (any p) (from_none h)

  module _ (r : List ℕ → List ℕ → Bool) where
    pub none_more : {x : Bool} → x ≡ none_twice r (slots_from b k (c - k)) → k < c → any (r (slot_at b k)) (slots_from b (k + 1) (c - (k + 1))) ≡ false
        → x ≡ none_twice r (slots_from b (k + 1) (c - (k + 1)))
    unfolding none_twice
    none_more e h q = e ∙ ap (none_twice r) (from_more h) ∙ ap (λ t. not t && none_twice r (slots_from b (k + 1) (c - (k + 1)))) q

    pub none_bad : {x : Bool} → x ≡ none_twice r (slots_from b k (c - k)) → k < c → any (r (slot_at b k)) (slots_from b (k + 1) (c - (k + 1))) ≡ true → x ≡ false
    unfolding none_twice
    none_bad e h q = e ∙ ap (none_twice r) (from_more h) ∙ ap (λ t. not t && none_twice r (slots_from b (k + 1) (c - (k + 1)))) q

    pub none_end : {x : Bool} → x ≡ none_twice r (slots_from b k (c - k)) → c ≤ k → x ≡ true
    unfolding none_twice
    none_end e h = e ∙ ap (none_twice r) (from_none h)

-- no slot from k on passes the test
pub any_none : (b : List ℕ) (c : ℕ) (p : List ℕ → Bool) (n k : ℕ) → c - k ≡ n → ((j : ℕ) → k ≤ j → j < c → p (slot_at b j) ≡ false)
    → any p (slots_from b k (c - k)) ≡ false
any_none b c p zero k e h = any_end b k c p refl (omega arith)
any_none b c p (suc n) k e h =
    any_more b k c p refl (omega arith) (h k (omega arith) (omega arith)) ∙ any_none b c p n (k + 1) (omega arith) (λ j a q. h j (omega arith) q)

-- two entries alike from k on are two of the whole
pub none_whole : (b : List ℕ) (c : ℕ) (r : List ℕ → List ℕ → Bool) (k : ℕ) → k ≤ c → none_twice r (slots_from b k (c - k)) ≡ false → none_twice r (slots_from b 0 c) ≡ false
unfolding none_twice
none_whole b c r zero h e = ap (λ n. none_twice r (slots_from b 0 n)) (sym (sub-zero c)) ∙ e
none_whole b c r (suc k) h e = none_whole b c r k (omega arith) (ap (none_twice r) (from_more b k c (omega arith)) ∙ later)
  where
    and_false : (t : Bool) → (t && false) ≡ false
    and_false true = refl
    and_false false = refl

    later : none_twice r (slot_at b k ∷ slots_from b (k + 1) (c - (k + 1))) ≡ false
    later =
        let z : suc k ≡ k + 1 = omega arith in
        ap (not (any (r (slot_at b k)) (slots_from b (k + 1) (c - (k + 1)))) &&◌) (rw z at e) ∙ and_false (not (any (r (slot_at b k)) (slots_from b (k + 1) (c - (k + 1)))))
