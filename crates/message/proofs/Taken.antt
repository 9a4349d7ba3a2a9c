-- The filters of a REQ as values: those of the elements from its place on, counted by the same walk.
use mathlib.Core.Path.{◌≡◌, refl, sym, ap, ◌∙◌}
use mathlib.Core.List.{List, [], ◌∷◌, map}
use mathlib.Core.Bool.{cond}
use Prim.Native.Nat.{ℕ, zero, suc, ◌+◌, ◌-◌, ◌≤◌, ◌<◌}
use native.Mathlib.Decide.{dec_lt}
use native.Mathlib.Omega.{arith}
use borrow.Author.Tests.{lt-ltb, le-ltb}
use lib.Dec.{ltb}
use lib.ListN.{length, get_or, take, length-map}
use Rattle.message.specs.declared.FilterParts.{FilterParts}
use Rattle.message.specs.declared.Filters.{Filters}
use Rattle.message.specs.declared.Element.{Element}
use Rattle.message.specs.declared.Element.TheVariants.{At, Ended, Broken}
use Rattle.message.specs.Lists.{next_of, up_to, elements_from}
use Rattle.message.specs.Parts.{filter_at, no_filter, first_four, filters_at}
use Rattle.message.specs.Claims.{request_filters, FiltersTaken}
use Rattle.message.specs.Inner.{following_of, filter_after}
use Rattle.message.proofs.Elements.{up_to_ended, up_to_broken}
use Rattle.message.proofs.Passes.{filters_counted}

suc_less : (k n : ℕ) → ltb (suc k) (suc n) ≡ ltb k n
suc_less k n = elim (dec_lt k n) [
  | yes h ↦ lt-ltb (suc k) (suc n) (omega arith) ∙ sym (lt-ltb k n h)
  | no h ↦ le-ltb (suc k) (suc n) (omega arith) ∙ sym (le-ltb k n (omega arith))
]

-- ---- the count: those passed and those that are left
module _ (s : List ℕ) where
  pub count_all : (at : ℕ) → 0 + length (up_to (length s - 0) s (At at)) ≡ length (elements_from s (At at))
  unfolding elements_from
  count_all at =
      let n : length s - 0 ≡ length s = omega arith in
      rw n (omega arith)

  module _ (k : ℕ) (x : Element) where
    pub count_turn : (v : ℕ) (y : Element) → k < length s → x ≡ At v → y ≡ next_of s v → k + 1 + length (up_to (length s - (k + 1)) s y) ≡ k + length (up_to (length s - k) s x)
    unfolding up_to
    count_turn v y h e f =
        let n : length s - k ≡ suc (length s - (k + 1)) = omega arith in
        rw (e, n, f) (omega arith)

    pub count_stopped : ((v : ℕ) → x ≡ At v → ⊥) → k ≡ k + length (up_to (length s - k) s x)
    count_stopped other = go x refl
      where
        go : (y : Element) → x ≡ y → k ≡ k + length (up_to (length s - k) s y)
        go (At v) e = absurd (other v e)
        go Ended e = rw (up_to_ended (length s - k) s) (omega arith)
        go Broken e = rw (up_to_broken (length s - k) s) (omega arith)

    pub count_past : length s ≤ k → k ≤ length s → length s ≡ k + length (up_to (length s - k) s x)
    unfolding up_to
    count_past h l = let n : length s - k ≡ 0 = omega arith in rw n (omega arith)

  -- ---- the filter of element k
  abbrev after : ℕ → Element → Element
  after zero x = x
  after (suc k) x = after k (following_of s x)

  none_there : (k : ℕ) (x : Element) → cond (ltb k 0) (filter_after s x) no_filter ≡ no_filter
  none_there k x = rw (le-ltb k 0 (omega arith))

  nth : (f k : ℕ) (x : Element) → cond (ltb k (length (up_to f s x))) (filter_after s (after k x)) no_filter ≡ get_or (map (filter_at s) (up_to f s x)) k no_filter
  unfolding up_to
  nth zero k x = none_there k (after k x)
  nth (suc f) k Ended = none_there k (after k Ended)
  nth (suc f) k Broken = none_there k (after k Broken)
  nth (suc f) k (At v) = go k (nth f)
    where
      go : (k : ℕ) → ((k : ℕ) (x : Element) → cond (ltb k (length (up_to f s x))) (filter_after s (after k x)) no_filter ≡ get_or (map (filter_at s) (up_to f s x)) k no_filter)
          → cond (ltb k (suc (length (up_to f s (next_of s v))))) (filter_after s (after k (At v))) no_filter ≡ get_or (filter_at s v ∷ map (filter_at s) (up_to f s (next_of s v))) k no_filter
      go zero ih = rw (lt-ltb 0 (suc (length (up_to f s (next_of s v)))) (omega arith))
      go (suc k) ih = ap (λ b. cond b (filter_after s (after k (next_of s v))) no_filter) (suc_less k (length (up_to f s (next_of s v)))) ∙ ih k (next_of s v)

  -- n: how many there are; p, q, r, t: the filters of the first four elements
  pub filters_are : (at : ℕ) {n : ℕ} {x y z : Element} {p q r t : FilterParts} → n ≡ length (elements_from s (At at)) → x ≡ next_of s at → y ≡ following_of s x → z ≡ following_of s y
      → p ≡ cond (ltb 0 n) (filter_after s (At at)) no_filter → q ≡ cond (ltb 1 n) (filter_after s x) no_filter → r ≡ cond (ltb 2 n) (filter_after s y) no_filter
      → t ≡ cond (ltb 3 n) (filter_after s z) no_filter → ◌≡◌ {A = Filters} (record { parts = p ∷ q ∷ r ∷ t ∷ []; n = n }) (filters_at s at)
  unfolding filters_at elements_from
  filters_are at c e f g i j k l =
      rw (i, j, k, l, g, f, e, c) (rw (nth (length s) 0 (At at), nth (length s) 1 (At at), nth (length s) 2 (At at), nth (length s) 3 (At at)) refl)

-- ---- a REQ that was read has one to four, and they are all there
four_all : (l : List FilterParts) → length l ≤ 4 → take (length l) (first_four l) ≡ l
four_all [] h = refl
four_all (a ∷ []) h = refl
four_all (a ∷ b ∷ []) h = refl
four_all (a ∷ b ∷ c ∷ []) h = refl
four_all (a ∷ b ∷ c ∷ d ∷ []) h = refl
four_all (a ∷ b ∷ c ∷ d ∷ e ∷ l) h = absurd (omega arith)

pub filters_taken : FiltersTaken
unfolding filters_at
filters_taken s r e =
    let (x, y) = filters_counted s r e in
    let l = map (filter_at s) (request_filters s r) in
    let n : length l ≡ length (request_filters s r) = length-map (request_filters s r) (filter_at s) in
    record { some = x; few = y; all = ap (λ (k : ℕ). take k (first_four l)) (sym n) ∙ four_all l (omega (arith, n, y)) }
