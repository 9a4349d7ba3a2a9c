-- An array whose element k has form k, and just n elements: EVENT and CLOSE are such, and so is every message of a fixed
-- number of elements.
use mathlib.Core.Path.{◌≡◌, refl, ◌∙◌}
use mathlib.Core.List.{List, [], ◌++◌}
use mathlib.Core.Bool.{Bool, true, false, cond, not, ◌&&◌, ◌||◌}
use Prim.Native.Nat.{ℕ, ◌+◌}
use lib.Dec.{eqb}
use Rattle.json_tree.specs.Tree.{Json, Items, nil, item}
use Rattle.rows.specs.Strings.{refused_in, refused_items}
use Rattle.shape.specs.declared.Tally.{Tally}
use Rattle.shape.specs.Inner.{SHAPE, no_fault, exactly, item_of, element_form, end_fault, closed, fault_of, fault_items}
use Rattle.shape.proofs.Low.{placed_at, low, Lowest, After, after_said, ends}
use Rattle.shape.proofs.Never.{turn_after}

-- over the elements from number k on: each as it should be and n in all; one that is wrong; the places of each
unfoldable pub fits_from : (n : ℕ) (ok : ℕ → Json → Bool) (k : ℕ) (ts : Items) → Bool
fits_from n ok k nil = eqb k n
fits_from n ok k (item p v t ts) = ok k t && fits_from n ok (k + 1) ts

unfoldable pub some_from : (w : ℕ → Json → Bool) (k : ℕ) (ts : Items) → Bool
some_from w k nil = false
some_from w k (item p v t ts) = w k t || some_from w (k + 1) ts

unfoldable pub places_from : (w : ℕ → ℕ → Json → List ℕ) (k : ℕ) (ts : Items) → List ℕ
places_from w k nil = []
places_from w k (item p v t ts) = w k v t ++ places_from w (k + 1) ts

module _ (s : List ℕ) (f n : ℕ) (ok w₈ : ℕ → Json → Bool) (w₆ w₇ : ℕ → ℕ → Json → List ℕ)
    (inner : (k v : ℕ) (t : Json) → Lowest (fault_of s (element_form f k) v t) (refused_in s t) (not (ok k t)) (w₆ k v t) (w₇ k v t) (w₈ k t))
    (end : (k : ℕ) (a : Tally) → end_fault f k a ≡ exactly n k) where
  over : (k : ℕ) (a : Tally) → Lowest (end_fault f k a) false (not (eqb k n)) [] [] false
  unfolding low placed_at
  over k a = record { is = end k a ∙ go (eqb k n) }
    where
      go : (x : Bool) → cond x no_fault SHAPE ≡ cond (not x) SHAPE no_fault
      go true = refl
      go false = refl

  pub rowed : (k : ℕ) (a : Tally) (ts : Items)
      → After (fault_items s false f k a ts) a.fault (refused_items s false ts) (not (fits_from n ok k ts)) (places_from w₆ k ts) (places_from w₇ k ts) (some_from w₈ k ts)
  unfolding fault_of refused_in item_of closed fits_from some_from places_from
  rowed k a nil = ends refl (over k a)
  rowed k a (item p v t ts) =
      after_said refl (both (ok k t) (fits_from n ok (k + 1) ts)) refl refl refl (turn_after s f false k p a (inner k v t) (rowed (k + 1) _ ts))
    where
      both : (x y : Bool) → (not x || not y) ≡ not (x && y)
      both true y = refl
      both false y = refl
