-- Bytes in cells of one size: a cell written over, or behind the last one in use, is an entry set or appended.
use mathlib.Core.Path.{◌≡◌, refl, sym, ap, ap₂, ◌∙◌}
use mathlib.Core.Bool.{Bool, not}
use mathlib.Core.List.{List, [], ◌∷◌, ◌++◌, map, map-append}
use Prim.Native.Nat.{ℕ, zero, suc, ◌+◌, ◌*◌, ◌≤◌, ◌<◌}
use native.Mathlib.Nat.{add-suc, zero-add}
use native.Mathlib.Omega.{arith}
use lib.Dec.{T}
use lib.ListN.{length, get_or, set, take, drop, length-drop, length-map}
use lib.Seq.{sets, sets-eq, take_at, drop_at, take-set-le, drop-set-lt, drop-set-add, drop-drop}
use Rattle.law.specs.Lists.{any, find, store}
use Rattle.table.specs.Cells.{cells}
use Rattle.law.proofs.Lists.{find_lt, store_over, store_behind}

-- ---- stores and a part of the buffer

-- stores behind the first n bytes leave those
pub take_sets : (n : ℕ) (b : List ℕ) (i : ℕ) (w : List ℕ) → n ≤ i → take n (sets b i w) ≡ take n b
take_sets n b i [] h = refl
take_sets n b i (x ∷ w) h = take_sets n (set b i x) (suc i) w (omega arith) ∙ take-set-le n b i x h

-- stores before byte n leave what stands from there
pub drop_sets_before : (n : ℕ) (b : List ℕ) (i : ℕ) (w : List ℕ) → i + length w ≤ n → drop n (sets b i w) ≡ drop n b
drop_sets_before n b i [] h = refl
drop_sets_before n b i (x ∷ w) h = drop_sets_before n (set b i x) (suc i) w (omega arith) ∙ drop-set-lt n b i x (omega arith)

-- stores from byte n on are stores to the part that begins there
pub drop_sets : (n : ℕ) (b : List ℕ) (i : ℕ) (w : List ℕ) → drop n (sets b (n + i) w) ≡ sets (drop n b) i w
drop_sets n b i [] = refl
drop_sets n b i (x ∷ w) =
    ap (λ k. drop n (sets (set b (n + i) x) k w)) (sym (add-suc n i))
    ∙ drop_sets n (set b (n + i) x) (suc i) w
    ∙ ap (λ c. sets c (suc i) w) (drop-set-add n b i x)

module _ (size : ℕ) where
  -- ---- reading

  pub length_cells : (n : ℕ) (b : List ℕ) → length (cells size n b) ≡ n
  length_cells zero b = refl
  length_cells (suc n) b = ap suc (length_cells n (drop size b))

  pub cell_at : (n i : ℕ) (b : List ℕ) → i < n → get_or (cells size n b) i [] ≡ take size (drop (i * size) b)
  cell_at zero i b h = let z : ◌≡◌ {A = ℕ} 0 1 = omega arith in absurd (omega arith)
  cell_at (suc n) zero b h = let e : 0 ≡ 0 * size = omega arith in ap (λ k. take size (drop k b)) e
  cell_at (suc n) (suc i) b h =
      let e : size + i * size ≡ suc i * size = omega arith in
      cell_at n i (drop size b) (omega arith) ∙ ap (take size) (drop-drop (i * size) size b ∙ ap (λ k. drop k b) e)

  -- ---- one cell written

  module _ (w : List ℕ) (full : length w ≡ size) where
    first_written : (b : List ℕ) → size ≤ length b → sets b 0 w ≡ w ++ drop size b
    first_written b h = sets-eq w b 0 (omega arith) ∙ ap (λ k. w ++ drop k b) (zero-add (length w) ∙ full)

    pub cells_over : (n i : ℕ) (b : List ℕ) → i < n → n * size ≤ length b → cells size n (sets b (i * size) w) ≡ set (cells size n b) i w
    cells_over zero i b h k = let z : ◌≡◌ {A = ℕ} 0 1 = omega arith in absurd (omega arith)
    cells_over (suc n) zero b h k =
        let e : 0 * size ≡ 0 = omega arith in
        let f : sets b (0 * size) w ≡ w ++ drop size b = ap (λ j. sets b j w) e ∙ first_written b (omega arith) in
        ap (cells size (suc n)) f ∙ ap₂ (λ x y. x ∷ cells size n y) (take_at w (drop size b) size full) (drop_at w (drop size b) size full)
    cells_over (suc n) (suc i) b h k =
        let e : suc i * size ≡ size + i * size = omega arith in
        ap (λ j. cells size (suc n) (sets b j w)) e
        ∙ ap₂ (λ x y. x ∷ cells size n y) (take_sets size b (size + i * size) w (omega arith)) (drop_sets size b (i * size) w)
        ∙ ap (take size b ∷◌) (cells_over n i (drop size b) (omega arith) (omega (arith, length-drop size b)))

    pub cells_behind : (n : ℕ) (b : List ℕ) → suc n * size ≤ length b → cells size (suc n) (sets b (n * size) w) ≡ cells size n b ++ (w ∷ [])
    cells_behind zero b k =
        let e : 0 * size ≡ 0 = omega arith in
        ap (λ j. take size (sets b j w) ∷ []) e
        ∙ ap (λ c. take size c ∷ []) (first_written b (omega arith))
        ∙ ap (◌∷ []) (take_at w (drop size b) size full)
    cells_behind (suc n) b k =
        let e : suc n * size ≡ size + n * size = omega arith in
        ap (λ j. cells size (suc (suc n)) (sets b j w)) e
        ∙ ap₂ (λ x y. x ∷ cells size (suc n) y) (take_sets size b (size + n * size) w (omega arith)) (drop_sets size b (n * size) w)
        ∙ ap (take size b ∷◌) (cells_behind n (drop size b) (omega (arith, length-drop size b)))

  -- ---- an entry stored in the cell that `store` fills, where `read` gives the entry of a cell

  module _ {A : Type 0} (read : List ℕ → A) (p : A → Bool) (w : List ℕ) (full : length w ≡ size) where
    map_set : (xs : List (List ℕ)) (i : ℕ) → map read (set xs i w) ≡ set (map read xs) i (read w)
    map_set [] i = refl
    map_set (x ∷ xs) zero = refl
    map_set (x ∷ xs) (suc i) = ap (read x ∷◌) (map_set xs i)

    pub stored_over : (n : ℕ) (b : List ℕ) → n * size ≤ length b → T (any p (map read (cells size n b))) →
        map read (cells size n (sets b (find p (map read (cells size n b)) * size) w)) ≡ store p (read w) (map read (cells size n b))
    stored_over n b k t =
        let xs = map read (cells size n b) in
        let i : find p xs < n = omega (arith, find_lt p xs t, length-map (cells size n b) read, length_cells n b) in
        ap (map read) (cells_over w full n (find p xs) b i k)
        ∙ map_set (cells size n b) (find p xs)
        ∙ sym (store_over p (read w) xs t)

    pub stored_behind : (n : ℕ) (b : List ℕ) → suc n * size ≤ length b → T (not (any p (map read (cells size n b)))) →
        map read (cells size (suc n) (sets b (n * size) w)) ≡ store p (read w) (map read (cells size n b))
    stored_behind n b k t =
        ap (map read) (cells_behind w full n b k)
        ∙ map-append read (cells size n b) (w ∷ [])
        ∙ sym (store_behind p (read w) (map read (cells size n b)) t)
