-- The answer is the lowest row that holds, and 0 exactly where none does.
use mathlib.Core.Path.{◌≡◌, refl, sym, ap, ◌∙◌}
use mathlib.Core.List.{List}
use mathlib.Core.Logic.{◌↔◌}
use mathlib.Core.Bool.{Bool, true, false, cond, not, ◌&&◌}
use Prim.Native.Nat.{ℕ, zero, suc, ◌+◌, ◌≤◌, ◌<◌}
use native.Mathlib.Omega.{arith}
use borrow.Author.Tests.{ne_eqb, eqb-true, eqb-false, ltb-true, ltb-false}
use lib.Dec.{eqb, ltb}
use lib.ListN.{length}
use Rattle.wire.specs.Bytes.{has_control}
use Rattle.json_tree.specs.Tree.{Json, Got, none, got, end_of, ends_at, root}
use Rattle.rows.specs.Rows.{row1, row2, on_root}
use Rattle.shape.specs.Rows.{row4, row5, row6, row7, row8, tree_row, root_row, message_row}
use Rattle.shape.specs.Lowest.{holds, LowestRow}
use Rattle.shape.proofs.Names.{no}

-- ---- the first of n numbers from k on of which f holds, and 0 where it holds of none
first : (ℕ → Bool) → ℕ → ℕ → ℕ
first f zero k = 0
first f (suc n) k = cond (f k) k (first f n (k + 1))

module _ (f : ℕ → Bool) where
  -- what is found is held, and nothing before it
  record Found (n k r : ℕ) : Type 0 where
    from : k ≤ r
    to : r < k + n
    held : f r ≡ true
    none_before : (j : ℕ) → k ≤ j → j < r → f j ≡ false

  before : (k r : ℕ) → f k ≡ false → ((j : ℕ) → k + 1 ≤ j → j < r → f j ≡ false) → (j : ℕ) → k ≤ j → j < r → f j ≡ false
  before k r e h j l m = go (eqb j k) refl
    where
      go : (x : Bool) → eqb j k ≡ x → f j ≡ false
      go true q = rw (eqb-true j k q) e
      go false q = let d = eqb-false j k q in h j (omega arith) m

  found : (n k r : ℕ) → 1 ≤ r → first f n k ≡ r → Found n k r
  unfolding first
  found zero k r h e = absurd (omega arith)
  found (suc n) k r h e = go (f k) refl e λ q. found n (k + 1) r h q
    where
      go : (x : Bool) → f k ≡ x → cond x k (first f n (k + 1)) ≡ r → (first f n (k + 1) ≡ r → Found n (k + 1) r) → Found (suc n) k r
      go true q w ih = record { from = omega arith; to = omega arith; held = rw w at q; none_before = λ j l m. absurd (omega arith) }
      go false q w ih =
          let g = ih w in
          record { from = let a = g.from in omega arith; to = let a = g.to in omega arith; held = g.held; none_before = before k r q g.none_before }

  finds : (n k r : ℕ) → Found n k r → first f n k ≡ r
  unfolding first
  finds zero k r g = let a = g.from in let b = g.to in absurd (omega arith)
  finds (suc n) k r g = go (f k) refl (eqb k r) refl λ q. finds n (k + 1) r q
    where
      go : (x : Bool) → f k ≡ x → (y : Bool) → eqb k r ≡ y → (Found n (k + 1) r → first f n (k + 1) ≡ r) → cond x k (first f n (k + 1)) ≡ r
      go true q true d ih = eqb-true k r d
      go true q false d ih = let a = g.from in let z = eqb-false k r d in let w = g.none_before k (omega arith) (omega arith) in no cc
      go false q true d ih = let w = g.held in let z = eqb-true k r d in no (let v : f k ≡ f r = ap f z in cc)
      go false q false d ih =
          let a = g.from in let b = g.to in let z = eqb-false k r d in
          ih record { from = omega arith; to = omega arith; held = g.held; none_before = λ j l m. g.none_before j (omega arith) m }

  none_found : (n k : ℕ) → 1 ≤ k → first f n k ≡ 0 → (j : ℕ) → k ≤ j → j < k + n → f j ≡ false
  unfolding first
  none_found zero k h e = λ j l m. absurd (omega arith)
  none_found (suc n) k h e = go (f k) refl e λ q. none_found n (k + 1) (omega arith) q
    where
      go : (x : Bool) → f k ≡ x → cond x k (first f n (k + 1)) ≡ 0 → (first f n (k + 1) ≡ 0 → (j : ℕ) → k + 1 ≤ j → j < k + 1 + n → f j ≡ false) → (j : ℕ) → k ≤ j → j < k + suc n → f j ≡ false
      go true q w ih j l m = absurd (omega arith)
      go false q w ih j l m = before k (k + 1 + n) q (ih w) j l (omega arith)

  finds_none : (n k : ℕ) → ((j : ℕ) → f j ≡ false) → first f n k ≡ 0
  unfolding first
  finds_none zero k h = refl
  finds_none (suc n) k h = rw (h k) (finds_none n (k + 1) h)

-- ---- the rows
module _ (s : List ℕ) where
  answer_first : message_row s ≡ first (holds s) 8 1
  unfolding message_row tree_row first holds
  answer_first = ap (λ (n : ℕ). cond (row1 s) 1 (cond (row2 s) 2 n)) (go (has_control s) (root s))
    where
      go : (c : Bool) (g : Got Json) → cond (not (not c && ends_at (length s) (end_of g))) 3 (root_row s g)
          ≡ cond (not (not c && ends_at (length s) (end_of g))) 3 (cond (on_root (row4 s) g) 4 (cond (on_root (row5 s) g) 5 (cond (on_root (row6 s) g) 6 (cond (on_root (row7 s) g) 7 (cond (on_root (row8 s) g) 8 0)))))
      go true g = refl
      go false none = refl
      go false (got t n) = refl

  no_zero_lem : holds s 0 ≡ false
  unfolding holds
  no_zero_lem = refl

  only_eight : (r : ℕ) → holds s r ≡ true → (1 ≤ r) × (r < 9)
  unfolding holds
  only_eight zero e = no cc
  only_eight (suc r) e = go (ltb r 8) refl
    where
      go : (x : Bool) → ltb r 8 ≡ x → (1 ≤ suc r) × (suc r < 9)
      go true q = let h = ltb-true r 8 q in (omega arith, omega arith)
      go false q =
          let h = ltb-false r 8 q in
          let z : false ≡ true = rw (
            ne_eqb (suc r) 1 (λ w. omega arith),
            ne_eqb (suc r) 2 (λ w. omega arith),
            ne_eqb (suc r) 3 (λ w. omega arith),
            ne_eqb (suc r) 4 (λ w. omega arith),
            ne_eqb (suc r) 5 (λ w. omega arith),
            ne_eqb (suc r) 6 (λ w. omega arith),
            ne_eqb (suc r) 7 (λ w. omega arith),
            ne_eqb (suc r) 8 (λ w. omega arith),
          ) at e in
          no cc

  -- a row is answered exactly where it holds and no lower one does
  pub row_given : (r : ℕ) → 1 ≤ r → (message_row s ≡ r) ↔ LowestRow s r
  row_given r h = (there, back)
    where
      lower : Found (holds s) 8 1 r → (k : ℕ) → k < r → holds s k ≡ false
      lower g zero l = no_zero_lem
      lower g (suc k) l = g.none_before (suc k) (omega arith) l

      there : message_row s ≡ r → LowestRow s r
      there e = let g = found (holds s) 8 1 r h (sym answer_first ∙ e) in record { held = g.held; none_lower = lower g }

      back : LowestRow s r → message_row s ≡ r
      back w =
          let b = only_eight r w.held in
          answer_first ∙ finds (holds s) 8 1 r record { from = h; to = omega arith; held = w.held; none_before = λ j l m. w.none_lower j m }

  -- and 0 exactly where none holds
  pub none_given : (message_row s ≡ 0) ↔ ((r : ℕ) → holds s r ≡ false)
  none_given = (there, λ f. answer_first ∙ finds_none (holds s) 8 1 f)
    where
      there : message_row s ≡ 0 → (r : ℕ) → holds s r ≡ false
      there e r = go (holds s r) refl
        where
          go : (x : Bool) → holds s r ≡ x → x ≡ false
          go true q = let b = only_eight r q in let w = none_found (holds s) 8 1 (omega arith) (sym answer_first ∙ e) r b.0 (omega arith) in no cc
          go false q = refl

  -- so there is one answer, 0 to 8
  pub row_most : message_row s ≤ 8
  row_most = go (message_row s) refl
    where
      go : (r : ℕ) → message_row s ≡ r → r ≤ 8
      go zero e = omega arith
      go (suc r) e = let b = only_eight (suc r) ((row_given (suc r) (omega arith)).0 e).held in omega arith
