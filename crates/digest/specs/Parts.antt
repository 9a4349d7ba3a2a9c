-- Laws behind Pieces: a message in two parts, l and then m, is hashed by the blocks of l and then those of its rest and
-- m. No contract cites them. Assumes nothing.
use Rattle.std.specs.Prelude.{◌≡◌, ℕ, zero, suc, ◌+◌, ◌-◌, ◌*◌, ◌%◌, ◌≤◌, List, [], ◌∷◌, ◌++◌, length, take, drop, slice_index, refl}
use Rattle.std.proofs.Common.{ap, ap₂, sym, ◌∙◌, add-zero, add-suc, arith, length-append, length-drop, take-suc, take_all, drop-drop}
use Rattle.std.proofs.lemmas.List.{take-append-le, drop-append-le}
use Rattle.digest.specs.Block.{compress}
use Rattle.digest.specs.Digest.{blocks, hash_after, hashed, rest}
use Rattle.digest.specs.State.{first_bytes, state_after}

-- the first bytes of a list that has so many
pub first_take : (l : List ℕ) (n : ℕ) → n ≤ length l → first_bytes l n ≡ take n l
unfolding first_bytes
first_take l zero h = refl
first_take l (suc n) h = rw (first_take l n (omega arith), take-suc l n 0 h)

pub length_first : (l : List ℕ) (n : ℕ) → length (first_bytes l n) ≡ n
unfolding first_bytes
length_first l zero = refl
length_first l (suc n) = length-append (first_bytes l n) (slice_index l n ∷ []) ∙ rw (length_first l n) (omega arith)

pub take_first : (l : List ℕ) (k n : ℕ) → take k (first_bytes l (k + n)) ≡ first_bytes l k
unfolding first_bytes
take_first l k zero = rw add-zero (take_all k (first_bytes l k) (omega (arith, length_first l k)))
take_first l k (suc n) =
    rw add-suc (take-append-le k (first_bytes l (k + n)) (slice_index l (k + n) ∷ [])
    (omega (arith, length_first l (k + n))) ∙ take_first l k n)

-- the bytes that wait
pub waits : (l : List ℕ) → take (length l % 64) (first_bytes (rest l) 64) ≡ rest l
waits l =
    let r : List ℕ = rest l in
    let n = length l % 64 in
    let e : length r ≡ n = simp length-drop (omega arith) in
    let f : 64 ≡ n + (64 - n) = omega arith in
    ap (λ (k : ℕ). take n (first_bytes r k)) f ∙ take_first r n (64 - n) ∙ first_take r n (omega arith) ∙
    take_all n r (omega arith)

-- whole blocks are hashed the same, whatever follows them
hash_append : (h l m : List ℕ) (n : ℕ) → 64 * n ≤ length l → hash_after h (l ++ m) n ≡ hash_after h l n
unfolding hash_after
hash_append h l m zero e = refl
hash_append h l m (suc n) e =
    ap₂ compress (hash_append h l m n (omega arith))
    (rw (
      drop-append-le (64 * n) l m (omega arith),
      take-append-le 64 (drop (64 * n) l) m (simp length-drop (omega arith)),
    ))

behind : (l m : List ℕ) (a b : ℕ) → 64 * a ≤ length l →
    drop (64 * (a + b)) (l ++ m) ≡ drop (64 * b) (drop (64 * a) l ++ m)
behind l m a b e =
    let d : 64 * (a + b) ≡ 64 * a + 64 * b = omega arith in
    rw (d, ← drop-drop (64 * b) (64 * a) (l ++ m), drop-append-le (64 * a) l m e)

hash_more : (h l m : List ℕ) (a b : ℕ) → 64 * a ≤ length l
    → hash_after h (l ++ m) (a + b) ≡ hash_after (hash_after h l a) (drop (64 * a) l ++ m) b
unfolding hash_after
hash_more h l m a zero e = rw add-zero (hash_append h l m a e)
hash_more h l m a (suc b) e = rw add-suc (ap₂ compress (hash_more h l m a b e) (rw (behind l m a b e)))

module _ (h l m : List ℕ) where
  more_blocks : blocks (l ++ m) ≡ blocks l + blocks (rest l ++ m)
  more_blocks = simp (length-append, length-drop) (omega arith)

  pub hashed_more : hashed (hashed h l) (rest l ++ m) ≡ hashed h (l ++ m)
  hashed_more = sym (rw more_blocks (hash_more h l m (blocks l) (blocks (rest l ++ m)) (omega arith)))

  pub rest_more : rest (rest l ++ m) ≡ rest (l ++ m)
  rest_more = sym (rw more_blocks (behind l m (blocks l) (blocks (rest l ++ m)) (omega arith)))

  -- so the state too
  pub state_more : (n : ℕ) → state_after (hashed h l) (rest l ++ m) n ≡ state_after h (l ++ m) n
  unfolding state_after
  state_more n = rw (hashed_more, rest_more)
