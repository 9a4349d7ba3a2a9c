-- A message's first block, and its last ones: what `take_in` hashes before the rest, and what `close` hashes behind it.
-- So the whole of `digest_of`. Assumes nothing.
use Rattle.std.proofs.Common.{◌≡◌, ℕ, ◌+◌, ◌-◌, ◌*◌, ◌%◌, ◌<◌, ◌≤◌, List, [], ◌∷◌, ◌++◌, length, take, drop, replicate, sym, refl, ◌∙◌, append_assoc, arith, length-append, length-drop, take-append-drop, drop_of_length-le, length-take-le, take_all, drop-drop}
use lib.ListN.{length-replicate}
use lib.ListN.{replicate-append-replicate}
use Rattle.digest.specs.Block.{H0, compress}
use Rattle.digest.specs.Digest.{zeros, big_endian, padding, padded, blocks, hash_after, hashed, rest}
use Rattle.digest.specs.Digest.{digest_bytes, digest}
use Rattle.digest.specs.State.{first_bytes}
use Rattle.digest.specs.Parts.{length_first, take_first, waits, hashed_more, rest_more}
use Rattle.digest.specs.Back.{length_bytes}
use Rattle.digest.proofs.Laws.{first_zeros, first_all}

-- fewer bytes than a block, and one block
pub few_hashed : (h l : List ℕ) → length l < 64 → h ≡ hashed h l
unfolding hash_after
few_hashed h l k = let z : blocks l ≡ 0 = omega arith in rw z

pub few_rest : (l : List ℕ) → length l < 64 → l ≡ rest l
few_rest l k = let z : blocks l ≡ 0 = omega arith in rw z

one_hashed : (h l : List ℕ) → length l ≡ 64 → hashed h l ≡ compress h (take 64 l)
unfolding hash_after
one_hashed h l k = let z : blocks l ≡ 1 = omega arith in rw z

one_rest : (l : List ℕ) → length l ≡ 64 → rest l ≡ []
one_rest l k = drop_of_length-le l {i = 64 * blocks l} (omega arith)

-- a block l and then m
module _ (h l m : List ℕ) (full : length l ≡ 64) where
  block_hashed : hashed (compress h (take 64 l)) m ≡ hashed h (l ++ m)
  block_hashed = rw (one_hashed h l full, one_rest l full) at (hashed_more h l m)

  block_rest : rest m ≡ rest (l ++ m)
  block_rest = rw (one_rest l full) at (rest_more h l m)

-- a part up to the end
to_end : (l : List ℕ) (i : ℕ) → take (length l - i) (drop i l) ≡ drop i l
to_end l i = take_all (length l - i) (drop i l) (simp length-drop (omega arith))

-- what `take_in` does where the bytes d fill the block: its first n bytes and then d are that block and the rest of d
module _ (h b d : List ℕ) (n : ℕ) (k : n < 64) (long : length b ≡ 64) (fits : 64 - n ≤ length d) where
  abbrev first : List ℕ
  first = take n b ++ take (64 - n) d

  abbrev end : ℕ
  end = length d - (length d - (64 - n)) % 64

  full : length first ≡ 64
  full = simp (length-append, length-take-le n b (omega arith), length-take-le (64 - n) d fits) (omega arith)

  parts : first ++ drop (64 - n) d ≡ take n b ++ d
  parts = rw (append_assoc, take-append-drop)

  pub took : {h₁ h₂ b₁ b₂ : List ℕ} → b₁ ≡ first_bytes first 64 → h₁ ≡ compress h (take 64 b₁)
      → h₂ ≡ hashed h₁ (take (length d - (64 - n)) (drop (64 - n) d))
      → b₂ ≡ first_bytes (take (length d - end) (drop end d)) 64
      → (h₂ ≡ hashed h (take n b ++ d)) × (b₂ ≡ first_bytes (rest (take n b ++ d)) 64)
  took e₁ e₂ e₃ e₄ =
      let q : List ℕ = drop (64 - n) d in
      let i : end ≡ 64 - n + 64 * blocks q = omega (arith, length-drop (64 - n) d) in
      let r : drop end d ≡ rest q = rw (i, drop-drop) in (
        e₃ ∙ rw (to_end d (64 - n), e₂, e₁, first_all first 64 full, ← parts) (block_hashed h first q full),
        e₄ ∙ rw (to_end d end, r, ← parts, block_rest h first q full),
      )

-- what `close` does: the bytes that wait and the padding are one block, or two
module _ (h b : List ℕ) (t : ℕ) (long : length b ≡ 64) where
  abbrev fill : ℕ
  fill = t % 64

  abbrev begun : List ℕ
  begun = take fill b ++ (0x80 ∷ [])

  abbrev whole : List ℕ
  whole = take fill b ++ padding t

  size : length begun ≡ fill + 1
  size = simp (length-append, length-take-le fill b (omega arith))

  zeros_behind : (k m : ℕ) → m ≡ fill + 1 + k → first_bytes begun m ≡ begun ++ replicate k 0
  zeros_behind k m e = first_zeros begun k m (omega (arith, size))

  pub near : {b₁ b₂ : List ℕ} → fill < 56 → b₁ ≡ first_bytes begun 64 → b₂ ≡ take 56 b₁ ++ big_endian (t * 8) 8
      → compress h (take 64 b₂) ≡ hashed h whole
  unfolding padding
  near {b₁} {b₂} k e₁ e₂ =
      let z : 55 - fill ≡ zeros t = omega arith in
      let g : b₂ ≡ whole =
      e₂ ∙ rw (e₁, take_first begun 56 8, zeros_behind (55 - fill) 56 (omega arith), z) (simp append_assoc) in
      rw g (sym (one_hashed h whole
      (simp (length-append, length-take-le fill b (omega arith), length-replicate, length_bytes) (omega arith))))

  pub far : {h₁ b₁ b₂ b₃ : List ℕ} → 56 ≤ fill → b₁ ≡ first_bytes begun 64 → h₁ ≡ compress h (take 64 b₁)
      → b₂ ≡ first_bytes [] 64 → b₃ ≡ take 56 b₂ ++ big_endian (t * 8) 8 → compress h₁ (take 64 b₃) ≡ hashed h whole
  unfolding padding
  far k e₁ e₂ e₃ e₄ =
      let l : List ℕ = first_bytes begun 64 in
      let m : List ℕ = first_bytes [] 56 ++ big_endian (t * 8) 8 in
      let z : 63 - fill + 56 ≡ zeros t = omega arith in
      let y = rw z at (replicate-append-replicate {A = ℕ} (63 - fill) 56 0) in
      let g : l ++ m ≡ whole =
      rw (zeros_behind (63 - fill) 64 (omega arith), first_zeros [] 56 56 refl, ← y) (simp append_assoc) in
      rw (e₄, e₃, e₂, e₁, take_first [] 56 8, ← g)
      (sym (one_hashed _ m (simp (length-append, length_first, length_bytes)))
      ∙ block_hashed h l m (length_first begun 64))

-- what `digest_of` does: whole blocks, and the end of what waits behind them
pub ends : (l : List ℕ) {h h₁ h₂ b : List ℕ} → h ≡ H0 → h₁ ≡ hashed h l
    → b ≡ first_bytes (take (length l - (length l - length l % 64)) (drop (length l - length l % 64) l)) 64
    → h₂ ≡ hashed h₁ (take (length l % 64) b ++ padding (length l)) → digest_bytes h₂ 32 ≡ digest l
unfolding digest padded
ends l e₀ e₁ e₂ e₃ =
    let i : length l - length l % 64 ≡ 64 * blocks l = omega arith in
    rw (e₃, e₂, e₁, e₀, to_end l (length l - length l % 64), i, waits l, hashed_more H0 l (padding (length l)))
