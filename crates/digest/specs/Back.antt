-- A state that is written as bytes and read back is the same state; so is each that some bytes fed give. Assumes
-- nothing.
use Rattle.std.specs.Prelude.{◌≡◌, ℕ, zero, suc, ◌+◌, ◌-◌, ◌*◌, ◌/◌, ◌%◌, ◌^◌, ◌<◌, ◌≤◌, List, [], ◌∷◌, ◌++◌, length, take, drop}
use Rattle.std.proofs.Math.Path.{refl}
use Rattle.std.proofs.Common.{sym, ap, ◌∙◌, append_assoc, lit<, arith, length-append, take-suc, take_all, take_at, drop_at, get_or-append-add}
use Rattle.std.proofs.Math.Decide.{dec_lt}
use Rattle.std.proofs.Math.ListN.{get_or-append}
use Rattle.std.proofs.lemmas.List.{get_or_at}
use Rattle.digest.specs.declared.Sha256.{Sha256}
use Rattle.digest.specs.Block.{H0, at, block_word, words, chained, compress}
use Rattle.digest.specs.State.{first_bytes, state_after, state_of}
use Rattle.digest.specs.Parts.{first_take, length_first}
use Rattle.digest.specs.Bytes.{state_bytes, total_in, state_in}
use Rattle.digest.specs.Digest.{byte_of, big_endian, hash_after, blocks, rest, digest_byte, digest_bytes}

-- a list that is made of an element more at each step
module _ (f : ℕ → List ℕ) (g : ℕ → ℕ) (none : f 0 ≡ []) (more : (i : ℕ) → f (suc i) ≡ f i ++ (g i ∷ [])) where
  pub grown_length : (n : ℕ) → length (f n) ≡ n
  grown_length zero = ap length none
  grown_length (suc n) = ap length (more n) ∙ length-append (f n) (g n ∷ []) ∙ rw (grown_length n) (omega arith)

  pub grown_at : (n i : ℕ) → i < n → at (f n) i ≡ g i
  grown_at zero i h = absurd (omega arith)
  grown_at (suc n) i h = rw (more n) (go (dec_lt i n) (λ k. grown_at n i k))
    where
      go : Dec (i < n) → (i < n → at (f n) i ≡ g i) → at (f n ++ (g n ∷ [])) i ≡ g i
      go (yes k) e = get_or-append (f n) (g n ∷ []) 0 i (omega (arith, grown_length n)) ∙ e k
      go (no k) e = let q : i ≡ n = omega arith in rw q (get_or_at (f n) (g n) [] 0 n (grown_length n))

pub length_bytes : (x n : ℕ) → length (big_endian x n) ≡ n
unfolding big_endian
length_bytes x n = grown_length (big_endian x) (byte_of x) refl (λ i. refl) n

pub at_bytes : (x n i : ℕ) → i < n → at (big_endian x n) i ≡ byte_of x i
unfolding big_endian
at_bytes x n i h = grown_at (big_endian x) (byte_of x) refl (λ i. refl) n i h

pub length_hash : (w : List ℕ) (n : ℕ) → length (digest_bytes w n) ≡ n
unfolding digest_bytes
length_hash w n = grown_length (digest_bytes w) (digest_byte w) refl (λ i. refl) n

pub at_hash : (w : List ℕ) (n i : ℕ) → i < n → at (digest_bytes w n) i ≡ digest_byte w i
unfolding digest_bytes
at_hash w n i h = grown_at (digest_bytes w) (digest_byte w) refl (λ i. refl) n i h

pub length_state : (s : Sha256) → length s.block ≡ 64 → length (state_bytes s) ≡ 104
unfolding state_bytes
length_state s full = simp (length-append, length_hash, length_bytes, full)

-- ---- the bytes of a number: those above the lowest are the bytes of its 256th part
above_1 : (x : ℕ) → x / 2 ^ 16 ≡ x / 2 ^ 8 / 256
above_1 x = omega arith

above_2 : (x : ℕ) → x / 2 ^ 24 ≡ x / 2 ^ 16 / 256
above_2 x = omega arith

above_3 : (x : ℕ) → x / 2 ^ 40 ≡ x / 2 ^ 32 / 2 ^ 8
above_3 x = omega arith

above_4 : (x : ℕ) → x / 2 ^ 48 ≡ x / 2 ^ 32 / 2 ^ 16
above_4 x = omega arith

above_5 : (x : ℕ) → x / 2 ^ 56 ≡ x / 2 ^ 32 / 2 ^ 24
above_5 x = omega arith

four : (x y : ℕ) → y ≡ x → x / 2 ^ 24 % 256 * 0x1000000 + x / 2 ^ 16 % 256 * 0x10000 + x / 2 ^ 8 % 256 * 0x100 + y %
    256 ≡ x % 2 ^ 32
four x y e = rw (above_2 x, above_1 x, e) (omega arith)

-- ---- a hash value of eight words of 32 bits
pub record HashValue (w : List ℕ) : Type 0 where
  pub eight : length w ≡ 8
  pub small : (i : ℕ) → at w i < 2 ^ 32

module _ (w x : List ℕ) (h : HashValue w) where
  abbrev written : List ℕ
  written = digest_bytes w 32 ++ x

  at_front : (i : ℕ) → i < 32 → at written i ≡ digest_byte w i
  at_front i k = get_or-append (digest_bytes w 32) x 0 i (omega (arith, length_hash w 32)) ∙ at_hash w 32 i k

  -- byte j of word t
  at_word : (t j : ℕ) → t < 8 → j < 4 → at written (4 * t + j) ≡ at w t / 2 ^ (8 * (3 - j)) % 256
  at_word t j k m =
      let e : (4 * t + j) / 4 ≡ t = omega arith in
      let f : (4 * t + j) % 4 ≡ j = omega arith in
      at_front (4 * t + j) (omega arith) ∙ rw (e, f) refl

  word_back : (t : ℕ) → t < 8 → block_word written (4 * t) ≡ at w t
  word_back t k =
      let a = at_word t 1 k (omega arith) in
      let b = at_word t 2 k (omega arith) in
      let c = at_word t 3 k (omega arith) in
      let z : 4 * t ≡ 4 * t + 0 = omega arith in
      let d : at written (4 * t) ≡ at w t / 2 ^ 24 % 256 = ap (at written) z ∙ at_word t 0 k (omega arith) in
      let s = h.small t in
      let e : at w t % 2 ^ 32 ≡ at w t = omega arith in
      rw (a, b, c, d) (four (at w t) (at w t / 2 ^ 0) (omega arith) ∙ e)

  words_back : (t : ℕ) → t ≤ 8 → words written t ≡ take t w
  unfolding words
  words_back zero k = refl
  words_back (suc t) k = rw (words_back t (omega arith), word_back t k) (sym (take-suc w t 0 (omega (arith, h.eight))))

-- ---- the count
module _ (a : List ℕ) (x : ℕ) (long : length a ≡ 96) where
  at_count : (i : ℕ) → i < 8 → at (a ++ big_endian x 8) (96 + i) ≡ byte_of x i
  at_count i k =
      let e : 96 + i ≡ length a + i = omega arith in
      ap (at (a ++ big_endian x 8)) e ∙ get_or-append-add a (big_endian x 8) i 0 ∙ at_bytes x 8 i k

  low : block_word (a ++ big_endian x 8) 100 ≡ x % 2 ^ 32
  low = rw (at_count 4 (omega arith), at_count 5 (omega arith), at_count 6 (omega arith), at_count 7 (omega arith))
      (four x (x / 2 ^ 0) (omega arith))

  high : block_word (a ++ big_endian x 8) 96 ≡ x / 2 ^ 32 % 2 ^ 32
  high =
      rw (
        at_count 0 (omega arith),
        at_count 1 (omega arith),
        at_count 2 (omega arith),
        at_count 3 (omega arith),
        above_5 x,
        above_4 x,
        above_3 x,
      )
      (four (x / 2 ^ 32) (x / 2 ^ 32) refl)

  total_back : x < 2 ^ 64 → total_in (a ++ big_endian x 8) ≡ x
  total_back h = rw (low, high) (omega arith)

-- ---- a state whose fields have the widths of the struct's
pub state_back : (s : Sha256) → HashValue s.words → length s.block ≡ 64 → s.total < 2 ^ 64 →
    state_in (state_bytes s) ≡ s
unfolding state_bytes state_in
state_back s w b t =
    let x : List ℕ = s.block ++ big_endian s.total 8 in
    let d : drop 32 (digest_bytes s.words 32 ++ x) ≡ x =
    drop_at (digest_bytes s.words 32) x 32 (length_hash s.words 32) in
    let f : first_bytes x 64 ≡ s.block =
    first_take x 64 (simp length-append (omega (arith, length_bytes s.total 8))) ∙
    take_at s.block (big_endian s.total 8) 64 b in
    let l : length (digest_bytes s.words 32 ++ s.block) ≡ 96 = simp (length-append, length_hash, b) in
    let e : total_in (digest_bytes s.words 32 ++ x) ≡ s.total =
    rw (← append_assoc) (total_back (digest_bytes s.words 32 ++ s.block) s.total l t) in
    rw (words_back s.words x w 8 (omega arith), take_all 8 s.words (omega (arith, w.eight)), d, f, e) refl

-- ---- the state of some bytes fed: its words are sums modulo 2 ^ 32
record Small (w : List ℕ) : Type 0 where
  each : (i : ℕ) → at w i < 2 ^ 32

small_none : Small []
small_none = record { each = λ i. lit< tt }

small_more : {x : ℕ} {w : List ℕ} → x < 2 ^ 32 → Small w → Small (x ∷ w)
small_more {x} {w} h k = record { each = go }
  where
    go : (i : ℕ) → at (x ∷ w) i < 2 ^ 32
    go zero = h
    go (suc i) = k.each i

small_eight : {a b c d e f g h : ℕ} → a < 2 ^ 32 → b < 2 ^ 32 → c < 2 ^ 32 → d < 2 ^ 32 → e < 2 ^ 32 → f < 2 ^ 32 →
    g < 2 ^ 32 → h < 2 ^ 32
    → HashValue (a ∷ b ∷ c ∷ d ∷ e ∷ f ∷ g ∷ h ∷ [])
small_eight i j k l m n o p = record {
  eight = refl;
  small = (small_more i (small_more j
      (small_more k (small_more l (small_more m (small_more n (small_more o (small_more p small_none)))))))).each;
}

first_value : HashValue H0
unfolding H0
first_value = small_eight (lit< tt) (lit< tt) (lit< tt) (lit< tt) (lit< tt) (lit< tt) (lit< tt) (lit< tt)

chained_value : (h s : List ℕ) → HashValue (chained h s)
unfolding chained
chained_value h s =
    small_eight (omega arith) (omega arith) (omega arith) (omega arith) (omega arith) (omega arith) (omega arith)
    (omega arith)

hash_value : (l : List ℕ) (n : ℕ) → HashValue (hash_after H0 l n)
unfolding hash_after compress
hash_value l zero = first_value
hash_value l (suc n) = chained_value _ _

pub fed_back : (l : List ℕ) → length l < 2 ^ 64 → state_in (state_bytes (state_of l)) ≡ state_of l
unfolding state_after
fed_back l h = state_back (state_of l) (hash_value l (blocks l)) (length_first (rest l) 64) h
