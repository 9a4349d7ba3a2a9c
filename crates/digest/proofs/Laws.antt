-- Laws of lists that a loop fills from the front, of the words of a block and of a hash value, and of the answers'
-- numbers. Assumes nothing.
use Rattle.std.proofs.Common.{◌≡◌, ℕ, zero, suc, ◌+◌, ◌-◌, ◌*◌, ◌/◌, ◌%◌, ◌^◌, ◌<◌, ◌≤◌, List, [], ◌∷◌, ◌++◌, length, take, drop, set, refl, sym, ap, ◌∙◌, append_assoc, arith, div-one, length-append, length-drop, length-take, drop_of_length-le, take_all, replicate, append-nil, add-one, get_or-take, take-suc-set}
use borrow.Rule.Slice.PartMut.{put_mid}
use lib.ListN.{get_or-eq_default, replicate-append-replicate}
use lib.Seq.{take_at, drop_at, drop-drop}
use Rattle.digest.specs.declared.Sha256.{Sha256}
use Rattle.digest.specs.declared.Updated.{Updated}
use Rattle.digest.specs.declared.Finished.{Finished}
use Rattle.digest.specs.declared.Digest.{Digest}
use Rattle.digest.specs.Words.{plus}
use Rattle.digest.specs.Block.{at, block_word, chained, compress}
use Rattle.std.specs.Int.{to_be_bytes, w32, w64}
use Rattle.digest.specs.Digest.{hash_after, hashed, big_endian, digest_byte, digest_bytes}
use Rattle.digest.specs.Back.{length_hash}
use Rattle.digest.specs.State.{answer_number, count_row, first_bytes, updated, finished, digested}
use Rattle.digest.specs.Parts.{first_take}
use Rattle.digest.specs.Claims.{update_number, finish_number, digest_number}

-- the first n elements, one more of them
pub filled : (w : List ℕ) (n m v : ℕ) {f : List ℕ} → take n w ≡ f → m ≡ suc n → n < length w → take m (set w n v) ≡ f ++ (v ∷ [])
filled w n m v {f} e em h = rw (em, take-suc-set w n v, e)

-- a list whose first n elements are new: those from n to m are too
pub laid : (front old ys : List ℕ) (n m : ℕ) → length front ≡ n → n + length ys ≡ m
    → put_mid n (m - n) (front ++ drop n old) ys ≡ (front ++ ys) ++ drop m old
laid front old ys n m e f =
    let k : n + (m - n) ≡ m = omega arith in
    rw (take_at front (drop n old) n e, drop_at front (drop n old) n e, drop-drop, k) (sym (append_assoc front ys (drop m old)))

-- all from n on is new
pub tail_laid : (b ys : List ℕ) (n : ℕ) → n ≤ length b → put_mid n (length b - n) b ys ≡ take n b ++ ys
tail_laid b ys n h =
    let e : n + (length b - n) ≡ length b = omega arith in
    rw (drop-drop, e, drop_of_length-le b {i = length b} (omega arith), append-nil)

-- the first n bytes of the n that there are
pub first_all : (l : List ℕ) (n : ℕ) → length l ≡ n → first_bytes l n ≡ l
first_all l n e = first_take l n (omega arith) ∙ take_all n l (omega arith)

-- zeros past the end
pub first_zeros : (l : List ℕ) (k n : ℕ) → n ≡ length l + k → first_bytes l n ≡ l ++ replicate k 0
unfolding first_bytes
first_zeros l zero n e = first_all l n (omega arith) ∙ rw append-nil
first_zeros l (suc k) n e =
    let m : n ≡ suc (length l + k) = omega arith in
    rw (
      m,
      first_zeros l k (length l + k) refl,
      get_or-eq_default {A = ℕ} l 0 {n = length l + k} (omega arith),
      append_assoc,
      replicate-append-replicate {A = ℕ} k 1 0,
      add-one,
    )

-- zeros from n on
pub blanked : (b ys : List ℕ) (n m : ℕ) → n ≤ length b → m ≡ length b → ys ≡ replicate (length (take (length b - n) (drop n b))) 0
    → put_mid n (length b - n) b ys ≡ first_bytes (take n b) m
blanked b ys n m h e f =
    let k : length (take (length b - n) (drop n b)) ≡ length b - n = rw (length-take, length-drop) (omega arith) in
    let l : m ≡ length (take n b) + (length b - n) = rw length-take (omega arith) in
    tail_laid b ys n h ∙ rw (f, k) (sym (first_zeros (take n b) (length b - n) m l))

-- a word of the next hash value
pub length_chained : (h s : List ℕ) → length (chained h s) ≡ 8
unfolding chained
length_chained h s = refl

pub length_compress : (h b : List ℕ) → length (compress h b) ≡ 8
unfolding compress
length_compress h b = length_chained h _

pub length_hashed : (h l : List ℕ) (n : ℕ) → length h ≡ 8 → length (hash_after h l n) ≡ 8
unfolding hash_after
length_hashed h l zero e = e
length_hashed h l (suc n) e = length_compress _ _

pub at_chained : (h s : List ℕ) (i : ℕ) → i < 8 → at (chained h s) i ≡ plus (at s i) (at h i)
unfolding chained
at_chained h s zero k = refl
at_chained h s (suc zero) k = refl
at_chained h s (suc (suc zero)) k = refl
at_chained h s (suc (suc (suc zero))) k = refl
at_chained h s (suc (suc (suc (suc zero)))) k = refl
at_chained h s (suc (suc (suc (suc (suc zero))))) k = refl
at_chained h s (suc (suc (suc (suc (suc (suc zero)))))) k = refl
at_chained h s (suc (suc (suc (suc (suc (suc (suc zero))))))) k = refl
at_chained h s (suc (suc (suc (suc (suc (suc (suc (suc i)))))))) k = absurd (omega arith)

at_part : (l : List ℕ) (j : ℕ) → j < 64 → at (take 64 l) j ≡ at l j
at_part l j h = get_or-take 64 l j 0 h

-- a word of the first block
pub word_part : (l : List ℕ) (i : ℕ) → i < 16 → block_word (take 64 l) (4 * i) ≡ block_word l (4 * i)
word_part l i h =
    rw (
      at_part l (4 * i) (omega arith),
      at_part l (4 * i + 1) (omega arith),
      at_part l (4 * i + 2) (omega arith),
      at_part l (4 * i + 3) (omega arith),
    )

-- an answer that is the definition's has its number
pub updates : {u : Updated} (s : Sha256) (d : List ℕ) → u ≡ updated s d → (u ≡ updated s d) × (answer_number u.answer ≡ count_row (s.total + length d))
updates s d e = (e, ap (λ (u : Updated). answer_number u.answer) e ∙ update_number s d)

pub finishes : {f : Finished} (s : Sha256) → f ≡ finished s → (f ≡ finished s) × (answer_number f.answer ≡ count_row s.total)
finishes s e = (e, ap (λ (f : Finished). answer_number f.answer) e ∙ finish_number s)

pub digests : {r : Digest} (l : List ℕ) → r ≡ digested l → (r ≡ digested l) × (answer_number r.answer ≡ count_row (length l))
digests l e = (e, ap (λ (r : Digest). answer_number r.answer) e ∙ digest_number l)

-- ---- a number's bytes, as std has them
pub to_big_endian : (x : ℕ) → to_be_bytes w64 x ≡ big_endian x 8
unfolding big_endian
to_big_endian x = rw (div-one)

word_byte : (h : List ℕ) (i j r : ℕ) → j ≡ 4 * i + r → r < 4 → digest_byte h j ≡ at h i / 2 ^ (8 * (3 - r)) % 256
word_byte h i j r e k =
    let q : j / 4 ≡ i = omega arith in
    let m : j % 4 ≡ r = omega arith in
    rw (q, m)

word_bytes : (h : List ℕ) (i : ℕ) → digest_bytes h (4 * i + 4) ≡ digest_bytes h (4 * i) ++ to_be_bytes w32 (at h i)
unfolding digest_bytes
word_bytes h i =
    let e : 4 * i + 4 ≡ suc (suc (suc (suc (4 * i)))) = omega arith in
    rw (
      e,
      word_byte h i (4 * i) 0 (omega arith) (omega arith),
      word_byte h i (suc (4 * i)) 1 (omega arith) (omega arith),
      word_byte h i (suc (suc (4 * i))) 2 (omega arith) (omega arith),
      word_byte h i (suc (suc (suc (4 * i)))) 3 (omega arith) (omega arith),
      div-one,
    )
    (simp append_assoc)

-- a word more of those that are laid
pub word_laid : (h old out ys : List ℕ) (i : ℕ) → out ≡ digest_bytes h (4 * i) ++ drop (4 * i) old → ys ≡ to_be_bytes w32 (at h i)
    → put_mid (4 * i) (4 * i + 4 - 4 * i) out ys ≡ digest_bytes h (4 * (i + 1)) ++ drop (4 * (i + 1)) old
word_laid h old out ys i e y =
    let f : 4 * (i + 1) ≡ 4 * i + 4 = omega arith in
    rw (e, y, f, word_bytes h i) (laid (digest_bytes h (4 * i)) old (to_be_bytes w32 (at h i)) (4 * i) (4 * i + 4) (length_hash h (4 * i)) refl)

-- ---- g is the hash value after n blocks, and the bytes behind them are left
pub record Absorbed (h l : List ℕ) (n : ℕ) (g left : List ℕ) : Type 0 where
  pub hash : g ≡ hash_after h l n
  pub behind : left ≡ drop (64 * n) l
  pub inside : 64 * n ≤ length l

pub absorbed_none : (h l : List ℕ) → Absorbed h l 0 h l
unfolding hash_after
absorbed_none h l = record { hash = refl; behind = refl; inside = omega arith }

module _ {h l g left : List ℕ} {n : ℕ} (a : Absorbed h l n g left) where
  pub absorbed_words : length h ≡ 8 → length g ≡ 8
  absorbed_words e = rw a.hash (length_hashed h l n e)

  pub absorbed_turn : (chunk : List ℕ) {more g' : List ℕ} → left ≡ chunk ++ more → length chunk ≡ 64 → g' ≡ compress g (take 64 chunk) → Absorbed h l (n + 1) g' more
  unfolding hash_after
  absorbed_turn chunk {more} {g'} e f c =
      let b : drop (64 * n) l ≡ chunk ++ more = sym a.behind ∙ e in
      let k : length (drop (64 * n) l) ≡ 64 + length more = rw (b, length-append, f) in
      let m : 64 * (n + 1) ≡ 64 * n + 64 = omega arith in
      record {
        hash = rw (add-one, b, take_at chunk more 64 f, ← a.hash) (c ∙ rw (take_all 64 chunk (omega arith)));
        behind = rw (m, ← drop-drop, b, drop_at chunk more 64 f);
        inside = omega (arith, length-drop (64 * n) l);
      }

  pub absorbed_end : length left < 64 → g ≡ hashed h l
  absorbed_end k =
      let b : length left ≡ length l - 64 * n = rw a.behind (length-drop (64 * n) l) in
      let e : n ≡ length l / 64 = omega (arith, a.inside) in
      a.hash ∙ ap (hash_after h l) e
