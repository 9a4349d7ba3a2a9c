-- The bytes of a state: those of its hash value, its block and those of its count are laid one behind the other.
use Rattle.std.proofs.Common.{◌≡◌, ℕ, ◌+◌, List, ◌++◌, length, drop, arith, refl, ap, ◌∙◌, length-append, append_assoc}
use borrow.Rule.Slice.PartMut.{put_mid}
use Rattle.std.specs.Int.{to_be_bytes, w64}
use Rattle.digest.specs.Digest.{big_endian, digest_bytes}
use Rattle.digest.specs.Back.{length_hash}
use Rattle.digest.proofs.Laws.{laid, to_big_endian}

-- the bytes of a state with the hash value w, the block b and the count t
abbrev pub whole : (w b : List ℕ) (t : ℕ) → List ℕ
whole w b t = digest_bytes w 32 ++ (b ++ big_endian t 8)

pub state_laid : (w b old : List ℕ) (t : ℕ) → length b ≡ 64
    → put_mid 96 8 (put_mid 32 64 (digest_bytes w 32 ++ drop 32 old) b) (to_be_bytes w64 t) ≡ whole w b t ++ drop 104 old
state_laid w b old t full =
    let d : List ℕ = digest_bytes w 32 in
    let n : length d ≡ 32 = length_hash w 32 in
    let m : length (d ++ b) ≡ 96 = simp length-append (omega arith) in
    let f : 32 + length b ≡ 96 = omega arith in
    ap (λ (o : List ℕ). put_mid 96 8 o (to_be_bytes w64 t)) (laid d old b 32 96 n f)
    ∙ laid (d ++ b) old (to_be_bytes w64 t) 96 104 m refl
    ∙ ap (λ (l : List ℕ). ((d ++ b) ++ l) ++ drop 104 old) (to_big_endian t)
    ∙ ap (λ (l : List ℕ). l ++ drop 104 old) (append_assoc d b (big_endian t 8))
