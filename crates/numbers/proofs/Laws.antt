-- The numbers of filters, ten each, one filter after the other; a part of a buffer that is written over.
use mathlib.Core.Path.{◌≡◌, refl, sym, ap, ◌∙◌}
use mathlib.Core.List.{List, [], ◌∷◌, ◌++◌}
use Prim.Native.Nat.{ℕ, suc, ◌+◌, ◌-◌, ◌*◌, ◌≤◌, ◌<◌, min}
use native.Mathlib.Decide.{dec_le}
use native.Mathlib.Omega.{arith}
use lib.ListN.{length, take, drop, get_or, length-append, length-take, take-append-drop, drop_of_length-le}
use lib.Seq.{drop-cons, take-nil}
use Rattle.std.proofs.lemmas.List.Edits.{sets-eq}
use borrow.Rule.Slice.PartMut.{put_mid}
use Rattle.std.proofs.lemmas.Slice.{take-put_mid, drop-put_mid}
use Rattle.wire.specs.Put.{Puts, put}
use Rattle.wire.proofs.Laws.{length_put, put_more, put_rest}
use Rattle.message.specs.declared.FilterParts.{FilterParts}
use Rattle.numbers.specs.Numbers.{filter_numbers, parts_numbers}

pub puts_as : {d l l' o : List ℕ} {i r : ℕ} → l ≡ l' → Puts d i l r o → Puts d i l' r o
puts_as e p = rw (sym e) p

-- ---- filters: ten numbers each, and those that are left after i
pub length_parts : (ps : List FilterParts) → length (parts_numbers ps) ≡ 10 * length ps
length_parts [] = refl
length_parts (p ∷ ps) = let h = length_parts ps in simp length-append (omega arith)

module _ (fs : List FilterParts) (n i : ℕ) where
  abbrev pub left_parts : List ℕ
  left_parts = parts_numbers (take (n - i) (drop i fs))

  pub filters_turn : (z : FilterParts) → i < n → i < length fs → left_parts ≡ filter_numbers (get_or fs i z) ++ parts_numbers (take (n - (i + 1)) (drop (i + 1) fs))
  filters_turn z h k =
      let m : n - i ≡ suc (n - (i + 1)) = omega arith in
      let e : suc i ≡ i + 1 = omega arith in
      rw (m, drop-cons fs i z k, e) refl

  pub filters_done : min n (length fs) ≤ i → left_parts ≡ []
  filters_done h = go (dec_le n i)
    where
      go : Dec (n ≤ i) → left_parts ≡ []
      go (yes l) = let m : n - i ≡ 0 = omega arith in rw m refl
      go (no l) = rw (drop_of_length-le fs {i = i} (omega arith), take-nil {A = FilterParts} (n - i)) refl

-- ---- a part of a buffer that is written over with the numbers that there is room for
pub put_part : (d s : List ℕ) (at k : ℕ) {ys : List ℕ} → at ≤ length d → k ≡ min (length s) (length d - at) → ys ≡ take k s → put_mid at k d ys ≡ put d at s
unfolding put
put_part d s at k {ys} h e q =
    let l : length (take k s) ≡ k = simp length-take (omega arith) in
    let m : length ys ≡ k = ap length q ∙ l in
    let f : at + k ≡ at + length ys = omega arith in
    let before : take (at + k) (put_mid at k d ys) ≡ take at d ++ ys = take-put_mid at k d ys (at + k) f h in
    let behind : drop (at + k) (put_mid at k d ys) ≡ drop (at + k) d = drop-put_mid at k d ys (at + k) (omega arith) h m in
    let fits : at + length (take k s) ≤ length d = omega arith in
    let whole : put d at (take k s) ≡ (take at d ++ take k s) ++ drop (at + k) d = sets-eq (take k s) d at fits ∙ ap (λ (n : ℕ). (take at d ++ take k s) ++ drop (at + n) d) l in
    let room : min (length s) (length (put d at (take k s)) - at) ≤ k = rw length_put (omega arith) in
    let rest : put (put d at (take k s)) (at + k) (drop k s) ≡ put d at (take k s) = put_rest (put d at (take k s)) at k s room in
    let more : put (put d at (take k s)) (at + k) (drop k s) ≡ put d at s =
    ap (λ (n : ℕ). put (put d at (take k s)) (at + n) (drop k s)) (sym l) ∙ put_more d at (take k s) (drop k s) ∙ ap (put d at) (take-append-drop k s) in
    sym (take-append-drop (at + k) (put_mid at k d ys)) ∙ rw (before, behind, q) (sym whole ∙ sym rest ∙ more)
