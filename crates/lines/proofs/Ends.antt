-- A line that has no 0A has none after a byte more, if that is not 0A.
use Prim.Native.Nat.{ℕ, suc, min, ◌+◌, ◌≤◌, ◌<◌}
use mathlib.Core.Path.{◌≡◌, refl, sym, ap, ◌∙◌}
use mathlib.Core.Bool.{Bool, true, false}
use mathlib.Core.List.{List, [], ◌∷◌}
use native.Mathlib.Omega.{arith}
use native.Mathlib.Decide.{dec_lt}
use borrow.Author.Tests.{ltb-true, ltb-false}
use lib.Dec.{ltb}
use lib.ListN.{length, get_or, set, take, length-set}
use Rattle.std.proofs.lemmas.List.{get_or-take, length-take-le}
use lib.Seq.{get_or-set_same, get_or-set_other}
use Rattle.std.proofs.Common.{Option, None, Some}
use Rattle.std.specs.Option.{MatchOption, IfSome, unwrap_or}
use Rattle.wire.specs.Put.{put, Puts}
use Rattle.wire.proofs.Laws.{put_out, length_put}
use Rattle.lines.specs.Line.{NoEnd}

module _ (l : List ℕ) (n b : ℕ) (h : NoEnd l n) (fits : n < length l) (other : b ≡ 10 → ⊥) where
  by : (i : ℕ) → i < n + 1 → get_or (set l n b) i 0 ≡ 10 → (t : Bool) → ltb i n ≡ t → ⊥
  by i less e true q = h.none i (omega (arith, ltb-true)) (sym (get_or-set_other l n i b 0 (λ p. omega (arith, ltb-true))) ∙ e)
  by i less e false q =
      let p : i ≡ n = omega (arith, ltb-false) in
      other (sym (get_or-set_same l n b 0 fits) ∙ (rw p at e))

  pub pushed : NoEnd (set l n b) (n + 1)
  pushed = record { none = λ i less e. by i less e (ltb i n) refl }

-- a piece that has no 0A, put behind it as far as there is room
pub put_plain : (s l : List ℕ) (n : ℕ) → n ≤ length l → NoEnd l n → ((i : ℕ) → i < length s → get_or s i 0 ≡ 10 → ⊥)
    → NoEnd (put l n s) (min (n + length s) (length l))
unfolding put
put_plain [] l n k h p = record { none = λ i less. h.none i (omega arith) }
put_plain (b ∷ s) l n k h p = go (dec_lt n (length l)) (λ y q. put_plain s (set l n b) (suc n) (simp length-set (omega arith)) q (λ i less. p (suc i) (omega arith)))
  where
    go : Dec (n < length l) → (n < length l → NoEnd (set l n b) (suc n) → NoEnd (put (set l n b) (suc n) s) (min (suc n + length s) (length (set l n b))))
        → NoEnd (put l n (b ∷ s)) (min (n + suc (length s)) (length l))
    go (yes y) later =
        let z : n + 1 ≡ suc n = omega arith in
        let q : NoEnd (set l n b) (suc n) = rw z at (pushed l n b h y (p 0 (omega arith))) in
        record { none = λ i less. (later y q).none i (simp length-set (omega arith)) }
    go (no y) later = record { none = λ i less e. h.none i (omega arith) (sym (ap (λ m. get_or m i 0) (put_out l n (b ∷ s) (omega arith))) ∙ e) }

-- the piece up to its first 0A
pub taken : {l o : List ℕ} {n r k : ℕ} (p : List ℕ) (e : Option ℕ) → n ≤ length l → NoEnd l n → MatchOption e (NoEnd p (length p)) (λ i. (i < length p) × NoEnd p i)
    → k ≡ unwrap_or e (length p) → Puts l n (take k p) r o → (r ≤ length l) × (length o ≡ length l) × NoEnd o r × IfSome e (λ i. i < length p)
taken {l} {o} {n} {r} {k} p e a h f q w = go e f q
  where
    all : k ≤ length p → NoEnd p k → (r ≤ length l) × (length o ≡ length l) × NoEnd o r
    all t g =
        let s : length (take k p) ≡ k = length-take-le k p t in
        let x : NoEnd (put l n (take k p)) (min (n + length (take k p)) (length l)) = put_plain (take k p) l n a h (λ i less z. g.none i (omega arith) (sym (get_or-take k p i 0 (omega arith)) ∙ z)) in
        (omega (arith, w.next), ap length w.bytes ∙ length_put l n (take k p), rw (w.bytes, w.next) x)

    go : (e : Option ℕ) → MatchOption e (NoEnd p (length p)) (λ i. (i < length p) × NoEnd p i) → k ≡ unwrap_or e (length p)
        → (r ≤ length l) × (length o ≡ length l) × NoEnd o r × IfSome e (λ i. i < length p)
    go None g z = let x = all (omega arith) (rw z g) in (x.0, x.1, x.2, tt)
    go (Some i) g z = let x = all (omega arith) (rw z g.1) in (x.0, x.1, x.2, g.0)
