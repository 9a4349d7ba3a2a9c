-- The facts of tests, as `search` uses them, one turn of the scan, ASCII, and a character.
use mathlib.Core.Bool.{false}
use mathlib.Core.Path.{◌≡◌, refl, sym, ◌∙◌}
use mathlib.Core.List.{List, [], ◌∷◌}
use Prim.Native.Nat.{ℕ, zero, suc, ◌+◌, ◌-◌, ◌≤◌, ◌<◌}
use native.Mathlib.Decide.{dec_lt}
use native.Mathlib.Omega.{arith}
use native.Mathlib.Numerals.{add-one}
use borrow.Author.Tests.{lt-ltb, le-ltb, le-leb, lt-leb, eq-eqb, ne_eqb}
use Rattle.std.proofs.Common.{add-zero}
use Rattle.std.proofs.lemmas.List.{take_rest}
use lib.ListN.{length, get_or, take, drop, length-drop, drop_of_length-le, get_or-eq_default}
use lib.Seq.{drop-cons, get_or-drop}
use Rattle.utf8.specs.declared.Want.{Want}
use Rattle.utf8.specs.declared.Want.TheVariants.{Lead, Tail, Bad}
use Rattle.utf8.specs.Inner.{Past, Passed}
use Rattle.utf8.specs.Utf8.{lead_of, utf8_from, next_want, ends}

pub ruleset tests = (lt-ltb, le-ltb, le-leb, lt-leb, eq-eqb, ne_eqb)

module _ (w : Want) (s : List ℕ) (i : ℕ) where
  pub turn : i < length s → (v : Want) → v ≡ next_want w (get_or s i 0) → utf8_from w (drop i s) ≡ utf8_from v (drop (i + 1) s)
  unfolding utf8_from
  turn h v e = rw (e, add-one, drop-cons s i 0)

  pub over : length s ≤ i → utf8_from w (drop i s) ≡ ends w
  unfolding utf8_from
  over h = rw (drop_of_length-le s {i = i} h)

-- a byte of ASCII where a character may begin
pub ascii : (s : List ℕ) (i : ℕ) → i < length s → get_or s i 0 ≤ 0x7f → utf8_from Lead (drop i s) ≡ utf8_from Lead (drop (i + 1) s)
unfolding lead_of
ascii s i h a = turn Lead s i h Lead (rw (le-leb (get_or s i 0) 0x7f a))

-- n of them
ascii_run : (s : List ℕ) (i n : ℕ) → i + n ≤ length s → ((k : ℕ) → k < n → get_or s (i + k) 0 ≤ 0x7f) → Past s i (i + n)
ascii_run s i zero h f = record { from = omega arith; within = h; same = rw add-zero }
ascii_run s i (suc n) h f =
    let p = ascii_run s i n (omega arith) (λ k l. f k (omega arith)) in
    let e : i + n + 1 ≡ i + suc n = omega arith in
    record { from = omega arith; within = h; same = p.same ∙ ascii s (i + n) (omega arith) (f n (omega arith)) ∙ rw e }

-- of the part from i on, which the code takes as a slice
pub ascii_passed : (s : List ℕ) (i n : ℕ) → i ≤ length s → n ≤ length (take (length s - i) (drop i s)) → ((k : ℕ) → k < n → get_or (take (length s - i) (drop i s)) k 0 ≤ 0x7f) → Past s i (i + n)
ascii_passed s i n g h f =
    let e = rw take_rest at h in
    ascii_run s i n (omega (arith, e, length-drop i s)) (λ k l. rw (take_rest s i, get_or-drop i s k 0) at (f k l))

-- nothing will do
pub bad : (l : List ℕ) → utf8_from Bad l ≡ false
unfolding utf8_from
bad [] = refl
bad (x ∷ l) = bad l

module _ (s : List ℕ) (i : ℕ) where
  -- where a byte is that is not 0
  pub some : (y : ℕ) → y ≡ get_or s i 0 → 0 < y → i < length s
  some y e h = elim (dec_lt i (length s)) [
    | yes l ↦ l
    | no l ↦ absurd (omega (arith, e, get_or-eq_default s 0 (let k : length s ≤ i = omega arith in k)))
  ]

  -- an octet that nothing follows, where w is no end
  pub stuck : (w : Want) → ends w ≡ false → next_want w (get_or s i 0) ≡ Bad → utf8_from w (drop i s) ≡ false
  stuck w e n = elim (dec_lt i (length s)) [
    | yes l ↦ turn w s i l Bad (sym n) ∙ bad (drop (i + 1) s)
    | no l ↦ over w s i (omega arith) ∙ e
  ]

-- an octet y at j, where one from lo to hi is wanted and n tails after it; k is the place after it
module _ (s : List ℕ) (lo hi n j y : ℕ) (e : y ≡ get_or s j 0) where
  pub low : y < lo → utf8_from (Tail lo hi n) (drop j s) ≡ false
  low a = stuck s j (Tail lo hi n) refl (rw (← e, lt-ltb y lo a))

  pub high : lo ≤ y → hi < y → utf8_from (Tail lo hi n) (drop j s) ≡ false
  high a b = stuck s j (Tail lo hi n) refl (rw (← e, le-ltb y lo a, lt-ltb hi y b))

  module _ (z : 0 < lo) (a : lo ≤ y) (b : y ≤ hi) (k : ℕ) (q : k ≡ j + 1) where
    pub last : n ≡ 0 → utf8_from (Tail lo hi n) (drop j s) ≡ utf8_from Lead (drop k s)
    last o = rw q (turn (Tail lo hi n) s j (some s j y e (omega arith)) Lead (rw (← e, le-ltb y lo a, le-ltb hi y b, eq-eqb n 0 o)))

    pub more : 0 < n → utf8_from (Tail lo hi n) (drop j s) ≡ utf8_from (Tail 0x80 0xbf (n - 1)) (drop k s)
    more o = rw q (turn (Tail lo hi n) s j (some s j y e (omega arith)) (Tail 0x80 0xbf (n - 1)) (rw (← e, le-ltb y lo a, le-ltb hi y b, ne_eqb n 0 (λ f. omega arith))))

-- a character is not there, or is passed
module _ {w : Want} {s : List ℕ} {j i : ℕ} (h : i < length s) where
  pub stops : utf8_from w (drop j s) ≡ false → Passed w s j i i
  stops e = record { from = omega arith; within = omega arith; none = λ _. e; same = λ l. absurd (omega arith) }

  pub goes : {r : ℕ} → i < r → r ≤ length s → utf8_from w (drop j s) ≡ utf8_from Lead (drop r s) → Passed w s j i r
  goes l u e = record { from = omega arith; within = u; none = λ q. absurd (omega arith); same = λ _. e }

-- the first octet wants v, and the rest of the character is passed
pub first : {v : Want} {s : List ℕ} {i r : ℕ} → i < length s → v ≡ lead_of (get_or s i 0) → Passed v s (i + 1) i r → Passed Lead s i i r
first {v} {s} {i} h e p =
    let t = turn Lead s i h v e in
    record { from = p.from; within = p.within; none = λ q. t ∙ p.none q; same = λ l. t ∙ p.same l }
