-- Many bytes at once: those of a string that stand as they are, and those of ASCII.
use mathlib.Core.Path.{◌≡◌, refl, sym, ap, ◌∙◌}
use mathlib.Core.Bool.{Bool, true, false, cond, not, ◌&&◌, ◌||◌, false≢true}
use mathlib.Core.List.{List}
use Prim.Native.Nat.{ℕ, zero, suc, ◌+◌, ◌<◌, ◌≤◌}
use native.Mathlib.Omega.{arith}
use lib.Dec.{eqb, ltb}
use lib.ListN.{length, get_or, drop}
use borrow.Author.Tests.{ne_eqb, ltb-false}
use Rattle.utf8.specs.Utf8.{utf8_from}
use Rattle.utf8.specs.declared.Want.TheVariants.{Lead}
use Rattle.utf8.proofs.Laws.{ascii}
use Rattle.wire.specs.Escape.{letter_of}
use Rattle.text.specs.Read.{is_raw, body_from}
use Rattle.text.specs.Inner.Parts.{got_end, Passes, Raws}
use Rattle.text.proofs.Ways.{body_go}

-- ---- a byte that stands as it is: what the code tests, and that the string goes on after it
pub raw_is : (x : ℕ)
    → ((((((not (eqb x 10) && not (eqb x 34)) && not (eqb x 92)) && not (eqb x 13)) && not (eqb x 9)) && not (eqb x 8)) && not (eqb x 12)) ≡ is_raw x
unfolding is_raw letter_of
raw_is x = go (eqb x 10) (eqb x 34) (eqb x 92) (eqb x 13) (eqb x 9) (eqb x 8) (eqb x 12)
  where
    go : (n q s r t b f : Bool) → ((((((not n && not q) && not s) && not r) && not t) && not b) && not f)
        ≡ eqb (cond n 110 (cond q 34 (cond s 92 (cond r 114 (cond t 116 (cond b 98 (cond f 102 0))))))) 0
    go true q s r t b f = refl
    go false true s r t b f = refl
    go false false true r t b f = refl
    go false false false true t b f = refl
    go false false false false true b f = refl
    go false false false false false true f = refl
    go false false false false false false true = refl
    go false false false false false false false = refl

plain : (x : ℕ) → is_raw x ≡ true → (x ≡ 34 → ⊥) × (x ≡ 92 → ⊥)
unfolding is_raw letter_of
plain x e = (λ q. false≢true (rw q at e), λ q. false≢true (rw q at e))

pass : (s : List ℕ) (i n : ℕ) → i + n ≤ length s → ((j : ℕ) → j < n → is_raw (get_or s (i + j) 0) ≡ true)
    → got_end (body_from false i (drop i s)) ≡ got_end (body_from false (i + n) (drop (i + n) s))
pass s i zero h f = ap (λ (j : ℕ). got_end (body_from false j (drop j s))) (let z : i ≡ i + 0 = omega arith in z)
pass s i (suc n) h f =
    let e = f n (omega arith) in
    let (p, q) = plain (get_or s (i + n) 0) e in
    pass s i n (omega arith) (λ j l. f j (omega arith))
    ∙ body_go false s (i + n) (omega arith) false (rw (ne_eqb _ 34 p, ne_eqb _ 92 q, e))
    ∙ ap (λ (j : ℕ). got_end (body_from false j (drop j s))) (let z : i + n + 1 ≡ i + suc n = omega arith in z)

pub pass_on : {s : List ℕ} {at i n : ℕ} → Passes s at i → Raws s i n → i + 32 ≤ length s → (m : ℕ) → m ≤ n → Passes s at (i + m)
pass_on {s} {at} {i} {n} p r h m l = record {
  from = omega (arith, p.from);
  same = p.same ∙ pass s i m (omega (arith, r.few)) (λ j u. r.all j (omega arith));
}

-- ---- a block: of its first k bytes, those before n stand as they are
pub record Tested (s : List ℕ) (i n k : ℕ) : Type 0 where
  pub few : n ≤ 32
  pub all : (j : ℕ) → j < n → j < k → is_raw (get_or s (i + j) 0) ≡ true

-- ---- ASCII
pub or_false : (a b : Bool) → (a || b) ≡ false → (a ≡ false) × (b ≡ false)
or_false true b e = absurd (false≢true (sym e))
or_false false b e = (refl, e)

pub ascii_more : (s : List ℕ) (i : ℕ) (u a : Bool) → i < length s → (a ≡ false → u ≡ utf8_from Lead (drop i s))
    → (a || ltb 0x7f (get_or s i 0)) ≡ false → u ≡ utf8_from Lead (drop (i + 1) s)
ascii_more s i u a h inv e = let (p, q) = or_false a _ e in inv p ∙ ascii s i h (ltb-false 0x7f _ q)
