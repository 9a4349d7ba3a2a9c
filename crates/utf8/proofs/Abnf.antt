-- The test says yes exactly of what the ABNF derives. One way by the derivation, the other by the bytes: from a state
-- on, `After` says what the bytes left have to be.
use mathlib.Core.Bool.{Bool, true, false, cond}
use mathlib.Core.Path.{◌≡◌, refl}
use mathlib.Core.List.{List, [], ◌∷◌}
use Prim.Native.Nat.{ℕ, zero, suc, ◌-◌}
use native.Mathlib.Omega.{arith}
use native.Mathlib.Numerals.{sub-one}
use borrow.Author.Tests.{le-leb, lt-leb, le-ltb, leb-true, leb-false, ltb-false}
use lib.Dec.{leb, ltb, eqb, eqb-suc-zero}
use Rattle.utf8.specs.declared.Want.{Want}
use Rattle.utf8.specs.declared.Want.TheVariants.{Lead, Tail, Bad}
use Rattle.utf8.specs.Utf8.{lead_of, next_want, ends, utf8_from, is_utf8}
use Rattle.utf8.specs.Abnf.{Range, Octets, none, utf8_1, utf8_2, utf8_3_e0, utf8_3_e1, utf8_3_ed, utf8_3_ee}
use Rattle.utf8.specs.Abnf.{utf8_4_f0, utf8_4_f1, utf8_4_f4, AsInAbnf}

-- what a first octet of each range wants next
module _ {a : ℕ} where
  lead_1 : Range 0x00 0x7f a → lead_of a ≡ Lead
  unfolding lead_of
  lead_1 r = rw (le-leb a 0x7f r.high)

  lead_2 : Range 0xc2 0xdf a → lead_of a ≡ Tail 0x80 0xbf 0
  unfolding lead_of
  lead_2 r = rw (lt-leb a 0x7f (omega arith), lt-leb a 0xc1 (omega arith), le-leb a 0xdf r.high)

  lead_e1 : Range 0xe1 0xec a → lead_of a ≡ Tail 0x80 0xbf 1
  unfolding lead_of
  lead_e1 r = rw (lt-leb a 0x7f (omega arith), lt-leb a 0xc1 (omega arith), lt-leb a 0xdf (omega arith), lt-leb a 0xe0 (omega arith), le-leb a 0xec r.high)

  lead_ee : Range 0xee 0xef a → lead_of a ≡ Tail 0x80 0xbf 1
  unfolding lead_of
  lead_ee r = rw (lt-leb a 0x7f (omega arith), lt-leb a 0xc1 (omega arith), lt-leb a 0xdf (omega arith), lt-leb a 0xe0 (omega arith), lt-leb a 0xec (omega arith), lt-leb a 0xed (omega arith), le-leb a 0xef r.high)

  lead_f1 : Range 0xf1 0xf3 a → lead_of a ≡ Tail 0x80 0xbf 2
  unfolding lead_of
  lead_f1 r = rw (lt-leb a 0x7f (omega arith), lt-leb a 0xc1 (omega arith), lt-leb a 0xdf (omega arith), lt-leb a 0xe0 (omega arith), lt-leb a 0xec (omega arith), lt-leb a 0xed (omega arith), lt-leb a 0xef (omega arith), lt-leb a 0xf0 (omega arith), le-leb a 0xf3 r.high)

-- an octet of the range that is wanted, the last one or not
tail_last : {lo hi x : ℕ} → Range lo hi x → next_want (Tail lo hi 0) x ≡ Lead
tail_last {lo} {hi} {x} r = rw (le-ltb x lo r.low, le-ltb hi x r.high)

tail_more : {lo hi x : ℕ} (n : ℕ) → Range lo hi x → next_want (Tail lo hi (suc n)) x ≡ Tail 0x80 0xbf n
tail_more {lo} {hi} {x} n r = rw (le-ltb x lo r.low, le-ltb hi x r.high, eqb-suc-zero n, sub-one)

accepts : {s : List ℕ} → Octets s → utf8_from Lead s ≡ true
unfolding utf8_from lead_of
accepts none = refl
accepts (utf8_1 a o) = rw (lead_1 a) (accepts o)
accepts (utf8_2 a b o) = rw (lead_2 a, tail_last b) (accepts o)
accepts (utf8_3_e0 b c o) = rw (tail_more 0 b, tail_last c) (accepts o)
accepts (utf8_3_e1 a b c o) = rw (lead_e1 a, tail_more 0 b, tail_last c) (accepts o)
accepts (utf8_3_ed b c o) = rw (tail_more 0 b, tail_last c) (accepts o)
accepts (utf8_3_ee a b c o) = rw (lead_ee a, tail_more 0 b, tail_last c) (accepts o)
accepts (utf8_4_f0 b c d o) = rw (tail_more 1 b, tail_more 0 c, tail_last d) (accepts o)
accepts (utf8_4_f1 a b c d o) = rw (lead_f1 a, tail_more 1 b, tail_more 0 c, tail_last d) (accepts o)
accepts (utf8_4_f4 b c d o) = rw (tail_more 1 b, tail_more 0 c, tail_last d) (accepts o)

-- an octet from lo to hi, n times UTF8-tail, and then UTF8-octets
data Tails : ℕ → ℕ → ℕ → List ℕ → Type 0 where
  last : {lo hi x : ℕ} {s : List ℕ} → Range lo hi x → Octets s → Tails lo hi 0 (x ∷ s)
  more : {lo hi n x : ℕ} {s : List ℕ} → Range lo hi x → Tails 0x80 0xbf n s → Tails lo hi (suc n) (x ∷ s)

abbrev After : Want → List ℕ → Type 0
After Lead s = Octets s
After (Tail lo hi n) s = Tails lo hi n s
After Bad s = ⊥

pick : (u v : Want) (s : List ℕ) {R : Type 0} (b : Bool) → (b ≡ true → After u s → R) → (b ≡ false → After v s → R) → After (cond b u v) s → R
pick u v s true f g a = f refl a
pick u v s false f g a = g refl a

tail_back : (lo hi n x : ℕ) (s : List ℕ) → After (next_want (Tail lo hi n) x) s → Tails lo hi n (x ∷ s)
tail_back lo hi n x s a =
    pick _ _ s (ltb x lo) (λ _ z. absurd z) (λ l. pick _ _ s (ltb hi x) (λ _ z. absurd z) (λ h. go n (record { low = ltb-false x lo l; high = ltb-false hi x h }))) a
  where
    go : (n : ℕ) → Range lo hi x → After (cond (eqb n 0) Lead (Tail 0x80 0xbf (n - 1))) s → Tails lo hi n (x ∷ s)
    go zero r a = last r a
    go (suc n) r a = more r (rw (eqb-suc-zero n, sub-one) at a)

-- a first octet and what it wants, by its range
module _ {a : ℕ} where
  two : {s : List ℕ} → Range 0xc2 0xdf a → Tails 0x80 0xbf 0 s → Octets (a ∷ s)
  two r (last b o) = utf8_2 r b o

  three_e0 : {s : List ℕ} → a ≡ 0xe0 → Tails 0xa0 0xbf 1 s → Octets (a ∷ s)
  three_e0 e (more b (last c o)) = rw e (utf8_3_e0 b c o)

  three_e1 : {s : List ℕ} → Range 0xe1 0xec a → Tails 0x80 0xbf 1 s → Octets (a ∷ s)
  three_e1 r (more b (last c o)) = utf8_3_e1 r b c o

  three_ed : {s : List ℕ} → a ≡ 0xed → Tails 0x80 0x9f 1 s → Octets (a ∷ s)
  three_ed e (more b (last c o)) = rw e (utf8_3_ed b c o)

  three_ee : {s : List ℕ} → Range 0xee 0xef a → Tails 0x80 0xbf 1 s → Octets (a ∷ s)
  three_ee r (more b (last c o)) = utf8_3_ee r b c o

  four_f0 : {s : List ℕ} → a ≡ 0xf0 → Tails 0x90 0xbf 2 s → Octets (a ∷ s)
  four_f0 e (more b (more c (last d o))) = rw e (utf8_4_f0 b c d o)

  four_f1 : {s : List ℕ} → Range 0xf1 0xf3 a → Tails 0x80 0xbf 2 s → Octets (a ∷ s)
  four_f1 r (more b (more c (last d o))) = utf8_4_f1 r b c d o

  four_f4 : {s : List ℕ} → a ≡ 0xf4 → Tails 0x80 0x8f 2 s → Octets (a ∷ s)
  four_f4 e (more b (more c (last d o))) = rw e (utf8_4_f4 b c d o)

lead_back : (x : ℕ) (s : List ℕ) → After (lead_of x) s → Octets (x ∷ s)
unfolding lead_of
lead_back x s a =
    pick _ _ s (leb x 0x7f) (λ e o. utf8_1 (record { low = omega arith; high = leb-true x 0x7f e }) o) (λ _.
    pick _ _ s (leb x 0xc1) (λ _ z. absurd z) (λ n2.
    pick _ _ s (leb x 0xdf) (λ e t. two (range n2 e) t) (λ n3.
    pick _ _ s (leb x 0xe0) (λ e t. three_e0 (only n3 e) t) (λ n4.
    pick _ _ s (leb x 0xec) (λ e t. three_e1 (range n4 e) t) (λ n5.
    pick _ _ s (leb x 0xed) (λ e t. three_ed (only n5 e) t) (λ n6.
    pick _ _ s (leb x 0xef) (λ e t. three_ee (range n6 e) t) (λ n7.
    pick _ _ s (leb x 0xf0) (λ e t. four_f0 (only n7 e) t) (λ n8.
    pick _ _ s (leb x 0xf3) (λ e t. four_f1 (range n8 e) t) (λ n9.
    pick _ _ s (leb x 0xf4) (λ e t. four_f4 (only n9 e) t) (λ _ z. absurd z)))))))))) a
  where
    range : {lo hi : ℕ} → leb x lo ≡ false → leb x hi ≡ true → Range (suc lo) hi x
    range {lo} {hi} n e = record { low = leb-false x lo n; high = leb-true x hi e }

    only : {lo : ℕ} → leb x lo ≡ false → leb x (suc lo) ≡ true → x ≡ suc lo
    only {lo} n e = omega (arith, leb-false x lo n, leb-true x (suc lo) e)

back : (w : Want) (x : ℕ) (s : List ℕ) → After (next_want w x) s → After w (x ∷ s)
back Lead x s a = lead_back x s a
back (Tail lo hi n) x s a = tail_back lo hi n x s a
back Bad x s a = a

derives : (w : Want) (s : List ℕ) → utf8_from w s ≡ true → After w s
unfolding utf8_from
derives w [] e = ended w e
  where
    ended : (w : Want) → ends w ≡ true → After w []
    ended Lead e = none
    ended (Tail lo hi n) e = absurd (let z : ◌≡◌ {A = ℕ} 0 1 = cc in omega arith)
    ended Bad e = absurd (let z : ◌≡◌ {A = ℕ} 0 1 = cc in omega arith)
derives w (x ∷ s) e = back w x s (derives (next_want w x) s e)

pub as_in_abnf : AsInAbnf
unfolding is_utf8
as_in_abnf s = (derives Lead s, accepts)
