-- UTF-8 by windows of four octets: the three before an octet tell what is wanted there, as long as none was wrong.
use mathlib.Core.Path.{◌≡◌, refl, sym, ap, ◌∙◌}
use mathlib.Core.Bool.{Bool, true, false, cond, not, ◌&&◌, ◌||◌, false≢true}
use mathlib.Core.List.{List}
use Prim.Native.Nat.{ℕ, ◌+◌, ◌-◌, ◌<◌, ◌≤◌}
use native.Mathlib.Decide.{dec_le}
use native.Mathlib.Omega.{arith}
use lib.Dec.{eqb, ltb, leb}
use lib.ListN.{length, get_or, drop}
use borrow.Author.Tests.{le-leb, lt-leb, lt-ltb, ne_eqb, leb-true, leb-false, ltb-true, ltb-false}
use Rattle.utf8.specs.Utf8.{lead_of, next_want, ends, utf8_from, is_utf8}
use Rattle.utf8.specs.declared.Want.{Want}
use Rattle.utf8.specs.declared.Want.TheVariants.{Lead, Tail, Bad}
use Rattle.utf8.proofs.Laws.{turn, over, bad}
use Rattle.utf8.proofs.States.{lead_none}
use Rattle.text.specs.Inner.Windows.{wants_tail, is_narrow, is_wrong}
use Rattle.text.proofs.Blocks.{or_false}

or_none : (p : Bool) → (p || false) ≡ p
or_none true = refl
or_none false = refl

-- the test m is wider than p, or than q
lower : (p q m : Bool) → (p ≡ true → m ≡ true) → ((p || q) || m) ≡ (m || q)
lower true q m f = rw (f refl)
lower false true true f = refl
lower false true false f = refl
lower false false true f = refl
lower false false false f = refl

upper : (p q m : Bool) → (q ≡ true → m ≡ true) → ((p || q) || m) ≡ (p || m)
upper true q m f = refl
upper false true m f = rw (f refl)
upper false false m f = refl

-- ---- after the octet a, one from lo to hi is wanted
record Wide (lo hi a : ℕ) : Type 0 where
  is : (x : ℕ) → ((ltb x 0x80 || ltb 0xbf x) || is_narrow a x) ≡ (ltb x lo || ltb hi x)

wide_any : (a : ℕ) → (a ≡ 0xe0 → ⊥) → (a ≡ 0xed → ⊥) → (a ≡ 0xf0 → ⊥) → (a ≡ 0xf4 → ⊥) → Wide 0x80 0xbf a
unfolding is_narrow
wide_any a p q r t = record { is = λ x. rw (ne_eqb a 0xe0 p, ne_eqb a 0xed q, ne_eqb a 0xf0 r, ne_eqb a 0xf4 t) (or_none _) }

below : (lo x : ℕ) → 0x80 ≤ lo → ltb x 0x80 ≡ true → ltb x lo ≡ true
below lo x h e = lt-ltb x lo (omega (arith, ltb-true x 0x80 e))

above : (hi x : ℕ) → hi ≤ 0xbf → ltb 0xbf x ≡ true → ltb hi x ≡ true
above hi x h e = lt-ltb hi x (omega (arith, ltb-true 0xbf x e))

wide_e0 : Wide 0xa0 0xbf 0xe0
unfolding is_narrow
wide_e0 = record { is = λ x. ap (◌||◌ (ltb x 0x80 || ltb 0xbf x)) (or_none (ltb x 0xa0)) ∙ lower (ltb x 0x80) (ltb 0xbf x) (ltb x 0xa0) (below 0xa0 x (omega arith)) }

wide_ed : Wide 0x80 0x9f 0xed
unfolding is_narrow
wide_ed = record { is = λ x. ap (◌||◌ (ltb x 0x80 || ltb 0xbf x)) (or_none (ltb 0x9f x)) ∙ upper (ltb x 0x80) (ltb 0xbf x) (ltb 0x9f x) (above 0x9f x (omega arith)) }

wide_f0 : Wide 0x90 0xbf 0xf0
unfolding is_narrow
wide_f0 = record { is = λ x. ap (◌||◌ (ltb x 0x80 || ltb 0xbf x)) (or_none (ltb x 0x90)) ∙ lower (ltb x 0x80) (ltb 0xbf x) (ltb x 0x90) (below 0x90 x (omega arith)) }

wide_f4 : Wide 0x80 0x8f 0xf4
unfolding is_narrow
wide_f4 = record { is = λ x. upper (ltb x 0x80) (ltb 0xbf x) (ltb 0x8f x) (above 0x8f x (omega arith)) }

-- ---- after c, b, a and the octet that is wanted next, so many tails come
data Left : ℕ → ℕ → ℕ → ℕ → Type 0 where
  no_more : {c b a : ℕ} → a < 0xe0 → b < 0xf0 → wants_tail c b a ≡ true → Left 0 c b a
  one_more : {c b a : ℕ} → a < 0xf0 → (leb 0xe0 a || leb 0xf0 b) ≡ true → Left 1 c b a
  two_more : {c b a : ℕ} → 0xf0 ≤ a → Left 2 c b a

-- what is wanted after c, b, a
data Fits : Want → ℕ → ℕ → ℕ → Type 0 where
  between : {c b a : ℕ} → a < 0xc2 → b < 0xe0 → c < 0xf0 → Fits Lead c b a
  within : {lo hi n c b a : ℕ} → Wide lo hi a → Left n c b a → Fits (Tail lo hi n) c b a

none_wanted : (c b a : ℕ) → a < 0xc2 → b < 0xe0 → c < 0xf0 → wants_tail c b a ≡ false
unfolding wants_tail
none_wanted c b a p q r = rw (lt-leb 0xc2 a p, lt-leb 0xe0 b q, lt-leb 0xf0 c r)

left_wants : {n c b a : ℕ} → Left n c b a → wants_tail c b a ≡ true
unfolding wants_tail
left_wants (no_more p q e) = e
left_wants {n} {c} {b} {a} (one_more p e) = go (leb 0xe0 a) (leb 0xf0 b) refl refl e
  where
    go : (u v : Bool) → leb 0xe0 a ≡ u → leb 0xf0 b ≡ v → (u || v) ≡ true → ((leb 0xc2 a || leb 0xe0 b) || leb 0xf0 c) ≡ true
    go true v eu ev q = rw (le-leb 0xc2 a (omega (arith, leb-true 0xe0 a eu)))
    go false true eu ev q = rw (le-leb 0xe0 b (omega (arith, leb-true 0xf0 b ev))) (either (leb 0xc2 a))
      where
        either : (t : Bool) → ((t || true) || leb 0xf0 c) ≡ true
        either true = refl
        either false = refl
    go false false eu ev q = absurd (false≢true q)
left_wants {n} {c} {b} {a} (two_more p) = rw (le-leb 0xc2 a (omega arith))

-- an octet is wrong, or the octets fit again
record Told (t : Bool) (w : Want) (c b a : ℕ) : Type 0 where
  wrong : t ≡ true → w ≡ Bad
  right : t ≡ false → Fits w c b a

is_wrong_lem : {w : Want} {c b a : ℕ} → w ≡ Bad → Told true w c b a
is_wrong_lem e = record { wrong = λ _. e; right = λ q. absurd (false≢true (sym q)) }

is_right : {w : Want} {c b a : ℕ} → Fits w c b a → Told false w c b a
is_right f = record { wrong = λ q. absurd (false≢true q); right = λ _. f }

-- a first octet, by the ranges of the definition
pick : {c b a : ℕ} {v w : Want} (t : Bool) → (t ≡ true → Fits v c b a) → (t ≡ false → Fits w c b a) → Fits (cond t v w) c b a
pick true f g = f refl
pick false f g = g refl

led : (b a x : ℕ) → a < 0xc2 → 0xc2 ≤ x → x ≤ 0xf4 → Fits (lead_of x) b a x
unfolding lead_of wants_tail
led b a x h l u =
    pick (leb x 0x7f) (λ e. absurd (omega (arith, leb-true x 0x7f e))) (λ _.
    pick (leb x 0xc1) (λ e. absurd (omega (arith, leb-true x 0xc1 e))) (λ _.
    pick (leb x 0xdf) (λ e. within (any (leb-true x 0xdf e)) (no_more (omega (arith, leb-true x 0xdf e)) (omega arith) (rw (le-leb 0xc2 x l)))) (λ n3.
    pick (leb x 0xe0) (λ e. within (only 0xdf n3 e wide_e0) (one (leb-false x 0xdf n3) (omega (arith, leb-true x 0xe0 e)))) (λ n4.
    pick (leb x 0xec) (λ e. within (three (leb-false x 0xe0 n4) (leb-true x 0xec e)) (one (omega (arith, leb-false x 0xe0 n4)) (omega (arith, leb-true x 0xec e)))) (λ n5.
    pick (leb x 0xed) (λ e. within (only 0xec n5 e wide_ed) (one (omega (arith, leb-false x 0xec n5)) (omega (arith, leb-true x 0xed e)))) (λ n6.
    pick (leb x 0xef) (λ e. within (late (leb-false x 0xed n6) (leb-true x 0xef e)) (one (omega (arith, leb-false x 0xed n6)) (omega (arith, leb-true x 0xef e)))) (λ n7.
    pick (leb x 0xf0) (λ e. within (only 0xef n7 e wide_f0) (two_more (leb-false x 0xef n7))) (λ n8.
    pick (leb x 0xf3) (λ e. within (four (leb-false x 0xf0 n8) (leb-true x 0xf3 e)) (two_more (omega (arith, leb-false x 0xf0 n8)))) (λ n9.
    pick (leb x 0xf4) (λ e. within (only 0xf3 n9 e wide_f4) (two_more (omega (arith, leb-false x 0xf3 n9)))) (λ n. absurd (omega (arith, leb-false x 0xf4 n))))))))))))
  where
    only : {lo hi : ℕ} (k : ℕ) → leb x k ≡ false → leb x (k + 1) ≡ true → Wide lo hi (k + 1) → Wide lo hi x
    only k n e w = let z : x ≡ k + 1 = omega (arith, leb-false x k n, leb-true x (k + 1) e) in rw z w

    any : x ≤ 0xdf → Wide 0x80 0xbf x
    any e = wide_any x (λ q. omega arith) (λ q. omega arith) (λ q. omega arith) (λ q. omega arith)

    three : 0xe0 < x → x ≤ 0xec → Wide 0x80 0xbf x
    three e f = wide_any x (λ q. omega arith) (λ q. omega arith) (λ q. omega arith) (λ q. omega arith)

    late : 0xed < x → x ≤ 0xef → Wide 0x80 0xbf x
    late e f = wide_any x (λ q. omega arith) (λ q. omega arith) (λ q. omega arith) (λ q. omega arith)

    four : 0xf0 < x → x ≤ 0xf3 → Wide 0x80 0xbf x
    four e f = wide_any x (λ q. omega arith) (λ q. omega arith) (λ q. omega arith) (λ q. omega arith)

    one : 0xe0 ≤ x → x < 0xf0 → Left 1 b a x
    one e f = one_more {b = a} f (rw (le-leb 0xe0 x e))

not_narrow : (a x : ℕ) → a < 0xc2 → is_narrow a x ≡ false
unfolding is_narrow
not_narrow a x h = rw (ne_eqb a 0xe0 (λ q. omega arith), ne_eqb a 0xed (λ q. omega arith), ne_eqb a 0xf0 (λ q. omega arith), ne_eqb a 0xf4 (λ q. omega arith))

module _ (c b a x : ℕ) where
  at_lead : a < 0xc2 → b < 0xe0 → c < 0xf0 → Told (is_wrong c b a x) (lead_of x) b a x
  unfolding is_wrong lead_of
  at_lead p q r = rw (none_wanted c b a p q r, not_narrow a x p) (go (dec_le x 0x7f) (dec_le x 0xc1) (dec_le x 0xf4))
    where
      go : Dec (x ≤ 0x7f) → Dec (x ≤ 0xc1) → Dec (x ≤ 0xf4) → Told (((leb 0x80 x && leb x 0xc1) || leb 0xf5 x) || false) (lead_of x) b a x
      go (yes e) f g = rw (lt-leb 0x80 x (omega arith), lt-leb 0xf5 x (omega arith), le-leb x 0x7f e) (is_right (between (omega arith) (omega arith) (omega arith)))
      go (no e) (yes f) g = rw (le-leb 0x80 x (omega arith), le-leb x 0xc1 f, lt-leb x 0x7f (omega arith)) (is_wrong_lem refl)
      go (no e) (no f) (yes g) =
          let z : (((leb 0x80 x && leb x 0xc1) || leb 0xf5 x) || false) ≡ false = rw (le-leb 0x80 x (omega arith), lt-leb x 0xc1 (omega arith), lt-leb 0xf5 x (omega arith)) in
          rw z (is_right (led b a x p (omega arith) g))
      go (no e) (no f) (no g) =
          let z : (((leb 0x80 x && leb x 0xc1) || leb 0xf5 x) || false) ≡ true = rw (le-leb 0x80 x (omega arith), lt-leb x 0xc1 (omega arith), le-leb 0xf5 x (omega arith)) in
          rw z (is_wrong_lem (lead_none x (omega arith)))

  -- a tail came
  tailed : {n : ℕ} → Left n c b a → 0x80 ≤ x → x ≤ 0xbf → Fits (cond (eqb n 0) Lead (Tail 0x80 0xbf (n - 1))) b a x
  unfolding wants_tail
  tailed l h k = go l
    where
      any : Wide 0x80 0xbf x
      any = wide_any x (λ q. omega arith) (λ q. omega arith) (λ q. omega arith) (λ q. omega arith)

      go : {n : ℕ} → Left n c b a → Fits (cond (eqb n 0) Lead (Tail 0x80 0xbf (n - 1))) b a x
      go (no_more p q e) = between {a = x} (omega arith) p q
      go (one_more p e) = within any (no_more {c = b} {b = a} {a = x} (omega arith) p (rw (lt-leb 0xc2 x (omega arith)) e))
      go (two_more p) = within any (one_more {c = b} {b = a} {a = x} (omega arith) (rw (lt-leb 0xe0 x (omega arith), le-leb 0xf0 a p)))

  at_tail : {lo hi n : ℕ} → Wide lo hi a → Left n c b a → Told (is_wrong c b a x) (next_want (Tail lo hi n) x) b a x
  unfolding is_wrong
  at_tail {lo} {hi} {n} w l = rw (left_wants l, or_none (ltb x 0x80 || ltb 0xbf x), w.is x) (go (ltb x lo) (ltb hi x) refl refl)
    where
      go : (u v : Bool) → ltb x lo ≡ u → ltb hi x ≡ v → Told (u || v) (cond u Bad (cond v Bad (cond (eqb n 0) Lead (Tail 0x80 0xbf (n - 1))))) b a x
      go true v eu ev = is_wrong_lem refl
      go false true eu ev = is_wrong_lem refl
      go false false eu ev =
          let z : ((ltb x 0x80 || ltb 0xbf x) || is_narrow a x) ≡ false = w.is x ∙ rw (eu, ev) in
          let (p, q) = or_false _ _ (or_false _ _ z).0 in
          is_right (tailed l (ltb-false x 0x80 p) (ltb-false 0xbf x q))

  step : {w : Want} → Fits w c b a → Told (is_wrong c b a x) (next_want w x) b a x
  step (between p q r) = at_lead p q r
  step (within w l) = at_tail w l

ended : {w : Want} {c b a : ℕ} → Fits w c b a → ends w ≡ not (wants_tail c b a)
ended {w} {c} {b} {a} (between p q r) = rw (none_wanted c b a p q r)
ended {w} {c} {b} {a} (within v l) = rw (left_wants l)

-- ---- the whole, u, once the octets before i were seen: whether one was wrong, and the last three of them
pub record Seen (u : Bool) (s : List ℕ) (i c b a : ℕ) (wrong : Bool) : Type 0 where
  want : Want
  fits : wrong ≡ false → Fits want c b a
  same : u ≡ (not wrong && utf8_from want (drop i s))

pub seen_none : (s : List ℕ) → Seen (is_utf8 s) s 0 0 0 0 false
unfolding is_utf8
seen_none s = record { want = Lead; fits = λ _. between {c = 0} {b = 0} {a = 0} (omega arith) (omega arith) (omega arith); same = refl }

pub seen_more : {u : Bool} {s : List ℕ} {i c b a : ℕ} {wrong : Bool} → Seen u s i c b a wrong → i < length s → (t : Bool) → t ≡ is_wrong c b a (get_or s i 0)
    → Seen u s (i + 1) b a (get_or s i 0) (wrong || t)
seen_more {u} {s} {i} {c} {b} {a} {wrong} o h t e = go wrong o.fits o.same
  where
    x : ℕ
    x = get_or s i 0

    go : (k : Bool) → (k ≡ false → Fits o.want c b a) → u ≡ (not k && utf8_from o.want (drop i s)) → Seen u s (i + 1) b a x (k || t)
    go true f q = record { want = Lead; fits = λ z. absurd (false≢true (sym z)); same = q }
    go false f q = on t (rw (← e) at (step c b a x (f refl)))
      where
        m : u ≡ utf8_from (next_want o.want x) (drop (i + 1) s)
        m = q ∙ turn o.want s i h (next_want o.want x) refl

        on : (t : Bool) → Told t (next_want o.want x) b a x → Seen u s (i + 1) b a x t
        on true r = record { want = Bad; fits = λ z. absurd (false≢true (sym z)); same = m ∙ rw (r.wrong refl) (bad (drop (i + 1) s)) }
        on false r = record { want = next_want o.want x; fits = r.right; same = m }

pub seen_all : {u : Bool} {s : List ℕ} {i c b a : ℕ} {wrong : Bool} → Seen u s i c b a wrong → length s ≤ i → (t : Bool) → t ≡ wants_tail c b a → not (wrong || t) ≡ u
seen_all {u} {s} {i} {c} {b} {a} {wrong} o h t e = go wrong o.fits o.same
  where
    go : (k : Bool) → (k ≡ false → Fits o.want c b a) → u ≡ (not k && utf8_from o.want (drop i s)) → not (k || t) ≡ u
    go true f q = sym q
    go false f q = ap not e ∙ sym (ended (f refl)) ∙ sym (over o.want s i h) ∙ sym q
