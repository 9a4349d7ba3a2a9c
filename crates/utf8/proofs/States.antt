-- The states that the scan gets into: within a character it wants tails, which are 80 to BF. So what is below 80 stands
-- only where a character may begin, and whatever is taken is a byte.
use mathlib.Core.Bool.{Bool, true, false, cond}
use mathlib.Core.Path.{◌≡◌, refl}
use mathlib.Core.Logic.{◌⊎◌, inl, inr}
use mathlib.Core.List.{List, [], ◌∷◌, ◌++◌}
use Prim.Native.Nat.{ℕ, ◌≤◌, ◌<◌}
use native.Mathlib.Decide.{dec_lt}
use native.Mathlib.Omega.{arith}
use borrow.Author.Tests.{lt-ltb, le-ltb, le-leb, lt-leb}
use lib.Dec.{lit≤}
use Rattle.utf8.specs.declared.Want.{Want}
use Rattle.utf8.specs.declared.Want.TheVariants.{Lead, Tail, Bad}
use Rattle.utf8.specs.Utf8.{lead_of, utf8_from, next_want, ends}
use Rattle.utf8.proofs.Laws.{bad}

pub data Reached : Want → Type 0 where
  lead_reached : Reached Lead
  tail_reached : {lo hi n : ℕ} → 0x80 ≤ lo → hi ≤ 0xbf → Reached (Tail lo hi n)
  bad_reached : Reached Bad

cond_reached : (t : Bool) {v w : Want} → Reached v → Reached w → Reached (cond t v w)
cond_reached true p q = p
cond_reached false p q = q

pub next_reached : (w : Want) (x : ℕ) → Reached w → Reached (next_want w x)
unfolding lead_of
next_reached Lead x h = search (cond_reached, lead_reached, tail_reached, bad_reached, lit≤, tt) depth 14
next_reached (Tail lo hi n) x h = search (cond_reached, lead_reached, tail_reached, bad_reached, lit≤, tt) depth 14
next_reached Bad x h = bad_reached

pub never_bad : {A : Type 0} (t : List ℕ) → utf8_from Bad t ≡ true → A
never_bad t e = let f = bad t in absurd (let z : ◌≡◌ {A = ℕ} 0 1 = cc in omega arith)

-- a byte below 80: where a character may begin it is one, and within a character nothing follows it
pub low_next : (x : ℕ) → x < 0x80 → next_want Lead x ≡ Lead
unfolding lead_of
low_next x h = rw (le-leb x 0x7f (omega arith))

pub low_stuck : {lo hi n : ℕ} (x : ℕ) → x < 0x80 → Reached (Tail lo hi n) → next_want (Tail lo hi n) x ≡ Bad
low_stuck {lo} x h (tail_reached l k) = rw (lt-ltb x lo (omega arith))

pub lead_low : (x : ℕ) (t : List ℕ) → x < 0x80 → utf8_from Lead t ≡ true → utf8_from Lead (x ∷ t) ≡ true
unfolding utf8_from
lead_low x t h e = rw (low_next x h) e

pub low_lead : (w : Want) (x : ℕ) (t : List ℕ) → Reached w → x < 0x80 → utf8_from w (x ∷ t) ≡ true → (w ≡ Lead) × (utf8_from Lead t ≡ true)
unfolding utf8_from
low_lead Lead x t r h e = (refl, rw (low_next x h) at e)
low_lead (Tail lo hi n) x t r h e = never_bad t (rw (low_stuck {lo = lo} {hi = hi} {n = n} x h r) at e)
low_lead Bad x t r h e = never_bad t e

-- one that is wanted takes the scan back to the beginning of a character, any other to where nothing will do
pub low_turn : {w : Want} (x : ℕ) → x < 0x80 → Reached w → ((w ≡ Lead) × (next_want w x ≡ Lead)) ⊎ (next_want w x ≡ Bad)
low_turn x h lead_reached = inl (refl, low_next x h)
low_turn x h (tail_reached {n = n} l k) = inr (low_stuck {n = n} x h (tail_reached l k))
low_turn x h bad_reached = inr refl

-- no character begins above F4
pub lead_none : (x : ℕ) → 0xf4 < x → lead_of x ≡ Bad
unfolding lead_of
lead_none x h =
    rw (
      lt-leb x 0x7f (omega arith),
      lt-leb x 0xc1 (omega arith),
      lt-leb x 0xdf (omega arith),
      lt-leb x 0xe0 (omega arith),
      lt-leb x 0xec (omega arith),
      lt-leb x 0xed (omega arith),
      lt-leb x 0xef (omega arith),
      lt-leb x 0xf0 (omega arith),
      lt-leb x 0xf3 (omega arith),
      lt-leb x 0xf4 h,
    )

-- what is taken is a byte
pub byte_few : (w : Want) (x : ℕ) (t : List ℕ) → Reached w → utf8_from w (x ∷ t) ≡ true → x < 0x100
unfolding utf8_from
byte_few Lead x t r e = elim (dec_lt x 0x100) [ yes h ↦ h | no h ↦ never_bad t (rw (lead_none x (omega arith)) at e) ]
byte_few (Tail lo hi n) x t (tail_reached l k) e = elim (dec_lt x 0x100) [
  | yes h ↦ h
  | no h ↦ elim (dec_lt x lo) [
    | yes j ↦ never_bad t (rw (lt-ltb x lo j) at e)
    | no j ↦ never_bad t (rw (le-ltb x lo (omega arith), lt-ltb hi x (omega arith)) at e)
  ]
]
byte_few Bad x t r e = never_bad t e

-- a text that ends where a character may begin, and a text behind it
pub ends_lead : (w : Want) → ends w ≡ true → w ≡ Lead
ends_lead Lead e = refl
ends_lead (Tail lo hi n) e = absurd (let z : ◌≡◌ {A = ℕ} 0 1 = cc in omega arith)
ends_lead Bad e = absurd (let z : ◌≡◌ {A = ℕ} 0 1 = cc in omega arith)

pub utf8_append : (p q : List ℕ) (w : Want) → utf8_from w p ≡ true → utf8_from Lead q ≡ true → utf8_from w (p ++ q) ≡ true
unfolding utf8_from
utf8_append [] q w e f = rw (ends_lead w e) f
utf8_append (x ∷ p) q w e f = utf8_append p q (next_want w x) e f

-- a text around a byte below 80: what stands before it and what stands behind it
pub utf8_cut : (p : List ℕ) (x : ℕ) (q : List ℕ) (w : Want) → Reached w → x < 0x80 → utf8_from w (p ++ (x ∷ q)) ≡ true → (utf8_from w p ≡ true) × (utf8_from Lead q ≡ true)
unfolding utf8_from
utf8_cut [] x q w r h e = let (z, u) = low_lead w x q r h e in (rw z, u)
utf8_cut (y ∷ p) x q w r h e = utf8_cut p x q (next_want w y) (next_reached w y r) h e
