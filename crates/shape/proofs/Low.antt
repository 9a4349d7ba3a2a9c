-- The lowest of rows 4 to 8 with the earliest of its places, as a fault. The least of two faults is the lowest row that
-- holds on either side, with the earliest of its places on either side.
use mathlib.Core.Path.{◌≡◌, refl, ap, ◌∙◌}
use mathlib.Core.List.{List, [], ◌∷◌, ◌++◌, append-nil}
use mathlib.Core.Bool.{Bool, true, false, cond, not, ◌&&◌, ◌||◌}
use Prim.Native.Nat.{ℕ, ◌+◌, ◌≤◌, min}
use native.Mathlib.Omega.{arith}
use Rattle.shape.specs.Offsets.{least_of}
use Rattle.shape.specs.Inner.{STRING, SHAPE, NUMBER, HEX, COUNT, no_fault, last_place}

-- ---- the earliest of places on either side
least_join : (p : ℕ) (ps : List ℕ) (q : ℕ) (qs : List ℕ) → least_of p (ps ++ (q ∷ qs)) ≡ min (least_of p ps) (least_of q qs)
unfolding least_of
least_join p [] q qs = refl
least_join p (o ∷ ps) q qs = ap (min p) (least_join o ps q qs) ∙ omega arith

-- the row r at the earliest of some places, and x where there is none
unfoldable pub placed_at : ℕ → List ℕ → ℕ → ℕ
placed_at r [] x = x
placed_at r (p ∷ ps) x = r + min (least_of p ps) last_place

abbrev pub from8 : Bool → ℕ
from8 e = cond e COUNT no_fault

abbrev pub from7 : List ℕ → Bool → ℕ
from7 d e = placed_at HEX d (from8 e)

abbrev pub from6 : List ℕ → List ℕ → Bool → ℕ
from6 c d e = placed_at NUMBER c (from7 d e)

abbrev pub from5 : Bool → List ℕ → List ℕ → Bool → ℕ
from5 b c d e = cond b SHAPE (from6 c d e)

unfoldable pub low : Bool → Bool → List ℕ → List ℕ → Bool → ℕ
low a b c d e = cond a STRING (from5 b c d e)

-- ---- joined by the least
pub at_least : (r : ℕ) (b : Bool) {x y : ℕ} → r ≤ x → r ≤ y → r ≤ cond b x y
at_least r true p q = p
at_least r false p q = q

placed_least : (r : ℕ) (c : List ℕ) (x : ℕ) → r ≤ x → r ≤ placed_at r c x
unfolding placed_at
placed_least r [] x h = h
placed_least r (p ∷ ps) x h = omega arith

pub least : (r : ℕ) (a b : Bool) (x y : ℕ) → r ≤ x → r ≤ y → min (cond a r x) (cond b r y) ≡ cond (a || b) r (min x y)
least r true true x y p q = omega arith
least r true false x y p q = omega arith
least r false true x y p q = omega arith
least r false false x y p q = refl

earlier : (r : ℕ) (c c' : List ℕ) (x y : ℕ) → r + last_place ≤ x → r + last_place ≤ y → min (placed_at r c x) (placed_at r c' y) ≡ placed_at r (c ++ c') (min x y)
unfolding placed_at
earlier r [] [] x y h k = refl
earlier r [] (q ∷ qs) x y h k = omega arith
earlier r (p ∷ ps) [] x y h k = let e : least_of p (ps ++ []) ≡ least_of p ps = ap (least_of p) (append-nil ps) in omega arith
earlier r (p ∷ ps) (q ∷ qs) x y h k = let e = least_join p ps q qs in omega arith

above8 : (e : Bool) → COUNT ≤ from8 e
above8 e = at_least COUNT e (omega arith) (omega arith)

above7 : (d : List ℕ) (e : Bool) → HEX ≤ from7 d e
above7 d e = placed_least HEX d (from8 e) (let h = above8 e in omega arith)

above6 : (c d : List ℕ) (e : Bool) → NUMBER ≤ from6 c d e
above6 c d e = placed_least NUMBER c (from7 d e) (let h = above7 d e in omega arith)

above5 : (b : Bool) (c d : List ℕ) (e : Bool) → SHAPE ≤ from5 b c d e
above5 b c d e = at_least SHAPE b (omega arith) (let h = above6 c d e in omega arith)

-- x is the lowest of the rows that hold, with its earliest place: a, b and e say it of 4, 5 and 8, and c and d are the
-- places that break 6 and 7
pub record Lowest (x : ℕ) (a b : Bool) (c d : List ℕ) (e : Bool) : Type 0 where
  pub is : x ≡ low a b c d e

module _ {a b e a' b' e' : Bool} {c d c' d' : List ℕ} where
  pub join : {x y : ℕ} → Lowest x a b c d e → Lowest y a' b' c' d' e' → Lowest (min x y) (a || a') (b || b') (c ++ c') (d ++ d') (e || e')
  unfolding low
  join p q = record {
    is =
        rw (p.is, q.is)
        (least STRING a a' (from5 b c d e) (from5 b' c' d' e') (let h = above5 b c d e in omega arith) (let h = above5 b' c' d' e' in omega arith)
        ∙ ap (cond (a || a') STRING)
        (least SHAPE b b' (from6 c d e) (from6 c' d' e') (let h = above6 c d e in omega arith) (let h = above6 c' d' e' in omega arith)
        ∙ ap (cond (b || b') SHAPE)
        (earlier NUMBER c c' (from7 d e) (from7 d' e') (let h = above7 d e in omega arith) (let h = above7 d' e' in omega arith)
        ∙ ap (placed_at NUMBER (c ++ c'))
        (earlier HEX d d' (from8 e) (from8 e') (let h = above8 e in omega arith) (let h = above8 e' in omega arith)
        ∙ ap (placed_at HEX (d ++ d')) (least COUNT e e' no_fault no_fault (omega arith) (omega arith))))));
  }

-- the same rows said otherwise
pub said : {x : ℕ} {a b e a' b' e' : Bool} {c d c' d' : List ℕ} → a ≡ a' → b ≡ b' → c ≡ c' → d ≡ d' → e ≡ e' → Lowest x a b c d e → Lowest x a' b' c' d' e'
said p q r s t w = rw (p, q, r, s, t) at w

-- where the shape is broken, no higher row counts
pub hidden : {x : ℕ} {a e e' : Bool} {c d c' d' : List ℕ} → Lowest x a true c d e → Lowest x a true c' d' e'
unfolding low
hidden w = record { is = w.is }

-- ---- after what was found before: x is the least of y and a number that is lowest
pub record After (x y : ℕ) (a b : Bool) (c d : List ℕ) (e : Bool) : Type 0 where
  pub rest : ℕ
  pub is : x ≡ min y rest
  pub lowest : Lowest rest a b c d e

pub ends : {x y z : ℕ} {a b e : Bool} {c d : List ℕ} → x ≡ min y z → Lowest z a b c d e → After x y a b c d e
ends {x} {y} {z} e w = record { rest = z; is = e; lowest = w }

pub after_said : {x y : ℕ} {a b e a' b' e' : Bool} {c d c' d' : List ℕ} → a ≡ a' → b ≡ b' → c ≡ c' → d ≡ d' → e ≡ e' → After x y a b c d e → After x y a' b' c' d' e'
after_said p q r s t w = rw (p, q, r, s, t) at w

pub after_hidden : {x y : ℕ} {a e e' : Bool} {c d c' d' : List ℕ} → After x y a true c d e → After x y a true c' d' e'
after_hidden w = record { rest = w.rest; is = w.is; lowest = hidden w.lowest }

assoc : (x y z : ℕ) → min (min x y) z ≡ min x (min y z)
assoc x y z = omega arith

module _ {x y : ℕ} {a₁ b₁ e₁ a₂ b₂ e₂ a₃ b₃ e₃ a₄ b₄ e₄ : Bool} {c₁ d₁ c₂ d₂ c₃ d₃ c₄ d₄ : List ℕ} where
  pub goes_on : {n r o : ℕ} → Lowest n a₁ b₁ c₁ d₁ e₁ → Lowest r a₂ b₂ c₂ d₂ e₂ → Lowest o a₃ b₃ c₃ d₃ e₃ → After x (min y (min n (min r o))) a₄ b₄ c₄ d₄ e₄
      → After x y (a₁ || (a₂ || (a₃ || a₄))) (b₁ || (b₂ || (b₃ || b₄))) (c₁ ++ (c₂ ++ (c₃ ++ c₄))) (d₁ ++ (d₂ ++ (d₃ ++ d₄))) (e₁ || (e₂ || (e₃ || e₄)))
  goes_on {n} {r} {o} p q s w = record {
    rest = min n (min r (min o w.rest));
    is = w.is ∙ assoc y (min n (min r o)) w.rest ∙ ap (min y) (assoc n (min r o) w.rest ∙ ap (min n) (assoc r o w.rest));
    lowest = join p (join q (join s w.lowest));
  }

-- where nothing was
placed_most : (r : ℕ) (c : List ℕ) {x : ℕ} → r + last_place ≤ no_fault → x ≤ no_fault → placed_at r c x ≤ no_fault
unfolding placed_at
placed_most r [] p q = q
placed_most r (o ∷ ps) p q = omega arith

below : (a b : Bool) (c d : List ℕ) (e : Bool) → low a b c d e ≤ no_fault
unfolding low
below a b c d e = at_most a (omega arith) (at_most b (omega arith) (placed_most NUMBER c (omega arith) (placed_most HEX d (omega arith) (at_most e (omega arith) (omega arith)))))
  where
    at_most : (b : Bool) {x y : ℕ} → x ≤ no_fault → y ≤ no_fault → cond b x y ≤ no_fault
    at_most true p q = p
    at_most false p q = q

pub begins : {x : ℕ} {a b e : Bool} {c d : List ℕ} → After x no_fault a b c d e → Lowest x a b c d e
begins {x} {a} {b} {e} {c} {d} w = let h = below a b c d e in let l = w.lowest.is in record { is = w.is ∙ omega arith ∙ l }

-- ---- tests put together
pub not_both : (x y z : Bool) → (not x || (not y || z)) ≡ (not (x && y) || z)
not_both true y z = refl
not_both false y z = refl

pub either_first : (x y z : Bool) → (x || (y || z)) ≡ ((x || y) || z)
either_first true y z = refl
either_first false y z = refl

pub between_last : (x y z : Bool) → (x || (y || z)) ≡ ((x || z) || y)
between_last true y z = refl
between_last false true true = refl
between_last false true false = refl
between_last false false true = refl
between_last false false false = refl

-- a broken member, one that is there already, and the rest
pub broken_first : (x i y t e : Bool) → (not x || (i || (not y || (t || e)))) ≡ (not (x && y) || ((i || t) || e))
broken_first false i y t e = refl
broken_first true false y t e = refl
broken_first true true false t e = refl
broken_first true true true t e = refl
