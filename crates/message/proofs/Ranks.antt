-- The lowest row as a number: the least of two such numbers is the lowest row that holds on either side; and the rows
-- of an event and of a filter, by those of their parts in the order of the code.
use Rattle.std.specs.Prelude.{Option, Some, None}
use mathlib.Core.Path.{◌≡◌, refl, sym, ap, ◌∙◌}
use mathlib.Core.List.{List}
use mathlib.Core.Bool.{Bool, true, false, cond, not, ◌||◌, or-false}
use Prim.Native.Nat.{ℕ, ◌-◌, ◌<◌, ◌≤◌, min}
use native.Mathlib.Omega.{arith}
use borrow.Author.Tests.{ne_eqb, eqb-true, eqb-false}
use lib.Dec.{eqb}
use Rattle.utf8.specs.Utf8.{is_utf8}
use Rattle.json_tree.specs.Tree.{Json, Got, none, got, depth, tree_at}
use Rattle.rows.specs.Strings.{part, refused_in}
use Rattle.message.specs.declared.Span.{Span}
use Rattle.message.specs.declared.Body.{Body}
use Rattle.shape.proofs.Low.{at_least, least}
use Rattle.message.specs.declared.EventParts.{EventParts}
use Rattle.message.specs.declared.FilterParts.{FilterParts}
use Rattle.shape.specs.declared.Sort.{Sort}
use Rattle.shape.specs.declared.Sort.TheVariants.{Tags, Hexes, Smalls, Filter}
use Rattle.message.specs.Lent.{string2, string4, string5, string7}
use Rattle.message.specs.Lent.{on_value, value_at, value2, value4, value5, time6, small6, in_list}
use Rattle.message.specs.Lent.{in_bound, body2, body4, body5, body6, body7, body8, event2, event4, event5, event7}
use Rattle.message.specs.Lent.{event_row, filter2, filter4, filter5, filter6, filter7, filter8, filter_row}
use Rattle.wire.specs.Lowest.{lower_row}
use Rattle.shape.specs.Values.{own_text, fits, sort6, sort7, sort8, sort_row, got_row, value_row}
use Rattle.message.specs.Inner.{lowest_by, rank, row_told, rank_of, LowestRank, ValueRank, ListRank}

-- ---- joined by the least
abbrev from8 : Bool → ℕ
from8 f = cond f 8 9

abbrev from7 : Bool → Bool → ℕ
from7 e f = cond e 7 (from8 f)

abbrev from6 : Bool → Bool → Bool → ℕ
from6 d e f = cond d 6 (from7 e f)

abbrev from5 : Bool → Bool → Bool → Bool → ℕ
from5 c d e f = cond c 5 (from6 d e f)

abbrev from4 : Bool → Bool → Bool → Bool → Bool → ℕ
from4 b c d e f = cond b 4 (from5 c d e f)

above8 : (f : Bool) → 8 ≤ from8 f
above8 f = at_least 8 f (omega arith) (omega arith)

above7 : (e f : Bool) → 7 ≤ from7 e f
above7 e f = at_least 7 e (omega arith) (let h = above8 f in omega arith)

above6 : (d e f : Bool) → 6 ≤ from6 d e f
above6 d e f = at_least 6 d (omega arith) (let h = above7 e f in omega arith)

above5 : (c d e f : Bool) → 5 ≤ from5 c d e f
above5 c d e f = at_least 5 c (omega arith) (let h = above6 d e f in omega arith)

above4 : (b c d e f : Bool) → 4 ≤ from4 b c d e f
above4 b c d e f = at_least 4 b (omega arith) (let h = above5 c d e f in omega arith)

module _ {a b c d e f a' b' c' d' e' f' : Bool} where
  join : {x y : ℕ} → LowestRank x a b c d e f → LowestRank y a' b' c' d' e' f' → LowestRank (min x y) (a || a') (b || b') (c || c') (d || d') (e || e') (f || f')
  unfolding rank
  join p q = record {
    is =
        rw (p.is, q.is)
        (least 2 a a' (from4 b c d e f) (from4 b' c' d' e' f') (let h = above4 b c d e f in omega arith) (let h = above4 b' c' d' e' f' in omega arith)
        ∙ ap (cond (a || a') 2)
        (least 4 b b' (from5 c d e f) (from5 c' d' e' f') (let h = above5 c d e f in omega arith) (let h = above5 c' d' e' f' in omega arith)
        ∙ ap (cond (b || b') 4)
        (least 5 c c' (from6 d e f) (from6 d' e' f') (let h = above6 d e f in omega arith) (let h = above6 d' e' f' in omega arith)
        ∙ ap (cond (c || c') 5)
        (least 6 d d' (from7 e f) (from7 e' f') (let h = above7 e f in omega arith) (let h = above7 e' f' in omega arith)
        ∙ ap (cond (d || d') 6)
        (least 7 e e' (from8 f) (from8 f') (let h = above8 f in omega arith) (let h = above8 f' in omega arith)
        ∙ ap (cond (e || e') 7) (least 8 f f' 9 9 (omega arith) (omega arith)))))));
  }

-- a number that is the least of two
pub both : {x y z : ℕ} {a b c d e f a' b' c' d' e' f' : Bool} → z ≡ min x y → LowestRank x a b c d e f → LowestRank y a' b' c' d' e' f'
    → LowestRank z (a || a') (b || b') (c || c') (d || d') (e || e') (f || f')
both q v w = rw q (join v w)

-- the same rows said otherwise
pub said : {x : ℕ} {a b c d e f a' b' c' d' e' f' : Bool} → a ≡ a' → b ≡ b' → c ≡ c' → d ≡ d' → e ≡ e' → f ≡ f' → LowestRank x a b c d e f → LowestRank x a' b' c' d' e' f'
said p q r s t u w = rw (p, q, r, s, t, u) at w

-- a rank and the lowest_by row go in step: seven pairs
in_step : (P : ℕ → ℕ → Type 0) → P 2 2 → P 4 4 → P 5 5 → P 6 6 → P 7 7 → P 8 8 → P 9 0 → (a b c d e f : Bool) → P (rank a b c d e f) (lowest_by a b c d e f)
unfolding rank
in_step P p₂ p₄ p₅ p₆ p₇ p₈ p₉ true b c d e f = p₂
in_step P p₂ p₄ p₅ p₆ p₇ p₈ p₉ false true c d e f = p₄
in_step P p₂ p₄ p₅ p₆ p₇ p₈ p₉ false false true d e f = p₅
in_step P p₂ p₄ p₅ p₆ p₇ p₈ p₉ false false false true e f = p₆
in_step P p₂ p₄ p₅ p₆ p₇ p₈ p₉ false false false false true f = p₇
in_step P p₂ p₄ p₅ p₆ p₇ p₈ p₉ false false false false false true = p₈
in_step P p₂ p₄ p₅ p₆ p₇ p₈ p₉ false false false false false false = p₉

told_rank : (a b c d e f : Bool) → row_told (rank a b c d e f) ≡ lowest_by a b c d e f
told_rank = in_step (λ x y. row_told x ≡ y) refl refl refl refl refl refl refl

pub told_is : {x : ℕ} {a b c d e f : Bool} → LowestRank x a b c d e f → row_told x ≡ lowest_by a b c d e f
told_is {x} {a} {b} {c} {d} {e} {f} w = ap row_told w.is ∙ told_rank a b c d e f

-- ---- the lowest of rows that hold on either side is the lower of the two lowest
rank_between : (a b c d e f : Bool) → (0 < rank a b c d e f) × (rank a b c d e f ≤ 9)
rank_between = in_step (λ x y. (0 < x) × (x ≤ 9)) (omega arith, omega arith) (omega arith, omega arith) (omega arith, omega arith) (omega arith, omega arith) (omega arith, omega arith) (omega arith, omega arith) (omega arith, omega arith)

lower_told : (m n : ℕ) → (0 < m) × (m ≤ 9) → (0 < n) × (n ≤ 9) → row_told (min m n) ≡ lower_row (row_told m) (row_told n)
lower_told m n (m₁, m₉) (n₁, n₉) = go (eqb m 9) (eqb n 9) refl refl
  where
    go : (p q : Bool) → eqb m 9 ≡ p → eqb n 9 ≡ q → row_told (min m n) ≡ lower_row (cond p 0 m) (cond q 0 n)
    go true q e f =
        let z = eqb-true m 9 e in
        let y : min m n ≡ n = omega arith in
        rw (y, f)
    go false true e f =
        let z = eqb-true n 9 f in
        let y : min m n ≡ m = omega arith in
        rw (y, e, ne_eqb m 0 (λ o. omega arith))
    go false false e f =
        let k = eqb-false m 9 e in
        let l = eqb-false n 9 f in
        let h : eqb (min m n) 9 ≡ false = ne_eqb (min m n) 9 (λ o. omega arith) in
        rw (h, ne_eqb m 0 (λ o. omega arith), ne_eqb n 0 (λ o. omega arith))

pub lowest_lower : (a b c d e f a' b' c' d' e' f' : Bool)
    → lowest_by (a || a') (b || b') (c || c') (d || d') (e || e') (f || f') ≡ lower_row (lowest_by a b c d e f) (lowest_by a' b' c' d' e' f')
lowest_lower a b c d e f a' b' c' d' e' f' =
    let v : LowestRank (rank a b c d e f) a b c d e f = record { is = refl } in
    let w : LowestRank (rank a' b' c' d' e' f') a' b' c' d' e' f' = record { is = refl } in
    sym (told_is (join v w)) ∙ lower_told (rank a b c d e f) (rank a' b' c' d' e' f') (rank_between a b c d e f) (rank_between a' b' c' d' e' f')
    ∙ ap (λ (x : ℕ). lower_row x (row_told (rank a' b' c' d' e' f'))) (told_rank a b c d e f) ∙ ap (lower_row (lowest_by a b c d e f)) (told_rank a' b' c' d' e' f')

-- ---- a string part
abbrev StringRank : List ℕ → Span → ℕ → Type 0
StringRank b p x = LowestRank x (string2 b p) (string4 b p) (string5 b p) false false false

abbrev HexRank : List ℕ → Span → ℕ → ℕ → Type 0
HexRank b p k x = LowestRank x (string2 b p) (string4 b p) (string5 b p) false (string7 k b p) false

-- ---- the value at a place
rank_row : (a b c d e f : Bool) → rank_of (lowest_by a b c d e f) ≡ rank a b c d e f
rank_row = in_step (λ x y. rank_of y ≡ x) refl refl refl refl refl refl refl

pub value_rank : (b : List ℕ) (at : ℕ) (k : Sort) {x y : ℕ} → x ≡ value_row b at k → y ≡ rank_of x → ValueRank b at k y
unfolding rank value_row value2 value4 value5 sort_row
value_rank b at k {x} {y} v w = record { is = w ∙ ap rank_of v ∙ go (tree_at b depth at) }
  where
    go : (g : Got Json) → rank_of (cond (own_text b at g) 2 (got_row b k g))
        ≡ rank (own_text b at g) (on_value (refused_in b) g) (not (on_value (fits b k) g)) (on_value (sort6 b k) g) (on_value (sort7 b k) g) (on_value (sort8 b k) g)
    go none = refl
    go (got t n) = rank_row (not (is_utf8 (part b at (n - at)))) (refused_in b t) (not (fits b k t)) (sort6 b k t) (sort7 b k t) (sort8 b k t)

-- rows that no value of a sort breaks
none_value : (g : Got Json) → on_value (λ t. false) g ≡ false
none_value none = refl
none_value (got t n) = refl

none_list : (b : List ℕ) (l : Option ℕ) → in_list (λ v. on_value (λ t. false) (value_at b v)) l ≡ false
none_list b None = refl
none_list b (Some v) = none_value (value_at b v)

-- ---- an event's fields, an event, a filter: their parts in the order of the code
abbrev pub BodyRank : List ℕ → Body → ℕ → Type 0
BodyRank b p x = LowestRank x (body2 b p) (body4 b p) (body5 b p) (body6 p) (body7 b p) (body8 b p)

pub body_lowest : (b : List ℕ) (p : Body) {x₁ x₂ x₃ x₄ t k h v c : ℕ} → x₁ ≡ min t x₂ → x₂ ≡ min k x₃ → x₃ ≡ min h x₄ → x₄ ≡ min v c
    → LowestRank t false false false (time6 p.created_at) false false → LowestRank k false false false (small6 p.kind) false false
    → HexRank b p.pubkey 64 h → ValueRank b p.tags Tags v → StringRank b p.content c → BodyRank b p x₁
unfolding body2 body4 body5 body6 body7 body8
body_lowest b p e₁ e₂ e₃ e₄ t k h v c =
    said refl refl refl (rw (none_value (value_at b p.tags), or-false)) (rw (none_value (value_at b p.tags), or-false)) (rw or-false)
    (both e₁ t (both e₂ k (both e₃ h (both e₄ v c))))

pub event_lowest : (b : List ℕ) (p : EventParts) {x₁ x₂ h d g : ℕ} → x₁ ≡ min h x₂ → x₂ ≡ min d g
    → HexRank b p.id 64 h → BodyRank b p.body d → HexRank b p.sig 128 g → row_told x₁ ≡ event_row b p
unfolding event_row event2 event4 event5 event7
event_lowest b p e₁ e₂ h d g = told_is (said refl refl refl (or-false (body6 p.body)) refl (or-false (body8 b p.body)) (both e₁ h (both e₂ d g)))

pub filter_lowest : (b : List ℕ) (p : FilterParts) {x₁ x₂ x₃ x₄ x₅ x₆ i a k s u l c : ℕ}
    → x₁ ≡ min i x₂ → x₂ ≡ min a x₃ → x₃ ≡ min k x₄ → x₄ ≡ min s x₅ → x₅ ≡ min u x₆ → x₆ ≡ min l c
    → ListRank b p.ids Hexes i → ListRank b p.authors Hexes a → ListRank b p.kinds Smalls k
    → LowestRank s false false false (in_bound time6 p.since) false false → LowestRank u false false false (in_bound time6 p.until) false false
    → LowestRank l false false false (in_bound small6 p.limit) false false → ListRank b p.conditions Filter c → row_told x₁ ≡ filter_row b p
unfolding filter_row filter2 filter4 filter5 filter6 filter7 filter8
filter_lowest b p e₁ e₂ e₃ e₄ e₅ e₆ i a k s u l c =
    let w : LowestRank _ (filter2 b p) (filter4 b p) (filter5 b p) (filter6 b p) (filter7 b p) (filter8 b p)
    = said refl refl refl (rw (none_list b p.ids, none_list b p.authors)) (rw (none_list b p.kinds)) refl
    (both e₁ i (both e₂ a (both e₃ k (both e₄ s (both e₅ u (both e₆ l c)))))) in
    told_is w
