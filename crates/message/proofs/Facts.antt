-- Facts of items: what all satisfy, some satisfies, or the tree reads, for one of them.
use mathlib.Core.Path.{◌≡◌, refl, sym}
use mathlib.Core.List.{List}
use mathlib.Core.Bool.{Bool, true, false, cond, ◌&&◌, ◌||◌, false≢true}
use Prim.Native.Nat.{ℕ, suc}
use native.Mathlib.Omega.{arith}
use borrow.Author.Tests.{eqb-true}
use Rattle.json_tree.specs.Tree.{Json, Items, nil, item, Got, got}
use Rattle.spell.specs.Spell.{refuses}
use Rattle.rows.specs.Strings.{spelled_at, refused_in, refused_items}
use Rattle.shape.specs.Shape.{any_item, all_items, count_items, name_at, named, once}
use Rattle.wire.proofs.Bytes.{same_equal}
use Rattle.message.specs.Parts.{Member, missing, member, member_of}
use Rattle.message.proofs.Found.{Reads, end, one}

-- ---- tests
pub and_true : (a b : Bool) → (a && b) ≡ true → (a ≡ true) × (b ≡ true)
and_true true b e = (refl, e)
and_true false b e = absurd (false≢true e)

pub or_not : (a b : Bool) → (a || b) ≡ false → (a ≡ false) × (b ≡ false)
or_not true b e = absurd (false≢true (sym e))
or_not false b e = (refl, e)

-- ---- one of some items
pub data In (p v : ℕ) (t : Json) : Items → Type 0 where
  here : {ts : Items} → In p v t (item p v t ts)
  later : {q w : ℕ} {u : Json} {ts : Items} → In p v t ts → In p v t (item q w u ts)

module _ {p v : ℕ} {t : Json} where
  pub all_in : (f : ℕ → Json → Bool) {ts : Items} → all_items f ts ≡ true → In p v t ts → f p t ≡ true
  unfolding all_items
  all_in f e (here {ts = ts}) = (and_true (f p t) (all_items f ts) e).0
  all_in f e (later {q = q} {u = u} {ts = ts} i) = all_in f (and_true (f q u) (all_items f ts) e).1 i

  pub any_in : (f : ℕ → Json → Bool) {ts : Items} → any_item f ts ≡ false → In p v t ts → f p t ≡ false
  unfolding any_item
  any_in f e (here {ts = ts}) = (or_not (f p t) (any_item f ts) e).0
  any_in f e (later {q = q} {u = u} {ts = ts} i) = any_in f (or_not (f q u) (any_item f ts) e).1 i

  pub refused_in_lem : (s : List ℕ) (b : Bool) {ts : Items} → refused_items s b ts ≡ false → In p v t ts → refused_in s t ≡ false
  unfolding refused_in
  refused_in_lem s b e here = (or_not (refused_in s t) _ (or_not (b && refuses (spelled_at s p)) _ e).1).0
  refused_in_lem s b e (later {q = q} {u = u} i) = refused_in_lem s b (or_not (refused_in s u) _ (or_not (b && refuses (spelled_at s q)) _ e).1).1 i

  pub reads_in : {value : ℕ → Got Json} {ts : Items} → Reads value ts → In p v t ts → (n : ℕ) × (value v ≡ got t n)
  reads_in {value = value} end x = elim x [ ]
  reads_in (one e r) here = (_, e)
  reads_in (one e r) (later i) = reads_in r i

-- ---- the first member of a name
pub data Holds (s w : List ℕ) (ts : Items) : Member → Type 0 where
  absent : Holds s w ts missing
  present : {p v : ℕ} {t : Json} → In p v t ts → name_at s p ≡ w → Holds s w ts (member v t)

pub member_holds : (s w : List ℕ) (ts : Items) → Holds s w ts (member_of s w ts)
unfolding member_of
member_holds s w nil = absent
member_holds s w (item p v t ts) = go (named s w p) refl (member_holds s w ts)
  where
    wider : {m : Member} → Holds s w ts m → Holds s w (item p v t ts) m
    wider absent = absent
    wider (present i e) = present (later i) e

    go : (b : Bool) → named s w p ≡ b → Holds s w ts (member_of s w ts) → Holds s w (item p v t ts) (cond b (member v t) (member_of s w ts))
    go true e h = present here (same_equal (name_at s p) w e)
    go false e h = wider h

none_counted : (s w : List ℕ) (ts : Items) → member_of s w ts ≡ missing → count_items (λ p t. named s w p) ts ≡ 0
unfolding member_of count_items
none_counted s w nil e = refl
none_counted s w (item p v t ts) e = go (named s w p) e (none_counted s w ts)
  where
    go : (b : Bool) → cond b (member v t) (member_of s w ts) ≡ missing → (member_of s w ts ≡ missing → count_items (λ p t. named s w p) ts ≡ 0) → cond b (suc (count_items (λ p t. named s w p) ts)) (count_items (λ p t. named s w p) ts) ≡ 0
    go true q ih = absurd (let z : ◌≡◌ {A = ℕ} 0 1 = cc in omega arith)
    go false q ih = ih q

pub once_there : (s w : List ℕ) (ts : Items) → once s w ts ≡ true → member_of s w ts ≡ missing → ⊥
unfolding once
once_there s w ts e m = let h = none_counted s w ts m in let k = eqb-true (count_items (λ p t. named s w p) ts) 1 e in omega arith
