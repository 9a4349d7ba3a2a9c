-- The items that a text was read into, one after the other; what is read with so many brackets open at once is read
-- with one more.
use Rattle.std.specs.Prelude.{None, Option, Some}
use mathlib.Core.Path.{◌≡◌, refl}
use mathlib.Core.List.{List}
use mathlib.Core.Bool.{Bool, true, false}
use Prim.Native.Nat.{ℕ, zero, suc}
use native.Mathlib.Omega.{arith}
use lib.ListN.{length}
use Rattle.json_tree.specs.Grammar.{case, in_class, one_at, token_at, word_at, literal_at, digits_at, int_at, number_at, string_at}
use Rattle.json_tree.specs.Grammar.{scalar_at, opened_at, start_at, head_at, next_at}
use Rattle.json_tree.specs.Tree.{Json, Items, nil, item, Got, none, got, bind, follow, on_leaf, items_at, group_at}
use Rattle.json_tree.specs.Tree.{tree_at}
use Rattle.json_tree.specs.declared.Start.{Start}
use Rattle.json_tree.specs.declared.Start.TheVariants.{Leaf, Empty, Many}
use Rattle.json_tree.specs.declared.Next.{Next}
use Rattle.json_tree.specs.declared.Next.TheVariants.{More, Done, Wrong}
use Rattle.json_tree.proofs.Ends.{then_end, byte_is}

pub never : {A B : Type 0} {t : A} {n : ℕ} → ◌≡◌ {A = Got A} none (got t n) → B
never e = absurd (let z : ◌≡◌ {A = ℕ} 0 1 = cc in omega arith)

-- ---- what something that was read went through
pub case_got : {A : Type 0} {a : A} {n : ℕ} (o : Option ℕ) (f : ℕ → Got A) → case o f none ≡ got a n → (m : ℕ) × (o ≡ Some m) × (f m ≡ got a n)
case_got (Some m) f e = (m, refl, e)
case_got None f e = never e

pub bind_got : {A B : Type 0} {b : B} {n : ℕ} (g : Got A) (f : A → ℕ → Got B) → bind g f ≡ got b n → (a : A) × (m : ℕ) × (g ≡ got a m) × (f a m ≡ got b n)
bind_got none f e = never e
bind_got (got a m) f e = (a, m, refl, e)

-- the items from i on, of at most f, up to n
pub data Walk (value : ℕ → Got Json) (s : List ℕ) (named : Bool) : ℕ → ℕ → Items → ℕ → Type 0 where
  last : {f i v m n : ℕ} {t : Json} → head_at s i named ≡ Some v → value v ≡ got t m → next_at s m named ≡ Done n → Walk value s named (suc f) i (item i v t nil) n
  more : {f i v m j n : ℕ} {t : Json} {ts : Items} → head_at s i named ≡ Some v → value v ≡ got t m → next_at s m named ≡ More j → Walk value s named f j ts n
      → Walk value s named (suc f) i (item i v t ts) n

walk_same : {value : ℕ → Got Json} {s : List ℕ} {named : Bool} {f i : ℕ} {us ts : Items} {k n : ℕ} → got us k ≡ got ts n → Walk value s named f i us k → Walk value s named f i ts n
walk_same {us = us} {ts = ts} {k = k} {n = n} e w =
    let z : us ≡ ts = cc in
    let y : k ≡ n = cc in
    rw (← z, ← y) w

pub walk_of : (value : ℕ → Got Json) (s : List ℕ) (named : Bool) (f i : ℕ) (ts : Items) (n : ℕ) → items_at value s named f i ≡ got ts n → Walk value s named f i ts n
unfolding items_at
walk_of value s named zero i ts n e = never e
walk_of value s named (suc f) i ts n e =
    let (v, h, e₁) = case_got (head_at s i named) _ e in
    let (t, m, w, e₂) = bind_got (value v) _ e₁ in
    on v t m h w (next_at s m named) refl e₂ λ j us k q. walk_of value s named f j us k q
  where
    on : (v : ℕ) (t : Json) (m : ℕ) → head_at s i named ≡ Some v → value v ≡ got t m → (x : Next) → next_at s m named ≡ x
        → follow (item i v t) x (items_at value s named f) ≡ got ts n
        → ((j : ℕ) (us : Items) (k : ℕ) → items_at value s named f j ≡ got us k → Walk value s named f j us k) → Walk value s named (suc f) i ts n
    on v t m h w (More j) q e ih =
        let (us, k, r, e₃) = bind_got (items_at value s named f j) _ e in
        walk_same e₃ (more h w q (ih j us k r))
    on v t m h w (Done k) q e ih = walk_same e (last h w q)
    on v t m h w Wrong q e ih = never e

pub walk_taken : {value : ℕ → Got Json} {s : List ℕ} {named : Bool} {f i : ℕ} {ts : Items} {n : ℕ} → Walk value s named f i ts n → items_at value s named f i ≡ got ts n
unfolding items_at
walk_taken (last h w q) = rw (items_at, h, w, q)
walk_taken (more h w q r) = rw (items_at, h, w, q, walk_taken r)

-- ---- a value that holds none begins with no bracket
module _ (s : List ℕ) (at : ℕ) where
  square : {n : ℕ} → token_at s 0x5B at ≡ Some n → scalar_at s at ≡ None
  unfolding token_at scalar_at string_at number_at int_at digits_at literal_at word_at one_at in_class
  square e = let (m, p, r) = then_end _ _ e in simp (byte_is s 0x5B at p)

  curly : {n : ℕ} → token_at s 0x7B at ≡ Some n → scalar_at s at ≡ None
  unfolding token_at scalar_at string_at number_at int_at digits_at literal_at word_at one_at in_class
  curly e = let (m, p, r) = then_end _ _ e in simp (byte_is s 0x7B at p)

  pub leaf_start : {t : Json} {n : ℕ} → on_leaf s at (scalar_at s at) ≡ got t n → start_at s at ≡ Leaf
  leaf_start {t} {n} e = one (token_at s 0x5B at) refl
    where
      gone : scalar_at s at ≡ None → {A : Type 0} → A
      gone z = let y : on_leaf s at None ≡ got t n = rw z at e in never y

      two : (o : Option ℕ) → token_at s 0x7B at ≡ o → case o (λ n. opened_at s n true) Leaf ≡ Leaf
      two (Some m) q = gone (curly q)
      two None q = refl

      one : (o : Option ℕ) → token_at s 0x5B at ≡ o → case o (λ n. opened_at s n false) (case (token_at s 0x7B at) (λ n. opened_at s n true) Leaf) ≡ Leaf
      one (Some m) q = gone (square q)
      one None q = two (token_at s 0x7B at) refl

-- ---- depth
walk_map : {value other : ℕ → Got Json} {s : List ℕ} {named : Bool} {f i : ℕ} {ts : Items} {n : ℕ}
    → ((v : ℕ) (t : Json) (m : ℕ) → value v ≡ got t m → other v ≡ got t m) → Walk value s named f i ts n → Walk other s named f i ts n
walk_map to (last h w q) = last h (to _ _ _ w) q
walk_map to (more h w q r) = more h (to _ _ _ w) q (walk_map to r)

pub deeper : (s : List ℕ) (d at : ℕ) (t : Json) (n : ℕ) → tree_at s d at ≡ got t n → tree_at s (suc d) at ≡ got t n
unfolding tree_at
deeper s zero at t n e = rw (leaf_start s at e) e
deeper s (suc d) at t n e = on (start_at s at) e λ v u m q. deeper s d v u m q
  where
    on : (r : Start) → group_at (tree_at s d) s at r ≡ got t n → ((v : ℕ) (u : Json) (m : ℕ) → tree_at s d v ≡ got u m → tree_at s (suc d) v ≡ got u m)
        → group_at (tree_at s (suc d)) s at r ≡ got t n
    on Leaf e ih = e
    on (Empty k named) e ih = e
    on (Many i named) e ih =
        let (ts, m, w, e₁) = bind_got (items_at (tree_at s d) s named (length s) i) _ e in
        rw (walk_taken (walk_map ih (walk_of (tree_at s d) s named (length s) i ts m w))) e₁
