-- A tree a step at a time: what begin's answer says of the tree at a place, and what head, value and after say of the
-- items from a place on.
use Rattle.std.specs.Prelude.{Option, Some, None}
use mathlib.Core.Path.{◌≡◌, refl, sym, ap, ◌∙◌}
use mathlib.Core.List.{List}
use mathlib.Core.Bool.{Bool}
use Prim.Native.Nat.{ℕ, zero, suc, ◌+◌, ◌-◌, ◌<◌, ◌≤◌}
use native.Mathlib.Nat.{sub-zero}
use native.Mathlib.Numerals.{sub-one}
use native.Mathlib.Omega.{arith}
use lib.ListN.{length}
use Rattle.json_tree.specs.Grammar.{scalar_at, start_at, head_at, next_at}
use Rattle.json_tree.specs.Tree.{Json, Items, nil, item, fold_items, Got, none, got, end_of, bind, on_leaf, follow}
use Rattle.json_tree.specs.Tree.{items_at, node, group_at, tree_at}
use Rattle.json_tree.specs.declared.Start.{Start}
use Rattle.json_tree.specs.declared.Start.TheVariants.{Many}
use Rattle.json_tree.specs.declared.Next.{Next}
use Rattle.json_tree.specs.declared.Next.TheVariants.{More, Done, Wrong}

-- ---- begin
pub tree_open : (s : List ℕ) (d at : ℕ) (r : Start) → r ≡ start_at s at → tree_at s (suc d) at ≡ group_at (tree_at s d) s at r
unfolding tree_at
tree_open s d at r e = rw e

-- the same as code counts the depth; where nothing may be open, only a leaf is read
pub value_open : (s : List ℕ) (d at : ℕ) (r : Start) → (d ≡ 0 → ⊥) → r ≡ start_at s at → group_at (tree_at s (d - 1)) s at r ≡ tree_at s d at
value_open s zero at r ne e = absurd (ne refl)
value_open s (suc d) at r ne e = rw sub-one (sym (tree_open s d at r e))

pub value_flat : (s : List ℕ) (d at : ℕ) → d ≡ 0 → on_leaf s at (scalar_at s at) ≡ tree_at s d at
unfolding tree_at
value_flat s d at e = rw e

-- ---- head, value, after
module _ (value : ℕ → Got Json) (s : List ℕ) (named : Bool) (k i : ℕ) where
  one_more : k < length s → length s - k ≡ suc (length s - (k + 1))
  one_more h = omega arith

  pub items_gone : length s ≤ k → items_at value s named (length s - k) i ≡ none
  unfolding items_at
  items_gone h = let z : length s - k ≡ 0 = omega arith in rw z

  pub items_unnamed : k < length s → head_at s i named ≡ None → items_at value s named (length s - k) i ≡ none
  unfolding items_at
  items_unnamed h e = rw (one_more h, items_at, e)

  pub items_none : (v : ℕ) → k < length s → head_at s i named ≡ Some v → value v ≡ none → items_at value s named (length s - k) i ≡ none
  unfolding items_at
  items_none v h e w = rw (one_more h, items_at, e, w)

  pub items_are : (v n : ℕ) (t : Json) (x : Next) → k < length s → head_at s i named ≡ Some v → value v ≡ got t n → next_at s n named ≡ x
      → items_at value s named (length s - k) i ≡ follow (item i v t) x (items_at value s named (length s - (k + 1)))
  unfolding items_at
  items_are v n t x h e w y = rw (one_more h, items_at, e, w, y)

-- ---- what a rule says of items, a turn at a time: z of no items, h of what was gathered and the place after the last
pub record View {A B : Type 0} (W : A → Got Items → B) (f : A → ℕ → ℕ → Json → A) (z : B) (h : A → ℕ → B) : Type 0 where
  pub on_none : (a : A) → W a none ≡ z
  pub on_nil : (a : A) (n : ℕ) → W a (got nil n) ≡ h a n
  pub on_item : (a : A) (p v : ℕ) (t : Json) (ts : Items) (n : ℕ) → W a (got (item p v t ts) n) ≡ W (f a p v t) (got ts n)

-- what a turn comes to, by what follows the item
abbrev pub turned : {B : Type 0} → Next → B → (ℕ → B) → (ℕ → B) → B
turned (More j) z d k = k j
turned (Done e) z d k = d e
turned Wrong z d k = z

module _ {A B : Type 0} {W : A → Got Items → B} {f : A → ℕ → ℕ → Json → A} {z : B} {h : A → ℕ → B} (view : View W f z h) (a : A) where
  view_follow : (p v : ℕ) (t : Json) (x : Next) (k : ℕ → Got Items) → W a (follow (item p v t) x k) ≡ turned x z (h (f a p v t)) (λ j. W (f a p v t) (k j))
  view_follow p v t (More j) k = go (k j)
    where
      go : (g : Got Items) → W a (bind g λ ts m. got (item p v t ts) m) ≡ W (f a p v t) g
      go none = view.on_none a ∙ sym (view.on_none (f a p v t))
      go (got ts m) = view.on_item a p v t ts m
  view_follow p v t (Done e) k = view.on_item a p v t nil e ∙ view.on_nil (f a p v t) e
  view_follow p v t Wrong k = view.on_none a

  module _ (value : ℕ → Got Json) (s : List ℕ) (named : Bool) (k i : ℕ) where
    pub view_gone : length s ≤ k → W a (items_at value s named (length s - k) i) ≡ z
    view_gone l = ap (W a) (items_gone value s named k i l) ∙ view.on_none a

    pub view_unnamed : k < length s → head_at s i named ≡ None → W a (items_at value s named (length s - k) i) ≡ z
    view_unnamed l e = ap (W a) (items_unnamed value s named k i l e) ∙ view.on_none a

    pub view_bad : (v : ℕ) → k < length s → head_at s i named ≡ Some v → end_of (value v) ≡ None → W a (items_at value s named (length s - k) i) ≡ z
    view_bad v l e w = go (value v) refl w
      where
        go : (g : Got Json) → value v ≡ g → end_of g ≡ None → W a (items_at value s named (length s - k) i) ≡ z
        go none q y = ap (W a) (items_none value s named k i v l e q) ∙ view.on_none a
        go (got t n) q y = absurd (let c : ◌≡◌ {A = ℕ} 0 1 = cc in omega arith)

    -- b is what f makes of the item, whatever its tree is
    pub view_next : (v n : ℕ) (x : Next) (b : A) → k < length s → head_at s i named ≡ Some v → end_of (value v) ≡ Some n → next_at s n named ≡ x
        → ((t : Json) → value v ≡ got t n → b ≡ f a i v t)
        → W a (items_at value s named (length s - k) i) ≡ turned x z (h b) (λ j. W b (items_at value s named (length s - (k + 1)) j))
    view_next v n x b l e w y made = go (value v) refl w
      where
        go : (g : Got Json) → value v ≡ g → end_of g ≡ Some n → W a (items_at value s named (length s - k) i) ≡ turned x z (h b) (λ j. W b (items_at value s named (length s - (k + 1)) j))
        go none q r = absurd (let c : ◌≡◌ {A = ℕ} 0 1 = cc in omega arith)
        go (got t m) q r =
            let c : m ≡ n = cc in
            let q' : value v ≡ got t n = rw c at q in
            rw (made t q') (ap (W a) (items_are value s named k i v n t x l e q' y) ∙ view_follow i v t x (items_at value s named (length s - (k + 1))))

-- ---- a left fold over the items
abbrev pub fold_to : {A B : Type 0} → (A → ℕ → ℕ → Json → A) → B → (A → ℕ → B) → A → Got Items → B
fold_to f z h a none = z
fold_to f z h a (got ts n) = h (fold_items f a ts) n

-- with no use of where it ends
abbrev pub fold_got : {A : Type 0} → (A → ℕ → ℕ → Json → A) → A → A → Got Items → A
fold_got f z a g = fold_to f z (λ b n. b) a g

pub fold_view : {A B : Type 0} (f : A → ℕ → ℕ → Json → A) (z : B) (h : A → ℕ → B) → View (fold_to f z h) f z h
fold_view f z h = record { on_none = λ a. refl; on_nil = λ a n. refl; on_item = λ a p v t ts n. refl }

module _ {A B : Type 0} (f : A → ℕ → ℕ → Json → A) (z : B) (h : A → ℕ → B) (a : A) (value : ℕ → Got Json) (s : List ℕ) (named : Bool) (k i : ℕ) where
  pub fold_gone : length s ≤ k → fold_to f z h a (items_at value s named (length s - k) i) ≡ z
  fold_gone = view_gone (fold_view f z h) a value s named k i

  pub fold_unnamed : k < length s → head_at s i named ≡ None → fold_to f z h a (items_at value s named (length s - k) i) ≡ z
  fold_unnamed = view_unnamed (fold_view f z h) a value s named k i

  pub fold_bad : (v : ℕ) → k < length s → head_at s i named ≡ Some v → end_of (value v) ≡ None → fold_to f z h a (items_at value s named (length s - k) i) ≡ z
  fold_bad = view_bad (fold_view f z h) a value s named k i

  pub fold_next : (v n : ℕ) (x : Next) (b : A) → k < length s → head_at s i named ≡ Some v → end_of (value v) ≡ Some n → next_at s n named ≡ x
      → ((t : Json) → value v ≡ got t n → b ≡ f a i v t)
      → fold_to f z h a (items_at value s named (length s - k) i) ≡ turned x z (h b) (λ j. fold_to f z h b (items_at value s named (length s - (k + 1)) j))
  fold_next = view_next (fold_view f z h) a value s named k i

-- ---- where the items end
abbrev pub end_items : Got Items → Option ℕ
end_items g = fold_to (λ a p v t. a) None (λ a n. Some n) (tt {0}) g

pub end_items_lem : (f : Items → Json) (g : Got Items) → end_items g ≡ end_of (bind g λ ts n. got (f ts) n)
end_items_lem f none = refl
end_items_lem f (got ts n) = refl

pub value_many : (s : List ℕ) (d at first : ℕ) (named : Bool) → (d ≡ 0 → ⊥) → Many first named ≡ start_at s at
    → end_items (items_at (tree_at s (d - 1)) s named (length s - 0) first) ≡ end_of (tree_at s d at)
value_many s d at first named ne e =
    rw sub-zero (end_items_lem (node named) (items_at (tree_at s (d - 1)) s named (length s) first) ∙ ap end_of (value_open s d at (Many first named) ne e))
