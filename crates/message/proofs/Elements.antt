-- The list of an array's elements is that of the places of its items in the tree; a walk over an array that is there
-- ends and does not break.
use Rattle.std.specs.Prelude.{Option, Some, None}
use mathlib.Core.Path.{◌≡◌, refl, sym, ap, ◌∙◌}
use mathlib.Core.List.{List, [], ◌∷◌}
use mathlib.Core.Bool.{Bool, true, false}
use Prim.Native.Nat.{ℕ, zero, suc, ◌≤◌}
use native.Mathlib.Omega.{arith}
use lib.ListN.{length}
use Rattle.json_tree.specs.Grammar.{scalar_at, start_at}
use Rattle.json_tree.specs.Tree.{Json, word, num, str, arr, obj, Items, nil, item, Got, got, on_leaf, node}
use Rattle.json_tree.specs.Tree.{items_at, group_at, depth, tree_at}
use Rattle.json_tree.specs.declared.Kind.{Kind}
use Rattle.json_tree.specs.declared.Kind.TheVariants.{Str, Num, Word}
use Rattle.json_tree.specs.declared.Start.{Start}
use Rattle.json_tree.specs.declared.Start.TheVariants.{Leaf, Empty, Many}
use Rattle.json_tree.proofs.Trees.{tree_open}
use Rattle.message.specs.declared.Element.{Element}
use Rattle.message.specs.declared.Element.TheVariants.{At, Ended, Broken}
use Rattle.shape.specs.Shape.{count_items, count}
use Rattle.message.specs.Lists.{start_element, open_within, next_of, up_to, elements_from, elements, places_of}
use Rattle.message.proofs.Walks.{never, bind_got, Walk, last, more, walk_of}

-- brackets or braces as they stand in the text: around nothing, or around items
pub data Group (s : List ℕ) (at : ℕ) (named : Bool) : Items → ℕ → Type 0 where
  hollow : {n : ℕ} → start_at s at ≡ Empty n named → Group s at named nil n
  filled : {i n : ℕ} {ts : Items} → start_at s at ≡ Many i named → Walk (tree_at s open_within) s named (length s) i ts n → Group s at named ts n

pub group_of : (s : List ℕ) (at : ℕ) (named : Bool) (ts : Items) (n : ℕ) → tree_at s depth at ≡ got (node named ts) n → Group s at named ts n
group_of s at named ts n e = on (start_at s at) refl (sym (tree_open s open_within at (start_at s at) refl) ∙ e)
  where
    node_is : (b c : Bool) (us vs : Items) {m k : ℕ} → got (node b us) m ≡ got (node c vs) k → (b ≡ c) × (us ≡ vs) × (m ≡ k)
    node_is true true us vs q = (refl, cc, cc)
    node_is true false us vs q = absurd (let z : ◌≡◌ {A = ℕ} 0 1 = cc in omega arith)
    node_is false true us vs q = absurd (let z : ◌≡◌ {A = ℕ} 0 1 = cc in omega arith)
    node_is false false us vs q = (refl, cc, cc)

    same : (b : Bool) (us : Items) {m : ℕ} → got (node b us) m ≡ got (node named ts) n → Group s at b us m → Group s at named ts n
    same b us q a = let (x, y, z) = node_is b named us ts q in rw (← x, ← y, ← z) a

    leaf : (b : Bool) (k : Option Kind) → on_leaf s at k ≡ got (node b ts) n → Group s at named ts n
    leaf true (Some (Str m)) q = absurd (let z : ◌≡◌ {A = ℕ} 0 1 = cc in omega arith)
    leaf false (Some (Str m)) q = absurd (let z : ◌≡◌ {A = ℕ} 0 1 = cc in omega arith)
    leaf true (Some (Num m)) q = absurd (let z : ◌≡◌ {A = ℕ} 0 1 = cc in omega arith)
    leaf false (Some (Num m)) q = absurd (let z : ◌≡◌ {A = ℕ} 0 1 = cc in omega arith)
    leaf true (Some (Word m)) q = absurd (let z : ◌≡◌ {A = ℕ} 0 1 = cc in omega arith)
    leaf false (Some (Word m)) q = absurd (let z : ◌≡◌ {A = ℕ} 0 1 = cc in omega arith)
    leaf b None q = never q

    on : (r : Start) → start_at s at ≡ r → group_at (tree_at s open_within) s at r ≡ got (node named ts) n → Group s at named ts n
    on Leaf p q = leaf named (scalar_at s at) q
    on (Empty m b) p q = same b nil q (hollow p)
    on (Many i b) p q =
        let (us, k, w, e₁) = bind_got (items_at (tree_at s open_within) s b (length s) i) _ q in
        same b us e₁ (filled p (walk_of (tree_at s open_within) s b (length s) i us k w))

pub up_to_ended : (f : ℕ) (s : List ℕ) → up_to f s Ended ≡ []
unfolding up_to
up_to_ended zero s = refl
up_to_ended (suc f) s = refl

pub up_to_broken : (f : ℕ) (s : List ℕ) → up_to f s Broken ≡ []
unfolding up_to
up_to_broken zero s = refl
up_to_broken (suc f) s = refl

-- the elements that a walk over an array's items passes, where the fuel is enough
pub walk_places : {s : List ℕ} {f i : ℕ} {ts : Items} {n : ℕ} (g : ℕ) → f ≤ g → Walk (tree_at s open_within) s false f i ts n → up_to g s (At i) ≡ places_of ts
unfolding up_to next_of
walk_places zero l (last h w q) = absurd (omega arith)
walk_places zero l (more h w q r) = absurd (omega arith)
walk_places {s} (suc g) l (last {i = i} {v = v} h w q) =
    let z : i ≡ v = cc in
    rw (z, up_to, w, q) (ap (λ (r : List ℕ). v ∷ r) (up_to_ended g s))
walk_places {s} (suc g) l (more {i = i} {v = v} h w q r) =
    let z : i ≡ v = cc in
    rw (z, up_to, w, q) (ap (λ (r : List ℕ). v ∷ r) (walk_places g (omega arith) r))

-- where an array stands, its elements are its items
pub elements_are : (s : List ℕ) (at : ℕ) (ts : Items) (n : ℕ) → tree_at s depth at ≡ got (arr ts) n → elements s at ≡ places_of ts
unfolding elements elements_from
elements_are s at ts n e = go (group_of s at false ts n e)
  where
    go : {us : Items} {m : ℕ} → Group s at false us m → up_to (length s) s (start_element (start_at s at)) ≡ places_of us
    go (hollow p) = rw p (up_to_ended (length s) s)
    go (filled p w) = rw p (walk_places (length s) (omega arith) w)

-- ---- each element is read at its place, and the next one follows it
abbrev pub first_place : Items → Element
first_place nil = Ended
first_place (item p v t ts) = At v

pub data Listing (s : List ℕ) : Items → Type 0 where
  end : Listing s nil
  one : {p v m : ℕ} {t : Json} {ts : Items} → tree_at s open_within v ≡ got t m → next_of s v ≡ first_place ts → Listing s ts → Listing s (item p v t ts)

pub walk_first : {value : ℕ → Got Json} {s : List ℕ} {f i : ℕ} {ts : Items} {n : ℕ} → Walk value s false f i ts n → At i ≡ first_place ts
walk_first (last h w q) = cc
walk_first (more h w q r) = cc

walk_listing : {s : List ℕ} {f i : ℕ} {ts : Items} {n : ℕ} → Walk (tree_at s open_within) s false f i ts n → Listing s ts
unfolding next_of
walk_listing {s} (last {v = v} h w q) = let e : next_of s v ≡ Ended = rw (w, q) in one w e end
walk_listing {s} (more {v = v} {ts = ts} h w q r) = let e : next_of s v ≡ first_place ts = rw (w, q) (walk_first r) in one w e (walk_listing r)

pub array_listing : {s : List ℕ} {at : ℕ} {ts : Items} {n : ℕ} → Group s at false ts n → (start_element (start_at s at) ≡ first_place ts) × Listing s ts
array_listing (hollow p) = (rw p, end)
array_listing (filled p w) = (rw p (walk_first w), walk_listing w)

-- ---- the first element by the value that stands at a place: Broken exactly where it is no array
abbrev pub first_in : Json → Element
first_in (word a n) = Broken
first_in (num a n) = Broken
first_in (str a n) = Broken
first_in (arr ts) = first_place ts
first_in (obj ts) = Broken

pub first_in_lem : (s : List ℕ) (d at : ℕ) (t : Json) (n : ℕ) → tree_at s (suc d) at ≡ got t n → start_element (start_at s at) ≡ first_in t
first_in_lem s d at t n e = on (start_at s at) (sym (tree_open s d at (start_at s at) refl) ∙ e)
  where
    same : (x : Element) (u : Json) (k : ℕ) → got u k ≡ got t n → x ≡ first_in u → x ≡ first_in t
    same x u k q h = let z : u ≡ t = cc in h ∙ ap first_in z

    leaf : (k : Option Kind) → on_leaf s at k ≡ got t n → Broken ≡ first_in t
    leaf (Some (Str m)) q = same _ _ _ q refl
    leaf (Some (Num m)) q = same _ _ _ q refl
    leaf (Some (Word m)) q = same _ _ _ q refl
    leaf None q = never q

    many : (i : ℕ) (named : Bool) (us : Items) (k : ℕ) → Walk (tree_at s d) s named (length s) i us k → got (node named us) k ≡ got t n → start_element (Many i named) ≡ first_in t
    many i true us k w q = same _ _ _ q refl
    many i false us k w q = same _ _ _ q (walk_first w)

    on : (r : Start) → group_at (tree_at s d) s at r ≡ got t n → start_element r ≡ first_in t
    on Leaf q = leaf (scalar_at s at) q
    on (Empty m true) q = same _ _ _ q refl
    on (Empty m false) q = same _ _ _ q refl
    on (Many i named) q =
        let (us, k, w, h) = bind_got (items_at (tree_at s d) s named (length s) i) _ q in
        many i named us k (walk_of (tree_at s d) s named (length s) i us k w) h

-- ---- a walk passes no more items than its fuel: an array has no more elements than the text has bytes
pub walk_few : {value : ℕ → Got Json} {s : List ℕ} {named : Bool} {f i : ℕ} {ts : Items} {n : ℕ} → Walk value s named f i ts n → count ts ≤ f
unfolding count_items
walk_few (last h w q) = omega arith
walk_few (more h w q r) = let k = walk_few r in omega (arith, k)

pub items_few : {s : List ℕ} {at : ℕ} {named : Bool} {ts : Items} {n : ℕ} → Group s at named ts n → count ts ≤ length s
unfolding count_items
items_few (hollow p) = omega arith
items_few (filled p w) = walk_few w
