-- Every number and string of a tree stands in the text where its item says: so the places that break a row are places
-- of numbers, or of strings, and lie within the text.
use Rattle.std.specs.Prelude.{Option, Some, None}
use mathlib.Core.Path.{◌≡◌, refl, sym, ◌∙◌}
use mathlib.Core.List.{List, [], ◌∷◌, ◌++◌}
use mathlib.Core.Bool.{Bool, true, false, cond}
use Prim.Native.Nat.{ℕ, zero, suc, ◌+◌, ◌-◌, ◌≤◌, ◌<◌}
use native.Mathlib.Omega.{arith}
use lib.Dec.{ltb}
use lib.ListN.{length, get_or}
use borrow.Author.Tests.{ltb-true, ltb-false}
use Rattle.json_tree.specs.Grammar.{case, in_class, one_at, word_at, literal_at, digits_at, int_at, number_at, string_at, scalar_at}
use Rattle.json_tree.specs.Grammar.{start_at, head_at, next_at}
use Rattle.json_tree.specs.Tree.{Json, word, num, str, arr, obj, Items, nil, item, Got, none, got, bind, follow, node, on_leaf}
use Rattle.json_tree.specs.Tree.{of_array, of_object, items_at, group_at, tree_at}
use Rattle.json_tree.specs.declared.Class.{Class}
use Rattle.json_tree.specs.declared.Class.TheVariants.{Digit, Byte}
use Rattle.json_tree.specs.declared.Kind.{Kind}
use Rattle.json_tree.specs.declared.Kind.TheVariants.{Str, Num, Word}
use Rattle.json_tree.specs.declared.Start.{Start}
use Rattle.json_tree.specs.declared.Start.TheVariants.{Leaf, Empty, Many}
use Rattle.json_tree.specs.declared.Next.{Next}
use Rattle.json_tree.specs.declared.Next.TheVariants.{More, Done, Wrong}
use Rattle.json_tree.proofs.Bytes.{class_within}
use Rattle.json_tree.proofs.Trees.{tree_open, value_flat}
use Rattle.shape.specs.Shape.{Word as TheWord, event, req, close, other}
use Rattle.shape.specs.Offsets.{collect, value_places, member_places, message_places}
use Rattle.shape.proofs.Names.{no}

-- ---- what begins with a byte that a rule takes begins within the text
module _ (s : List ℕ) (at : ℕ) where
  past_end : length s ≤ at → (class : Class) → in_class class 0 ≡ false → one_at s class at ≡ None
  unfolding one_at
  past_end h class z = go (in_class class (get_or s at 0)) refl
    where
      go : (b : Bool) → in_class class (get_or s at 0) ≡ b → cond b (Some (at + 1)) None ≡ None
      go true q = let w = class_within class s at z q in absurd (omega arith)
      go false q = refl

  no_scalar : length s ≤ at → scalar_at s at ≡ None
  unfolding scalar_at string_at number_at int_at digits_at literal_at word_at in_class
  no_scalar h =
      simp (
        past_end h (Byte 0x22) refl,
        past_end h (Byte 0x2D) refl,
        past_end h (Byte 0x30) refl,
        past_end h Digit refl,
        past_end h (Byte 0x66) refl,
        past_end h (Byte 0x6E) refl,
        past_end h (Byte 0x74) refl,
      )

  pub scalar_within : {k : Option Kind} → scalar_at s at ≡ k → (k ≡ None → ⊥) → at < length s
  scalar_within {k} e n = go (ltb at (length s)) refl
    where
      go : (b : Bool) → ltb at (length s) ≡ b → at < length s
      go true q = ltb-true at (length s) q
      go false q = absurd (n (sym e ∙ no_scalar (ltb-false at (length s) q)))

-- ---- the tree
mutual
  -- t, which is read at v
  pub data Stands (s : List ℕ) : ℕ → Json → Type 0 where
    a_word : {v a n : ℕ} → Stands s v (word a n)
    a_number : {v a n k : ℕ} → scalar_at s v ≡ Some (Num k) → Stands s v (num a n)
    a_string : {v a n k : ℕ} → scalar_at s v ≡ Some (Str k) → Stands s v (str a n)
    an_array : {v : ℕ} {ts : Items} → AllStand s ts → Stands s v (arr ts)
    an_object : {v : ℕ} {ts : Items} → AllStand s ts → Stands s v (obj ts)

  pub data AllStand (s : List ℕ) : Items → Type 0 where
    no_more : AllStand s nil
    one_more : {p v : ℕ} {t : Json} {ts : Items} → Stands s v t → AllStand s ts → AllStand s (item p v t ts)

module _ (s : List ℕ) where
  leaf_stands : (at : ℕ) {t : Json} {n : ℕ} → on_leaf s at (scalar_at s at) ≡ got t n → Stands s at t
  leaf_stands at {t} {n} e = go (scalar_at s at) refl e
    where
      go : (k : Option Kind) → scalar_at s at ≡ k → on_leaf s at k ≡ got t n → Stands s at t
      go (Some (Str m)) q w = let z : str (at + 1) (m - at - 2) ≡ t = cc in rw (← z) (a_string q)
      go (Some (Num m)) q w = let z : num at (m - at) ≡ t = cc in rw (← z) (a_number q)
      go (Some (Word m)) q w = let z : word at (m - at) ≡ t = cc in rw (← z) a_word
      go None q w = no cc

  module _ (value : ℕ → Got Json) (inner : (v : ℕ) (t : Json) (n : ℕ) → value v ≡ got t n → Stands s v t) where
    items_stand : (named : Bool) (f i : ℕ) {ts : Items} {n : ℕ} → items_at value s named f i ≡ got ts n → AllStand s ts
    unfolding items_at
    items_stand named zero i e = no cc
    items_stand named (suc f) i {ts} {n} e = head (head_at s i named) (λ j us m q. items_stand named f j q) e
      where
        next : ((j : ℕ) (us : Items) (m : ℕ) → items_at value s named f j ≡ got us m → AllStand s us) → (v : ℕ) (t : Json) → Stands s v t → (x : Next)
            → follow (item i v t) x (items_at value s named f) ≡ got ts n → AllStand s ts
        next ih v t h (More j) w = more (items_at value s named f j) refl w
          where
            more : (g : Got Items) → items_at value s named f j ≡ g → (bind g λ us m. got (item i v t us) m) ≡ got ts n → AllStand s ts
            more none q w = no cc
            more (got us m) q w = let z : item i v t us ≡ ts = cc in rw (← z) (one_more h (ih j us m q))
        next ih v t h (Done j) w = let z : item i v t nil ≡ ts = cc in rw (← z) (one_more h no_more)
        next ih v t h Wrong w = no cc

        body : ((j : ℕ) (us : Items) (m : ℕ) → items_at value s named f j ≡ got us m → AllStand s us) → (v : ℕ) (g : Got Json) → value v ≡ g
            → (bind g λ t m. follow (item i v t) (next_at s m named) (items_at value s named f)) ≡ got ts n → AllStand s ts
        body ih v none q w = no cc
        body ih v (got t m) q w = next ih v t (inner v t m q) (next_at s m named) w

        head : (o : Option ℕ) → ((j : ℕ) (us : Items) (m : ℕ) → items_at value s named f j ≡ got us m → AllStand s us)
            → case o (λ v. bind (value v) λ t m. follow (item i v t) (next_at s m named) (items_at value s named f)) none ≡ got ts n → AllStand s ts
        head (Some v) ih w = body ih v (value v) refl w
        head None ih w = no cc

  pub tree_stands : (d at : ℕ) {t : Json} {n : ℕ} → tree_at s d at ≡ got t n → Stands s at t
  tree_stands zero at e = leaf_stands at (value_flat s zero at refl ∙ e)
  tree_stands (suc d) at {t} {n} e = go (start_at s at) (λ v u m q. tree_stands d v q) (sym (tree_open s d at (start_at s at) refl) ∙ e)
    where
      group : (named : Bool) {ts : Items} → AllStand s ts → Stands s at (node named ts)
      group true h = an_object h
      group false h = an_array h

      many : ((v : ℕ) (u : Json) (m : ℕ) → tree_at s d v ≡ got u m → Stands s v u) → (named : Bool) (i : ℕ) (g : Got Items) → items_at (tree_at s d) s named (length s) i ≡ g → (bind g λ ts m. got (node named ts) m) ≡ got t n → Stands s at t
      many ih named i none q w = no cc
      many ih named i (got ts m) q w = let z : node named ts ≡ t = cc in rw (← z) (group named (items_stand (tree_at s d) ih named (length s) i q))

      go : (r : Start) → ((v : ℕ) (u : Json) (m : ℕ) → tree_at s d v ≡ got u m → Stands s v u) → group_at (tree_at s d) s at r ≡ got t n → Stands s at t
      go Leaf ih w = leaf_stands at w
      go (Empty m named) ih w = let z : node named nil ≡ t = cc in rw (← z) (group named no_more)
      go (Many i named) ih w = many ih named i (items_at (tree_at s d) s named (length s) i) refl w

-- ---- what holds of each of some places
abbrev pub Each : (ℕ → Type 0) → List ℕ → Type 0
Each P [] = Unit {0}
Each P (p ∷ ps) = P p × Each P ps

each_both : (P : ℕ → Type 0) (c d : List ℕ) → Each P c → Each P d → Each P (c ++ d)
each_both P [] d h k = k
each_both P (p ∷ c) d (h, hs) k = (h, each_both P c d hs k)

-- P holds where a leaf stands, of a sort of leaves; f and g tell only of these, and f of lists
module _ (s : List ℕ) (P : ℕ → Type 0) (leaf : Json → Bool) (at_leaf : (v : ℕ) (t : Json) → leaf t ≡ true → Stands s v t → P v) where
  module _ (h : ℕ → ℕ → Json → List ℕ) (inner : (p v : ℕ) (t : Json) → Stands s v t → Each P (h p v t)) where
    each_collect : (ts : Items) → AllStand s ts → Each P (collect h ts)
    unfolding collect
    each_collect nil w = tt
    each_collect (item p v t ts) (one_more w ws) = each_both P (h p v t) (collect h ts) (inner p v t w) (each_collect ts ws)

  module _ (f : ℕ → Json → Bool) (g : Json → Bool) (only-f : (p : ℕ) (t : Json) → f p t ≡ true → of_array (leaf t) (λ ts. true) t ≡ true) (only-g : (t : Json) → g t ≡ true → leaf t ≡ true) where
    one_leaf : (v : ℕ) (t : Json) (x : Bool) → (x ≡ true → leaf t ≡ true) → Stands s v t → Each P (cond x (v ∷ []) [])
    one_leaf v t true e w = (at_leaf v t (e refl) w, tt)
    one_leaf v t false e w = tt

    each_value : (v : ℕ) (t : Json) → of_array (leaf t) (λ ts. true) t ≡ true → Stands s v t → Each P (value_places g v t)
    each_value v (word a n) e w = (at_leaf v (word a n) e w, tt)
    each_value v (num a n) e w = (at_leaf v (num a n) e w, tt)
    each_value v (str a n) e w = (at_leaf v (str a n) e w, tt)
    each_value v (arr ts) e (an_array w) = each_collect _ (λ q x u k. one_leaf x u (g u) (only-g u) k) ts w
    each_value v (obj ts) e w = (at_leaf v (obj ts) e w, tt)

    each_member : (p v : ℕ) (t : Json) → Stands s v t → Each P (cond (f p t) (value_places g v t) [])
    each_member p v t w = go (f p t) refl
      where
        go : (x : Bool) → f p t ≡ x → Each P (cond x (value_places g v t) [])
        go true q = each_value v t (only-f p t q) w
        go false q = tt

    pub each_object : (v : ℕ) (t : Json) → Stands s v t → Each P (of_object [] (member_places f g) t)
    each_object v (word a n) w = tt
    each_object v (num a n) w = tt
    each_object v (str a n) w = tt
    each_object v (arr ts) w = tt
    each_object v (obj ts) (an_object w) = each_collect _ each_member ts w

  pub each_message : (e f : Items → List ℕ) → ((v : ℕ) (t : Json) → Stands s v t → Each P (of_object [] e t)) → ((v : ℕ) (t : Json) → Stands s v t → Each P (of_object [] f t))
      → (x : TheWord) (ts : Items) → AllStand s ts → Each P (message_places e f x ts)
  each_message e f h k event ts w = each_collect _ (λ p v t y. h v t y) ts w
  each_message e f h k req nil w = tt
  each_message e f h k req (item p v t ts) (one_more y w) = each_collect _ (λ p v t y. k v t y) ts w
  each_message e f h k close ts w = tt
  each_message e f h k other ts w = tt
