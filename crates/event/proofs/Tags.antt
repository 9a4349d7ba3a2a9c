-- A tag and the tags by what begins at their place; the text of what is no array.
use Rattle.std.specs.Prelude.{Option, Some, None}
use mathlib.Core.Path.{◌≡◌, refl, sym, ap, ◌∙◌}
use mathlib.Core.Bool.{true, false}
use mathlib.Core.List.{List, [], ◌∷◌}
use Prim.Native.Nat.{ℕ, suc}
use native.Mathlib.Omega.{arith}
use lib.ListN.{length}
use Rattle.json_tree.specs.Grammar.{case, scalar_at, start_at}
use Rattle.json_tree.specs.Tree.{Json, arr, obj, Items, Got, none, got, end_of, bind, on_leaf, items_at, group_at, tree_at}
use Rattle.json_tree.specs.declared.Kind.{Kind}
use Rattle.json_tree.specs.declared.Kind.TheVariants.{Str, Num, Word}
use Rattle.json_tree.specs.declared.Start.{Start}
use Rattle.json_tree.specs.declared.Start.TheVariants.{Leaf, Empty, Many}
use Rattle.json_tree.proofs.Trees.{tree_open}
use Rattle.text.specs.Event.{members_text, tag_text, tags_text}
use Rattle.message.proofs.Walks.{never, bind_got}
use Rattle.event.specs.Lent.{strings_of, tag_of, tags_of, tags_in, lent_tags_at}
use Rattle.event.specs.Inner.{Does, string_text, strings_text, one_tag_text, all_tags_text, first_out, first_tag, Printer}
use Rattle.event.proofs.Walks.{Chains}

-- ---- the two printers
pub strings_printer : (b : List ℕ) → Printer (string_text b) (strings_text b)
unfolding string_text strings_text strings_of members_text
strings_printer b = record { last_is = λ p v t. refl; more_is = λ p v t q w u us. refl }

pub tags_printer : (b : List ℕ) → Printer (one_tag_text b) (all_tags_text b)
unfolding one_tag_text all_tags_text tags_of members_text
tags_printer b = record { last_is = λ p v t. refl; more_is = λ p v t q w u us. refl }

-- ---- a tag
-- an array of some items begins there, or none
begins : (r : Start) (first : ℕ) → first_out r ≡ Some first → r ≡ Many first false
begins Leaf first e = absurd (let z : ◌≡◌ {A = ℕ} 0 1 = cc in omega arith)
begins (Empty n named) first e = absurd (let z : ◌≡◌ {A = ℕ} 0 1 = cc in omega arith)
begins (Many i true) first e = absurd (let z : ◌≡◌ {A = ℕ} 0 1 = cc in omega arith)
begins (Many i false) first e = let z : i ≡ first = cc in rw z

module _ (b : List ℕ) (t : Json) (n : ℕ) where
  same : (u : Json) (m : ℕ) → got u m ≡ got t n → tag_of b u ≡ [] → tag_of b t ≡ []
  same u m e q = let z : u ≡ t = cc in rw (← z) q

  no_tag : (d v : ℕ) → first_out (start_at b v) ≡ None → tree_at b (suc d) v ≡ got t n → tag_of b t ≡ []
  unfolding strings_of
  no_tag d v e w = on (start_at b v) e (sym (tree_open b d v (start_at b v) refl) ∙ w)
    where
      leaf : (k : Option Kind) → on_leaf b v k ≡ got t n → tag_of b t ≡ []
      leaf (Some (Str m)) q = same _ _ q refl
      leaf (Some (Num m)) q = same _ _ q refl
      leaf (Some (Word m)) q = same _ _ q refl
      leaf None q = never q

      on : (r : Start) → first_out r ≡ None → group_at (tree_at b d) b v r ≡ got t n → tag_of b t ≡ []
      on Leaf f q = leaf (scalar_at b v) q
      on (Empty m true) f q = same _ _ q refl
      on (Empty m false) f q = same _ _ q refl
      on (Many i true) f q = let (us, m, g, h) = bind_got (items_at (tree_at b d) b true (length b) i) _ q in same _ _ h refl
      on (Many i false) f q = absurd (let z : ◌≡◌ {A = ℕ} 0 1 = cc in omega arith)

module _ {S : Type 0} {does : S → List ℕ → S → Type 0} (b : List ℕ) (v : ℕ) {x y : S} {next : ℕ} where
  pub tag_bare : first_out (start_at b v) ≡ None → does x (91 ∷ 93 ∷ []) y → next ≡ case (end_of (tree_at b 7 v)) (λ n. n) v → Does does (tree_at b 7 v) (one_tag_text b) x y next
  unfolding one_tag_text tag_text members_text
  tag_bare e p q = record { done = λ t m w. rw (no_tag b t m 6 v e w) p; ends = λ t m w. q ∙ rw w }

  pub tag_many : {first : ℕ} {x₁ : S} → Chains does → first_out (start_at b v) ≡ Some first → does x (91 ∷ []) x₁
      → Does does (items_at (tree_at b 6) b false (length b) first) (strings_text b) x₁ y next → Does does (tree_at b 7 v) (one_tag_text b) x y next
  unfolding one_tag_text strings_text tag_text
  tag_many {first} {x₁} chain f p w = record { done = λ t m q. fst t m (opened t m q); ends = λ t m q. snd t m (opened t m q) }
    where
      opened : (t : Json) (m : ℕ) → tree_at b 7 v ≡ got t m → (bind (items_at (tree_at b 6) b false (length b) first) λ us k. got (arr us) k) ≡ got t m
      opened t m q = sym (tree_open b 6 v (Many first false) (sym (begins (start_at b v) first f))) ∙ q

      fst : (t : Json) (m : ℕ) → (bind (items_at (tree_at b 6) b false (length b) first) λ us k. got (arr us) k) ≡ got t m → does x (tag_text (tag_of b t)) y
      fst t m q =
          let (us, k, g, h) = bind_got (items_at (tree_at b 6) b false (length b) first) _ q in
          let z : arr us ≡ t = cc in
          rw (← z) (chain.then p (w.done us k g))

      snd : (t : Json) (m : ℕ) → (bind (items_at (tree_at b 6) b false (length b) first) λ us k. got (arr us) k) ≡ got t m → next ≡ m
      snd t m q =
          let (us, k, g, h) = bind_got (items_at (tree_at b 6) b false (length b) first) _ q in
          let z : k ≡ m = cc in
          w.ends us k g ∙ z

-- ---- the tags
module _ (b : List ℕ) (at : ℕ) where
  opened : lent_tags_at b at ≡ tags_in b (group_at (tree_at b 7) b at (start_at b at))
  unfolding lent_tags_at
  opened = ap (tags_in b) (tree_open b 7 at (start_at b at) refl)

  first_opened : first_tag b at ≡ case (end_of (group_at (tree_at b 7) b at (start_at b at))) (λ n. first_out (start_at b at)) None
  unfolding first_tag
  first_opened = ap (λ (g : Got Json). case (end_of g) (λ n. first_out (start_at b at)) None) (tree_open b 7 at (start_at b at) refl)

  pub tags_none : first_tag b at ≡ None → lent_tags_at b at ≡ []
  unfolding tags_of
  tags_none e = opened ∙ on (start_at b at) (sym first_opened ∙ e)
    where
      leaf : (k : Option Kind) → tags_in b (on_leaf b at k) ≡ []
      leaf (Some (Str m)) = refl
      leaf (Some (Num m)) = refl
      leaf (Some (Word m)) = refl
      leaf None = refl

      object : (g : Got Items) → tags_in b (bind g λ us k. got (obj us) k) ≡ []
      object none = refl
      object (got us k) = refl

      array : (i : ℕ) (g : Got Items) → case (end_of (bind g λ us k. got (arr us) k)) (λ n. Some i) None ≡ None → tags_in b (bind g λ us k. got (arr us) k) ≡ []
      array i none q = refl
      array i (got us k) q = absurd (let z : ◌≡◌ {A = ℕ} 0 1 = cc in omega arith)

      on : (r : Start) → case (end_of (group_at (tree_at b 7) b at r)) (λ n. first_out r) None ≡ None → tags_in b (group_at (tree_at b 7) b at r) ≡ []
      on Leaf q = leaf (scalar_at b at)
      on (Empty m true) q = refl
      on (Empty m false) q = refl
      on (Many i true) q = object (items_at (tree_at b 7) b true (length b) i)
      on (Many i false) q = array i (items_at (tree_at b 7) b false (length b) i) q

  -- the items from the first on
  pub record Tagged (first : ℕ) : Type 0 where
    pub items : Items
    pub end : ℕ
    pub there : items_at (tree_at b 7) b false (length b) first ≡ got items end
    pub are : lent_tags_at b at ≡ tags_of b items

  pub tags_some : {first : ℕ} → first_tag b at ≡ Some first → Tagged first
  tags_some {first} e = on (start_at b at) opened (sym first_opened ∙ e)
    where
      leaf : {A : Type 0} (o : Option ℕ) → case o (λ n. None) None ≡ Some first → A
      leaf (Some n) q = absurd (let z : ◌≡◌ {A = ℕ} 0 1 = cc in omega arith)
      leaf None q = absurd (let z : ◌≡◌ {A = ℕ} 0 1 = cc in omega arith)

      array : (i : ℕ) (g : Got Items) → items_at (tree_at b 7) b false (length b) i ≡ g → lent_tags_at b at ≡ tags_in b (bind g λ us k. got (arr us) k)
          → case (end_of (bind g λ us k. got (arr us) k)) (λ n. Some i) None ≡ Some first → Tagged first
      array i none w a q = absurd (let z : ◌≡◌ {A = ℕ} 0 1 = cc in omega arith)
      array i (got us k) w a q = let z : i ≡ first = cc in record { items = us; end = k; there = rw z at w; are = a }

      on : (r : Start) → lent_tags_at b at ≡ tags_in b (group_at (tree_at b 7) b at r) → case (end_of (group_at (tree_at b 7) b at r)) (λ n. first_out r) None ≡ Some first → Tagged first
      on Leaf a q = leaf (end_of (on_leaf b at (scalar_at b at))) q
      on (Empty m true) a q = absurd (let z : ◌≡◌ {A = ℕ} 0 1 = cc in omega arith)
      on (Empty m false) a q = absurd (let z : ◌≡◌ {A = ℕ} 0 1 = cc in omega arith)
      on (Many i true) a q = leaf (end_of (bind (items_at (tree_at b 7) b true (length b) i) λ us k. got (obj us) k)) q
      on (Many i false) a q = array i (items_at (tree_at b 7) b false (length b) i) refl a q

module _ {S : Type 0} (does : S → List ℕ → S → Type 0) (b : List ℕ) (v : ℕ) {x y : S} where
  pub no_tags : first_tag b v ≡ None → does x (91 ∷ 93 ∷ []) y → does x (tags_text (lent_tags_at b v)) y
  unfolding tags_text members_text
  no_tags e p = rw (tags_none b v e) p

  pub some_tags : {first next : ℕ} {x₁ : S} → Chains does → first_tag b v ≡ Some first → does x (91 ∷ []) x₁
      → Does does (items_at (tree_at b 7) b false (length b) first) (all_tags_text b) x₁ y next → does x (tags_text (lent_tags_at b v)) y
  unfolding tags_text all_tags_text
  some_tags chain e p w = let g = tags_some b v e in rw g.are (chain.then p (w.done g.items g.end g.there))
