-- A # condition over the tree: what the second string of a tag says, and the tags that are left while they are passed
-- one by one.
use Rattle.std.specs.Prelude.{Option, Some, None}
use mathlib.Core.Path.{◌≡◌, refl, sym, ap, ◌∙◌}
use mathlib.Core.Bool.{Bool, true, false, cond, not, ◌&&◌, ◌||◌}
use mathlib.Core.List.{List, [], ◌∷◌}
use Prim.Native.Nat.{ℕ, ◌+◌, ◌-◌, ◌≤◌}
use native.Mathlib.Omega.{arith}
use lib.ListN.{length}
use Rattle.wire.specs.Bytes.{part, same_bytes}
use Rattle.spell.specs.Spell.{chars_from, chars_bytes, decode}
use Rattle.json_tree.specs.Grammar.{case, string_at, start_at}
use Rattle.json_tree.specs.Tree.{Json, word, num, str, arr, obj, Items, nil, item, Got, none, got, depth, tree_at}
use Rattle.rows.specs.Strings.{spelled_at}
use Rattle.shape.specs.Shape.{count_items, count}
use Rattle.message.specs.Lists.{start_element, next_of}
use Rattle.message.specs.Lent.{is_tags_shape, on_value, value5}
use Rattle.message.proofs.Walks.{deeper}
use Rattle.message.proofs.Elements.{group_of, first_in, first_in_lem, items_few, Listing, one}
use Rattle.message.proofs.Elements.{array_listing}
use Rattle.event.specs.Lent.{string_of, strings_of, tag_of, tags_of, lent_tags_at}
use Rattle.event.proofs.Strings.{spelled_says}
use Rattle.law.specs.Lists.{any}
use Rattle.query.specs.Filter.{Condition}
use Rattle.query.specs.Match.{is_member, tag_fits, condition_holds}
use Rattle.matching.specs.Inner.Steps.{placed, asked, second_span, second_from, second_of, fits_by}
use Rattle.matching.proofs.matcher.Places.{first_left, all_left}

-- ---- the second string
module _ (b : List ℕ) (v : ℕ) (t : Json) (m : ℕ) (w : tree_at b 7 v ≡ got t m) where
  span_says : (ms : List (List ℕ)) → fits_by b ms (second_span b (Some v)) ≡ is_member ms (string_of b t)
  unfolding spelled_at decode chars_from chars_bytes
  span_says ms = go (string_at b v) refl ∙ ap (is_member ms) (spelled_says b v t m w)
    where
      go : (o : Option ℕ) → string_at b v ≡ o → fits_by b ms (case o (λ n. Some ((v + 1), (n - v - 2))) (Some (0, 0))) ≡ is_member ms (decode (spelled_at b v))
      go (Some n) e = rw e refl
      go None e = rw e refl

-- ---- a tag
cond_same : {A : Type 0} (b : Bool) (x : A) → cond b x x ≡ x
cond_same true x = refl
cond_same false x = refl

and_cond : (b c : Bool) (s : Option (ℕ × ℕ)) (d : List ℕ) (ms : List (List ℕ)) → fits_by d ms s ≡ c → (b && c) ≡ fits_by d ms (cond b s None)
and_cond true c s d ms e = sym e
and_cond false c s d ms e = refl

module _ (b : List ℕ) (x : ℕ) (ms : List (List ℕ)) where
  listed_fits : (ts : Items) → Listing b ts → tag_fits (asked x ms) (strings_of b ts) ≡ fits_by b ms (second_from b x (first_left ts))
  unfolding strings_of
  listed_fits nil l = refl
  listed_fits (item p i u nil) (one w n l) = rw (n, cond_same {A = Option (ℕ × ℕ)} (same_bytes (decode (spelled_at b i)) (x ∷ [])) None) refl
  listed_fits (item p i u (item q j v ts)) (one w n (one w₂ n₂ l)) =
      rw (n, spelled_says b i u _ w) (and_cond (same_bytes (string_of b u) (x ∷ [])) (is_member ms (string_of b v)) (second_span b (Some j)) b ms (span_says b j v _ w₂ ms))

  pub second_fits : (v : ℕ) (t : Json) (m : ℕ) → tree_at b 7 v ≡ got t m → tag_fits (asked x ms) (tag_of b t) ≡ fits_by b ms (second_of b v x)
  unfolding second_of
  second_fits v t m w = go t w ∙ ap (λ f. fits_by b ms (second_from b x f)) (sym (ap placed (first_in_lem b 6 v t m w)))
    where
      go : (t : Json) → tree_at b 7 v ≡ got t m → tag_fits (asked x ms) (tag_of b t) ≡ fits_by b ms (second_from b x (placed (first_in t)))
      go (word a n) w = refl
      go (num a n) w = refl
      go (str a n) w = refl
      go (arr ts) w = listed_fits ts (array_listing (group_of b v false ts m (deeper b 7 v (arr ts) m w))).1
      go (obj ts) w = refl

-- ---- the ways out of the function on a tag
module _ (b : List ℕ) (v l : ℕ) where
  pub second_at : {x y : Option ℕ} → x ≡ placed (start_element (start_at b v)) → x ≡ y → second_from b l y ≡ second_of b v l
  unfolding second_of
  second_at p q = ap (second_from b l) (sym q ∙ p)

module _ (b : List ℕ) (l : ℕ) where
  module _ (i : ℕ) (s : List ℕ) {r : Bool} (p : s ≡ spelled_at b i) (q : r ≡ same_bytes (decode s) (l ∷ [])) where
    told : r ≡ same_bytes (decode (spelled_at b i)) (l ∷ [])
    told = q ∙ ap (λ (y : List ℕ). same_bytes (decode y) (l ∷ [])) p

    pub name_no : r ≡ false → None ≡ second_from b l (Some i)
    name_no e = ap (λ (y : Bool). cond y (second_span b (placed (next_of b i))) None) (sym e ∙ told)

    pub name_yes : r ≡ true → second_span b (placed (next_of b i)) ≡ second_from b l (Some i)
    name_yes e = ap (λ (y : Bool). cond y (second_span b (placed (next_of b i))) None) (sym e ∙ told)

module _ (b : List ℕ) where
  pub span_at_lem : (i : ℕ) {x y : Option ℕ} → x ≡ placed (next_of b i) → x ≡ y → second_span b y ≡ second_span b (placed (next_of b i))
  span_at_lem i p q = ap (second_span b) (sym q ∙ p)

  pub span_is : (j : ℕ) {o p : Option ℕ} → o ≡ string_at b j → o ≡ p → case p (λ n. Some ((j + 1), (n - j - 2))) (Some (0, 0)) ≡ second_span b (Some j)
  span_is j p q = ap (λ (o : Option ℕ). case o (λ n. Some ((j + 1), (n - j - 2))) (Some (0, 0))) (sym q ∙ p)

-- what the answer says of the list
module _ (b : List ℕ) (v l : ℕ) where
  module _ (ms : List (List ℕ)) {r : Option (ℕ × ℕ)} (p : r ≡ second_of b v l) where
    pub fits_not : r ≡ None → fits_by b ms (second_of b v l) ≡ false
    fits_not q = ap (fits_by b ms) (sym p ∙ q)

    pub fits_is : {a n : ℕ} {w : List ℕ} → r ≡ Some (a, n) → w ≡ part b a n → fits_by b ms (second_of b v l) ≡ is_member ms (decode w)
    fits_is q e = ap (fits_by b ms) (sym p ∙ q) ∙ ap (λ (y : List ℕ). is_member ms (decode y)) (sym e)

-- ---- the tags that are left, after k of them
pub record Going (b : List ℕ) (tags : ℕ) (c : Condition) (k : ℕ) (x : Option ℕ) : Type 0 where
  pub us : Items
  pub listing : Listing b us
  pub here : x ≡ first_left us
  pub few : count us + k ≤ length b
  pub is : condition_holds (lent_tags_at b tags) c ≡ any (tag_fits c) (tags_of b us)

module _ (b : List ℕ) (tags : ℕ) (c : Condition) where
  pub going_start : value5 is_tags_shape b tags ≡ false → {x : Option ℕ} → x ≡ placed (start_element (start_at b tags)) → Going b tags c 0 x
  unfolding value5 lent_tags_at
  going_start e {x} z = go (tree_at b depth tags) refl e
    where
      array : (t : Json) (n : ℕ) → tree_at b depth tags ≡ got t n → not (is_tags_shape t) ≡ false → Going b tags c 0 x
      array (word a k) n w q = absurd (let y : ◌≡◌ {A = ℕ} 0 1 = cc in omega arith)
      array (num a k) n w q = absurd (let y : ◌≡◌ {A = ℕ} 0 1 = cc in omega arith)
      array (str a k) n w q = absurd (let y : ◌≡◌ {A = ℕ} 0 1 = cc in omega arith)
      array (obj ts) n w q = absurd (let y : ◌≡◌ {A = ℕ} 0 1 = cc in omega arith)
      array (arr ts) n w q =
          let g = group_of b tags false ts n w in
          let (f, l) = all_left g in
          record { us = ts; listing = l; here = z ∙ f; few = omega (arith, items_few g); is = rw w }

      go : (g : Got Json) → tree_at b depth tags ≡ g → not (on_value is_tags_shape g) ≡ false → Going b tags c 0 x
      go none w q = absurd (let y : ◌≡◌ {A = ℕ} 0 1 = cc in omega arith)
      go (got t n) w q = array t n w q

module _ {b : List ℕ} {tags : ℕ} {c : Condition} {k : ℕ} where
  pub going_none : {x : Option ℕ} → Going b tags c k x → x ≡ None → false ≡ condition_holds (lent_tags_at b tags) c
  unfolding tags_of
  going_none {x} g e = go g.us (sym g.here ∙ e) g.is
    where
      go : (us : Items) → first_left us ≡ None → condition_holds (lent_tags_at b tags) c ≡ any (tag_fits c) (tags_of b us) → false ≡ condition_holds (lent_tags_at b tags) c
      go nil q i = sym i
      go (item p v t ts) q i = absurd (let y : ◌≡◌ {A = ℕ} 0 1 = cc in omega arith)

  pub going_spent : {x : Option ℕ} → Going b tags c k x → length b ≤ k → false ≡ condition_holds (lent_tags_at b tags) c
  unfolding tags_of count_items
  going_spent {x} g h = go g.us g.few g.is
    where
      go : (us : Items) → count us + k ≤ length b → condition_holds (lent_tags_at b tags) c ≡ any (tag_fits c) (tags_of b us) → false ≡ condition_holds (lent_tags_at b tags) c
      go nil q i = sym i
      go (item p v t ts) q i = absurd (omega arith)

  -- one tag: it fits, or the others are left
  module _ {x : Option ℕ} {v : ℕ} (g : Going b tags c k x) (e : x ≡ Some v) where
    pub going_hit : fits_by b c.members (second_of b v c.letter) ≡ true → true ≡ condition_holds (lent_tags_at b tags) c
    unfolding tags_of
    going_hit f = go g.us g.listing (sym g.here ∙ e) g.is
      where
        go : (us : Items) → Listing b us → first_left us ≡ Some v → condition_holds (lent_tags_at b tags) c ≡ any (tag_fits c) (tags_of b us) → true ≡ condition_holds (lent_tags_at b tags) c
        go nil l q i = absurd (let y : ◌≡◌ {A = ℕ} 0 1 = cc in omega arith)
        go (item p w t ts) (one a n l) q i =
            let z : w ≡ v = cc in
            let h = second_fits b c.letter c.members w t _ a ∙ ap (λ y. fits_by b c.members (second_of b y c.letter)) z ∙ f in
            sym (i ∙ ap (λ y. y || any (tag_fits c) (tags_of b ts)) h)

    pub going_miss : {y : Option ℕ} → y ≡ placed (next_of b v) → fits_by b c.members (second_of b v c.letter) ≡ false → Going b tags c (k + 1) y
    unfolding tags_of count_items
    going_miss {y} m f = go g.us g.listing (sym g.here ∙ e) g.few g.is
      where
        go : (us : Items) → Listing b us → first_left us ≡ Some v → count us + k ≤ length b → condition_holds (lent_tags_at b tags) c ≡ any (tag_fits c) (tags_of b us) → Going b tags c (k + 1) y
        go nil l q s i = absurd (let z : ◌≡◌ {A = ℕ} 0 1 = cc in omega arith)
        go (item p w t ts) (one a n l) q s i =
            let z : w ≡ v = cc in
            let h = second_fits b c.letter c.members w t _ a ∙ ap (λ y. fits_by b c.members (second_of b y c.letter)) z ∙ f in
            record { us = ts; listing = l; here = m ∙ ap (λ y. placed (next_of b y)) (sym z) ∙ ap placed n; few = omega arith; is = i ∙ ap (λ y. y || any (tag_fits c) (tags_of b ts)) h }
