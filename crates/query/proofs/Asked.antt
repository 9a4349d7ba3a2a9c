-- What #e and #p ask for is hex: the claim of specs/Claims, "what a filter may ask". A condition is a member of the
-- filter's object, named by its letter, and row 7 looks at each string of its list.
use Rattle.std.specs.Prelude.{Option, Some, None}
use mathlib.Core.Path.{◌≡◌, refl, sym, ap, ◌∙◌}
use mathlib.Core.Bool.{Bool, true, false, cond, not, false≢true}
use mathlib.Core.Logic.{◌⊎◌, inl, inr, ⊎_elim}
use mathlib.Core.List.Memᴰ
use mathlib.Core.List.{List, [], ◌∷◌}
use Prim.Native.Nat.{ℕ}
use borrow.Author.Tests.{eqb-true, not-false}
use lib.Dec.{eqb}
use lib.ListN.{length, get_or}
use Rattle.wire.specs.Bytes.{same_bytes}
use Rattle.wire.specs.Limits.{hex_length}
use Rattle.spell.specs.Spell.{decode, is_hex_of}
use Rattle.json_tree.specs.Tree.{Json, word, num, str, arr, obj, Items, nil, item, Got, none, got, depth, tree_at, on_object}
use Rattle.rows.specs.Strings.{part}
use Rattle.shape.specs.Shape.{any_item, all_items, name_at, is_string, is_condition, filter_member, is_filter}
use Rattle.shape.specs.Rows.{wrong_hex, wrong_hexes, filter_hex, filter_counts}
use Rattle.shape.proofs.Names as names
use Rattle.message.specs.Parts.{members_got, members_at}
use Rattle.message.specs.Lent.{on_value, value5}
use Rattle.message.proofs.Facts.{and_true, or_not, In, here, later, any_in}
use Rattle.message.proofs.Checked.{ListOf, FilterIs, conditions_are, condition_is}
use Rattle.event.specs.Lent.{string_of, strings_of, tag_of}
use Rattle.law.specs.Lists.{◌∈◌}
use Rattle.query.specs.Filter.{Condition, conditions_of, conditions_in, filter_of}
use Rattle.query.specs.Claims.{IsHex64, HexAsked}

-- the member of an object that a condition is
record Found (b : List ℕ) (ts : Items) (c : Condition) : Type 0 where
  name : ℕ
  place : ℕ
  value : Json
  inside : In name place value ts
  named : is_condition (name_at b name) ≡ true
  letter : c.letter ≡ get_or (name_at b name) 1 0
  members : c.members ≡ tag_of b value

module _ (b : List ℕ) where
  -- ---- a list of strings of which row 7 refuses none
  string_hex : (t : Json) → is_string t ≡ true → wrong_hex hex_length b t ≡ false → IsHex64 (string_of b t)
  unfolding wrong_hex is_hex_of
  string_hex (word a n) s h = absurd (false≢true s)
  string_hex (num a n) s h = absurd (false≢true s)
  string_hex (str a n) s h =
      let (l, c) = and_true (eqb (length (decode (part b a n))) hex_length) _ (not-false _ h) in
      (eqb-true (length (decode (part b a n))) hex_length l, c)
  string_hex (arr ts) s h = absurd (false≢true s)
  string_hex (obj ts) s h = absurd (false≢true s)

  strings_hex : (ts : Items) → all_items (λ q u. is_string u) ts ≡ true → any_item (λ q u. wrong_hex hex_length b u) ts ≡ false → (v : List ℕ) → v ∈ strings_of b ts → IsHex64 v
  unfolding strings_of all_items any_item
  strings_hex nil a h v m = absurd (Memᴰ.not-nil m)
  strings_hex (item p w t ts) a h v m =
      let (s, a) = and_true (is_string t) _ a in
      let (x, h) = or_not (wrong_hex hex_length b t) _ h in
      ⊎_elim (λ e. rw e (string_hex t s x)) (strings_hex ts a h v) (Memᴰ.cases_cons m)

  list_hex : (t : Json) → ListOf is_string (λ u. false) t → wrong_hexes b t ≡ false → (v : List ℕ) → v ∈ tag_of b t → IsHex64 v
  list_hex t l h v m = strings_hex l.items l.each (rw l.is at h) v (rw l.is at m)

  -- ---- a condition's member, and its name
  found : (ts : Items) (c : Condition) → c ∈ conditions_of b ts → Found b ts c
  found nil c m = absurd (Memᴰ.not-nil m)
  found (item p v t ts) c m = go (is_condition (name_at b p)) refl m λ n. found ts c n
    where
      wider : Found b ts c → Found b (item p v t ts) c
      wider f = record { name = f.name; place = f.place; value = f.value; inside = later f.inside; named = f.named; letter = f.letter; members = f.members }

      go : (x : Bool) → is_condition (name_at b p) ≡ x → c ∈ cond x (record { letter = get_or (name_at b p) 1 0; members = tag_of b t } ∷ conditions_of b ts) (conditions_of b ts)
          → (c ∈ conditions_of b ts → Found b ts c) → Found b (item p v t ts) c
      go true e m rest =
          ⊎_elim (λ z. record { name = p; place = v; value = t; inside = here; named = e; letter = ap (λ (d : Condition). d.letter) z; members = ap (λ (d : Condition). d.members) z })
          (λ n. wider (rest n)) (Memᴰ.cases_cons m)
      go false e m rest = wider (rest m)

  named_hex : (q x : ℕ) (t : Json) → name_at b q ≡ 35 ∷ x ∷ [] → (x ≡ 101) ⊎ (x ≡ 112) → filter_hex b q t ≡ false → wrong_hexes b t ≡ false
  unfolding filter_hex same_bytes
  named_hex q x t i (inl e) h = rw (i, e) at h
  named_hex q x t i (inr e) h = rw (i, e) at h

  -- ---- the object at a place
  object_hex : (ts : Items) → all_items (filter_member b) ts ≡ true → any_item (filter_hex b) ts ≡ false → filter_counts b ts ≡ false → (c : Condition) → c ∈ conditions_of b ts
      → (c.letter ≡ 101) ⊎ (c.letter ≡ 112) → (v : List ℕ) → v ∈ c.members → IsHex64 v
  object_hex ts a h k c m l v n =
      let f = found ts c m in
      let i = (names.condition_is (name_at b f.name) f.named).0 ∙ ap (λ (x : ℕ). 35 ∷ x ∷ []) (sym f.letter) in
      list_hex f.value (condition_is b a k f.inside f.named) (named_hex f.name c.letter f.value i l (any_in (filter_hex b) h f.inside)) v (rw f.members at n)

  place_hex : (v : ℕ) → FilterIs b v → (c : Condition) → c ∈ conditions_of b (members_at b v) → (c.letter ≡ 101) ⊎ (c.letter ≡ 112) → (w : List ℕ) → w ∈ c.members → IsHex64 w
  unfolding members_at value5 is_filter
  place_hex v f = go (tree_at b depth v) f.o5 f.o7 f.o8
    where
      go : (r : Got Json) → not (on_value (is_filter b) r) ≡ false → on_value (on_object (any_item (filter_hex b))) r ≡ false → on_value (on_object (filter_counts b)) r ≡ false
          → (c : Condition) → c ∈ conditions_of b (members_got r) → (c.letter ≡ 101) ⊎ (c.letter ≡ 112) → (w : List ℕ) → w ∈ c.members → IsHex64 w
      go none a h k = absurd (false≢true (sym a))
      go (got (word x n) e) a h k = absurd (false≢true (sym a))
      go (got (num x n) e) a h k = absurd (false≢true (sym a))
      go (got (str x n) e) a h k = absurd (false≢true (sym a))
      go (got (arr ts) e) a h k = absurd (false≢true (sym a))
      go (got (obj ts) e) a h k = object_hex ts (and_true (all_items (filter_member b) ts) _ (not-false _ a)).0 h k

pub hex_asked : HexAsked
unfolding filter_of
hex_asked b p e = go p.conditions refl
  where
    go : (x : Option ℕ) → p.conditions ≡ x → (c : Condition) → c ∈ conditions_in b x → (c.letter ≡ 101) ⊎ (c.letter ≡ 112) → (v : List ℕ) → v ∈ c.members → IsHex64 v
    go None q = λ c m. absurd (Memᴰ.not-nil m)
    go (Some v) q = place_hex b v (conditions_are b p e q)
