-- What the rows of lent parts say of an event's tags and of a filter's lists, where none holds: for whoever reads them.
use Rattle.std.specs.Prelude.{Option, Some}
use mathlib.Core.Path.{◌≡◌, refl, sym, ap, ◌∙◌}
use mathlib.Core.Bool.{Bool, true, false, ◌||◌, false≢true}
use mathlib.Core.List.{List}
use Prim.Native.Nat.{ℕ, ◌≤◌}
use native.Mathlib.Omega.{arith}
use borrow.Author.Tests.{ltb-false}
use lib.Dec.{ltb}
use Rattle.wire.specs.Bytes.{same_bytes}
use Rattle.wire.proofs.Bytes.{same_equal}
use Rattle.wire.specs.Limits.{hex_length}
use Rattle.json_tree.specs.Tree.{Json, word, num, str, arr, obj, Items, nil, item, on_array, on_object}
use Rattle.shape.specs.Shape.{any_item, all_items, count, name_at, is_string, is_number, is_array_of, is_condition}
use Rattle.shape.specs.Shape.{filter_member, is_filter, ids_name, authors_name, kinds_name, since_name, until_name, limit_name}
use Rattle.shape.specs.Rows.{wrong_small, wrong_hex, wrong_list, filter_number, filter_hex, wrong_filter, filter_counts}
use Rattle.message.specs.declared.EventParts.{EventParts}
use Rattle.message.specs.declared.FilterParts.{FilterParts}
use Rattle.message.specs.Lent.{on_value, value_at, is_tags_shape, string5, value2, value4, value5, time6, small6}
use Rattle.message.specs.Lent.{wrong_hexes, wrong_smalls, body5, body6, body8, event2, event4, event5, event7, event_row}
use Rattle.message.specs.Lent.{in_list, in_bound, filter2, filter4, filter5, filter6, filter7, filter8, filter_row}
use Rattle.message.specs.Inner.{lowest_by}
use Rattle.message.proofs.Facts.{or_not, In, all_in, any_in}

pub none_holds : (r2 r4 r5 r6 r7 r8 : Bool) → lowest_by r2 r4 r5 r6 r7 r8 ≡ 0 → (r2 ≡ false) × (r4 ≡ false) × (r5 ≡ false) × (r6 ≡ false) × (r7 ≡ false) × (r8 ≡ false)
none_holds true r4 r5 r6 r7 r8 e = absurd (omega arith)
none_holds false true r5 r6 r7 r8 e = absurd (omega arith)
none_holds false false true r6 r7 r8 e = absurd (omega arith)
none_holds false false false true r7 r8 e = absurd (omega arith)
none_holds false false false false true r8 e = absurd (omega arith)
none_holds false false false false false true e = absurd (omega arith)
none_holds false false false false false false e = (refl, refl, refl, refl, refl, refl)

-- ---- an event's tags are an array of tags
pub event_tags : (b : List ℕ) (p : EventParts) → event_row b p ≡ 0 → value5 is_tags_shape b p.body.tags ≡ false
unfolding event_row event5 body5
event_tags b p e =
    let z = (none_holds (event2 b p) (event4 b p) (event5 b p) (body6 p.body) (event7 b p) (body8 b p.body) e).2 in
    let x = (or_not (string5 b p.id) _ z).1 in
    let y = (or_not (body5 b p.body) _ x).0 in
    (or_not (value5 is_tags_shape b p.body.tags) _ (or_not (string5 b p.body.pubkey) _ y).1).0

-- ---- the value at v breaks no row as a list of members of which f holds, and g must not
pub record ListIs (f g : Json → Bool) (b : List ℕ) (v : ℕ) : Type 0 where
  pub l2 : value2 b v ≡ false
  pub l4 : value4 b v ≡ false
  pub l5 : value5 (is_array_of f) b v ≡ false
  pub members : on_value (on_array (any_item (λ q u. g u))) (value_at b v) ≡ false
  pub l8 : on_value wrong_list (value_at b v) ≡ false

-- so it is an array of 1 to 16 of them
pub record ListOf (f g : Json → Bool) (t : Json) : Type 0 where
  pub items : Items
  pub is : t ≡ arr items
  pub each : all_items (λ q u. f u) items ≡ true
  pub clean : any_item (λ q u. g u) items ≡ false
  pub some : 1 ≤ count items
  pub few : count items ≤ 16

pub list_of_lem : (f g : Json → Bool) (t : Json) → is_array_of f t ≡ true → on_array (any_item (λ q u. g u)) t ≡ false → wrong_list t ≡ false → ListOf f g t
unfolding wrong_list
list_of_lem f g (word a n) h c l = absurd (false≢true h)
list_of_lem f g (num a n) h c l = absurd (false≢true h)
list_of_lem f g (str a n) h c l = absurd (false≢true h)
list_of_lem f g (obj ts) h c l = absurd (false≢true h)
list_of_lem f g (arr ts) h c l =
    let (x, y) = or_not (ltb (count ts) 1) (ltb 16 (count ts)) l in
    record { items = ts; is = refl; each = h; clean = c; some = ltb-false (count ts) 1 x; few = ltb-false 16 (count ts) y }

-- ---- a filter's lists
at : (f : ℕ → Bool) (x : Option ℕ) {v : ℕ} → x ≡ Some v → in_list f x ≡ false → f v ≡ false
at f x q h = sym (ap (in_list f) q) ∙ h

module _ (b : List ℕ) (p : FilterParts) (e : filter_row b p ≡ 0) where
  rows : (filter2 b p ≡ false) × (filter4 b p ≡ false) × (filter5 b p ≡ false) × (filter6 b p ≡ false) × (filter7 b p ≡ false) × (filter8 b p ≡ false)
  unfolding filter_row
  rows = none_holds (filter2 b p) (filter4 b p) (filter5 b p) (filter6 b p) (filter7 b p) (filter8 b p) e

  -- a row of the four lists
  four : (f g h k : ℕ → Bool) → (in_list f p.ids || (in_list g p.authors || (in_list h p.kinds || in_list k p.conditions))) ≡ false
      → (in_list f p.ids ≡ false) × (in_list g p.authors ≡ false) × (in_list h p.kinds ≡ false) × (in_list k p.conditions ≡ false)
  four f g h k q =
      let (i, x) = or_not (in_list f p.ids) _ q in
      let (a, y) = or_not (in_list g p.authors) _ x in
      let (n, c) = or_not (in_list h p.kinds) _ y in
      (i, a, n, c)

  -- rows 2, 4, 5 and 8
  abbrev Each : (ℕ → Bool) → (ℕ → Bool) → (ℕ → Bool) → (ℕ → Bool) → Type 0
  Each f g h k = (in_list f p.ids ≡ false) × (in_list g p.authors ≡ false) × (in_list h p.kinds ≡ false) × (in_list k p.conditions ≡ false)

  two : Each (value2 b) (value2 b) (value2 b) (value2 b)
  unfolding filter2
  two = four (value2 b) (value2 b) (value2 b) (value2 b) rows.0

  row4 : Each (value4 b) (value4 b) (value4 b) (value4 b)
  unfolding filter4
  row4 = four (value4 b) (value4 b) (value4 b) (value4 b) rows.1

  five : Each (value5 (is_array_of is_string) b) (value5 (is_array_of is_string) b) (value5 (is_array_of is_number) b) (value5 (is_filter b) b)
  unfolding filter5
  five = four (value5 (is_array_of is_string) b) (value5 (is_array_of is_string) b) (value5 (is_array_of is_number) b) (value5 (is_filter b) b) rows.2

  eight : Each (λ v. on_value wrong_list (value_at b v)) (λ v. on_value wrong_list (value_at b v)) (λ v. on_value wrong_list (value_at b v)) (λ v. on_value (on_object (filter_counts b)) (value_at b v))
  unfolding filter8
  eight =
      four (λ v. on_value wrong_list (value_at b v)) (λ v. on_value wrong_list (value_at b v)) (λ v. on_value wrong_list (value_at b v)) (λ v. on_value (on_object (filter_counts b)) (value_at b v))
      rows.5

  -- rows 6 and 7
  six : (in_list (λ v. on_value (wrong_smalls b) (value_at b v)) p.kinds ≡ false) × (in_bound time6 p.since ≡ false) × (in_bound time6 p.until ≡ false) × (in_bound small6 p.limit ≡ false)
      × (in_list (λ v. on_value (on_object (any_item (filter_number b))) (value_at b v)) p.conditions ≡ false)
  unfolding filter6
  six =
      let (k, x) = or_not (in_list (λ v. on_value (wrong_smalls b) (value_at b v)) p.kinds) _ rows.3 in
      let (s, y) = or_not (in_bound time6 p.since) _ x in
      let (u, z) = or_not (in_bound time6 p.until) _ y in
      let (l, c) = or_not (in_bound small6 p.limit) _ z in
      (k, s, u, l, c)

  seven : (in_list (λ v. on_value (wrong_hexes b) (value_at b v)) p.ids ≡ false) × (in_list (λ v. on_value (wrong_hexes b) (value_at b v)) p.authors ≡ false)
      × (in_list (λ v. on_value (on_object (any_item (filter_hex b))) (value_at b v)) p.conditions ≡ false)
  unfolding filter7
  seven =
      let (i, x) = or_not (in_list (λ v. on_value (wrong_hexes b) (value_at b v)) p.ids) _ rows.4 in
      let (a, c) = or_not (in_list (λ v. on_value (wrong_hexes b) (value_at b v)) p.authors) _ x in
      (i, a, c)

  pub ids_are : {v : ℕ} → p.ids ≡ Some v → ListIs is_string (wrong_hex hex_length b) b v
  ids_are q = record {
    l2 = at (value2 b) p.ids q two.0;
    l4 = at (value4 b) p.ids q row4.0;
    l5 = at (value5 (is_array_of is_string) b) p.ids q five.0;
    members = at (λ w. on_value (wrong_hexes b) (value_at b w)) p.ids q seven.0;
    l8 = at (λ w. on_value wrong_list (value_at b w)) p.ids q eight.0;
  }

  pub authors_are : {v : ℕ} → p.authors ≡ Some v → ListIs is_string (wrong_hex hex_length b) b v
  authors_are q = record {
    l2 = at (value2 b) p.authors q two.1;
    l4 = at (value4 b) p.authors q row4.1;
    l5 = at (value5 (is_array_of is_string) b) p.authors q five.1;
    members = at (λ w. on_value (wrong_hexes b) (value_at b w)) p.authors q seven.1;
    l8 = at (λ w. on_value wrong_list (value_at b w)) p.authors q eight.1;
  }

  pub kinds_are : {v : ℕ} → p.kinds ≡ Some v → ListIs is_number (wrong_small b) b v
  kinds_are q = record {
    l2 = at (value2 b) p.kinds q two.2;
    l4 = at (value4 b) p.kinds q row4.2;
    l5 = at (value5 (is_array_of is_number) b) p.kinds q five.2;
    members = at (λ w. on_value (wrong_smalls b) (value_at b w)) p.kinds q six.0;
    l8 = at (λ w. on_value wrong_list (value_at b w)) p.kinds q eight.2;
  }

-- ---- a filter's object, of which the members with # are the conditions
pub record FilterIs (b : List ℕ) (v : ℕ) : Type 0 where
  pub o2 : value2 b v ≡ false
  pub o4 : value4 b v ≡ false
  pub o5 : value5 (is_filter b) b v ≡ false
  pub o6 : on_value (on_object (any_item (filter_number b))) (value_at b v) ≡ false
  pub o7 : on_value (on_object (any_item (filter_hex b))) (value_at b v) ≡ false
  pub o8 : on_value (on_object (filter_counts b)) (value_at b v) ≡ false

pub conditions_are : (b : List ℕ) (p : FilterParts) → filter_row b p ≡ 0 → {v : ℕ} → p.conditions ≡ Some v → FilterIs b v
conditions_are b p e q = record {
  o2 = at (value2 b) p.conditions q (two b p e).3;
  o4 = at (value4 b) p.conditions q (row4 b p e).3;
  o5 = at (value5 (is_filter b) b) p.conditions q (five b p e).3;
  o6 = at (λ w. on_value (on_object (any_item (filter_number b))) (value_at b w)) p.conditions q (six b p e).4;
  o7 = at (λ w. on_value (on_object (any_item (filter_hex b))) (value_at b w)) p.conditions q (seven b p e).2;
  o8 = at (λ w. on_value (on_object (filter_counts b)) (value_at b w)) p.conditions q (eight b p e).3;
}

-- a condition's name is none of the others
other_name : (w n : List ℕ) → is_condition w ≡ true → is_condition n ≡ false → same_bytes w n ≡ false
other_name w n c d = go (same_bytes w n) refl
  where
    go : (x : Bool) → same_bytes w n ≡ x → x ≡ false
    go true q = absurd (false≢true (sym d ∙ ap is_condition (sym (same_equal w n q)) ∙ c))
    go false q = refl

none_of : (ts : Items) → any_item (λ q u. false) ts ≡ false
unfolding any_item
none_of nil = refl
none_of (item p w t ts) = none_of ts

any_list : (t : Json) → on_array (any_item (λ q u. false)) t ≡ false
any_list (word a n) = refl
any_list (num a n) = refl
any_list (str a n) = refl
any_list (arr ts) = none_of ts
any_list (obj ts) = refl

-- so its value is an array of 1 to 16 strings
pub condition_is : (b : List ℕ) {q w : ℕ} {t : Json} {ts : Items} → all_items (filter_member b) ts ≡ true → filter_counts b ts ≡ false → In q w t ts → is_condition (name_at b q) ≡ true
    → ListOf is_string (λ u. false) t
unfolding filter_member wrong_filter filter_counts is_condition
condition_is b {q} {w} {t} {ts} all c i h =
    let no : (n : List ℕ) → is_condition n ≡ false → same_bytes (name_at b q) n ≡ false = λ n. other_name (name_at b q) n h in
    let m : is_array_of is_string t ≡ true =
    rw (no ids_name refl, no authors_name refl, no kinds_name refl, no since_name refl, no until_name refl, no limit_name refl, h) at (all_in (filter_member b) all i) in
    let l : wrong_list t ≡ false =
    rw (no ids_name refl, no authors_name refl, no kinds_name refl, h) at (any_in (wrong_filter b) (or_not (any_item (wrong_filter b) ts) _ c).0 i) in
    list_of_lem is_string (λ u. false) t m (any_list t) l
