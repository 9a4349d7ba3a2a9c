-- The tags as the text spells them are JSON: an array of arrays of strings, that say just these tags. Members one after
-- the other, once for strings and once for tags; no white space stands anywhere, so each thing ends where its bytes do.
use Rattle.std.specs.Prelude.{Some, None}
use mathlib.Core.Bool.{Bool, true, false}
use mathlib.Core.Path.{◌≡◌, refl, sym, ap, ◌∙◌}
use mathlib.Core.List.{List, [], ◌∷◌, ◌++◌}
use Prim.Native.Nat.{ℕ, zero, suc, ◌+◌, ◌-◌, ◌≤◌}
use native.Mathlib.Omega.{arith}
use borrow.Author.Tests.{eq-eqb}
use lib.Dec.{leb, eqb, lit<}
use lib.ListN.{length, get_or, drop, length-append}
use lib.Seq.{take-append_seam}
use Rattle.utf8.specs.Utf8.{utf8_from, is_utf8}
use Rattle.utf8.specs.declared.Want.TheVariants.{Lead}
use Rattle.utf8.proofs.States.{lead_low, utf8_append}
use Rattle.json_tree.specs.Grammar.{in_class, one_at, token_at, start_at, next_at}
use Rattle.json_tree.specs.Tree.{Json, arr, Items, nil, item, Got, got, items_at, tree_at}
use Rattle.json_tree.specs.declared.Class.TheVariants.{Space}
use Rattle.json_tree.specs.declared.Start.TheVariants.{Empty, Many}
use Rattle.json_tree.specs.declared.Next.TheVariants.{More, Done}
use Rattle.json_tree.proofs.Trees.{tree_open}
use Rattle.rows.specs.Strings.{part}
use Rattle.shape.specs.Shape.{all_items, is_array_of}
use Rattle.shape.specs.Shape as shape
use Rattle.text.specs.Event.{Tag, quoted, members_text, tag_text, tags_text, all, is_string_bytes, is_tag}
use Rattle.text.specs.Event.{is_tags}
use Rattle.text.proofs.Pieces.{Spelt, left, right, tail, byte_is, both, spelt_inside}
use Rattle.text.proofs.Strings.{utf8_escape}
use Rattle.wire.specs.Escape.{escape, json_of}
use Rattle.wire.proofs.Json.{json_append, json_same}
use Rattle.message.specs.Lent.{value2, value5}
use Rattle.message.specs.Lent as lent
use Rattle.event.specs.Lent.{string_of, strings_of, tag_of, tags_of, tags_in, lent_tags_at}
use Rattle.table.specs.Demand3.{SpellsTags}
use Rattle.table.proofs.Strings.{ws_none, string_read, string_says}

-- no white space stands at n
abbrev pub Tight : List ℕ → ℕ → Type 0
Tight s n = in_class Space (get_or s n 0) ≡ false

-- ---- brackets and commas
module _ (s : List ℕ) where
  pub token_is : (b at : ℕ) → get_or s at 0 ≡ b → Tight s (at + 1) → token_at s b at ≡ Some (at + 1)
  unfolding token_at one_at in_class
  token_is b at e w = rw (eq-eqb (get_or s at 0) b e) (ap Some (ws_none s (at + 1) w))

  pub token_not : (b at : ℕ) → eqb (get_or s at 0) b ≡ false → token_at s b at ≡ None
  unfolding token_at one_at in_class
  token_not b at e = rw e

  pub next_more : (named : Bool) (n : ℕ) → get_or s n 0 ≡ 44 → Tight s (n + 1) → next_at s n named ≡ More (n + 1)
  next_more named n e w = rw (token_is 0x2C n e w)

  pub next_done : (n : ℕ) → get_or s n 0 ≡ 93 → Tight s (n + 1) → next_at s n false ≡ Done (n + 1)
  next_done n e w = rw (token_not 0x2C n (rw e), token_is 0x5D n e w)

  array_none : (d at : ℕ) → get_or s at 0 ≡ 91 → get_or s (at + 1) 0 ≡ 93 → Tight s (at + 1 + 1) → tree_at s (suc d) at ≡ got (arr nil) (at + 1 + 1)
  unfolding in_class
  array_none d at e f w =
      let z : start_at s at ≡ Empty (at + 1 + 1) false = rw (token_is 0x5B at e (rw f), token_is 0x5D (at + 1) f w) in
      tree_open s d at (Empty (at + 1 + 1) false) (sym z)

  pub array_many : (d at n : ℕ) (us : Items) → get_or s at 0 ≡ 91 → Tight s (at + 1) → eqb (get_or s (at + 1) 0) 93 ≡ false
      → items_at (tree_at s d) s false (length s) (at + 1) ≡ got us n → tree_at s (suc d) at ≡ got (arr us) n
  array_many d at n us e w f i =
      let z : start_at s at ≡ Many (at + 1) false = rw (token_is 0x5B at e w, token_not 0x5D (at + 1) f) in
      tree_open s d at (Many (at + 1) false) (sym z) ∙ rw i

-- ---- members: x stands at a place as a tree that means it
pub record Stands {A : Type 0} (value : ℕ → Got Json) (mean : Json → A) (ok : Json → Bool) (at : ℕ) (x : A) (n : ℕ) : Type 0 where
  pub tree : Json
  pub there : value at ≡ got tree n
  pub means : mean tree ≡ x
  pub fine : ok tree ≡ true

record StandAll {A : Type 0} (s : List ℕ) (value : ℕ → Got Json) (mean : Items → List A) (ok : Json → Bool) (f at : ℕ) (xs : List A) (n : ℕ) : Type 0 where
  items : Items
  there : items_at value s false f at ≡ got items n
  means : mean items ≡ xs
  fine : all_items (λ p t. ok t) items ≡ true

-- it begins with a byte that is no white space and closes nothing
pub record Begins (l : List ℕ) : Type 0 where
  pub first : ℕ
  pub rest : List ℕ
  pub is : l ≡ first ∷ rest
  pub dark : in_class Space first ≡ false
  pub opens : eqb first 93 ≡ false

begins_more : (l r : List ℕ) → Begins l → Begins (l ++ r)
begins_more l r b = record { first = b.first; rest = b.rest ++ r; is = ap (λ k. k ++ r) b.is; dark = b.dark; opens = b.opens }

begins_byte : {s : List ℕ} {at n : ℕ} {l : List ℕ} (b : Begins l) → Spelt s at l n → get_or s at 0 ≡ b.first
begins_byte {s} {at} {n} {l} b a = byte_is {p = b.rest} (rw b.is at a)

module _ {A : Type 0} (print : A → List ℕ) (begins : (x : A) → Begins (print x)) where
  members_begin : (x : A) (xs : List A) → Begins (members_text print (x ∷ xs))
  unfolding members_text
  members_begin x [] = begins_more (print x) (93 ∷ []) (begins x)
  members_begin x (y ∷ ys) = begins_more (print x) (44 ∷ members_text print (y ∷ ys)) (begins x)

  module _ (s : List ℕ) (value : ℕ → Got Json) (mean : Json → A) (means : Items → List A) (ok : Json → Bool) (good : A → Bool)
      (none : means nil ≡ []) (cons : (p v : ℕ) (t : Json) (ts : Items) → means (item p v t ts) ≡ mean t ∷ means ts)
      (one : (x : A) (at n : ℕ) → good x ≡ true → Spelt s at (print x) n → Tight s n → Stands value mean ok at x n) where
    members_read : (x : A) (xs : List A) (f at n : ℕ) → all good (x ∷ xs) ≡ true → Spelt s at (members_text print (x ∷ xs)) n → Tight s n
        → length (members_text print (x ∷ xs)) ≤ f → StandAll s value means ok f at (x ∷ xs) n
    unfolding members_text items_at all_items all in_class
    members_read x [] zero at n g a w h = absurd (omega (arith, length-append (print x) (93 ∷ [])))
    members_read x (y ∷ ys) zero at n g a w h = absurd (omega (arith, length-append (print x) (44 ∷ members_text print (y ∷ ys))))
    members_read x [] (suc f) at n g a w h =
        let m = at + length (print x) in
        let d = right (print x) (93 ∷ []) a in
        let z : m + 1 ≡ n = omega (arith, d.end) in
        let v = one x at m (both (good x) _ g).0 (left (print x) (93 ∷ []) a) (rw (byte_is d)) in
        let k = next_done s m (byte_is d) (rw z w) in
        record { items = item at at v.tree nil; there = rw (v.there, k, z); means = cons at at v.tree nil ∙ rw (none, v.means); fine = rw v.fine }
    members_read x (y ∷ ys) (suc f) at n g a w h =
        let m = at + length (print x) in
        let r = members_text print (y ∷ ys) in
        let d = right (print x) (44 ∷ r) a in
        let b = members_begin y ys in
        let (p, q) = both (good x) _ g in
        let v = one x at m p (left (print x) (44 ∷ r) a) (rw (byte_is d)) in
        let k = next_more s false m (byte_is d) (rw (begins_byte b (tail d)) b.dark) in
        let i = members_read y ys f (m + 1) n q (tail d) w (omega (arith, length-append (print x) (44 ∷ r))) in
        record { items = item at at v.tree i.items; there = rw (v.there, k, i.there); means = cons at at v.tree i.items ∙ rw (v.means, i.means); fine = rw v.fine i.fine }

-- ---- a string, a tag, the tags
quoted_begins : (v : List ℕ) → Begins (quoted v)
unfolding quoted in_class
quoted_begins v = record { first = 34; rest = escape v ++ (34 ∷ []); is = refl; dark = refl; opens = refl }

-- with so many brackets open at once as they hold, and d more; a string as `string` prints it
module _ (string : List ℕ → List ℕ) (begins : (v : List ℕ) → Begins (string v)) (s : List ℕ) (d : ℕ)
    (stands : (v : List ℕ) (at n : ℕ) → is_string_bytes v ≡ true → Spelt s at (string v) n → Tight s n → Stands (tree_at s (suc d)) (string_of s) shape.is_string at v n) where
  abbrev pub tag_by : Tag → List ℕ
  tag_by t = 91 ∷ members_text string t

  tag_begins : (t : Tag) → Begins (tag_by t)
  unfolding in_class
  tag_begins t = record { first = 91; rest = members_text string t; is = refl; dark = refl; opens = refl }

  tag_stands : (t : Tag) (at n : ℕ) → is_tag t ≡ true → Spelt s at (tag_by t) n → Tight s n → Stands (tree_at s (suc (suc d))) (tag_of s) (is_array_of shape.is_string) at t n
  unfolding is_tag strings_of
  tag_stands [] at n h a w = absurd (let z : ◌≡◌ {A = ℕ} 0 1 = cc in omega arith)
  tag_stands (v ∷ t) at n h a w =
      let b = members_begin string begins v t in
      let g = (both (leb (length (v ∷ t)) 16) _ (both (leb 1 (length (v ∷ t))) _ h).1).1 in
      let l = spelt_inside s at (91 ∷ members_text string (v ∷ t)) n a (omega arith) in
      let i = members_read string begins s (tree_at s (suc d)) (string_of s) (strings_of s) shape.is_string is_string_bytes refl (λ p v t ts. refl) stands v t (length s) (at + 1) n g (tail a) w (omega (arith, a.end)) in
      let e = begins_byte b (tail a) in
      record { tree = arr i.items; there = array_many s (suc d) at n i.items (byte_is a) (rw e b.dark) (rw e b.opens) i.there; means = i.means; fine = i.fine }

  pub tags_by : (ts : List Tag) (at n : ℕ) → is_tags ts ≡ true → Spelt s at (91 ∷ members_text tag_by ts) n → Tight s n
      → Stands (tree_at s (suc (suc (suc d)))) (λ t. tags_in s (got t n)) lent.is_tags_shape at ts n
  unfolding is_tags tags_of members_text all_items
  tags_by [] at n h a w =
      let z : at + 1 + 1 ≡ n = omega (arith, a.end) in
      record { tree = arr nil; there = rw (← z) (array_none s (suc (suc d)) at (byte_is a) (byte_is (tail a)) (rw z w)); means = refl; fine = refl }
  tags_by (t ∷ ts) at n h a w =
      let b = members_begin tag_by tag_begins t ts in
      let g = (both (leb (length (t ∷ ts)) 64) _ h).1 in
      let l = spelt_inside s at (91 ∷ members_text tag_by (t ∷ ts)) n a (omega arith) in
      let i = members_read tag_by tag_begins s (tree_at s (suc (suc d))) (tag_of s) (tags_of s) (is_array_of shape.is_string) is_tag refl (λ p v t ts. refl) tag_stands t ts (length s) (at + 1) n g (tail a) w (omega (arith, a.end)) in
      let e = begins_byte b (tail a) in
      record { tree = arr i.items; there = array_many s (suc (suc d)) at n i.items (byte_is a) (rw e b.dark) (rw e b.opens) i.there; means = i.means; fine = i.fine }

-- as the text has them
module _ (s : List ℕ) (d : ℕ) where
  string_stands : (v : List ℕ) (at n : ℕ) → is_string_bytes v ≡ true → Spelt s at (quoted v) n → Tight s n → Stands (tree_at s (suc d)) (string_of s) shape.is_string at v n
  string_stands v at n h a w = record { tree = _; there = string_read s d v at n a w; means = string_says s v at n a; fine = refl }

  pub tags_read : (ts : List Tag) (at n : ℕ) → is_tags ts ≡ true → Spelt s at (tags_text ts) n → Tight s n → Stands (tree_at s (suc (suc (suc d)))) (λ t. tags_in s (got t n)) lent.is_tags_shape at ts n
  unfolding tags_text tag_text
  tags_read ts at n h a w = tags_by quoted quoted_begins s d string_stands ts at n h a w

-- and as a reply has them: piece by piece
members_json : {A : Type 0} (print : A → List ℕ) (xs : List A) → json_of (members_text print xs) ≡ members_text (λ x. json_of (print x)) xs
unfolding members_text
members_json print [] = json_same (93 ∷ []) refl
members_json print (x ∷ []) = json_append (print x) (93 ∷ []) ∙ ap (λ l. json_of (print x) ++ l) (json_same (93 ∷ []) refl)
members_json print (x ∷ y ∷ ys) =
    json_append (print x) (44 ∷ members_text print (y ∷ ys))
    ∙ ap (λ l. json_of (print x) ++ l) (json_append (44 ∷ []) (members_text print (y ∷ ys)) ∙ rw (json_same (44 ∷ []) refl, members_json print (y ∷ ys)))

members_same : {A : Type 0} (print other : A → List ℕ) → ((x : A) → print x ≡ other x) → (xs : List A) → members_text print xs ≡ members_text other xs
unfolding members_text
members_same print other e [] = refl
members_same print other e (x ∷ []) = rw (e x)
members_same print other e (x ∷ y ∷ ys) = rw (e x, members_same print other e (y ∷ ys))

pub tags_json_lem : (ts : List Tag) → json_of (tags_text ts) ≡ 91 ∷ members_text (λ t. 91 ∷ members_text (λ v. json_of (quoted v)) t) ts
unfolding tags_text tag_text
tags_json_lem ts =
    json_append (91 ∷ []) (members_text tag_text ts)
    ∙ rw (json_same (91 ∷ []) refl, members_json tag_text ts)
    (ap (λ l. 91 ∷ l) (members_same (λ t. json_of (tag_text t)) (λ t. 91 ∷ members_text (λ v. json_of (quoted v)) t)
    (λ t. json_append (91 ∷ []) (members_text quoted t) ∙ rw (json_same (91 ∷ []) refl, members_json quoted t)) ts))

-- ---- their bytes are UTF-8
pub quoted_utf8 : (v : List ℕ) → is_string_bytes v ≡ true → utf8_from Lead (quoted v) ≡ true
unfolding quoted is_string_bytes is_utf8 utf8_from
quoted_utf8 v h = lead_low 34 (escape v ++ (34 ∷ [])) (lit< tt) (utf8_append (escape v) (34 ∷ []) Lead (utf8_escape v ∙ h) (lead_low 34 [] (lit< tt) refl))

members_utf8 : {A : Type 0} (print : A → List ℕ) (good : A → Bool) → ((x : A) → good x ≡ true → utf8_from Lead (print x) ≡ true) → (xs : List A) → all good xs ≡ true
    → utf8_from Lead (members_text print xs) ≡ true
unfolding members_text all utf8_from
members_utf8 print good one [] g = lead_low 93 [] (lit< tt) refl
members_utf8 print good one (x ∷ []) g = utf8_append (print x) (93 ∷ []) Lead (one x (both (good x) _ g).0) (lead_low 93 [] (lit< tt) refl)
members_utf8 print good one (x ∷ y ∷ ys) g =
    let (p, q) = both (good x) _ g in
    utf8_append (print x) (44 ∷ members_text print (y ∷ ys)) Lead (one x p) (lead_low 44 (members_text print (y ∷ ys)) (lit< tt) (members_utf8 print good one (y ∷ ys) q))

tag_utf8 : (t : Tag) → is_tag t ≡ true → utf8_from Lead (tag_text t) ≡ true
unfolding is_tag tag_text
tag_utf8 t h = lead_low 91 (members_text quoted t) (lit< tt) (members_utf8 quoted is_string_bytes quoted_utf8 t (both (leb (length t) 16) _ (both (leb 1 (length t)) _ h).1).1)

pub tags_utf8 : (ts : List Tag) → is_tags ts ≡ true → is_utf8 (tags_text ts) ≡ true
unfolding is_tags tags_text is_utf8
tags_utf8 ts h = lead_low 91 (members_text tag_text ts) (lit< tt) (members_utf8 tag_text is_tag tag_utf8 ts (both (leb (length ts) 64) _ h).1)

-- the tags stand in s at a place, and a comma after them
pub tags_spelled : (s : List ℕ) (ts : List Tag) (at n : ℕ) → is_tags ts ≡ true → Spelt s at (tags_text ts) n → get_or s n 0 ≡ 44 → SpellsTags s at ts
unfolding value2 value5 lent_tags_at in_class
tags_spelled s ts at n h a c =
    let r = tags_read s 5 ts at n h a (rw c) in
    let z : n - at ≡ length (tags_text ts) = omega (arith, a.end) in
    let y : part s at (n - at) ≡ tags_text ts = rw (z, a.is) (take-append_seam (tags_text ts) (drop n s)) in
    record { utf8 = rw (r.there, y, tags_utf8 ts h); array = rw (r.there, r.fine); says = rw r.there r.means }
