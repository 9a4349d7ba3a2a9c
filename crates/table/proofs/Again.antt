-- The converse of event/proofs/Fit for tags and strings: parts whose decoded strings, tags and counts are within the
-- limits break none of rows 4, 7 and 8. Over the tree as in Fit, an item at a time; that its own text is UTF-8 is known
-- of all of it.
use mathlib.Core.Bool.{Bool, true, false, not, ◌||◌}
use mathlib.Core.Path.{◌≡◌, refl}
use mathlib.Core.List.{List, [], ◌∷◌}
use Prim.Native.Nat.{ℕ, ◌+◌, ◌-◌, ◌≤◌}
use native.Mathlib.Omega.{arith}
use borrow.Author.Tests.{le-ltb, leb-true, eq-eqb, not-false}
use lib.Dec.{leb}
use lib.ListN.{length}
use Rattle.wire.specs.Bytes.{is_hex}
use Rattle.utf8.specs.Utf8.{utf8_from, is_utf8}
use Rattle.utf8.specs.declared.Want.TheVariants.{Lead}
use Rattle.json_tree.specs.Tree.{Json, word, num, str, arr, obj, Items, nil, item, Got, none, got, tree_at, depth}
use Rattle.json_tree.proofs.Spelled.{string_spelled}
use Rattle.rows.specs.Strings.{part, refused_in, refused_items}
use Rattle.spell.specs.Spell.{decode, is_hex_of}
use Rattle.spell.specs.Spell as spell
use Rattle.spell.proofs.Laws.{HexDigit, digit, letter, hex_digit_lem}
use Rattle.shape.specs.Shape.{any_item, all_items, count_items, count, is_array_of}
use Rattle.shape.specs.Shape as shape
use Rattle.shape.specs.Rows.{outside, wrong_tag, wrong_tags}
use Rattle.text.specs.Event.{all, is_string_bytes, is_tag, is_tags}
use Rattle.text.proofs.Pieces.{both, and_true}
use Rattle.message.specs.declared.Span.{Span}
use Rattle.message.specs.Lent.{span_bytes, is_inside, is_spelled, string2, string4, string5, string7, value2, value4}
use Rattle.message.specs.Lent.{value5, on_value, own_text}
use Rattle.message.specs.Lent as lent
use Rattle.event.specs.Lent.{string_of, strings_of, tag_of, tags_of, tags_in, lent_tags_at}
use Rattle.event.proofs.Walks.{Walk, last, more}
use Rattle.utf8.proofs.States.{lead_low}
use Rattle.event.proofs.Fit.{inner, ws_after, more_after, done_after, quoted, Array, bare, full, array, string_after_lem}
use Rattle.event.proofs.Fit.{walk_after, tag_after, strings_count, tags_count}
use Rattle.table.specs.Demand3.{Spells}
use Rattle.table.proofs.Refused.{not_refused}

-- ---- tests
neither : (a b : Bool) → a ≡ false → b ≡ false → (a || b) ≡ false
neither a b p q = rw (p, q)

inside : (low high n : ℕ) → low ≤ n → n ≤ high → outside low high n ≡ false
inside low high n p q = rw (le-ltb n low p, le-ltb high n q)

-- ---- a string part
hex_bounds : {x : ℕ} → HexDigit x → (0x30 ≤ x) × (x ≤ 0x66)
hex_bounds (digit l h) = (l, omega arith)
hex_bounds (letter l h) = (omega arith, h)

-- lower-case hex is a string within the limits
pub hex_string : (s : List ℕ) → spell.all is_hex s ≡ true → is_string_bytes s ≡ true
unfolding is_string_bytes is_utf8 spell.all utf8_from
hex_string s e = utf8 s e
  where
    bounds : (x : ℕ) (s : List ℕ) → spell.all is_hex (x ∷ s) ≡ true → (0x30 ≤ x) × (x ≤ 0x66) × (spell.all is_hex s ≡ true)
    bounds x s e = let (p, q) = both (is_hex x) _ e in let (l, h) = hex_bounds (hex_digit_lem x p) in (l, h, q)

    utf8 : (s : List ℕ) → spell.all is_hex s ≡ true → utf8_from Lead s ≡ true
    utf8 [] e = refl
    utf8 (x ∷ s) e = let (l, h, r) = bounds x s e in lead_low x s (omega arith) (utf8 s r)

module _ {b : List ℕ} {p : Span} {v : List ℕ} (s : Spells b p v) where
  spelled : is_spelled b p ≡ true
  unfolding is_spelled
  spelled = and_true (is_inside b p) _ s.inside s.spelling

  pub again2 : string2 b p ≡ false
  unfolding string2
  again2 = rw (s.inside, s.utf8)

  pub again4 : is_string_bytes v ≡ true → string4 b p ≡ false
  unfolding string4
  again4 e = rw spelled (not_refused (span_bytes b p) s.utf8 s.spelling (rw s.says e))

  pub again5 : string5 b p ≡ false
  unfolding string5
  again5 = rw spelled

  pub again7 : (k : ℕ) → length v ≡ k → spell.all is_hex v ≡ true → string7 k b p ≡ false
  unfolding string7 is_hex_of
  again7 k l h = rw (spelled, s.says, eq-eqb (length v) k l, h)

-- ---- tags: from lo to hi the buffer is UTF-8
module _ (b : List ℕ) (lo hi : ℕ) (clear : is_utf8 (part b lo (hi - lo)) ≡ true) where
  string_again : (v : ℕ) (t : Json) (m : ℕ) → tree_at b 6 v ≡ got t m → lo ≤ v → m ≤ hi → shape.is_string t ≡ true → is_string_bytes (string_of b t) ≡ true → refused_in b t ≡ false
  unfolding refused_in
  string_again v t m w l h s e =
      let q = quoted b 5 v t m w s in
      let f : is_string_bytes (decode (part b (v + 1) (q.end - v - 2))) ≡ true = rw q.is at e in
      let u = inner b lo hi v q.end clear l (omega (arith, ws_after b q.end, q.after)) q.string in
      rw q.is (not_refused (part b (v + 1) (q.end - v - 2)) u (string_spelled b v q.end q.string) f)

  strings_again : {k i n : ℕ} {us : Items} → Walk (tree_at b 6) b k i us n → lo ≤ i → n ≤ hi → all_items (λ p t. shape.is_string t) us ≡ true
      → all is_string_bytes (strings_of b us) ≡ true → refused_items b false us ≡ false
  unfolding all_items refused_items strings_of all
  strings_again (last {i = i} {m = m} {n = n} {t = t} w q) l h s e =
      let a = both (shape.is_string t) _ s in
      let c = both (is_string_bytes (string_of b t)) _ e in
      neither _ _ (string_again i t m w l (omega (arith, done_after b m n q)) a.0 c.0) refl
  strings_again (more {i = i} {m = m} {j = j} {n = n} {t = t} w q y) l h s e =
      let a = both (shape.is_string t) _ s in
      let c = both (is_string_bytes (string_of b t)) _ e in
      let x = string_after_lem b 5 i t m w a.0 in
      let z = more_after b m j q in
      let o = walk_after b shape.is_string 6 (string_after_lem b 5) y a.1 in
      neither _ _ (string_again i t m w l (omega arith) a.0 c.0) (strings_again y (omega arith) h a.1 c.1)

  tag_again : (v : ℕ) (t : Json) (m : ℕ) → tree_at b 7 v ≡ got t m → lo ≤ v → m ≤ hi → is_array_of shape.is_string t ≡ true → is_tag (tag_of b t) ≡ true → refused_in b t ≡ false
  unfolding is_tag refused_in
  tag_again v t m w l h s e = go (array b shape.is_string 6 v t m w s) s e
    where
      go : {t : Json} → Array b 6 v t m → is_array_of shape.is_string t ≡ true → is_tag (tag_of b t) ≡ true → refused_in b t ≡ false
      go (bare k) s e = refl
      go (full {us = us} k y) s e = strings_again y (omega arith) h s (both (leb (length (strings_of b us)) 16) _ (both (leb 1 (length (strings_of b us))) _ e).1).1

  tags_again : {k i n : ℕ} {ts : Items} → Walk (tree_at b 7) b k i ts n → lo ≤ i → n ≤ hi → all_items (λ p t. is_array_of shape.is_string t) ts ≡ true
      → all is_tag (tags_of b ts) ≡ true → refused_items b false ts ≡ false
  unfolding all_items refused_items tags_of all
  tags_again (last {i = i} {m = m} {n = n} {t = t} w q) l h s e =
      let a = both (is_array_of shape.is_string t) _ s in
      let c = both (is_tag (tag_of b t)) _ e in
      neither _ _ (tag_again i t m w l (omega (arith, done_after b m n q)) a.0 c.0) refl
  tags_again (more {i = i} {m = m} {j = j} {n = n} {t = t} w q y) l h s e =
      let a = both (is_array_of shape.is_string t) _ s in
      let c = both (is_tag (tag_of b t)) _ e in
      let x = tag_after b i t m w a.0 in
      let z = more_after b m j q in
      let o = walk_after b (is_array_of shape.is_string) 7 (tag_after b) y a.1 in
      neither _ _ (tag_again i t m w l (omega arith) a.0 c.0) (tags_again y (omega arith) h a.1 c.1)

-- a tag has as many strings as items
tag_counted : (b : List ℕ) (t : Json) → is_array_of shape.is_string t ≡ true → is_tag (tag_of b t) ≡ true → wrong_tag t ≡ false
unfolding is_tag wrong_tag
tag_counted b (word a n) s e = refl
tag_counted b (num a n) s e = refl
tag_counted b (str a n) s e = refl
tag_counted b (obj ts) s e = refl
tag_counted b (arr us) s e =
    let n = length (strings_of b us) in
    let (p, r) = both (leb 1 n) _ e in
    let k = strings_count b us in
    inside 1 16 (count us) (omega (arith, leb-true 1 n p)) (omega (arith, leb-true n 16 (both (leb n 16) _ r).0))

tags_counted : (b : List ℕ) (ts : Items) → all_items (λ p t. is_array_of shape.is_string t) ts ≡ true → all is_tag (tags_of b ts) ≡ true → any_item (λ p t. wrong_tag t) ts ≡ false
unfolding all_items any_item tags_of all
tags_counted b nil s e = refl
tags_counted b (item p v t ts) s e =
    let a = both (is_array_of shape.is_string t) _ s in
    let c = both (is_tag (tag_of b t)) _ e in
    neither _ _ (tag_counted b t a.0 c.0) (tags_counted b ts a.1 c.1)

-- the array of the tags: rows 4 and 8
pub tags_pass : (b : List ℕ) (at : ℕ) → value2 b at ≡ false → value5 lent.is_tags_shape b at ≡ false → is_tags (lent_tags_at b at) ≡ true
    → (value4 b at ≡ false) × (on_value wrong_tags (tree_at b depth at) ≡ false)
unfolding value2 value4 value5 lent_tags_at is_tags refused_in count_items any_item
tags_pass b at r2 r5 e = go (tree_at b depth at) refl r2 r5 e
  where
    on : {t : Json} {n : ℕ} → Array b 7 at t n → is_utf8 (part b at (n - at)) ≡ true → lent.is_tags_shape t ≡ true → is_tags (tags_in b (got t n)) ≡ true
        → (refused_in b t ≡ false) × (wrong_tags t ≡ false)
    on (bare h) u s e = (refl, refl)
    on {n = n} (full {us = us} h y) u s e =
        let k = length (tags_of b us) in
        let (p, r) = both (leb k 64) _ e in
        let c = tags_count b us in
        (tags_again b at n u y h (omega arith) s r, neither _ _ (inside 0 64 (count us) (omega arith) (omega (arith, leb-true k 64 p))) (tags_counted b us s r))

    go : (g : Got Json) → tree_at b depth at ≡ g → own_text b at g ≡ false → not (on_value lent.is_tags_shape g) ≡ false → is_tags (tags_in b g) ≡ true
        → (on_value (refused_in b) g ≡ false) × (on_value wrong_tags g ≡ false)
    go none w r2 r5 e = (refl, refl)
    go (got t n) w r2 r5 e =
        let s = not-false (lent.is_tags_shape t) r5 in
        on (array b (is_array_of shape.is_string) 7 at t n w s) (not-false (is_utf8 (part b at (n - at))) r2) s e
