-- Parts that rows 2 and 4 to 8 let pass spell an event within the limits, so its text is read back.
use Rattle.std.specs.Prelude.{Option, Some, None}
use mathlib.Core.Bool.{Bool, true, false, not, ◌&&◌}
use mathlib.Core.Path.{◌≡◌, refl, sym, ap, ◌∙◌}
use mathlib.Core.List.{List, [], ◌∷◌, ◌++◌}
use Prim.Native.Nat.{ℕ, suc, ◌+◌, ◌-◌, ◌≤◌, ◌<◌}
use native.Mathlib.Numerals.{add-one}
use native.Mathlib.Omega.{arith}
use borrow.Author.Tests.{le-leb, eq-eqb, ltb-false, not-true}
use lib.Dec.{ltb, lit<}
use lib.IntN.{ℤ, pos, negsuc, neg_ℤ}
use lib.ListN.{length, get_or, take, drop}
use lib.Seq.{take-add, drop-drop, drop-cons}
use Rattle.utf8.specs.Utf8.{utf8_from, is_utf8}
use Rattle.utf8.specs.declared.Want.TheVariants.{Lead}
use Rattle.utf8.proofs.States.{lead_reached, utf8_cut}
use Rattle.json_tree.specs.Grammar.{case, past, chars_at, token_at, opened_at, string_at, scalar_at, start_at, next_at, ws_at}
use Rattle.json_tree.specs.Grammar.{is_spelling}
use Rattle.json_tree.specs.Tree.{Json, str, arr, Items, nil, item, Got, none, got, on_leaf, items_at, group_at, tree_at, depth}
use Rattle.json_tree.specs.declared.Kind.{Kind}
use Rattle.json_tree.specs.declared.Kind.TheVariants.{Str, Num, Word}
use Rattle.json_tree.specs.declared.Start.{Start}
use Rattle.json_tree.specs.declared.Start.TheVariants.{Leaf, Empty, Many}
use Rattle.json_tree.specs.declared.Next.TheVariants.{More, Done, Wrong}
use Rattle.json_tree.proofs.Ends.{then_end, one_is, byte_is}
use Rattle.json_tree.proofs.Spelled.{string_parts, string_spelled}
use Rattle.json_tree.proofs.Trees.{tree_open}
use Rattle.wire.specs.Limits.{most_text, widest}
use Rattle.wire.specs.Bytes.{is_hex}
use Rattle.numeral.specs.Whole.{is_within}
use Rattle.numeral.specs.declared.Whole.TheVariants.{Value}
use Rattle.rows.specs.Strings.{part, refused_in, refused_items}
use Rattle.spell.specs.Spell.{decode, refuses, is_hex_of}
use Rattle.spell.specs.Spell as spell
use Rattle.spell.proofs.Laws.{hex_length_lem, hex_all}
use Rattle.shape.specs.Shape.{any_item, all_items, count_items, count, is_array_of}
use Rattle.shape.specs.Shape as shape
use Rattle.shape.specs.Rows.{outside, wrong_tag, wrong_tags}
use Rattle.text.specs.Event.{all, is_pubkey, is_time, is_kind, is_string_bytes, is_tag, is_tags, is_fit}
use Rattle.text.specs.Read.{read, read_text}
use Rattle.text.proofs.RoundTrip.{read_back, serialise_once}
use Rattle.message.specs.declared.Span.{Span}
use Rattle.message.specs.declared.Body.{Body}
use Rattle.message.specs.Lent.{is_inside, is_spelled, string2, string4, string5, string7, wrong_number, value2, value4}
use Rattle.message.specs.Lent.{value5, on_value, own_text, body2, body4, body5, body6, body7, body8, body_row}
use Rattle.message.specs.Inner.{lowest_by}
use Rattle.message.specs.Lent as lent
use Rattle.message.proofs.Walks.{never, bind_got}
use Rattle.event.specs.Lent.{said, string_of, strings_of, tag_of, tags_of, tags_in, lent_tags_at, natural, event_of}
use Rattle.event.specs.Lent.{text_of}
use Rattle.event.specs.Answer.{is_large, body_text_row, identified}
use Rattle.event.proofs.Strings.{string_tree, string_out}
use Rattle.event.proofs.Walks.{Walk, last, more, walk_of}
use Rattle.event.proofs.Decoded.{and_both, or_neither, decoded_string}

-- ---- Bools
not_false : (a : Bool) → not a ≡ false → a ≡ true
not_false true e = refl
not_false false e = absurd (let z : ◌≡◌ {A = ℕ} 0 1 = cc in omega arith)

pub and_fails : (a b : Bool) → a ≡ true → (a && b) ≡ false → b ≡ false
and_fails a b p e = rw p at e

-- ---- UTF-8 between two quotes
module _ (s : List ℕ) where
  here : (at : ℕ) → at < length s → drop at s ≡ get_or s at 0 ∷ drop (at + 1) s
  here at h = drop-cons s at 0 h ∙ ap (λ (k : ℕ). get_or s at 0 ∷ drop k s) (sym (add-one at))

  -- n bytes from at on, the byte after them, and m more
  apart : (at n m : ℕ) → at + n < length s → take (n + suc m) (drop at s) ≡ take n (drop at s) ++ (get_or s (at + n) 0 ∷ take m (drop (at + n + 1) s))
  apart at n m h = take-add n (suc m) (drop at s) ∙ ap (λ (l : List ℕ). take n (drop at s) ++ take (suc m) l) (drop-drop n at s ∙ here (at + n) h)

  quotes : (v e : ℕ) → string_at s v ≡ Some e → (get_or s v 0 ≡ 34) × (get_or s (e - 1) 0 ≡ 34) × (v + 2 ≤ e) × (e ≤ length s)
  quotes v e q =
      let p = string_parts s v e q in
      let z : e - 1 ≡ chars_at s (v + 1) = omega (arith, p.1) in
      (byte_is s 34 v p.0, rw z (byte_is s 34 (chars_at s (v + 1)) p.2), p.3, p.4)

  pub inner : (lo hi v e : ℕ) → is_utf8 (part s lo (hi - lo)) ≡ true → lo ≤ v → e ≤ hi → string_at s v ≡ Some e → is_utf8 (part s (v + 1) (e - v - 2)) ≡ true
  unfolding is_utf8
  inner lo hi v e u a b q =
      let (p, r, l, h) = quotes v e q in
      let n₁ : hi - lo ≡ v - lo + suc (e - v - 2 + suc (hi - e)) = omega arith in
      let n₂ : lo + (v - lo) ≡ v = omega arith in
      let n₃ : v + 1 + (e - v - 2) ≡ e - 1 = omega arith in
      let k₁ : lo + (v - lo) < length s = omega arith in
      let k₂ : v + 1 + (e - v - 2) < length s = omega arith in
      let z₁ = apart lo (v - lo) (e - v - 2 + suc (hi - e)) k₁ in
      let u₁ : utf8_from Lead (take (v - lo) (drop lo s) ++ (34 ∷ take (e - v - 2 + suc (hi - e)) (drop (v + 1) s))) ≡ true = rw (n₁, z₁, n₂, p) at u in
      let u₂ = (utf8_cut (take (v - lo) (drop lo s)) 34 _ Lead lead_reached (lit< tt) u₁).1 in
      let z₂ = apart (v + 1) (e - v - 2) (hi - e) k₂ in
      let u₃ : utf8_from Lead (take (e - v - 2) (drop (v + 1) s) ++ (34 ∷ take (hi - e) (drop (e - 1 + 1) s))) ≡ true = rw (z₂, n₃, r) at u₂ in
      (utf8_cut (take (e - v - 2) (drop (v + 1) s)) 34 _ Lead lead_reached (lit< tt) u₃).0

  -- ---- what is read ends no earlier than it begins
  pub ws_after : (at : ℕ) → at ≤ ws_at s at
  unfolding past
  ws_after at = omega arith

  token_after : (b at n : ℕ) → token_at s b at ≡ Some n → at ≤ n
  unfolding token_at
  token_after b at n e =
      let (m, p, q) = then_end _ _ e in
      let z = byte_is s b at p in
      spaced m (one_is s _ at p).1 q
    where
      spaced : (m : ℕ) → at + 1 ≡ m → Some (ws_at s m) ≡ Some n → at ≤ n
      spaced m h q = let z : ws_at s m ≡ n = cc in omega (arith, ws_after m)

  pub more_after : (m j : ℕ) → next_at s m false ≡ More j → m ≤ j
  more_after m j e = go (token_at s 0x2C m) refl (token_at s 0x5D m) e
    where
      go : (o : Option ℕ) → token_at s 0x2C m ≡ o → (p : Option ℕ) → case o More (case p Done Wrong) ≡ More j → m ≤ j
      go (Some a) q p e = let z : a ≡ j = cc in token_after 0x2C m j (rw z at q)
      go None q (Some a) e = absurd (let z : ◌≡◌ {A = ℕ} 0 1 = cc in omega arith)
      go None q None e = absurd (let z : ◌≡◌ {A = ℕ} 0 1 = cc in omega arith)

  pub done_after : (m n : ℕ) → next_at s m false ≡ Done n → m ≤ n
  done_after m n e = go (token_at s 0x2C m) (token_at s 0x5D m) refl e
    where
      go : (o p : Option ℕ) → token_at s 0x5D m ≡ p → case o More (case p Done Wrong) ≡ Done n → m ≤ n
      go (Some a) p q e = absurd (let z : ◌≡◌ {A = ℕ} 0 1 = cc in omega arith)
      go None (Some a) q e = let z : a ≡ n = cc in token_after 0x5D m n (rw z at q)
      go None None q e = absurd (let z : ◌≡◌ {A = ℕ} 0 1 = cc in omega arith)

  -- an array that is empty, and one that holds items
  empty_after : (at m : ℕ) → start_at s at ≡ Empty m false → at ≤ m
  empty_after at m e = one (token_at s 0x5B at) refl e
    where
      closed : (n : ℕ) (o : Option ℕ) → token_at s 0x5D n ≡ o → case o (λ k. Empty k false) (Many n false) ≡ Empty m false → n ≤ m
      closed n (Some a) q e = let z : a ≡ m = cc in token_after 0x5D n m (rw z at q)
      closed n None q e = absurd (let z : ◌≡◌ {A = ℕ} 0 1 = cc in omega arith)

      object : {A : Type 0} (n : ℕ) (o : Option ℕ) → case o (λ k. Empty k true) (Many n true) ≡ Empty m false → A
      object n (Some a) e = absurd (let z : ◌≡◌ {A = ℕ} 0 1 = cc in omega arith)
      object n None e = absurd (let z : ◌≡◌ {A = ℕ} 0 1 = cc in omega arith)

      two : {A : Type 0} (o : Option ℕ) → case o (λ n. opened_at s n true) Leaf ≡ Empty m false → A
      two (Some n) e = object n (token_at s 0x7D n) e
      two None e = absurd (let z : ◌≡◌ {A = ℕ} 0 1 = cc in omega arith)

      one : (o : Option ℕ) → token_at s 0x5B at ≡ o → case o (λ n. opened_at s n false) (case (token_at s 0x7B at) (λ n. opened_at s n true) Leaf) ≡ Empty m false → at ≤ m
      one (Some n) q e = let h = closed n (token_at s 0x5D n) refl e in omega (arith, token_after 0x5B at n q)
      one None q e = two (token_at s 0x7B at) e

  many_after : (at i : ℕ) → start_at s at ≡ Many i false → at ≤ i
  many_after at i e = one (token_at s 0x5B at) refl e
    where
      open_at : (n : ℕ) (o : Option ℕ) → case o (λ k. Empty k false) (Many n false) ≡ Many i false → n ≡ i
      open_at n (Some a) e = absurd (let z : ◌≡◌ {A = ℕ} 0 1 = cc in omega arith)
      open_at n None e = cc

      object : {A : Type 0} (n : ℕ) (o : Option ℕ) → case o (λ k. Empty k true) (Many n true) ≡ Many i false → A
      object n (Some a) e = absurd (let z : ◌≡◌ {A = ℕ} 0 1 = cc in omega arith)
      object n None e = absurd (let z : ◌≡◌ {A = ℕ} 0 1 = cc in omega arith)

      two : {A : Type 0} (o : Option ℕ) → case o (λ n. opened_at s n true) Leaf ≡ Many i false → A
      two (Some n) e = object n (token_at s 0x7D n) e
      two None e = absurd (let z : ◌≡◌ {A = ℕ} 0 1 = cc in omega arith)

      one : (o : Option ℕ) → token_at s 0x5B at ≡ o → case o (λ n. opened_at s n false) (case (token_at s 0x7B at) (λ n. opened_at s n true) Leaf) ≡ Many i false → at ≤ i
      one (Some n) q e = omega (arith, token_after 0x5B at n q, open_at n (token_at s 0x5D n) e)
      one None q e = two (token_at s 0x7B at) e

  -- ---- strings and arrays as they stand in the text
  pub record Quoted (v : ℕ) (t : Json) (m : ℕ) : Type 0 where
    pub end : ℕ
    pub string : string_at s v ≡ Some end
    pub is : t ≡ str (v + 1) (end - v - 2)
    pub after : m ≡ ws_at s end

  pub quoted : (d v : ℕ) (t : Json) (m : ℕ) → tree_at s (suc d) v ≡ got t m → shape.is_string t ≡ true → Quoted v t m
  quoted d v t m w e = go (string_at s v) refl
    where
      made : (k : ℕ) → string_at s v ≡ Some k → got (str (v + 1) (k - v - 2)) (ws_at s k) ≡ got t m → Quoted v t m
      made k q z = record { end = k; string = q; is = cc; after = cc }

      go : (o : Option ℕ) → string_at s v ≡ o → Quoted v t m
      go (Some k) q = made k q (sym (string_tree s v d k q) ∙ w)
      go None q =
          let z = string_out s v (λ t. shape.is_string t ≡ false) (λ a n. refl) (λ a n. refl) (λ ts. refl) (λ ts. refl) t m d q w in
          absurd (let y : ◌≡◌ {A = ℕ} 0 1 = cc in omega arith)

  pub data Array (d v : ℕ) : Json → ℕ → Type 0 where
    bare : {m : ℕ} → v ≤ m → Array d v (arr nil) m
    full : {i m : ℕ} {us : Items} → v ≤ i → Walk (tree_at s d) s (length s) i us m → Array d v (arr us) m

  pub array : (f : Json → Bool) (d v : ℕ) (t : Json) (m : ℕ) → tree_at s (suc d) v ≡ got t m → is_array_of f t ≡ true → Array d v t m
  array f d v t m w e = on (start_at s v) refl (sym (tree_open s d v (start_at s v) refl) ∙ w)
    where
      other : {A : Type 0} (u : Json) (k : ℕ) → got u k ≡ got t m → is_array_of f u ≡ false → A
      other u k q z = let y : u ≡ t = cc in let x = rw y at z in absurd (let w : ◌≡◌ {A = ℕ} 0 1 = cc in omega arith)

      leaf : {A : Type 0} (k : Option Kind) → on_leaf s v k ≡ got t m → A
      leaf (Some (Str n)) q = other _ _ q refl
      leaf (Some (Num n)) q = other _ _ q refl
      leaf (Some (Word n)) q = other _ _ q refl
      leaf None q = never q

      is : (u : Json) (k : ℕ) → got u k ≡ got t m → Array d v u k → Array d v t m
      is u k q a = let y : u ≡ t = cc in let z : k ≡ m = cc in rw (y, z) at a

      on : (r : Start) → start_at s v ≡ r → group_at (tree_at s d) s v r ≡ got t m → Array d v t m
      on Leaf z q = leaf (scalar_at s v) q
      on (Empty k true) z q = other _ _ q refl
      on (Empty k false) z q = is (arr nil) k q (bare (empty_after v k z))
      on (Many i true) z q = let (us, k, g, h) = bind_got (items_at (tree_at s d) s true (length s) i) _ q in other _ _ h refl
      on (Many i false) z q =
          let (us, k, g, h) = bind_got (items_at (tree_at s d) s false (length s) i) _ q in
          is (arr us) k h (full (many_after v i z) (walk_of (tree_at s d) s (length s) i us k g))

  pub string_after_lem : (d v : ℕ) (t : Json) (m : ℕ) → tree_at s (suc d) v ≡ got t m → shape.is_string t ≡ true → v ≤ m
  string_after_lem d v t m w e = let q = quoted d v t m w e in omega (arith, (quotes v q.end q.string).2, ws_after q.end, q.after)

  -- items each of which ends no earlier than it begins
  pub walk_after : (f : Json → Bool) (d : ℕ) → ((v : ℕ) (t : Json) (m : ℕ) → tree_at s d v ≡ got t m → f t ≡ true → v ≤ m)
      → {k i n : ℕ} {us : Items} → Walk (tree_at s d) s k i us n → all_items (λ p t. f t) us ≡ true → i ≤ n
  unfolding all_items
  walk_after f d one (last {i = i} {m = m} {n = n} {t = t} w q) e = omega (arith, one i t m w (and_both (f t) _ e).0, done_after m n q)
  walk_after f d one (more {i = i} {m = m} {j = j} {t = t} w q y) e =
      let (a, b) = and_both (f t) _ e in
      omega (arith, one i t m w a, more_after m j q, walk_after f d one y b)

  pub tag_after : (v : ℕ) (t : Json) (m : ℕ) → tree_at s 7 v ≡ got t m → is_array_of shape.is_string t ≡ true → v ≤ m
  tag_after v t m w e = go (array shape.is_string 6 v t m w e) e
    where
      go : {t : Json} → Array 6 v t m → is_array_of shape.is_string t ≡ true → v ≤ m
      go (bare h) e = h
      go (full h y) e = omega (arith, walk_after shape.is_string 6 (string_after_lem 5) y e)

-- ---- what passes the rows fits
both_true : (a b : Bool) → a ≡ true → b ≡ true → (a && b) ≡ true
both_true a b p q = rw (p, q)

bounded : (low high n : ℕ) → outside low high n ≡ false → (low ≤ n) × (n ≤ high)
bounded low high n e = let (p, q) = or_neither (ltb n low) (ltb high n) e in (ltb-false n low p, ltb-false high n q)

module _ (b : List ℕ) where
  pub strings_count : (us : Items) → length (strings_of b us) ≡ count us
  unfolding strings_of count_items
  strings_count nil = refl
  strings_count (item p v t us) = ap suc (strings_count us)

  pub tags_count : (ts : Items) → length (tags_of b ts) ≡ count ts
  unfolding tags_of count_items
  tags_count nil = refl
  tags_count (item p v t ts) = ap suc (tags_count ts)

-- from lo to hi the buffer is UTF-8
module _ (b : List ℕ) (lo hi : ℕ) (clear : is_utf8 (part b lo (hi - lo)) ≡ true) where
  string_fits : (v : ℕ) (t : Json) (m : ℕ) → tree_at b 6 v ≡ got t m → lo ≤ v → m ≤ hi → shape.is_string t ≡ true → refused_in b t ≡ false → is_string_bytes (string_of b t) ≡ true
  unfolding refused_in
  string_fits v t m w l h s r =
      let q = quoted b 5 v t m w s in
      let f : refuses (part b (v + 1) (q.end - v - 2)) ≡ false = rw q.is at r in
      let u = inner b lo hi v q.end clear l (omega (arith, ws_after b q.end, q.after)) q.string in
      rw q.is (decoded_string (part b (v + 1) (q.end - v - 2)) u (string_spelled b v q.end q.string) f)

  strings_fit : {k i n : ℕ} {us : Items} → Walk (tree_at b 6) b k i us n → lo ≤ i → n ≤ hi → all_items (λ p t. shape.is_string t) us ≡ true → refused_items b false us ≡ false
      → all is_string_bytes (strings_of b us) ≡ true
  unfolding all_items refused_items strings_of all
  strings_fit (last {i = i} {m = m} {n = n} {t = t} w q) l h s r =
      let a = and_both (shape.is_string t) _ s in
      let c = or_neither (refused_in b t) _ r in
      both_true _ _ (string_fits i t m w l (omega (arith, done_after b m n q)) a.0 c.0) refl
  strings_fit (more {i = i} {m = m} {j = j} {n = n} {t = t} w q y) l h s r =
      let a = and_both (shape.is_string t) _ s in
      let c = or_neither (refused_in b t) _ r in
      let x = string_after_lem b 5 i t m w a.0 in
      let z = more_after b m j q in
      let e = walk_after b shape.is_string 6 (string_after_lem b 5) y a.1 in
      both_true _ _ (string_fits i t m w l (omega arith) a.0 c.0) (strings_fit y (omega arith) h a.1 c.1)

  tag_fits : (v : ℕ) (t : Json) (m : ℕ) → tree_at b 7 v ≡ got t m → lo ≤ v → m ≤ hi → is_array_of shape.is_string t ≡ true → refused_in b t ≡ false → wrong_tag t ≡ false → is_tag (tag_of b t) ≡ true
  unfolding is_tag wrong_tag refused_in strings_of all
  tag_fits v t m w l h s r c = go (array b shape.is_string 6 v t m w s) s r c
    where
      counted : (us : Items) → outside 1 16 (count us) ≡ false → all is_string_bytes (strings_of b us) ≡ true → is_tag (strings_of b us) ≡ true
      counted us c e =
          let (p, q) = bounded 1 16 (count us) c in
          let n = strings_count b us in
          rw (le-leb 1 (length (strings_of b us)) (omega arith), le-leb (length (strings_of b us)) 16 (omega arith)) e

      go : {t : Json} → Array b 6 v t m → is_array_of shape.is_string t ≡ true → refused_in b t ≡ false → wrong_tag t ≡ false → is_tag (tag_of b t) ≡ true
      go (bare k) s r c = counted nil c refl
      go (full {us = us} k y) s r c = counted us c (strings_fit y (omega arith) h s r)

  tags_fit : {k i n : ℕ} {ts : Items} → Walk (tree_at b 7) b k i ts n → lo ≤ i → n ≤ hi → all_items (λ p t. is_array_of shape.is_string t) ts ≡ true → refused_items b false ts ≡ false
      → any_item (λ p t. wrong_tag t) ts ≡ false → all is_tag (tags_of b ts) ≡ true
  unfolding all_items any_item refused_items tags_of all
  tags_fit (last {i = i} {m = m} {n = n} {t = t} w q) l h s r e =
      let a = and_both (is_array_of shape.is_string t) _ s in
      let c = or_neither (refused_in b t) _ r in
      let d = or_neither (wrong_tag t) _ e in
      both_true _ _ (tag_fits i t m w l (omega (arith, done_after b m n q)) a.0 c.0 d.0) refl
  tags_fit (more {i = i} {m = m} {j = j} {n = n} {t = t} w q y) l h s r e =
      let a = and_both (is_array_of shape.is_string t) _ s in
      let c = or_neither (refused_in b t) _ r in
      let d = or_neither (wrong_tag t) _ e in
      let x = tag_after b i t m w a.0 in
      let z = more_after b m j q in
      let o = walk_after b (is_array_of shape.is_string) 7 (tag_after b) y a.1 in
      both_true _ _ (tag_fits i t m w l (omega arith) a.0 c.0 d.0) (tags_fit y (omega arith) h a.1 c.1 d.1)

-- the array of the tags
value_fits : (b : List ℕ) (at : ℕ) → value2 b at ≡ false → value4 b at ≡ false → value5 lent.is_tags_shape b at ≡ false → on_value wrong_tags (tree_at b depth at) ≡ false → is_tags (lent_tags_at b at) ≡ true
unfolding value2 value4 value5 lent_tags_at is_tags refused_in tags_of all count_items
value_fits b at r2 r4 r5 r8 = go (tree_at b depth at) refl r2 r4 r5 r8
  where
    counted : (ts : Items) → outside 0 64 (count ts) ≡ false → all is_tag (tags_of b ts) ≡ true → is_tags (tags_of b ts) ≡ true
    counted ts c e =
        let (p, q) = bounded 0 64 (count ts) c in
        let n = tags_count b ts in
        rw (le-leb (length (tags_of b ts)) 64 (omega arith)) e

    on : {t : Json} {n : ℕ} → Array b 7 at t n → is_utf8 (part b at (n - at)) ≡ true → refused_in b t ≡ false → lent.is_tags_shape t ≡ true → wrong_tags t ≡ false → is_tags (tags_in b (got t n)) ≡ true
    on (bare h) u r s c = counted nil (or_neither (outside 0 64 0) _ c).0 refl
    on {n = n} (full {us = us} h y) u r s c =
        let (c₁, c₂) = or_neither (outside 0 64 (count us)) _ c in
        counted us c₁ (tags_fit b at n u y h (omega arith) s r c₂)

    go : (g : Got Json) → tree_at b depth at ≡ g → own_text b at g ≡ false → on_value (refused_in b) g ≡ false → not (on_value lent.is_tags_shape g) ≡ false → on_value wrong_tags g ≡ false → is_tags (tags_in b g) ≡ true
    go none w r2 r4 r5 r8 = absurd (let z : ◌≡◌ {A = ℕ} 0 1 = cc in omega arith)
    go (got t n) w r2 r4 r5 r8 =
        let s = not_false (lent.is_tags_shape t) r5 in
        on (array b (is_array_of shape.is_string) 7 at t n w s) (not_false (is_utf8 (part b at (n - at))) r2) r4 s r8

pub hex_same : (l : List ℕ) → all is_hex l ≡ spell.all is_hex l
unfolding all spell.all is_hex
hex_same [] = refl
hex_same (x ∷ l) = rw (hex_same l)

-- a string part
module _ (b : List ℕ) (p : Span) (r5 : string5 b p ≡ false) where
  spelled : is_spelled b p ≡ true
  unfolding string5
  spelled = not_false (is_spelled b p) r5

  span_fits : string2 b p ≡ false → string4 b p ≡ false → is_string_bytes (said b p) ≡ true
  unfolding string2 string4 is_spelled
  span_fits r2 r4 =
      let s = part b p.start p.len in
      let (i, q) = and_both (is_inside b p) (is_spelling s) spelled in
      let u = not_false (is_utf8 s) (and_fails (is_inside b p) _ i r2) in
      decoded_string s u q (and_fails _ (refuses s) spelled r4)

  hex_fits : string7 64 b p ≡ false → is_pubkey (said b p) ≡ true
  unfolding string7 is_pubkey
  hex_fits r7 =
      let s = part b p.start p.len in
      let h = not_false (is_hex_of 64 s) (and_fails (is_spelled b p) _ spelled r7) in
      rw (eq-eqb (length (decode s)) 64 (hex_length_lem 64 s h)) (digits (decode s) (hex_all 64 s h))
    where
      digits : (l : List ℕ) → spell.all is_hex l ≡ true → all is_hex l ≡ true
      digits l e = hex_same l ∙ e

-- numbers
kind_fits : (z : ℤ) → wrong_number (pos 0) (pos 65535) z ≡ false → is_kind (natural z) ≡ true
unfolding wrong_number is_within
kind_fits (pos n) e = let (p, q) = and_both (not (ltb n 0)) _ (not_false _ e) in le-leb n 65535 (ltb-false 65535 n (not-true (ltb 65535 n) q))
kind_fits (negsuc n) e = absurd (let z : ◌≡◌ {A = ℕ} 0 1 = cc in omega arith)

-- all of bodyRow's rows
record Passed (b : List ℕ) (p : Body) : Type 0 where
  row2 : body2 b p ≡ false
  row4 : body4 b p ≡ false
  row5 : body5 b p ≡ false
  row6 : body6 p ≡ false
  row7 : body7 b p ≡ false
  row8 : body8 b p ≡ false

passed : (b : List ℕ) (p : Body) → body_row b p ≡ 0 → Passed b p
unfolding body_row
passed b p e = go (body2 b p) (body4 b p) (body5 b p) (body6 p) (body7 b p) (body8 b p) refl refl refl refl refl refl e
  where
    go : (r2 r4 r5 r6 r7 r8 : Bool) → body2 b p ≡ r2 → body4 b p ≡ r4 → body5 b p ≡ r5 → body6 p ≡ r6 → body7 b p ≡ r7 → body8 b p ≡ r8 → lowest_by r2 r4 r5 r6 r7 r8 ≡ 0 → Passed b p
    go true r4 r5 r6 r7 r8 a b c d e f z = absurd (omega arith)
    go false true r5 r6 r7 r8 a b c d e f z = absurd (omega arith)
    go false false true r6 r7 r8 a b c d e f z = absurd (omega arith)
    go false false false true r7 r8 a b c d e f z = absurd (omega arith)
    go false false false false true r8 a b c d e f z = absurd (omega arith)
    go false false false false false true a b c d e f z = absurd (omega arith)
    go false false false false false false a b c d e f z = record { row2 = a; row4 = b; row5 = c; row6 = d; row7 = e; row8 = f }

pub lent_fit : (b : List ℕ) (p : Body) → body_row b p ≡ 0 → is_fit (event_of b p) ≡ true
unfolding is_fit event_of is_time body2 body4 body5 body6 body7 body8 wrong_number
lent_fit b p e =
    let r = passed b p e in
    let (k2, x2) = or_neither (string2 b p.pubkey) _ r.row2 in
    let (t2, c2) = or_neither (value2 b p.tags) _ x2 in
    let (k4, x4) = or_neither (string4 b p.pubkey) _ r.row4 in
    let (t4, c4) = or_neither (value4 b p.tags) _ x4 in
    let (k5, x5) = or_neither (string5 b p.pubkey) _ r.row5 in
    let (t5, c5) = or_neither (value5 lent.is_tags_shape b p.tags) _ x5 in
    let (t6, k6) = or_neither (lent.time6 p.created_at) _ r.row6 in
    both_true _ _ (hex_fits b p.pubkey k5 r.row7)
    (both_true _ _ (not_false (is_within (Value p.created_at) (neg_ℤ (pos widest)) (pos widest)) t6)
    (both_true _ _ (kind_fits p.kind k6) (both_true _ _ (value_fits b p.tags t2 t4 t5 r.row8) (span_fits b p.content c5 c2 c4))))

-- 01, "A text read back alone"
pub lent_read : (b : List ℕ) (p : Body) → body_row b p ≡ 0 → length (text_of b p) ≤ most_text → read_text (text_of b p) ≡ read (event_of b p)
unfolding text_of
lent_read b p e h = read_back (event_of b p) (lent_fit b p e) h

-- the text says which event it is
pub lent_once : (b : List ℕ) (p : Body) (c : List ℕ) (q : Body) → body_row b p ≡ 0 → body_row c q ≡ 0 → text_of b p ≡ text_of c q → event_of b p ≡ event_of c q
unfolding text_of
lent_once b p c q e f h = serialise_once (event_of b p) (event_of c q) (lent_fit b p e) (lent_fit c q f) h

-- and nothing but what the parts decode to matters: spelled anew, in any buffer, they have the same text, and the same
-- id
pub record Alike (b : List ℕ) (p : Body) (c : List ℕ) (q : Body) : Type 0 where
  pub pubkey : said b p.pubkey ≡ said c q.pubkey
  pub time : p.created_at ≡ q.created_at
  pub kind : p.kind ≡ q.kind
  pub tags : lent_tags_at b p.tags ≡ lent_tags_at c q.tags
  pub content : said b p.content ≡ said c q.content

module _ {b : List ℕ} {p : Body} {c : List ℕ} {q : Body} (a : Alike b p c q) where
  pub text_alike : text_of b p ≡ text_of c q
  unfolding text_of event_of
  text_alike = rw (a.pubkey, a.time, a.kind, a.tags, a.content)

  pub id_alike : body_row b p ≡ body_row c q → identified b p ≡ identified c q
  unfolding identified body_text_row is_large
  id_alike e = rw (text_alike, e)
