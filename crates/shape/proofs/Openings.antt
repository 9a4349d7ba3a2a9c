-- The first word as the code finds it, by its place, is the first word of the tree; and the ways out of
-- message_refusal.
use Rattle.std.specs.Prelude.{Option, Some, None}
use mathlib.Core.Path.{◌≡◌, refl, sym, ap, ◌∙◌}
use mathlib.Core.List.{List, [], ◌∷◌}
use mathlib.Core.Bool.{Bool, true, false, cond, not}
use Prim.Native.Nat.{ℕ, zero, suc, ◌+◌, ◌-◌, ◌≤◌, ◌<◌}
use native.Mathlib.Omega.{arith}
use borrow.Author.Tests.{eqb-true, eq-eqb, ne_eqb, lt-ltb, le-ltb}
use lib.Dec.{eqb}
use lib.ListN.{length, get_or}
use Rattle.json_tree.specs.Grammar.{case, ws_at, in_class, one_at, token_at, string_at, number_at, literal_at, scalar_at, opened_at}
use Rattle.json_tree.specs.Grammar.{start_at, next_at}
use Rattle.json_tree.specs.Tree.{Json, word, num, str, arr, obj, Items, nil, item, Got, none, got, bind, follow, node}
use Rattle.json_tree.specs.Tree.{on_leaf, items_at, group_at, tree_at, root, depth, end_of, ends_at}
use Rattle.json_tree.specs.declared.Kind.{Kind}
use Rattle.json_tree.specs.declared.Kind.TheVariants.{Str, Num, Word}
use Rattle.json_tree.specs.declared.Start.{Start}
use Rattle.json_tree.specs.declared.Start.TheVariants.{Leaf, Empty, Many}
use Rattle.json_tree.specs.declared.Next.{Next}
use Rattle.json_tree.specs.declared.Next.TheVariants.{More, Done}
use Rattle.json_tree.specs.declared.Next.TheVariants.{Wrong as NextWrong}
use Rattle.json_tree.proofs.Ends.{ends_bad}
use Rattle.json_tree.proofs.Trees.{tree_open, value_flat}
use Rattle.wire.specs.Limits.{most_message}
use Rattle.wire.specs.Bytes.{same_bytes, has_control}
use Rattle.spell.specs.Spell.{chars_from, chars_bytes, decode}
use Rattle.rows.specs.Strings.{part, spelled_at}
use Rattle.shape.specs.Shape.{name_at, other, word_of, opened}
use Rattle.shape.specs.Shape.{Word as TheWord}
use Rattle.utf8.specs.Utf8.{is_utf8}
use Rattle.shape.specs.Rows.{row4, row5, row8, tree_row, root_row, message_row}
use Rattle.shape.specs.Offsets.{number_places, hex_places, offset_of, refusal_of, plain_refusal}
use Rattle.shape.specs.Inner.{ends, places, fault_row, fault_offset, word_form, opening_of, fault_of, judged_of}
use Rattle.shape.proofs.Walks.{same_end, same_fault}
use Rattle.shape.proofs.Names.{no}
use Rattle.shape.proofs.Low.{Lowest}
use Rattle.shape.proofs.Placed.{number_some, hex_some}
use Rattle.shape.proofs.Told.{Told, told_row_lem, told_offset, offset_by}
use Rattle.shape.proofs.Standing.{Each}
use Rattle.shape.proofs.Offsets.{plain_refusal_lem, numbers_stand, hexes_stand, number_within, string_within}
use Rattle.shape.proofs.Messages.{lowest}

-- the word that a value spells, and that the first of some items does
abbrev pub word_in : List ℕ → Json → TheWord
word_in s (word a n) = other
word_in s (num a n) = other
word_in s (str a n) = word_of (decode (part s a n))
word_in s (arr ts) = other
word_in s (obj ts) = other

abbrev pub word_first : List ℕ → Items → TheWord
word_first s nil = other
word_first s (item p v t ts) = word_in s t

first_opened : (s : List ℕ) (ts : Items) → (opened s (arr ts)).first ≡ word_first s ts
first_opened s nil = refl
first_opened s (item p v (word a n) ts) = refl
first_opened s (item p v (num a n) ts) = refl
first_opened s (item p v (str a n) ts) = refl
first_opened s (item p v (arr us) ts) = refl
first_opened s (item p v (obj us) ts) = refl

module _ (s : List ℕ) (p : ℕ) where
  no_string : string_at s p ≡ None → other ≡ word_of (name_at s p)
  unfolding name_at spelled_at decode chars_bytes chars_from word_of same_bytes
  no_string e = rw e

  a_string : (n : ℕ) → string_at s p ≡ Some n → word_of (decode (part s (p + 1) (n - p - 2))) ≡ word_of (name_at s p)
  unfolding name_at spelled_at
  a_string n e = rw e

  -- ---- a value that holds no value
  leaf_word : (t : Json) (m : ℕ) → on_leaf s p (scalar_at s p) ≡ got t m → word_in s t ≡ word_of (name_at s p)
  unfolding scalar_at
  leaf_word t m e = go (string_at s p) (number_at s p) (literal_at s p) refl e
    where
      go : (o q r : Option ℕ) → string_at s p ≡ o → on_leaf s p (case o (λ n. Some (Str n)) (case q (λ n. Some (Num n)) (case r (λ n. Some (Word n)) None))) ≡ got t m → word_in s t ≡ word_of (name_at s p)
      go (Some n) q r e w = let z : str (p + 1) (n - p - 2) ≡ t = cc in rw (← z) (a_string n e)
      go None (Some n) r e w = let z : num p (n - p) ≡ t = cc in rw (← z) (no_string e)
      go None None (Some n) e w = let z : word p (n - p) ≡ t = cc in rw (← z) (no_string e)
      go None None None e w = no cc

  -- ---- brackets and braces are no quotes
  token_byte : (b n : ℕ) → token_at s b p ≡ Some n → get_or s p 0 ≡ b
  unfolding token_at one_at in_class
  token_byte b n e = go (eqb (get_or s p 0) b) refl e
    where
      go : (x : Bool) → eqb (get_or s p 0) b ≡ x → case (cond x (Some (p + 1)) None) (λ n. Some (ws_at s n)) None ≡ Some n → get_or s p 0 ≡ b
      go true q w = eqb-true _ _ q
      go false q w = ends_bad w

  not_quote : (b : ℕ) → get_or s p 0 ≡ b → eqb b 0x22 ≡ false → string_at s p ≡ None
  unfolding string_at one_at in_class
  not_quote b e f = rw (e, f)

  group_word : (r : Start) → start_at s p ≡ r → (r ≡ Leaf → ⊥) → other ≡ word_of (name_at s p)
  group_word r e n = go (token_at s 0x5B p) refl (token_at s 0x7B p) refl e
    where
      go : (x : Option ℕ) → token_at s 0x5B p ≡ x → (y : Option ℕ) → token_at s 0x7B p ≡ y → case x (λ n. opened_at s n false) (case y (λ n. opened_at s n true) Leaf) ≡ r → other ≡ word_of (name_at s p)
      go (Some m) q y w z = no_string (not_quote 0x5B (token_byte 0x5B m q) refl)
      go None q (Some m) w z = no_string (not_quote 0x7B (token_byte 0x7B m w) refl)
      go None q None w z = absurd (n (sym z))

  -- ---- any value
  value_word : (d : ℕ) (t : Json) (m : ℕ) → tree_at s d p ≡ got t m → word_in s t ≡ word_of (name_at s p)
  value_word zero t m e = leaf_word t m (value_flat s zero p refl ∙ e)
  value_word (suc d) t m e = go (start_at s p) refl (sym (tree_open s d p (start_at s p) refl) ∙ e)
    where
      node_word : (b : Bool) (ts : Items) → other ≡ word_in s (node b ts)
      node_word true ts = refl
      node_word false ts = refl

      many : (b : Bool) (g : Got Items) → bind g (λ ts n. got (node b ts) n) ≡ got t m → other ≡ word_in s t
      many b none w = no cc
      many b (got ts n) w = let z : node b ts ≡ t = cc in rw (← z) (node_word b ts)

      go : (r : Start) → start_at s p ≡ r → group_at (tree_at s d) s p r ≡ got t m → word_in s t ≡ word_of (name_at s p)
      go Leaf q w = leaf_word t m w
      go (Empty n b) q w = sym (many b (got nil n) w) ∙ group_word (Empty n b) q (λ z. no cc)
      go (Many i b) q w = sym (many b (items_at (tree_at s d) s b (length s) i) w) ∙ group_word (Many i b) q (λ z. no cc)

  -- ---- the first item of an array
  items_word : (d f : ℕ) (ts : Items) (m : ℕ) → items_at (tree_at s d) s false f p ≡ got ts m → word_first s ts ≡ word_of (name_at s p)
  unfolding items_at
  items_word d zero ts m e = no cc
  items_word d (suc f) ts m e = go (tree_at s d p) refl e
    where
      next : (t : Json) (x : Next) (k : ℕ → Got Items) → follow (item p p t) x k ≡ got ts m → word_first s ts ≡ word_in s t
      next t (More j) k w = more (k j) w
        where
          more : (g : Got Items) → bind g (λ us n. got (item p p t us) n) ≡ got ts m → word_first s ts ≡ word_in s t
          more none w = no cc
          more (got us n) w = let z : item p p t us ≡ ts = cc in rw (← z)
      next t (Done j) k w = let z : item p p t nil ≡ ts = cc in rw (← z)
      next t NextWrong k w = no cc

      go : (g : Got Json) → tree_at s d p ≡ g → bind g (λ t n. follow (item p p t) (next_at s n false) (items_at (tree_at s d) s false f)) ≡ got ts m → word_first s ts ≡ word_of (name_at s p)
      go none q w = no cc
      go (got t n) q w = next t (next_at s n false) _ w ∙ value_word d t n q

-- ---- the form of a message
module _ (s : List ℕ) (d at : ℕ) where
  leaf_other : (t : Json) (m : ℕ) (k : Option Kind) → on_leaf s at k ≡ got t m → (opened s t).first ≡ other
  leaf_other t m (Some (Str n)) w = let z : str (at + 1) (n - at - 2) ≡ t = cc in rw (← z)
  leaf_other t m (Some (Num n)) w = let z : num at (n - at) ≡ t = cc in rw (← z)
  leaf_other t m (Some (Word n)) w = let z : word at (n - at) ≡ t = cc in rw (← z)
  leaf_other t m None w = no cc

  empty_other : (t : Json) (m : ℕ) (b : Bool) (n : ℕ) → group_at (tree_at s d) s at (Empty n b) ≡ got t m → (opened s t).first ≡ other
  empty_other t m true n w = let z : obj nil ≡ t = cc in rw (← z)
  empty_other t m false n w = let z : arr nil ≡ t = cc in rw (← z)

  named_other : (t : Json) (m : ℕ) (g : Got Items) → bind g (λ ts n. got (obj ts) n) ≡ got t m → (opened s t).first ≡ other
  named_other t m none w = no cc
  named_other t m (got ts n) w = let z : obj ts ≡ t = cc in rw (← z)

  items_first : (t : Json) (m i : ℕ) (g : Got Items) → items_at (tree_at s d) s false (length s) i ≡ g → bind g (λ ts n. got (arr ts) n) ≡ got t m → (opened s t).first ≡ word_of (name_at s i)
  items_first t m i none q w = no cc
  items_first t m i (got ts n) q w = let z : arr ts ≡ t = cc in rw (← z) (first_opened s ts ∙ items_word s i d (length s) ts n q)

  pub opening_is : (t : Json) (m : ℕ) → tree_at s (suc d) at ≡ got t m → word_form (opened s t).first ≡ opening_of s (start_at s at)
  unfolding word_form
  opening_is t m e = go (start_at s at) (sym (tree_open s d at (start_at s at) refl) ∙ e)
    where
      go : (r : Start) → group_at (tree_at s d) s at r ≡ got t m → word_form (opened s t).first ≡ opening_of s r
      go Leaf w = ap word_form (leaf_other t m (scalar_at s at) w)
      go (Empty n b) w = ap word_form (empty_other t m b n w)
      go (Many i true) w = ap word_form (named_other t m (items_at (tree_at s d) s true (length s) i) w)
      go (Many i false) w = ap word_form (items_first t m i (items_at (tree_at s d) s false (length s) i) refl w)

-- ---- the ways out of message_refusal
module _ (s : List ℕ) where
  pub message_long : most_message < length s → plain_refusal 1 ≡ refusal_of s
  unfolding message_row
  message_long h = plain_refusal_lem s 1 (omega arith) (rw (lt-ltb most_message (length s) h))

  pub message_bytes : length s ≤ most_message → is_utf8 s ≡ false → plain_refusal 2 ≡ refusal_of s
  unfolding message_row
  message_bytes h u = plain_refusal_lem s 2 (omega arith) (rw (le-ltb most_message (length s) h, u))

  pub message_control : length s ≤ most_message → is_utf8 s ≡ true → has_control s ≡ true → plain_refusal 3 ≡ refusal_of s
  unfolding message_row
  message_control h u k = plain_refusal_lem s 3 (omega arith) (rw (le-ltb most_message (length s) h, u, k))

module _ (s : List ℕ) {f : ℕ} {at : ℕ} (short : length s ≤ most_message) (utf : is_utf8 s ≡ true) (clean : has_control s ≡ false) (place : at ≡ ws_at s 0) (form : f ≡ opening_of s (start_at s at)) where
  by_root : {x : ℕ} → x ≡ cond (not (ends_at (length s) (end_of (root s)))) 3 (root_row s (root s)) → x ≡ message_row s
  unfolding message_row
  by_root e = rw (le-ltb most_message (length s) short, utf, clean) e

  pub message_wrong : None ≡ judged_of s f at (tree_at s depth at) → plain_refusal 3 ≡ refusal_of s
  unfolding judged_of
  message_wrong e = plain_refusal_lem s 3 (omega arith) (by_root (go (root s) (rw place at e)))
    where
      go : (g : Got Json) → None ≡ judged_of s f (ws_at s 0) g → 3 ≡ cond (not (ends_at (length s) (end_of g))) 3 (root_row s g)
      go none w = refl
      go (got t n) w = no cc

  module _ (n : ℕ) {x : ℕ} (e : ends n x ≡ judged_of s f at (tree_at s depth at)) where
    -- the tree that was judged, and its fault
    judged : (t : Json) × (root s ≡ got t n) × Lowest x (row4 s t) (row5 s t) (number_places s t) (hex_places s t) (row8 s t)
    unfolding judged_of
    judged = go (root s) refl (rw place at e)
      where
        go : (g : Got Json) → root s ≡ g → ends n x ≡ judged_of s f (ws_at s 0) g
            → (t : Json) × (root s ≡ got t n) × Lowest x (row4 s t) (row5 s t) (number_places s t) (hex_places s t) (row8 s t)
        go none q w = no cc
        go (got t m) q w =
            let a : m ≡ n = sym (same_end w) in
            let b : fault_of s f (ws_at s 0) t ≡ x = sym (same_fault w) in
            let o : f ≡ word_form (opened s t).first = rw place at form ∙ sym (opening_is s 7 (ws_at s 0) t m q) in
            (t, q ∙ ap (got t) a, rw (← b, o) (lowest s (ws_at s 0) t))

    rows : n ≡ length s → (t : Json) → root s ≡ got t n → Lowest x (row4 s t) (row5 s t) (number_places s t) (hex_places s t) (row8 s t) → fault_row x ≡ message_row s
    unfolding tree_row
    rows h t q w =
        by_root (rw (q, eq-eqb n (length s) h, number_some s t, hex_some s t) (told_row_lem w))

    pub message_told : n ≡ length s → {row : ℕ} {o : Option ℕ} → row ≡ fault_row x → o ≡ fault_offset x → record { row = row; offset = o } ≡ refusal_of s
    unfolding offset_of
    message_told h r o =
        let (t, q, w) = judged in
        let m = rows h t q w in
        let c = few (λ v y. let l = number_within s v y in omega arith) (number_places s t) (numbers_stand s q) in
        let d = few (λ v y. let l = string_within s v y in omega arith) (hex_places s t) (hexes_stand s q) in
        rw (r, o, m, q) (ap (λ z. record { row = message_row s; offset = z }) (told_offset w c d ∙ ap (λ k. offset_by k (number_places s t) (hex_places s t)) (sym (told_row_lem w) ∙ m)))
      where
        few : {P : ℕ → Type 0} → ((v : ℕ) → P v → v < places) → (c : List ℕ) → Each P c → Told c
        few f [] h = tt
        few f (p ∷ ps) (h, hs) = f p h

    pub message_early : (n ≡ length s → ⊥) → plain_refusal 3 ≡ refusal_of s
    message_early h =
        let (t, q, w) = judged in
        plain_refusal_lem s 3 (omega arith) (by_root (rw (q, ne_eqb n (length s) h)))
