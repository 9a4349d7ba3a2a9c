-- A message that rows 1 to 5 let pass is an array of a word and more, and its parts stand where the code looks for
-- them.
use Rattle.std.specs.Prelude.{Option, Some, None, Result, Ok, Err}
use mathlib.Core.Path.{◌≡◌, refl, sym, ap, ◌∙◌}
use mathlib.Core.List.{List}
use mathlib.Core.Bool.{Bool, true, false, cond, not, false≢true}
use Prim.Native.Nat.{ℕ, suc, ◌+◌, ◌-◌}
use native.Mathlib.Omega.{arith}
use borrow.Author.Tests.{eqb-true, ne_eqb}
use lib.Dec.{eqb}
use lib.ListN.{length}
use Rattle.json_tree.specs.Grammar.{ws_at, string_at, scalar_at, start_at}
use Rattle.json_tree.specs.Tree.{Json, word, num, str, arr, obj, Items, nil, item, Got, none, got, on_leaf, node, items_at}
use Rattle.json_tree.specs.Tree.{group_at, tree_at, root}
use Rattle.json_tree.specs.declared.Kind.{Kind}
use Rattle.json_tree.specs.declared.Kind.TheVariants as kind
use Rattle.json_tree.specs.declared.Start.{Start}
use Rattle.json_tree.specs.declared.Start.TheVariants.{Leaf, Empty, Many}
use Rattle.json_tree.proofs.Trees.{tree_open}
use Rattle.spell.specs.Spell.{decode}
use Rattle.rows.specs.Strings.{part, spelled_at}
use Rattle.rows.specs.Rows.{row1, row2, row3}
use Rattle.shape.specs.Shape.{Word, event, req, close, other, word_of, name_at, opened, has_shape, is_then}
use Rattle.shape.specs.Shape.{is_string, is_filter}
use Rattle.shape.specs.Rows.{row4, row5, row6, row7, row8, tree_row, root_row, message_row, wrong_subscription}
use Rattle.shape.specs.Offsets.{refusal_of}
use Rattle.shape.specs.declared.Refusal.{Refusal}
use Rattle.message.specs.declared.Element.TheVariants.{At}
use Rattle.message.specs.declared.Message.{Message}
use Rattle.message.specs.declared.Message.TheVariants as message
use Rattle.message.specs.declared.Named.{Named}
use Rattle.message.specs.declared.Naming.{Naming}
use Rattle.message.specs.declared.Named.TheVariants as names
use Rattle.message.specs.Lists.{start_element, open_within, next_of}
use Rattle.message.specs.Parts.{span_of, members_of, members_got, members_at, event_parts_of, event_at}
use Rattle.message.specs.Read.{second_place, message_parts, in_root, read_of, read_number}
use Rattle.message.specs.Read.{RowRead, id_named, subscription_named, named_in, named_root, is_early, named_of, naming_of}
use Rattle.message.specs.Inner.{span_at, word_opening, opening_at, element_place, word_place, string_after, parts_at}
use Rattle.message.specs.Inner.{label_named, named_at}
use Rattle.message.proofs.Walks.{never, bind_got, deeper}
use Rattle.message.proofs.Scalars.{scalar_string}
use Rattle.message.proofs.Elements.{group_of, first_place, Listing, one, array_listing}
use Rattle.message.proofs.Found.{span_is}

-- ---- where rows 1 to 5 do not hold there is a tree, and it has its shape
pub data Shaped (s : List ℕ) : Type 0 where
  shaped : {t : Json} {n : ℕ} → root s ≡ got t n → has_shape s (opened s t).first (opened s t).rest ≡ true → Shaped s

pub late_shaped : (s : List ℕ) → is_early (message_row s) ≡ false → Shaped s
unfolding message_row tree_row
late_shaped s e = size (row1 s) e
  where
    shape : (t : Json) (n : ℕ) → root s ≡ got t n → (b : Bool) → has_shape s (opened s t).first (opened s t).rest ≡ b
        → is_early (cond (not b) 5 (cond (row6 s t) 6 (cond (row7 s t) 7 (cond (row8 s t) 8 0)))) ≡ false → Shaped s
    shape t n r true h q = shaped r h
    shape t n r false h q = absurd (false≢true (sym q))

    string : (t : Json) (n : ℕ) → root s ≡ got t n → (b : Bool)
        → is_early (cond b 4 (cond (row5 s t) 5 (cond (row6 s t) 6 (cond (row7 s t) 7 (cond (row8 s t) 8 0))))) ≡ false → Shaped s
    string t n r true q = absurd (false≢true (sym q))
    string t n r false q = shape t n r (has_shape s (opened s t).first (opened s t).rest) refl q

    tree : (g : Got Json) → root s ≡ g → is_early (root_row s g) ≡ false → Shaped s
    tree none r q = absurd (false≢true (sym q))
    tree (got t n) r q = string t n r (row4 s t) q

    text : (b : Bool) → is_early (cond b 3 (root_row s (root s))) ≡ false → Shaped s
    text true q = absurd (false≢true (sym q))
    text false q = tree (root s) refl q

    bytes : (b : Bool) → is_early (cond b 2 (cond (row3 s) 3 (root_row s (root s)))) ≡ false → Shaped s
    bytes true q = absurd (false≢true (sym q))
    bytes false q = text (row3 s) q

    size : (b : Bool) → is_early (cond b 1 (cond (row2 s) 2 (cond (row3 s) 3 (root_row s (root s))))) ≡ false → Shaped s
    size true q = absurd (false≢true (sym q))
    size false q = bytes (row2 s) q

-- ---- an array of a word and more
pub data Begun : Json → Type 0 where
  begun : {p v a n q w : ℕ} {u : Json} {us : Items} → Begun (arr (item p v (str a n) (item q w u us)))

pub begun_of : (s : List ℕ) (t : Json) → has_shape s (opened s t).first (opened s t).rest ≡ true → Begun t
begun_of s (word a n) e = absurd (false≢true e)
begun_of s (num a n) e = absurd (false≢true e)
begun_of s (str a n) e = absurd (false≢true e)
begun_of s (obj ts) e = absurd (false≢true e)
begun_of s (arr nil) e = absurd (false≢true e)
begun_of s (arr (item p v (word a n) ts)) e = absurd (false≢true e)
begun_of s (arr (item p v (num a n) ts)) e = absurd (false≢true e)
begun_of s (arr (item p v (arr us) ts)) e = absurd (false≢true e)
begun_of s (arr (item p v (obj us) ts)) e = absurd (false≢true e)
begun_of s (arr (item p v (str a n) nil)) e = alone (word_of (decode (part s a n))) e
  where
    alone : (w : Word) → has_shape s w nil ≡ true → Begun (arr (item p v (str a n) nil))
    alone event q = absurd (false≢true q)
    alone req q = absurd (false≢true q)
    alone close q = absurd (false≢true q)
    alone other q = absurd (false≢true q)
begun_of s (arr (item p v (str a n) (item q w u us))) e = begun

-- ---- a string's tree and its text
pub string_tree : (s : List ℕ) (d v a n m : ℕ) → tree_at s (suc d) v ≡ got (str a n) m → (k : ℕ) × (string_at s v ≡ Some k) × (v + 1 ≡ a) × (k - v - 2 ≡ n)
string_tree s d v a n m e = on (start_at s v) (sym (tree_open s d v (start_at s v) refl) ∙ e)
  where
    leaf : (k : Option Kind) → scalar_at s v ≡ k → on_leaf s v k ≡ got (str a n) m → (k : ℕ) × (string_at s v ≡ Some k) × (v + 1 ≡ a) × (k - v - 2 ≡ n)
    leaf (Some (kind.Str k)) r q = (k, scalar_string s v k r, cc, cc)
    leaf (Some (kind.Num k)) r q = absurd (let z : ◌≡◌ {A = ℕ} 0 1 = cc in omega arith)
    leaf (Some (kind.Word k)) r q = absurd (let z : ◌≡◌ {A = ℕ} 0 1 = cc in omega arith)
    leaf None r q = never q

    group : (named : Bool) (ts : Items) (k : ℕ) → got (node named ts) k ≡ got (str a n) m → (k : ℕ) × (string_at s v ≡ Some k) × (v + 1 ≡ a) × (k - v - 2 ≡ n)
    group true ts k q = absurd (let z : ◌≡◌ {A = ℕ} 0 1 = cc in omega arith)
    group false ts k q = absurd (let z : ◌≡◌ {A = ℕ} 0 1 = cc in omega arith)

    on : (r : Start) → group_at (tree_at s d) s v r ≡ got (str a n) m → (k : ℕ) × (string_at s v ≡ Some k) × (v + 1 ≡ a) × (k - v - 2 ≡ n)
    on Leaf q = leaf (scalar_at s v) refl q
    on (Empty k named) q = group named nil k q
    on (Many i named) q = let (ts, k, w, e₁) = bind_got (items_at (tree_at s d) s named (length s) i) _ q in group named ts k e₁

pub string_at_lem : (s : List ℕ) (v a n m : ℕ) → tree_at s open_within v ≡ got (str a n) m → spelled_at s v ≡ part s a n
unfolding spelled_at
string_at_lem s v a n m e = let (k, q, x, y) = string_tree s 6 v a n m e in rw (q, x, y)

-- ---- the parts of a message by places
third_place : (q w : ℕ) (u : Json) (us : Items) → element_place (first_place us) ≡ second_place (item q w u us)
third_place q w u nil = refl
third_place q w u (item p v t ts) = refl

module _ (s : List ℕ) (p v a n q w : ℕ) (u : Json) (us : Items) (m : ℕ) (r : root s ≡ got (arr (item p v (str a n) (item q w u us))) m) where
  listing : (start_element (start_at s (ws_at s 0)) ≡ At v) × Listing s (item p v (str a n) (item q w u us))
  listing = array_listing (group_of s (ws_at s 0) false _ m r)

  -- the word, what follows it, the second element, and what follows that
  laid : (spelled_at s v ≡ part s a n) × (next_of s v ≡ At w) × ((k : ℕ) × (tree_at s open_within w ≡ got u k)) × (next_of s w ≡ first_place us)
  laid = go listing.1
    where
      go : Listing s (item p v (str a n) (item q w u us)) → (spelled_at s v ≡ part s a n) × (next_of s v ≡ At w) × ((k : ℕ) × (tree_at s open_within w ≡ got u k)) × (next_of s w ≡ first_place us)
      go (one e f (one g h l)) = (string_at_lem s v a n _ e, f, (_, g), h)

  word_is : word_place s ≡ v
  unfolding word_place
  word_is = ap element_place listing.0

  opening_is : opening_at s v ≡ word_opening (word_of (decode (part s a n)))
  unfolding opening_at name_at
  opening_is = rw laid.0

  second_is : string_after s v ≡ w
  unfolding string_after
  second_is = ap element_place laid.1

  third_is : string_after s w ≡ second_place (item q w u us)
  unfolding string_after
  third_is = ap element_place laid.3 ∙ third_place q w u us

  span_second : span_at s w ≡ span_of u
  span_second = span_is s w laid.2.1

  event_second : event_at s w ≡ event_parts_of s (members_of u)
  unfolding event_at members_at
  event_second = ap (λ g. event_parts_of s (members_got g)) (deeper s open_within w u laid.2.0 laid.2.1)

  parts_are : (x : Word) → parts_at s (word_opening x) w ≡ message_parts s x (item q w u us)
  unfolding parts_at
  parts_are event = ap (λ x. Ok (message.Event x)) event_second
  parts_are req = rw (span_second, third_is)
  parts_are close = ap (λ x. Ok (message.Close x)) span_second
  parts_are other = refl

  label_is : (t : Json) → span_at s w ≡ span_of t → is_then is_string (is_filter s) (item q w t us) ≡ true → label_named s (span_at s w) ≡ subscription_named s t
  unfolding label_named wrong_subscription
  label_is (word b k) e h = absurd (false≢true h)
  label_is (num b k) e h = absurd (false≢true h)
  label_is (str b k) e h = rw e
  label_is (arr ts) e h = absurd (false≢true h)
  label_is (obj ts) e h = absurd (false≢true h)

  names_are : (x : Word) → has_shape s x (item q w u us) ≡ true → named_at s (word_opening x) w ≡ named_in s x (item q w u us)
  unfolding named_at event_parts_of
  names_are event h = ap (λ e. id_named s e.id) event_second
  names_are req h = label_is u span_second h
  names_are close h = refl
  names_are other h = refl

pub read_is : (s : List ℕ) → message_row s ≡ 0 → parts_at s (opening_at s (word_place s)) (string_after s (word_place s)) ≡ read_of s
unfolding read_of
read_is s z = rw z (go (late_shaped s (ap is_early z)))
  where
    on : {t : Json} {m : ℕ} → root s ≡ got t m → Begun t → parts_at s (opening_at s (word_place s)) (string_after s (word_place s)) ≡ in_root s (root s)
    on {m = m} r (begun {p = p} {v = v} {a = a} {n = n} {q = q} {w = w} {u = u} {us = us}) =
        rw (word_is s p v a n q w u us m r, opening_is s p v a n q w u us m r, second_is s p v a n q w u us m r, r)
        (parts_are s p v a n q w u us m r (word_of (decode (part s a n))))

    go : Shaped s → parts_at s (opening_at s (word_place s)) (string_after s (word_place s)) ≡ in_root s (root s)
    go (shaped {t = t} r h) = on r (begun_of s t h)

pub named_is : (s : List ℕ) → is_early (message_row s) ≡ false → named_at s (opening_at s (word_place s)) (string_after s (word_place s)) ≡ named_of s
unfolding named_of
named_is s z = rw z (go (late_shaped s z))
  where
    on : {t : Json} {m : ℕ} → root s ≡ got t m → has_shape s (opened s t).first (opened s t).rest ≡ true → Begun t
        → named_at s (opening_at s (word_place s)) (string_after s (word_place s)) ≡ named_root s (root s)
    on {m = m} r h (begun {p = p} {v = v} {a = a} {n = n} {q = q} {w = w} {u = u} {us = us}) =
        rw (word_is s p v a n q w u us m r, opening_is s p v a n q w u us m r, second_is s p v a n q w u us m r, r)
        (names_are s p v a n q w u us m r (word_of (decode (part s a n))) h)

    go : Shaped s → named_at s (opening_at s (word_place s)) (string_after s (word_place s)) ≡ named_root s (root s)
    go (shaped {t = t} r h) = on r h (begun_of s t h)

-- the number of an answer is the message's row: a message that has its shape begins with one of the three words
pub row_read : RowRead
unfolding read_of
row_read s = go (eqb (message_row s) 0) refl
  where
    by : (x : Word) (ts : Items) → has_shape s x ts ≡ true → read_number (message_parts s x ts) ≡ 0
    by event ts h = refl
    by req ts h = refl
    by close ts h = refl
    by other ts h = absurd (false≢true h)

    on : message_row s ≡ 0 → Shaped s → read_number (in_root s (root s)) ≡ message_row s
    on z (shaped {t = t} r h) = rw (r, z) (by (opened s t).first (opened s t).rest h)

    go : (b : Bool) → eqb (message_row s) 0 ≡ b → read_number (cond b (in_root s (root s)) (Err (refusal_of s))) ≡ message_row s
    go true e = let z = eqb-true (message_row s) 0 e in on z (late_shaped s (ap is_early z))
    go false e = refl

-- an answer and its number
pub with_row : (s : List ℕ) {r : Result Message Refusal} → r ≡ read_of s → (r ≡ read_of s) × (read_number r ≡ message_row s)
with_row s e = (e, ap read_number e ∙ row_read s)

-- what refuses a message, its own row, and what the reply names
module _ (s : List ℕ) {x : Refusal} (e : x ≡ refusal_of s) where
  pub own_row : {n : ℕ} → x.row ≡ n → message_row s ≡ n
  own_row z = sym (ap (λ y. y.row) e) ∙ z

  pub read_refused : (x.row ≡ 0 → ⊥) → Err x ≡ read_of s
  unfolding read_of
  read_refused n = simp (e, ne_eqb (message_row s) 0 (λ z. n (ap (λ y. y.row) e ∙ z)))

  pub named_early : {b : Bool} → b ≡ is_early x.row → b ≡ true → names.Nothing ≡ named_of s
  unfolding named_of
  named_early q t = simp (sym (ap (λ y. is_early y.row) e) ∙ sym q ∙ t)

  pub named_late : {b : Bool} → b ≡ is_early x.row → b ≡ false → is_early (message_row s) ≡ false
  named_late q t = sym (ap (λ y. is_early y.row) e) ∙ sym q ∙ t

  pub naming_is : {n : Named} → n ≡ named_of s → (◌≡◌ {A = Naming} (record { refusal = x; named = n }) (naming_of s)) × (x.row ≡ message_row s)
  naming_is q = (rw (e, q) refl, ap (λ y. y.row) e)
