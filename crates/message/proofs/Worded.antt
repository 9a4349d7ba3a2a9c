-- Whether a message's first word is EVENT, by the place of its first element.
use Rattle.std.specs.Option.{is_some}
use mathlib.Core.Path.{◌≡◌, refl, sym, ap, ◌∙◌}
use mathlib.Core.List.{List}
use mathlib.Core.Bool.{Bool, true, false, cond, false≢true}
use Prim.Native.Nat.{ℕ}
use Rattle.wire.specs.Bytes.{same_bytes}
use Rattle.json_tree.specs.Grammar.{ws_at, start_at}
use Rattle.json_tree.specs.Tree.{Json, word, num, str, arr, obj, Items, nil, item, Got, none, got, end_of, tree_at, root}
use Rattle.spell.specs.Spell.{chars_from, chars_bytes, decode}
use Rattle.rows.specs.Strings.{part}
use Rattle.rows.specs.Rows.{on_root}
use Rattle.shape.specs.Shape.{event, req, close, other, word_of, event_word, req_word, close_word, opened}
use Rattle.message.specs.declared.Element.TheVariants.{At}
use Rattle.message.specs.Lists.{start_element, open_within}
use Rattle.message.specs.Parts.{span_of}
use Rattle.message.specs.Read.{is_event_word, is_event}
use Rattle.message.specs.Inner.{is_event_at}
use Rattle.message.proofs.Elements.{group_of, Listing, one, array_listing, first_in, first_in_lem}
use Rattle.message.proofs.Found.{span_is}

is_event_word_lem : (w : List ℕ) → same_bytes w event_word ≡ is_event_word (word_of w)
unfolding word_of
is_event_word_lem w = go (same_bytes w event_word) (same_bytes w req_word) (same_bytes w close_word)
  where
    go : (a b c : Bool) → a ≡ is_event_word (cond a event (cond b req (cond c close other)))
    go true b c = refl
    go false true c = refl
    go false false true = refl
    go false false false = refl

module _ (s : List ℕ) where
  -- an element that is read at its place
  event_element : (v : ℕ) (u : Json) (n : ℕ) → tree_at s open_within v ≡ got u n → (p : ℕ) (ts : Items) → is_event_at s (At v) ≡ is_event_word (opened s (arr (item p v u ts))).first
  unfolding is_event_at decode chars_from chars_bytes same_bytes
  event_element v u n e p ts = rw (span_is s v e) (go u)
    where
      go : (u : Json) → same_bytes (decode (part s (span_of u).start (span_of u).len)) event_word ≡ is_event_word (opened s (arr (item p v u ts))).first
      go (word a k) = refl
      go (num a k) = refl
      go (str a k) = is_event_word_lem (decode (part s a k))
      go (arr us) = refl
      go (obj us) = refl

  event_tree : (t : Json) (n : ℕ) → root s ≡ got t n → is_event_at s (first_in t) ≡ is_event_word (opened s t).first
  unfolding is_event_at
  event_tree (word a k) n r = refl
  event_tree (num a k) n r = refl
  event_tree (str a k) n r = refl
  event_tree (obj ts) n r = refl
  event_tree (arr nil) n r = refl
  event_tree (arr (item p v u ts)) n r = go (array_listing (group_of s (ws_at s 0) false (item p v u ts) n r)).1
    where
      go : Listing s (item p v u ts) → is_event_at s (At v) ≡ is_event_word (opened s (arr (item p v u ts))).first
      go (one e f l) = event_element v u _ e p ts

  pub event_first : is_some (end_of (root s)) ≡ true → is_event_at s (start_element (start_at s (ws_at s 0))) ≡ is_event s
  unfolding is_event
  event_first e = go (root s) refl e
    where
      go : (g : Got Json) → root s ≡ g → is_some (end_of g) ≡ true → is_event_at s (start_element (start_at s (ws_at s 0))) ≡ on_root (λ t. is_event_word (opened s t).first) g
      go none r q = absurd (false≢true q)
      go (got t k) r q = ap (is_event_at s) (first_in_lem s open_within (ws_at s 0) t k r) ∙ event_tree t k r

  pub event_none : is_some (end_of (root s)) ≡ false → false ≡ is_event s
  unfolding is_event
  event_none e = go (root s) e
    where
      go : (g : Got Json) → is_some (end_of g) ≡ false → false ≡ on_root (λ t. is_event_word (opened s t).first) g
      go none q = refl
      go (got t k) q = absurd (false≢true (sym q))
