-- A whole message: what the walk answers is the lowest of the rows that hold, with its earliest place.
use mathlib.Core.Path.{◌≡◌, refl, sym, ap, ◌∙◌}
use mathlib.Core.List.{List, []}
use mathlib.Core.Bool.{Bool, true, false, cond, not, ◌&&◌, ◌||◌, or-false}
use Prim.Native.Nat.{ℕ, ◌+◌, ◌≤◌}
use native.Mathlib.Omega.{arith}
use borrow.Author.Tests.{lt-ltb, le-ltb, ltb-true, ne_eqb}
use lib.Dec.{eqb, ltb}
use Rattle.json_tree.specs.Tree.{Json, word, num, str, arr, obj, Items, nil, item, on_object, of_object}
use Rattle.spell.specs.Spell.{decode}
use Rattle.rows.specs.Strings.{part, refused_in, refused_items}
use Rattle.shape.specs.declared.Tally.{Tally}
use Rattle.shape.specs.Shape.{any_item, all_items, count, is_string, is_event, is_filter, is_one, Word}
use Rattle.shape.specs.Shape.{event, req, close, other, word_of, opened, has_shape}
use Rattle.wire.specs.Limits.{most_filters, hex_length}
use Rattle.shape.specs.Rows.{row4, row5, row8, in_message, wrong_request, outside, wrong_small, wrong_hex, event_number}
use Rattle.shape.specs.Rows.{event_hex, event_count, filter_number, filter_hex, filter_counts, wrong_subscription}
use Rattle.shape.specs.Offsets.{collect, member_places, message_places, number_places, hex_places}
use Rattle.shape.specs.Inner.{SHAPE, LABEL, EVENT, FILTER, OFFER, REQUEST, CLOSING, exactly, group_form, item_of}
use Rattle.shape.specs.Inner.{message_form, element_form, fresh, end_fault, closed, fault_of, fault_items, word_form}
use Rattle.shape.proofs.Names.{both_ways}
use Rattle.shape.proofs.Low.{placed_at, low, Lowest, After, said, after_said, after_hidden, hidden, ends, begins}
use Rattle.shape.proofs.Low.{not_both, between_last}
use Rattle.shape.proofs.Never.{turn_after, never}
use Rattle.shape.proofs.Leaves.{bounds_is, text, label}
use Rattle.shape.proofs.Lists.{array_after, no_place}
use Rattle.shape.proofs.Rowed.{fits_from, some_from, places_from, rowed}
use Rattle.shape.proofs.Events.{event as the-event}
use Rattle.shape.proofs.Filters.{filter}

-- ---- EVENT, CLOSE: a word, one element of the form h, and no more
module _ (s : List ℕ) (f h : ℕ) (ok w₈ : Json → Bool) (w₆ w₇ : ℕ → Json → List ℕ)
    (inner : (v : ℕ) (t : Json) → Lowest (fault_of s h v t) (refused_in s t) (not (ok t)) (w₆ v t) (w₇ v t) (w₈ t))
    (form : (k : ℕ) → element_form f k ≡ message_form k h 0) (end : (k : ℕ) (a : Tally) → end_fault f k a ≡ exactly 2 k) where
  -- what holds of element k: of the word, of the second, of any other
  abbrev each : {A : Type 0} (x y z : A) (k : ℕ) → A
  each x y z k = cond (eqb k 0) x (cond (eqb k 1) y z)

  element : (k v : ℕ) (t : Json)
      → Lowest (fault_of s (element_form f k) v t) (refused_in s t) (not (each (is_string t) (ok t) false k)) (each [] (w₆ v t) [] k) (each [] (w₇ v t) [] k) (each false (w₈ t) false k)
  unfolding message_form
  element k v t = rw (form k) (go (eqb k 0) (eqb k 1))
    where
      go : (x y : Bool)
          → Lowest (fault_of s (cond x 1 (cond y h 0)) v t) (refused_in s t) (not (cond x (is_string t) (cond y (ok t) false))) (cond x [] (cond y (w₆ v t) [])) (cond x [] (cond y (w₇ v t) []))
          (cond x false (cond y (w₈ t) false))
      go true y = text s v t
      go false true = inner v t
      go false false = never s v t

  elements : (ts : Items)
      → After (fault_items s false f 0 fresh ts) fresh.fault (refused_items s false ts) (not (fits_from 2 (λ k t. each (is_string t) (ok t) false k) 0 ts)) (places_from (λ k v t. each [] (w₆ v t) [] k) 0 ts)
      (places_from (λ k v t. each [] (w₇ v t) [] k) 0 ts) (some_from (λ k t. each false (w₈ t) false k) 0 ts)
  elements ts =
      rowed s f 2 (λ k t. each (is_string t) (ok t) false k) (λ k t. each false (w₈ t) false k) (λ k v t. each [] (w₆ v t) [] k) (λ k v t. each [] (w₇ v t) [] k) element end 0 fresh ts

  and_none : (x : Bool) → not (x && false) ≡ true
  and_none true = refl
  and_none false = refl

  and_all : (x : Bool) → not (x && true) ≡ not x
  and_all true = refl
  and_all false = refl

  pair : (p v a n : ℕ) (ts : Items)
      → Lowest (fault_items s false f 0 fresh (item p v (str a n) ts)) (refused_items s false (item p v (str a n) ts)) (not (is_one ok ts)) (collect (λ p v t. w₆ v t) ts) (collect (λ p v t. w₇ v t) ts)
      (any_item (λ p t. w₈ t) ts)
  unfolding fits_from some_from places_from collect any_item fresh
  pair p v a n nil = begins (elements (item p v (str a n) nil))
  pair p v a n (item q w u nil) = said refl (and_all (ok u)) refl refl refl (begins (elements (item p v (str a n) (item q w u nil))))
  pair p v a n (item q w u (item q' w' u' us)) =
      hidden (said refl (and_none (ok u)) refl refl refl (begins (elements (item p v (str a n) (item q w u (item q' w' u' us))))))

-- ---- REQ: a word, a subscription id, and filters
module _ (s : List ℕ) where
  -- the places of the message by what it is
  abbrev numbers_in : (w : Word) (ts : Items) → List ℕ
  numbers_in w ts = message_places (member_places (event_number s) (wrong_small s)) (member_places (filter_number s) (wrong_small s)) w ts

  abbrev hexes_in : (w : Word) (ts : Items) → List ℕ
  hexes_in w ts = message_places (member_places (event_hex s) (wrong_hex hex_length s)) (member_places (filter_hex s) (wrong_hex hex_length s)) w ts

  over_filters : (k : ℕ) (a : Tally) → Lowest (end_fault REQUEST k a) false (ltb k 2) [] [] (outside 3 (2 + most_filters) k)
  unfolding low placed_at end_fault
  over_filters k a = record { is = ap (cond (ltb k 2) SHAPE) (bounds_is 3 (2 + most_filters) k) }

  later : (k : ℕ) → 2 ≤ k → element_form REQUEST k ≡ FILTER
  unfolding element_form message_form
  later k h = rw (ne_eqb k 0 (λ e. omega arith), ne_eqb k 1 (λ e. omega arith))

  -- two elements stand before the filters
  two_less : (n : ℕ) → outside 3 (2 + most_filters) (2 + n) ≡ outside 1 most_filters n
  two_less n = rw (shift 1, shift' most_filters)
    where
      shift : (m : ℕ) → ltb (2 + n) (2 + m) ≡ ltb n m
      shift m = both_ways _ _ (λ e. let h = ltb-true (2 + n) (2 + m) e in lt-ltb n m (omega arith)) (λ e. let h = ltb-true n m e in lt-ltb (2 + n) (2 + m) (omega arith))

      shift' : (m : ℕ) → ltb (2 + m) (2 + n) ≡ ltb m n
      shift' m = both_ways _ _ (λ e. let h = ltb-true (2 + m) (2 + n) e in lt-ltb m n (omega arith)) (λ e. let h = ltb-true m n e in lt-ltb (2 + m) (2 + n) (omega arith))

  request : (a : Tally) (ts : Items)
      → After (fault_items s false REQUEST 1 a ts) a.fault (refused_items s false ts) (not (has_shape s req ts)) (numbers_in req ts) (hexes_in req ts)
      (wrong_request s req ts || in_message (on_object (any_item (event_count s))) (on_object (filter_counts s)) req ts)
  unfolding fault_of refused_in item_of element_form message_form closed
  request a nil = after_hidden (ends refl (over_filters 1 a))
  request a (item q w u us) =
      after_said refl
      (ap (λ (x : Bool). not (is_string u) || (not (all_items (λ p t. is_filter s t) us) || x)) (le-ltb (2 + count us) 2 (omega arith)) ∙ not_both (is_string u) (all_items (λ p t. is_filter s t) us) false
      ∙ or-false (not (is_string u && all_items (λ p t. is_filter s t) us))) refl refl
      (ap (λ (x : Bool). wrong_subscription s u || (any_item (λ p t. on_object (filter_counts s) t) us || x)) (two_less (count us))
      ∙ between_last (wrong_subscription s u) (any_item (λ p t. on_object (filter_counts s) t) us) (outside 1 most_filters (count us)))
      (turn_after s REQUEST false 1 q a (label s w u)
      (array_after s REQUEST FILTER 2 (is_filter s) (on_object (filter_counts s)) (λ v t. of_object [] (member_places (filter_number s) (wrong_small s)) t)
      (λ v t. of_object [] (member_places (filter_hex s) (wrong_hex hex_length s)) t) (λ k. ltb k 2) (outside 3 (2 + most_filters)) (filter s)
      later over_filters 2 _ us (omega arith)))

  -- ---- by the first word
  by_word : (x : Word) (at p v a n : ℕ) (ts : Items)
      → Lowest (fault_of s (word_form x) at (arr (item p v (str a n) ts))) (refused_in s (arr (item p v (str a n) ts))) (not (has_shape s x ts)) (numbers_in x ts) (hexes_in x ts)
      (wrong_request s x ts || in_message (on_object (any_item (event_count s))) (on_object (filter_counts s)) x ts)
  unfolding fault_of refused_in word_form group_form element_form message_form end_fault item_of fresh
  by_word event at p v a n ts =
      pair s OFFER EVENT (is_event s) (on_object (any_item (event_count s))) (λ v t. of_object [] (member_places (event_number s) (wrong_small s)) t)
      (λ v t. of_object [] (member_places (event_hex s) (wrong_hex hex_length s)) t) (the-event s) (λ k. refl) (λ k a. refl) p v a n ts
  by_word req at p v a n ts = begins (turn_after s REQUEST false 0 p fresh (text s v (str a n)) (request _ ts))
  by_word close at p v a n ts =
      said refl refl (no_place ts) (no_place ts) (sym (or-false _))
      (pair s CLOSING LABEL is_string (wrong_subscription s) (λ v t. []) (λ v t. []) (label s) (λ k. refl) (λ k a. refl) p v a n ts)
  by_word other at p v a n ts = never s at (arr (item p v (str a n) ts))

  -- ---- every message
  pub lowest : (at : ℕ) (t : Json) → Lowest (fault_of s (word_form (opened s t).first) at t) (row4 s t) (row5 s t) (number_places s t) (hex_places s t) (row8 s t)
  unfolding word_form number_places hex_places row8
  lowest at (word a n) = never s at (word a n)
  lowest at (num a n) = never s at (num a n)
  lowest at (str a n) = never s at (str a n)
  lowest at (obj ts) = never s at (obj ts)
  lowest at (arr nil) = never s at (arr nil)
  lowest at (arr (item p v (word a n) ts)) = never s at (arr (item p v (word a n) ts))
  lowest at (arr (item p v (num a n) ts)) = never s at (arr (item p v (num a n) ts))
  lowest at (arr (item p v (str a n) ts)) = by_word (word_of (decode (part s a n))) at p v a n ts
  lowest at (arr (item p v (arr us) ts)) = never s at (arr (item p v (arr us) ts))
  lowest at (arr (item p v (obj us) ts)) = never s at (arr (item p v (obj us) ts))
