-- 01, "The table": "Bytes after slot N-1 are never read", of a REQ's answer: the last claim of specs/Claims.
use Rattle.std.specs.Prelude.{Ok, Err}
use mathlib.Core.Path.{◌≡◌, refl, ap, ap₂, ◌∙◌}
use mathlib.Core.Bool.{Bool, true, false, cond}
use mathlib.Core.Logic.{⊎_elim}
use mathlib.Core.List.{List, ◌++◌}
use Prim.Native.Nat.{ℕ, ◌+◌, ◌≤◌, ◌<◌}
use native.Mathlib.Omega.{arith}
use borrow.Author.Tests.{ne_eqb}
use lib.Dec.{eqb, ltb}
use lib.ListN.{length, take, drop, length-drop}
use lib.Seq.{take-append-le, drop-append-le}
use Rattle.text.specs.Read.{read_text}
use Rattle.message.specs.declared.FilterParts.{FilterParts}
use Rattle.event.specs.Answer.{or_else, hex_of}
use Rattle.table.specs.Layout.{slot_size, table_size, slot_place, capacity_of, count_of, slot_at, id_in, text_in}
use Rattle.table.specs.Events.{signed_events, in_slot}
use Rattle.table.specs.Sound.{sound}
use Rattle.table.proofs.Bytes.{clauses}
use Rattle.table.proofs.Unread.{count_append, sound_append}
use Rattle.query.specs.Filter.{Filter}
use Rattle.query.specs.Answer.{among, numbers_from, union, newer_slot, matches_in, matches_slot, answer_list, meant}
use Rattle.query.specs.Answer.{filters_row, listing_row, listed, listed_row}
use Rattle.query.specs.Claims.{not_sound, ListingNeverRead}
use Rattle.query.proofs.Sorting.{from_among}
use Rattle.wire.proofs.Cases.{bool}
use Rattle.query.proofs.Answers.{union-same}
use Rattle.query.proofs.Listings.{listing_row_is}

-- ---- a table with bytes behind its last slot
module _ (b t : List ℕ) (full : length b ≡ table_size (capacity_of b)) where
  module _ (ok : sound b ≡ true) where
    -- a held slot lies within the table
    slot_append : (k : ℕ) → k < count_of b → slot_at (b ++ t) k ≡ slot_at b k
    slot_append k h =
        let few = (clauses b ok).count in
        let fit : slot_place k + slot_size ≤ length b = omega arith in
        ap (take slot_size) (drop-append-le (slot_place k) b t (omega arith))
        ∙ take-append-le slot_size (drop (slot_place k) b) t (omega (arith, length-drop (slot_place k) b))

    order_append : (j k : ℕ) → j < count_of b → k < count_of b → newer_slot (b ++ t) j k ≡ newer_slot b j k
    unfolding newer_slot
    order_append j k h i = ap₂ (λ x y. signed_events.newer (in_slot x) (in_slot y)) (slot_append j h) (slot_append k i)

    match_append : (f : Filter) (k : ℕ) → k < count_of b → matches_slot (b ++ t) f k ≡ matches_slot b f k
    unfolding matches_slot
    match_append f k h = ap (λ x. matches_in f (hex_of (id_in x)) (read_text (text_in x))) (slot_append k h)

    answer_append : (fs : List Filter) → answer_list (b ++ t) fs ≡ answer_list b fs
    unfolding answer_list
    answer_append fs =
        ap (λ c. union (newer_slot (b ++ t)) (matches_slot (b ++ t)) (numbers_from 0 c) fs) (count_append b t full)
        ∙ union-same (newer_slot (b ++ t)) (newer_slot b) (matches_slot (b ++ t)) (matches_slot b) (numbers_from 0 (count_of b))
        (λ j k m o. order_append j k (within j m) (within k o)) (λ f k m. match_append f k (within k m)) fs
      where
        within : (k : ℕ) → among (numbers_from 0 (count_of b)) k ≡ true → k < count_of b
        within k m = let (l, h) = from_among 0 (count_of b) k m in omega arith

  module _ (m : List ℕ) (fs : List FilterParts) (n : ℕ) (row : List ℕ) where
    abbrev later : List ℕ → Bool → ℕ
    later a s = or_else (filters_row m fs n) (cond s (cond (ltb (length row) (length a)) 13 0) 11)

    row_append : listing_row (b ++ t) m fs n row ≡ listing_row b m fs n row
    unfolding listing_row
    row_append = ap (later (answer_list (b ++ t) (meant m fs n))) (sound_append b t full) ∙ go (sound b) refl
      where
        go : (s : Bool) → sound b ≡ s → later (answer_list (b ++ t) (meant m fs n)) s ≡ later (answer_list b (meant m fs n)) s
        go true e = ap (λ a. later a true) (answer_append e (meant m fs n))
        go false e = refl

    -- an unsound table is refused
    is_refused_lem : sound b ≡ false → eqb (listing_row b m fs n row) 0 ≡ false
    is_refused_lem e = ne_eqb (listing_row b m fs n row) 0 ((listing_row_is b m fs n row).least 11 (not_sound e) (λ z. absurd (omega arith))).0

    -- so what is given by the row, and by the answer if there is one, is the same
    given : {A : Type 0} (w : List ℕ → A) (r : ℕ → A) →
        cond (eqb (listing_row (b ++ t) m fs n row) 0) (w (answer_list (b ++ t) (meant m fs n))) (r (listing_row (b ++ t) m fs n row))
        ≡ cond (eqb (listing_row b m fs n row) 0) (w (answer_list b (meant m fs n))) (r (listing_row b m fs n row))
    given w r =
        ap (λ x. cond (eqb x 0) (w (answer_list (b ++ t) (meant m fs n))) (r x)) row_append
        ∙ ⊎_elim (λ e. ap (λ a. cond (eqb (listing_row b m fs n row) 0) (w a) (r (listing_row b m fs n row))) (answer_append e (meant m fs n))) (λ e. rw (is_refused_lem e)) (bool (sound b))

    listed_append : listed (b ++ t) m fs n row ≡ listed b m fs n row
    unfolding listed
    listed_append = given (λ a. Ok (length a)) Err

    written_append : listed_row (b ++ t) m fs n row ≡ listed_row b m fs n row
    unfolding listed_row
    written_append = given (λ a. a ++ drop (length a) row) (λ r. row)

pub listing_never_read : ListingNeverRead
listing_never_read b t full = (answer_append b t full, λ m fs n row. (listed_append b t full m fs n row, written_append b t full m fs n row))
