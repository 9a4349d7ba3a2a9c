-- What the definitions of this crate mean, as claims; proofs/Matching, Answers, Tables, Lent, ReadFilters, Asked,
-- Listings and Unread prove them.
-- Quotes are from 01, "Filters and replies", where nothing else is said.
use Rattle.std.specs.Prelude.{◌≡◌, Bool, true, false, cond, ◌↔◌, ◌⊎◌, ◌≢◌, List, [], ◌∷◌, ◌++◌, ℕ, min, ◌≤◌, ◌<◌, T, Ok}
use Rattle.std.specs.Prelude.{eqb, ltb, ℤ, pos, ◌≤ℤ◌, length, take, drop, Option, Some, None}
use Rattle.json_tree.specs.Tree.{Json, arr, Items, nil, item, got, root}
use Rattle.shape.specs.Shape.{count}
use Rattle.text.specs.Event.{Tag, Event}
use Rattle.text.specs.Read.{read, read_text}
use Rattle.message.specs.declared.EventParts.{EventParts}
use Rattle.message.specs.declared.ReqParts.{ReqParts}
use Rattle.message.specs.declared.Message.TheVariants.{Req}
use Rattle.message.specs.declared.FilterParts.{FilterParts}
use Rattle.message.specs.Parts as parts
use Rattle.message.specs.Parts.{members_of}
use Rattle.message.specs.Lent.{event_row, filter_row}
use Rattle.message.specs.Read.{read_of}
use Rattle.event.specs.Lent.{natural, said, event_of}
use Rattle.event.specs.Answer.{hex_of, is_large}
use Rattle.law.specs.Lists.{◌∈◌, different, Pairwise, Once}
use Rattle.law.specs.Event.{earlier, lower}
use Rattle.table.specs.Layout.{table_size, capacity_of, count_of, slot_at, id_in, text_in}
use Rattle.table.specs.Events.{time_of_text}
use Rattle.table.specs.Sound.{sound_up_to, sound}
use Rattle.query.specs.Filter.{Condition, Filter, filter_of}
use Rattle.query.specs.Match.{is_member, same_number, kind_listed, since_holds, until_holds, condition_holds, matches}
use Rattle.query.specs.Match.{matches_some}
use Rattle.query.specs.Answer.{keep, numbers_from, picked, union, newer_slot, matches_slot, answer_list}
use Rattle.query.specs.Answer.{filter_parts_at, filters_meant, meant, lowest_of, filters_row, answer_to, matched_row}
use Rattle.query.specs.Answer.{matched, match_number, match_value, listing_row_if, listing_row, listed, listed_row}
use Rattle.query.specs.Answer.{listing_number, listed_count}
use Rattle.wire.specs.Bytes.{Bytes, is_hex}
use Rattle.wire.specs.Limits.{hex_length}
use Rattle.spell.specs.Spell.{all}
use Rattle.wire.specs.Lowest.{Lowest}

-- ---- matching
-- "exact membership"
abbrev pub ExactMember : Type 0
ExactMember = (l : List (List ℕ)) (v : List ℕ) → T (is_member l v) ↔ (v ∈ l)

-- 01, "Errors": "002 matches prefixes; 001 wants whole values": neither of two values of which one begins the other is
-- taken for it
abbrev pub NoPrefix : Type 0
NoPrefix = (v w : List ℕ) → w ≢ [] → (T (is_member (v ∷ []) (v ++ w)) → ⊥) × (T (is_member ((v ++ w) ∷ []) v) → ⊥)

abbrev pub SameNumber : Type 0
SameNumber = (a b : ℤ) → T (same_number a b) ↔ (a ≡ b)

abbrev pub ExactKind : Type 0
ExactKind = (l : List ℤ) (k : ℕ) → T (kind_listed (Some l) k) ↔ (pos k ∈ l)

-- "since and until are inclusive."
abbrev pub SinceInclusive : Type 0
SinceInclusive = (s t : ℤ) → T (since_holds (Some s) t) ↔ (s ≤ℤ t)

abbrev pub UntilInclusive : Type 0
UntilInclusive = (u t : ℤ) → T (until_holds (Some u) t) ↔ (t ≤ℤ u)

-- the time that is the bound itself passes both
abbrev pub AtTheBound : Type 0
AtTheBound = (t : ℤ) → T (since_holds (Some t) t) × T (until_holds (Some t) t)

-- "`#x` needs a tag named x of at least two strings whose second is in the list"
pub record Tagged (c : Condition) (ts : List Tag) : Type 0 where
  pub second : List ℕ
  pub others : List (List ℕ)
  pub has_tag : ((c.letter ∷ []) ∷ second ∷ others) ∈ ts
  pub is_listed_lem : second ∈ c.members

abbrev pub ConditionMeans : Type 0
ConditionMeans = (ts : List Tag) (c : Condition) → T (condition_holds ts c) ↔ Tagged c ts

-- "All conditions of a filter hold", of those that it has
pub record AllHold (f : Filter) (i : List ℕ) (e : Event) : Type 0 where
  pub ids : (l : List (List ℕ)) → f.ids ≡ Some l → i ∈ l
  pub authors : (l : List (List ℕ)) → f.authors ≡ Some l → e.pubkey ∈ l
  pub kinds : (l : List ℤ) → f.kinds ≡ Some l → pos e.kind ∈ l
  pub since : (s : ℤ) → f.since ≡ Some s → s ≤ℤ e.time
  pub until : (u : ℤ) → f.until ≡ Some u → e.time ≤ℤ u
  pub conditions : (c : Condition) → c ∈ f.conditions → Tagged c e.tags

abbrev pub MatchMeans : Type 0
MatchMeans = (f : Filter) (i : List ℕ) (e : Event) → T (matches f i e) ↔ AllHold f i e

-- "any filter suffices."
abbrev pub AnySuffices : Type 0
AnySuffices =
    (fs : List Filter) (i : List ℕ) (e : Event) → T (matches_some fs i e) ↔ ((f : Filter) × (f ∈ fs) × T (matches f i e))

-- the filter f with another limit, which is no condition on an event
abbrev pub limited : Filter → Option ℤ → Filter
limited f l = record {
  ids = f.ids;
  authors = f.authors;
  kinds = f.kinds;
  since = f.since;
  until = f.until;
  limit = l;
  conditions = f.conditions;
}

abbrev pub LimitAside : Type 0
LimitAside = (f : Filter) (l : Option ℤ) (i : List ℕ) (e : Event) → matches (limited f l) i e ≡ matches f i e

-- "`{}` matches all."
abbrev pub everything : Filter
everything =
    record { ids = None; authors = None; kinds = None; since = None; until = None; limit = None; conditions = [] }

abbrev pub EmptyMatches : Type 0
EmptyMatches = (i : List ℕ) (e : Event) → T (matches everything i e)

-- ---- the answer, over any test `newer`, by which two slots may also be alike
pub record Orders (newer : ℕ → ℕ → Bool) : Type 0 where
  pub asym : (a b : ℕ) → newer a b ≡ true → newer b a ≡ false
  -- what is newer than b is newer than all that are not
  pub past : (a b c : ℕ) → newer a b ≡ true → newer c b ≡ false → newer a c ≡ true

-- each entry once
abbrev pub Distinct : Bytes → Type 0
Distinct l = Once (λ (s : ℕ). s) l

-- no later entry is newer
abbrev pub NoneNewer : (ℕ → ℕ → Bool) → Bytes → Type 0
NoneNewer newer l = Pairwise (λ x y. T (newer y x) → ⊥) l

-- each is newer than all after it
abbrev pub Descending : (ℕ → ℕ → Bool) → Bytes → Type 0
Descending newer l = Pairwise (λ x y. T (newer x y)) l

module _ (newer : ℕ → ℕ → Bool) (fits : Filter → ℕ → Bool) (held : List ℕ) where
  -- s is a match of the filter f
  abbrev pub Match : Filter → ℕ → Type 0
  Match f s = (s ∈ held) × T (fits f s)

  -- some filter picks s
  abbrev pub Picked : List Filter → ℕ → Type 0
  Picked fs s = (f : Filter) × (f ∈ fs) × (s ∈ picked newer fits held f)

  -- "for each filter its matches, newest first .., cut to limit if given"
  pub record NewestMatches (f : Filter) : Type 0 where
    pub matching : (s : ℕ) → s ∈ picked newer fits held f → Match f s
    pub once : Distinct held → Distinct (picked newer fits held f)
    pub newest_first_lem : Orders newer → NoneNewer newer (picked newer fits held f)
    -- no match left out is newer than one picked
    pub left_out : Orders newer → (s t : ℕ) → s ∈ picked newer fits held f → Match f t →
        (t ∈ picked newer fits held f → ⊥) → T (newer t s) → ⊥
    pub absent : f.limit ≡ None → (s : ℕ) → (s ∈ picked newer fits held f) ↔ Match f s
    pub number : (z : ℤ) → f.limit ≡ Some z → length (picked newer fits held f) ≡ min (natural z)
        (length (keep (fits f) held))
    -- 01, "Errors": "002's "if filter.limit" .. take 0 for absent"
    pub zero : f.limit ≡ Some (pos 0) → picked newer fits held f ≡ []

  abbrev pub PickedMeans : Type 0
  PickedMeans = (f : Filter) → NewestMatches f

  -- "the union, each slot once, in that order"
  abbrev pub UnionMeans : Type 0
  UnionMeans = (fs : List Filter) (s : ℕ) → (s ∈ union newer fits held fs) ↔ ((s ∈ held) × Picked fs s)

  abbrev pub UnionOnce : Type 0
  UnionOnce = (fs : List Filter) → Distinct held → Distinct (union newer fits held fs)

  abbrev pub UnionNewest : Type 0
  UnionNewest = (fs : List Filter) → Orders newer → NoneNewer newer (union newer fits held fs)

  -- where of any two held slots one is newer
  abbrev pub UnionDescends : Type 0
  UnionDescends = (fs : List Filter) → Orders newer → Distinct held →
      ((s t : ℕ) → s ∈ held → t ∈ held → s ≢ t → T (newer s t) ⊎ T (newer t s)) →
      Descending newer (union newer fits held fs)

  -- what the filters pick, one list behind the other; the union has as many entries as are different in it
  unfoldable pub all_picked : List Filter → List ℕ
  all_picked [] = []
  all_picked (f ∷ fs) = picked newer fits held f ++ all_picked fs

  abbrev pub UnionSize : Type 0
  UnionSize = (fs : List Filter) → Distinct held → length (union newer fits held fs) ≡ different eqb (all_picked fs)

  abbrev pub UnionShort : Type 0
  UnionShort = (fs : List Filter) → length (union newer fits held fs) ≤ length held

  -- more filters lose no slot; neither the order of the filters matters nor how often one is given
  abbrev pub MoreFilters : Type 0
  MoreFilters = (fs gs : List Filter) → ((f : Filter) → f ∈ fs → f ∈ gs) → (s : ℕ) → s ∈ union newer fits held fs →
      s ∈ union newer fits held gs

  abbrev pub FilterOrder : Type 0
  FilterOrder = (fs gs : List Filter) → ((f : Filter) → (f ∈ fs) ↔ (f ∈ gs)) →
      union newer fits held fs ≡ union newer fits held gs

-- those that pass, and the numbers from 0 on
abbrev pub KeepMeans : Type 0
KeepMeans = (p : ℕ → Bool) (l : List ℕ) (s : ℕ) → (s ∈ keep p l) ↔ ((s ∈ l) × T (p s))

abbrev pub FromMeans : Type 0
FromMeans = (n s : ℕ) → (s ∈ numbers_from 0 n) ↔ (s < n)

-- ---- the answer over the table b
-- "later time, then lower id"
abbrev pub NewerMeans : Type 0
NewerMeans = (b : List ℕ) (j k : ℕ) → T (newer_slot b j k) ↔ (
    T (earlier (time_of_text (text_in (slot_at b k))) (time_of_text (text_in (slot_at b j))))
    ⊎ ((time_of_text (text_in (slot_at b k)) ≡ time_of_text (text_in (slot_at b j))) ×
    T (lower (id_in (slot_at b j)) (id_in (slot_at b k))))
    )

-- in every table, sound or not
abbrev pub SlotsOrdered : Type 0
SlotsOrdered = (b : List ℕ) → Orders (newer_slot b)

-- in a sound table every held slot has an event, with its id in hex, and it is that event which the filters are asked
-- of
abbrev pub SlotMatches : Type 0
SlotMatches = (b : List ℕ) → sound b ≡ true → (k : ℕ) → k < count_of b →
    (e : Event) × (read_text (text_in (slot_at b k)) ≡ read e) ×
    ((f : Filter) → matches_slot b f k ≡ matches f (hex_of (id_in (slot_at b k))) e)

pub record AnswerIs (b : List ℕ) (fs : List Filter) : Type 0 where
  -- "Slots 0 to C-1 are held"
  pub exactly : (s : ℕ) → (s ∈ answer_list b fs) ↔
      ((s < count_of b) × Picked (newer_slot b) (matches_slot b) (numbers_from 0 (count_of b)) fs s)
  pub matching : (s : ℕ) → s ∈ answer_list b fs → (f : Filter) × (f ∈ fs) × T (matches_slot b f s)
  -- with no limit, all that match
  pub unlimited : ((f : Filter) → f ∈ fs → f.limit ≡ None) → (s : ℕ) (f : Filter) → s < count_of b → f ∈ fs →
      T (matches_slot b f s) → s ∈ answer_list b fs
  pub once : Distinct (answer_list b fs)
  pub newest_first_lem : NoneNewer (newer_slot b) (answer_list b fs)
  pub descends : sound b ≡ true → Descending (newer_slot b) (answer_list b fs)
  -- no other list has these slots in that order
  pub only : sound b ≡ true → (l : List ℕ) → ((s : ℕ) → (s ∈ l) ↔ (s ∈ answer_list b fs)) → Descending (newer_slot b) l →
      l ≡ answer_list b fs
  -- "its length is the count answered": 01, "How far": "the union's size"
  pub size : length (answer_list b fs) ≡ different eqb
      (all_picked (newer_slot b) (matches_slot b) (numbers_from 0 (count_of b)) fs)
  pub short : length (answer_list b fs) ≤ count_of b

abbrev pub AnswerMeans : Type 0
AnswerMeans = (b : List ℕ) (fs : List Filter) → AnswerIs b fs

-- 01, "Cases": "limit 0 matches nothing stored"
abbrev pub LimitZero : Type 0
LimitZero = (b : List ℕ) (f : Filter) → answer_list b (limited f (Some (pos 0)) ∷ []) ≡ []

-- ---- the filters of a REQ
-- what some elements of a message's array mean as filters, one each
unfoldable pub filters_of_items : Bytes → Items → List Filter
filters_of_items m nil = []
filters_of_items m (item p v t ts) = filter_of m (parts.filter_parts_of m v (members_of t)) ∷ filters_of_items m ts

-- a REQ is answered by all its filters, in their order: those after the first word and the subscription id, as many as
-- there are
abbrev pub AllFilters : Type 0
AllFilters = (m : List ℕ) (r : ReqParts) → read_of m ≡ Ok (Req r) →
    (p v q w n : ℕ) (first subscription : Json) (ts : Items) →
    root m ≡ got (arr (item p v first (item q w subscription ts))) n →
    (filters_meant m r.filters ≡ filters_of_items m ts) × (length (filters_meant m r.filters) ≡ count ts)

-- lent parts that are those of the text mean what the text means
abbrev pub TextFilters : Type 0
TextFilters =
    (m : List ℕ) (v : ℕ) (fs : List FilterParts) (n : ℕ) → take n fs ≡ filter_parts_at m v →
    meant m fs n ≡ filters_meant m v

-- ---- lent filters
-- the row r holds of the first n of fs
pub data RowHolds (m : List ℕ) (fs : List FilterParts) (n : ℕ) : ℕ → Type 0 where
  of_filter : {p : FilterParts} → p ∈ take n fs → RowHolds m fs n (filter_row m p)
  miscounted : (n < 1) ⊎ (4 < n) → RowHolds m fs n 8

abbrev pub LowestMeans : Type 0
LowestMeans = (rs : List ℕ) → Lowest (λ r. r ∈ rs) (lowest_of rs)

abbrev pub FiltersRowIs : Type 0
FiltersRowIs = (m : List ℕ) (fs : List FilterParts) (n : ℕ) → Lowest (RowHolds m fs n) (filters_row m fs n)

-- "1 to 4 filters"
pub record AllPass (m : List ℕ) (fs : List FilterParts) (n : ℕ) : Type 0 where
  pub each : (p : FilterParts) → p ∈ take n fs → filter_row m p ≡ 0
  pub some : 1 ≤ n
  pub few : n ≤ 4

abbrev pub LentPass : Type 0
LentPass = (m : List ℕ) (fs : List FilterParts) (n : ℕ) → (filters_row m fs n ≡ 0) ↔ AllPass m fs n

-- what was read from an accepted REQ passes as lent parts, so the program's own call is never refused by rows 2 and 4
-- to 8
abbrev pub ReadPasses : Type 0
ReadPasses = (m : List ℕ) (r : ReqParts) → read_of m ≡ Ok (Req r) →
    (fs : List FilterParts) (n : ℕ) → n ≤ length fs → take n fs ≡ filter_parts_at m r.filters → filters_row m fs n ≡ 0

-- ---- what a filter may ask
-- 01, "Hex", as 02, Wish 1, amends it: 64 characters of lower-case hex
abbrev pub IsHex64 : List ℕ → Type 0
IsHex64 v = (length v ≡ hex_length) × (all is_hex v ≡ true)

-- by #e (101) and #p (112) a filter that no row refuses asks for hex alone, as decoded; those of an accepted REQ are
-- such (`ReadPasses`)
abbrev pub HexAsked : Type 0
HexAsked = (b : Bytes) (p : FilterParts) → filter_row b p ≡ 0 → (c : Condition) → c ∈ (filter_of b p).conditions →
    (c.letter ≡ 101) ⊎ (c.letter ≡ 112) → (v : List ℕ) → v ∈ c.members → IsHex64 v

-- ---- what is answered
-- "Parts of an event, filter .. are tested by rows 2 and 4 to 8 .., an event by 9 too"
pub data MatchedHolds (b : List ℕ) (p : EventParts) (m : List ℕ) (fs : List FilterParts) (n : ℕ) : ℕ → Type 0 where
  of_event : MatchedHolds b p m fs n (event_row b p)
  of_filters : {r : ℕ} → RowHolds m fs n r → MatchedHolds b p m fs n r
  too_large_lem : is_large b p.body ≡ true → MatchedHolds b p m fs n 9

abbrev pub MatchedRowIs : Type 0
MatchedRowIs =
    (b : List ℕ) (p : EventParts) (m : List ℕ) (fs : List FilterParts) (n : ℕ) →
    Lowest (MatchedHolds b p m fs n) (matched_row b p m fs n)

-- "matches an event against filters": the answer is yes where no row holds and some filter matches, and it is no value
-- of a refusal
pub record MatchedIs (b : List ℕ) (p : EventParts) (m : List ℕ) (fs : List FilterParts) (n : ℕ) : Type 0 where
  pub number : match_number (matched b p m fs n) ≡ matched_row b p m fs n
  pub value : T (match_value (matched b p m fs n)) ↔
      ((matched_row b p m fs n ≡ 0) × T (matches_some (meant m fs n) (said b p.id) (event_of b p.body)))

abbrev pub MatchedMeans : Type 0
MatchedMeans = (b : List ℕ) (p : EventParts) (m : List ℕ) (fs : List FilterParts) (n : ℕ) → MatchedIs b p m fs n

-- row 11, "table not sound"; row 13, "lent output .. too short"
pub data ListingHolds (b m : List ℕ) (fs : List FilterParts) (n : ℕ) (row : List ℕ) : ℕ → Type 0 where
  of_lent : {r : ℕ} → RowHolds m fs n r → ListingHolds b m fs n row r
  not_sound : sound b ≡ false → ListingHolds b m fs n row 11
  too_short : length row < length (answer_to b m fs n) → ListingHolds b m fs n row 13

abbrev pub ListingRowIs : Type 0
ListingRowIs =
    (b m : List ℕ) (fs : List FilterParts) (n : ℕ) (row : List ℕ) →
    Lowest (ListingHolds b m fs n row) (listing_row b m fs n row)

-- "It is written to a lent row of 16-bit numbers, and its length is the count answered." "Output is written from its
-- start, and its rest stays. A refusal carries its number and no other value .., and every lent buffer stays as found."
pub record ListingIs (b m : List ℕ) (fs : List FilterParts) (n : ℕ) (row : List ℕ) : Type 0 where
  pub number : listing_number (listed b m fs n row) ≡ listing_row b m fs n row
  pub count : listing_row b m fs n row ≡ 0 → listed_count (listed b m fs n row) ≡ length (answer_to b m fs n)
  pub written : listing_row b m fs n row ≡ 0 → take (length (answer_to b m fs n)) (listed_row b m fs n row) ≡ answer_to b m
      fs n
  pub rest : listing_row b m fs n row ≡ 0 → drop (length (answer_to b m fs n)) (listed_row b m fs n row) ≡ drop
      (length (answer_to b m fs n)) row
  pub as_long : length (listed_row b m fs n row) ≡ length row
  pub refused : listing_row b m fs n row ≢ 0 → (listed_row b m fs n row ≡ row) × (listed_count (listed b m fs n row) ≡ 0)

abbrev pub ListingMeans : Type 0
ListingMeans = (b m : List ℕ) (fs : List FilterParts) (n : ℕ) (row : List ℕ) → ListingIs b m fs n row

-- 02, Wish 6: "an old table is still sound" (table/Claims, `StillSound`), and the answers of a table of at most 64
-- slots stay: the list and its count are told from this row, and from nothing that has the number
abbrev pub SameListing : Type 0
SameListing = (b m : List ℕ) (fs : List FilterParts) (n : ℕ) (row : List ℕ) → capacity_of b ≤ 64 →
    listing_row b m fs n row ≡ listing_row_if (sound_up_to 64 b) b m fs n row

-- of the filters of an accepted REQ, lent as parts: 11, 13, or the answer to the filters of its text
abbrev pub ReadListing : Type 0
ReadListing = (b m : List ℕ) (r : ReqParts) → read_of m ≡ Ok (Req r) →
    (fs : List FilterParts) (n : ℕ) → n ≤ length fs → take n fs ≡ filter_parts_at m r.filters → (row : List ℕ) →
    (answer_to b m fs n ≡ answer_list b (filters_meant m r.filters))
    × (listing_row b m fs n row ≡ cond (sound b)
    (cond (ltb (length row) (length (answer_list b (filters_meant m r.filters)))) 13 0) 11)

-- 01, "The table": "Bytes after slot N-1 are never read": whatever they are, a REQ's answer is the same
abbrev pub ListingNeverRead : Type 0
ListingNeverRead = (b t : List ℕ) → length b ≡ table_size (capacity_of b) →
    (sound b ≡ true → (fs : List Filter) → answer_list (b ++ t) fs ≡ answer_list b fs)
    × ((m : List ℕ) (fs : List FilterParts) (n : ℕ) (row : List ℕ) →
    (listed (b ++ t) m fs n row ≡ listed b m fs n row) × (listed_row (b ++ t) m fs n row ≡ listed_row b m fs n row))
