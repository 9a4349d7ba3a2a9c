-- The definitions at work. Slots are numbers, and the higher is the newer, where nothing else is said; a filter is
-- known by its limit.
use Rattle.std.specs.Prelude.{Some, None}
use mathlib.Core.Path.{◌≡◌, refl}
use mathlib.Core.Bool.{Bool, true, false, ◌&&◌}
use mathlib.Core.List.{List, [], ◌∷◌}
use Prim.Native.Nat.{ℕ}
use lib.Dec.{ltb}
use lib.IntN.{ℤ, pos, negsuc}
use lib.ListN.{get_or}
use Rattle.wire.specs.Bytes.{same_bytes}
use Rattle.text.specs.Event.{Event, all}
use Rattle.law.specs.Event as law
use Rattle.query.specs.Filter.{Filter}
use Rattle.query.specs.Match.{is_member, since_holds, until_holds, matches, matches_some}
use Rattle.query.specs.Answer.{keep, among, insert, newest_first, picked, union, lowest_of}
use Rattle.query.specs.Claims.{limited, everything}

-- ---- the answer
abbrev higher : ℕ → ℕ → Bool
higher a b = ltb b a

-- `{"limit":n}`; and "since" n, by which the slots from n on match
abbrev last : ℕ → Filter
last n = limited everything (Some (pos n))

abbrev since : ℤ → Filter → Filter
since n f = record { ids = f.ids; authors = f.authors; kinds = f.kinds; since = Some n; until = f.until; limit = f.limit; conditions = f.conditions }

abbrev until : ℤ → Filter → Filter
until n f = record { ids = f.ids; authors = f.authors; kinds = f.kinds; since = f.since; until = Some n; limit = f.limit; conditions = f.conditions }

-- a slot's number is its time
abbrev fits : Filter → ℕ → Bool
fits f s = since_holds f.since (pos s) && until_holds f.until (pos s)

abbrev slots : List ℕ
slots = 0 ∷ 1 ∷ 2 ∷ 3 ∷ []

-- "for each filter its matches, newest first .., cut to limit if given"
pub one_filter : picked higher fits slots (until (pos 2) (last 2)) ≡ 2 ∷ 1 ∷ []
unfolding picked newest_first insert keep
one_filter = refl

-- "the union, each slot once, in that order": 3 of the first filter, 1 and 0 of the second
pub two_filters : union higher fits slots (last 1 ∷ until (pos 1) (last 2) ∷ []) ≡ 3 ∷ 1 ∷ 0 ∷ []
unfolding union picked newest_first insert keep among
two_filters = refl

-- whichever filter comes first, and though both pick slot 3
pub other_order : union higher fits slots (last 2 ∷ since (pos 3) everything ∷ last 1 ∷ []) ≡ 3 ∷ 2 ∷ []
unfolding union picked newest_first insert keep among
other_order = refl

-- limit 0 empties its own filter's list only
pub one_of_two_empty : union higher fits slots (last 0 ∷ since (pos 2) everything ∷ []) ≡ 3 ∷ 2 ∷ []
unfolding union picked newest_first insert keep among
one_of_two_empty = refl

-- "limit 0 matches nothing stored"
pub none_of_all : union higher fits slots (last 0 ∷ []) ≡ []
unfolding union picked newest_first insert keep among
none_of_all = refl

-- the order is that of the events and not that of the slots: "later time, then lower id"; a limit over the number of
-- matches cuts nothing
abbrev event_in : ℕ → law.Event
event_in k = record { id = get_or (7 ∷ 3 ∷ 4 ∷ 2 ∷ []) k 0 ∷ []; text = get_or (5 ∷ 1 ∷ 9 ∷ 5 ∷ []) k 0 ∷ [] }

abbrev by_event : ℕ → ℕ → Bool
by_event j k = law.newer (λ t. pos (get_or t 0 0)) (event_in j) (event_in k)

pub by_event_lem : union by_event fits slots (last 9 ∷ []) ≡ 2 ∷ 3 ∷ 0 ∷ 1 ∷ []
unfolding union picked newest_first insert keep among
by_event_lem = refl

-- the two newest, of which the second is the one with the lower id
pub newest_two : union by_event fits slots (last 2 ∷ []) ≡ 2 ∷ 3 ∷ []
unfolding union picked newest_first insert keep among
newest_two = refl

-- ---- matching: an event of kind 1 at time -1 with the tags `["e","x","y"]` and `["p"]`
abbrev event : Event
event = record { pubkey = 97 ∷ []; time = negsuc 0; kind = 1; tags = ((101 ∷ []) ∷ (120 ∷ []) ∷ (121 ∷ []) ∷ []) ∷ ((112 ∷ []) ∷ []) ∷ []; content = [] }

abbrev asked : Filter → Bool
asked f = matches f (48 ∷ 49 ∷ []) event

abbrev tagged : ℕ → List (List ℕ) → Filter
tagged x l = record { ids = None; authors = None; kinds = None; since = None; until = None; limit = None; conditions = record { letter = x; members = l } ∷ [] }

-- "since 0 shuts out -1"; the bound itself passes
pub since_zero : (asked (since (pos 0) everything) ≡ false) × (asked (since (negsuc 0) everything) ≡ true) × (asked (until (negsuc 0) everything) ≡ true)
unfolding matches all
since_zero = (refl, refl, refl)

-- the second string counts and not the third; a tag of one string never fits; letters differ by their case
pub second_counts : (asked (tagged 101 ((120 ∷ []) ∷ [])) ≡ true) × (asked (tagged 101 ((121 ∷ []) ∷ [])) ≡ false) × (asked (tagged 112 ((112 ∷ []) ∷ [])) ≡ false)
    × (asked (tagged 69 ((120 ∷ []) ∷ [])) ≡ false)
unfolding matches all same_bytes
second_counts = (refl, refl, refl, refl)

-- an id is asked for whole: 01 is not 0, nor 012
pub whole_id : (is_member ((48 ∷ 49 ∷ []) ∷ []) (48 ∷ 49 ∷ []) ≡ true) × (is_member ((48 ∷ []) ∷ []) (48 ∷ 49 ∷ []) ≡ false) × (is_member ((48 ∷ 49 ∷ 50 ∷ []) ∷ []) (48 ∷ 49 ∷ []) ≡ false)
unfolding same_bytes
whole_id = (refl, refl, refl)

-- "any filter suffices": the second here
pub any_filter : matches_some (since (pos 0) everything ∷ until (pos 0) everything ∷ []) (48 ∷ 49 ∷ []) event ≡ true
unfolding matches matches_some all
any_filter = refl

-- "the lowest number is given", and 0 is none
pub lowest_row : (lowest_of (0 ∷ 8 ∷ 5 ∷ 6 ∷ []) ≡ 5) × (lowest_of (0 ∷ 0 ∷ []) ≡ 0)
unfolding lowest_of
lowest_row = (refl, refl)
