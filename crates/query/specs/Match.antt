-- 01, "Filters and replies": whether an event matches a filter.
use Rattle.std.specs.Prelude.{Bool, true, false, not, ◌&&◌, List, [], ◌∷◌, ℕ, ℤ, pos, Some, None, Option}
use Rattle.wire.specs.Bytes.{Bytes, same_bytes}
use Rattle.text.specs.Event.{Tag, Event, all}
use Rattle.law.specs.Lists.{any}
use Rattle.law.specs.Event.{earlier}
use Rattle.query.specs.Filter.{Condition, Filter, Strings}

-- "ids, authors, kinds: exact membership."
abbrev pub is_member : List (List ℕ) → Bytes → Bool
is_member l v = any (same_bytes v) l

-- two numbers are the same
abbrev pub same_number : ℤ → ℤ → Bool
same_number a b = not (earlier a b) && not (earlier b a)

-- a condition that is absent holds
abbrev pub if_given : {A : Type 0} → (A → Bool) → Option A → Bool
if_given f None = true
if_given f (Some l) = f l

abbrev pub is_listed : Strings → Bytes → Bool
is_listed l v = if_given (λ m. is_member m v) l

abbrev pub kind_listed : Option (List ℤ) → ℕ → Bool
kind_listed l k = if_given (λ m. any (same_number (pos k)) m) l

-- "since and until are inclusive."
abbrev pub since_holds : Option ℤ → ℤ → Bool
since_holds None t = true
since_holds (Some s) t = not (earlier t s)

abbrev pub until_holds : Option ℤ → ℤ → Bool
until_holds None t = true
until_holds (Some u) t = not (earlier u t)

-- "#x needs a tag named x of at least two strings whose second is in the list"
abbrev pub tag_fits : Condition → Tag → Bool
tag_fits c [] = false
tag_fits c (name ∷ []) = false
tag_fits c (name ∷ value ∷ t) = same_bytes name (c.letter ∷ []) && is_member c.members value

abbrev pub condition_holds : List Tag → Condition → Bool
condition_holds ts c = any (tag_fits c) ts

-- "All conditions of a filter hold" of the event e whose id is i, in hex. Limit is no condition on an event
unfoldable pub matches : (f : Filter) (i : Bytes) (e : Event) → Bool
matches f i e =
    is_listed f.ids i
    && (is_listed f.authors e.pubkey
    && (kind_listed f.kinds e.kind
    && (since_holds f.since e.time &&
    (until_holds f.until e.time && all (condition_holds e.tags) f.conditions))))

-- "any filter suffices."
unfoldable pub matches_some : (fs : List Filter) (i : Bytes) (e : Event) → Bool
matches_some fs i e = any (λ f. matches f i e) fs
