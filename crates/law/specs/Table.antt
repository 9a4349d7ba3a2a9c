-- The table of a relay as the list of the events in its slots; what an offer does, and what a list of offers should
-- leave. In the order of 01, "Kinds and keys" and "The table"; quotes are from 01 where nothing else is said.
use Rattle.std.specs.Prelude.{◌≡◌, Bool, true, false, cond, not, ◌&&◌, ◌↔◌, ◌⊎◌, ◌≢◌, List, [], ◌∷◌, ℕ, ◌+◌, T, leb}
use Rattle.std.specs.Prelude.{length, Option, None, Some}
use Rattle.law.specs.Lists.{◌∈◌, any, store, different, Once}

-- ---- Kinds and keys

-- "Replaceable .. Ephemeral .. Addressable .. All other kinds are regular here". Keyed: replaceable or addressable,
-- with its key.
pub data Class (Key : Type 0) : Type 0 where
  ephemeral regular : Class Key
  keyed : Key → Class Key

-- What the law needs of events. An event is one of the "pairs of id and text"; a signature is no part of it.
pub record Events : Type 1 where
  pub Event : Type 0
  pub Id : Type 0
  pub Key : Type 0
  pub id_of : Event → Id
  pub class_of : Event → Class Key
  pub same_id : Id → Id → Bool
  pub same_key : Key → Key → Bool
  pub newer : Event → Event → Bool

-- The tests mean equality, and "newer" is a strict order, total on events of different ids.
pub record Laws (E : Events) : Type 0 where
  pub id_eq : (a b : E.Id) → T (E.same_id a b) ↔ (a ≡ b)
  pub key_eq : (a b : E.Key) → T (E.same_key a b) ↔ (a ≡ b)
  pub irreflexive : (a : E.Event) → T (E.newer a a) → ⊥
  pub transitive : (a b c : E.Event) → T (E.newer a b) → T (E.newer b c) → T (E.newer a c)
  pub total : (a b : E.Event) → E.id_of a ≢ E.id_of b → T (E.newer a b) ⊎ T (E.newer b a)

abbrev pub is_ephemeral : {K : Type 0} → Class K → Bool
is_ephemeral ephemeral = true
is_ephemeral regular = false
is_ephemeral (keyed k) = false

-- both have a key, and it is the same
abbrev pub share_key : {K : Type 0} (same : K → K → Bool) (ephemeral c : Class K) → Bool
share_key same ephemeral c = false
share_key same regular c = false
share_key same (keyed k) ephemeral = false
share_key same (keyed k) regular = false
share_key same (keyed k) (keyed m) = same k m

-- ---- The table

module _ (E : Events) where
  open E use {Event, id_of, class_of, same_id, same_key}

  -- "Slots 0 to C-1 are held": their events, in order
  abbrev pub Table : Type 0
  Table = List Event

  -- the held event h has the id of e
  abbrev pub has_id : Event → Event → Bool
  has_id e h = same_id (id_of h) (id_of e)

  -- the held event h has the key of e
  abbrev pub has_key : Event → Event → Bool
  has_key e h = share_key same_key (class_of h) (class_of e)

-- ---- Verdicts of an offer

-- refused: by one of rows 1 to 10; was_ephemeral: the verdict ephemeral; no_room: row 12
pub data Verdict : Type 0 where
  refused was_ephemeral duplicate older stored no_room : Verdict

-- "first that applies: ephemeral (nothing stored); duplicate, id held; older, a newer event with its key is held;
-- stored", and where it would be stored but no slot is left, row 12
abbrev pub first_verdict : (is_ephemeral idHeld newer_held lacks_slot : Bool) → Verdict
first_verdict true i n l = was_ephemeral
first_verdict false true n l = duplicate
first_verdict false false true l = older
first_verdict false false false true = no_room
first_verdict false false false false = stored

abbrev pub is_stored : Verdict → Bool
is_stored refused = false
is_stored was_ephemeral = false
is_stored duplicate = false
is_stored older = false
is_stored stored = true
is_stored no_room = false

-- "An offer lacks room when its answer is 12."
abbrev pub is_no_room : Verdict → Bool
is_no_room refused = false
is_no_room was_ephemeral = false
is_no_room duplicate = false
is_no_room older = false
is_no_room stored = false
is_no_room no_room = true

module _ (E : Events) where
  open E use {Event, Id, Key, id_of, class_of, same_id, same_key, newer}

  -- "A valid event is one offered, as a message or as parts, that none of rows 1 to 10 refuses." None: an offer that
  -- they refuse
  abbrev pub Offer : Type 0
  Offer = Option Event

  -- the held event h has the key of e and is newer
  abbrev pub has_key_newer : Event → Event → Bool
  has_key_newer e h = has_key E e h && newer h e

  -- row 12, "new slot needed, all in use": no held event has the key of e, and C is N
  abbrev pub lacks_slot : ℕ → Table E → Event → Bool
  lacks_slot N t e = not (any (has_key E e) t) && leb N (length t)

  -- the verdict of an offer to a table of capacity N
  unfoldable pub verdict : ℕ → Table E → Offer → Verdict
  verdict N t None = refused
  verdict N t (Some e) = first_verdict (is_ephemeral (class_of e)) (any (has_id E e) t) (any (has_key_newer e) t)
      (lacks_slot N t e)

  -- the table after it: "stored, over the slot with its key, else in slot C"; with any other verdict as it was
  unfoldable pub after : ℕ → Table E → Offer → Table E
  after N t None = t
  after N t (Some e) = cond (is_stored (verdict N t (Some e))) (store (has_key E e) e t) t

  -- ---- Lists of offers

  -- e is a valid event of the list: "Valid is judged from what is offered, whatever the table holds."
  abbrev pub Valid : Event → List Offer → Type 0
  Valid e os = Some e ∈ os

  -- "The set held is the pairs of id and text in slots 0 to C-1."
  abbrev pub Held : Event → Table E → Type 0
  Held e t = e ∈ t

  -- "Two lists have the same valid events when each pair of id and text valid in one is valid in the other."
  abbrev pub SameValid : List Offer → List Offer → Type 0
  SameValid os ps = (e : Event) → Valid e os ↔ Valid e ps

  -- ---- When room runs out

  abbrev pub id_if_regular : Class Key → Id → List Id → List Id
  id_if_regular ephemeral i is = is
  id_if_regular regular i is = i ∷ is
  id_if_regular (keyed k) i is = is

  abbrev pub key_if_keyed : Class Key → List Key → List Key
  key_if_keyed ephemeral ks = ks
  key_if_keyed regular ks = ks
  key_if_keyed (keyed k) ks = k ∷ ks

  -- among a list's valid events "the .. ids of the regular ones"
  abbrev pub regular_ids : List Offer → List Id
  regular_ids [] = []
  regular_ids (None ∷ os) = regular_ids os
  regular_ids (Some e ∷ os) = id_if_regular (class_of e) (id_of e) (regular_ids os)

  -- "the .. keys of those that have a key"
  abbrev pub keys : List Offer → List Key
  keys [] = []
  keys (None ∷ os) = keys os
  keys (Some e ∷ os) = key_if_keyed (class_of e) (keys os)

  -- "count the different ids .. and the different keys .. the sum"
  abbrev pub slots_needed : List Offer → ℕ
  slots_needed os = different same_id (regular_ids os) + different same_key (keys os)

  -- ---- Demand 3

  -- "no two valid events of the list share an id with different serialised texts"
  abbrev pub IdPremise : List Offer → Type 0
  IdPremise os = (e f : Event) → Valid e os → Valid f os → id_of e ≡ id_of f → e ≡ f

  -- "either regular, or replaceable or addressable and newer than every other valid one of its key"
  abbrev pub WinsAs : Class Key → Event → List Offer → Type 0
  WinsAs ephemeral e os = ⊥
  WinsAs regular e os = Unit {0}
  WinsAs (keyed k) e os = (f : Event) → Valid f os → class_of f ≡ keyed k → f ≢ e → T (newer e f)

  -- what is to be held: "a valid one of the list and either .."
  abbrev pub Wins : Event → List Offer → Type 0
  Wins e os = Valid e os × WinsAs (class_of e) e os

  -- "an equal set"
  abbrev pub SameHeld : Table E → Table E → Type 0
  SameHeld t u = (e : Event) → Held e t ↔ Held e u

  -- the table t is what demand 3 gives for the valid events of os
  pub record Settled (t : Table E) (os : List Offer) : Type 0 where
    -- "an event is held exactly when it is a valid one of the list and either regular, or .."
    pub held : (e : Event) → Held e t ↔ Wins e os
    -- "Each is held once."
    pub once : Once (λ (e : Event). e) t
