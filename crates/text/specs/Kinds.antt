-- 01, "Kinds and keys".
use Rattle.std.specs.Prelude.{Bool, true, false, cond, ◌&&◌, ◌||◌, List, [], ◌∷◌, ℕ, eqb, leb}
use Rattle.wire.specs.Bytes.{Bytes, same_bytes}
use Rattle.text.specs.Event.{Tag, Event}
use Rattle.text.specs.declared.Class.{Class}
use Rattle.text.specs.declared.Class.TheVariants.{Regular, Replaceable, Ephemeral, Addressable}

-- replaceable: 0, 3, 10000-19999
abbrev pub is_replaceable : ℕ → Bool
is_replaceable k = eqb k 0 || (eqb k 3 || (leb 10000 k && leb k 19999))

-- ephemeral: 20000-29999
abbrev pub is_ephemeral : ℕ → Bool
is_ephemeral k = leb 20000 k && leb k 29999

-- addressable: 30000-39999
abbrev pub is_addressable : ℕ → Bool
is_addressable k = leb 30000 k && leb k 39999

-- all other kinds are regular
unfoldable pub class_of : ℕ → Class
class_of k =
    cond (is_replaceable k) Replaceable (cond (is_ephemeral k) Ephemeral (cond (is_addressable k) Addressable Regular))

-- the tag is named d
abbrev pub is_named_d : Tag → Bool
is_named_d [] = false
is_named_d ([] ∷ t) = false
is_named_d ((x ∷ []) ∷ t) = eqb x 100
is_named_d ((x ∷ y ∷ v) ∷ t) = false

-- its second string, empty if it has one
abbrev pub second : Tag → Bytes
second [] = []
second (v ∷ []) = []
second (v ∷ w ∷ t) = w

-- the second string of the first tag named d, empty if there is no such tag
unfoldable pub d_of : List Tag → Bytes
d_of [] = []
d_of (t ∷ ts) = cond (is_named_d t) (second t) (d_of ts)

-- (kind, pubkey), (kind, pubkey, d), or none
pub data Key : Type 0 where
  none : Key
  replaceable : ℕ → List ℕ → Key
  addressable : ℕ → List ℕ → List ℕ → Key

abbrev pub key_in : Class → Event → Key
key_in Regular e = none
key_in Ephemeral e = none
key_in Replaceable e = replaceable e.kind e.pubkey
key_in Addressable e = addressable e.kind e.pubkey (d_of e.tags)

unfoldable pub key_of : Event → Key
key_of e = key_in (class_of e.kind) e

abbrev pub has_key : Key → Bool
has_key none = false
has_key (replaceable k p) = true
has_key (addressable k p d) = true

-- equality of keys
abbrev pub same_key : Key → Key → Bool
same_key none none = true
same_key none (replaceable k p) = false
same_key none (addressable k p d) = false
same_key (replaceable k p) none = false
same_key (replaceable k p) (replaceable j q) = eqb k j && same_bytes p q
same_key (replaceable k p) (addressable j q c) = false
same_key (addressable k p d) none = false
same_key (addressable k p d) (replaceable j q) = false
same_key (addressable k p d) (addressable j q c) = eqb k j && (same_bytes p q && same_bytes d c)
