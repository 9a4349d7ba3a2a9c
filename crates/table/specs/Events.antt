-- The events of demand 3 at this table: "The set held is the pairs of id and text in slots 0 to C-1." Class, key and
-- time are those of the event that the text is a serialisation of.
use Rattle.std.specs.Prelude.{List, map, ℕ, ℤ, pos}
use Rattle.text.specs.Event.{Event, serialise}
use Rattle.text.specs.Read.{Read, too_large, wrong_shape, read, read_text}
use Rattle.text.specs.Kinds.{Key, same_key, key_of, class_of}
use Rattle.text.specs.declared.Class as kinds
use Rattle.text.specs.declared.Class.TheVariants.{Regular, Replaceable, Ephemeral, Addressable}
use Rattle.law.specs.Table.{Class, ephemeral, regular, keyed, Events}
use Rattle.law.specs.Event.{events}
use Rattle.law.specs.Signature.{Slot, with_signature}
use Rattle.table.specs.Layout.{Held, id_in, sig_in, text_in, held_slots}
use Rattle.wire.specs.Bytes.{Bytes}

-- 01, "Kinds and keys": replaceable and addressable events have a key
abbrev pub class_for : kinds.Class → Key → Class Key
class_for Regular k = regular
class_for Ephemeral k = ephemeral
class_for Replaceable k = keyed k
class_for Addressable k = keyed k

unfoldable pub class_of_event : Event → Class Key
class_of_event e = class_for (class_of e.kind) (key_of e)

-- a text that is no serialisation is in no sound table
abbrev pub class_in : Read → Class Key
class_in too_large = regular
class_in wrong_shape = regular
class_in (read e) = class_of_event e

abbrev pub read_time : Read → ℤ
read_time too_large = pos 0
read_time wrong_shape = pos 0
read_time (read e) = e.time

unfoldable pub class_of_text : Bytes → Class Key
class_of_text t = class_in (read_text t)

unfoldable pub time_of_text : Bytes → ℤ
time_of_text t = read_time (read_text t)

abbrev pub table_events : Events
table_events = events Key same_key class_of_text time_of_text

-- a signature is its bytes
abbrev pub Signature : Type 0
Signature = List ℕ

abbrev pub SignedEvent : Type 0
SignedEvent = Slot table_events Signature

abbrev pub signed_events : Events
signed_events = with_signature table_events Signature

-- what the bytes of a slot hold; what an event with its id and signature is, held
abbrev pub in_slot : Bytes → SignedEvent
in_slot s = (record { id = id_in s; text = text_in s }, sig_in s)

abbrev pub of_held : Held → SignedEvent
of_held h = (record { id = h.id; text = serialise h.event }, h.sig)

-- slots 0 to C-1 of the table b
unfoldable pub view : Bytes → List SignedEvent
view b = map in_slot (held_slots b)
