-- 01, "The table": what an offer is answered, and the table's bytes afterwards. "Valid is judged from what is offered,
-- whatever the table holds."
use Rattle.std.specs.Prelude.{Bool, true, false, cond, not, ◌&&◌, List, ℕ, ◌+◌, eqb, ltb, pos}
use Rattle.std.specs.Prelude.{None, Some, Result, Ok, Err}
use Rattle.wire.specs.Put.{put}
use Rattle.wire.specs.Field.{le_bytes}
use Rattle.rows.specs.Rows.{text_row}
unfoldable pub use Rattle.spell.specs.Spell.{unhex}
use Rattle.shape.specs.Rows.{message_row}
use Rattle.shape.specs.Offsets.{plain_refusal, refusal_for}
use Rattle.shape.specs.declared.Refusal.{Refusal}
use Rattle.message.specs.Parts.{nowhere}
pub use Rattle.message.specs.Read.{is_event_word}
unfoldable pub use Rattle.message.specs.Read.{is_event}
use Rattle.message.specs.Read.{read_of}
use Rattle.message.specs.declared.EventParts.{EventParts}
use Rattle.message.specs.declared.Message.{Message}
use Rattle.message.specs.declared.Message.TheVariants as message
use Rattle.event.specs.Lent.{said, event_of}
use Rattle.event.specs.Answer.{or_else, offered_row}
use Rattle.law.specs.Lists.{find}
use Rattle.law.specs.Table.{Verdict, refused, was_ephemeral, duplicate, older, stored, no_room, Offer, has_key, verdict}
use Rattle.table.specs.Layout.{Held, capacity_of, count_of, count_place, slot_place, slot_bytes}
use Rattle.table.specs.Events.{signed_events, of_held, view}
use Rattle.table.specs.Sound.{sound}
use Rattle.table.specs.declared.Offered.{Offered}
use Rattle.table.specs.declared.Offered.TheVariants.{Ephemeral, Duplicate, Older, Stored}
use Rattle.wire.specs.Bytes.{Bytes, Row}

-- "Offers of any bytes as a message and of any parts", which lie in a buffer
pub data Offering : Type 0 where
  as_message : List ℕ → Offering
  as_parts : List ℕ → EventParts → Offering

-- ---- rows 1 to 10
-- the parts of an EVENT message; of no other is anything offered
abbrev pub no_parts : EventParts
no_parts = record {
  id = nowhere;
  body = record { pubkey = nowhere; created_at = pos 0; kind = pos 0; tags = 0; content = nowhere };
  sig = nowhere;
}

abbrev pub parts_in : Result Message Refusal → EventParts
parts_in (Ok (message.Event p)) = p
parts_in (Ok (message.Req r)) = no_parts
parts_in (Ok (message.Close p)) = no_parts
parts_in (Err r) = no_parts

unfoldable pub parts_of : Bytes → EventParts
parts_of m = parts_in (read_of m)

-- "offering one tests 1 to 12 .. and gives 5 also if it isn't an EVENT": rows 1 to 4, then that, then 5 to 8, 9 and 10
unfoldable pub message_offer_row : Bytes → Row
message_offer_row m = or_else (text_row m) (cond (is_event m) (or_else (message_row m) (offered_row m (parts_of m))) 5)

abbrev pub offering_row : Offering → ℕ
offering_row (as_message m) = message_offer_row m
offering_row (as_parts b p) = offered_row b p

-- what refuses an offer: of a message with the offset of rows 6 and 7 (02, Wish 9)
abbrev pub offering_refusal : Offering → Refusal
offering_refusal (as_message m) = refusal_for m (message_offer_row m)
offering_refusal (as_parts b p) = plain_refusal (offered_row b p)

-- "A valid event is one offered, as a message or as parts, that none of rows 1 to 10 refuses."
abbrev pub is_valid : Offering → Bool
is_valid o = eqb (offering_row o) 0

-- the event of parts, with its id and signature as bytes
unfoldable pub held_of : Bytes → EventParts → Held
held_of b p = record { id = unhex (said b p.id); sig = unhex (said b p.sig); event = event_of b p.body }

abbrev pub offered_of : Offering → Held
offered_of (as_message m) = held_of m (parts_of m)
offered_of (as_parts b p) = held_of b p

unfoldable pub judge : Offering → Offer signed_events
judge o = cond (is_valid o) (Some (of_held (offered_of o))) None

-- ---- the answer
-- 01's number of a verdict that has one, and what refused the offer
abbrev pub offered_by : Refusal → Verdict → Result Offered Refusal
offered_by r refused = Err r
offered_by r was_ephemeral = Ok Ephemeral
offered_by r duplicate = Ok Duplicate
offered_by r older = Ok Older
offered_by r stored = Ok Stored
offered_by r no_room = Err (plain_refusal 12)

-- "Verdicts of an offer after row 11": law/Table, `verdict`
unfoldable pub verdict_on : Bytes → Offering → Verdict
verdict_on b o = verdict signed_events (capacity_of b) (view b) (judge o)

-- rows 1 to 10, then 11, where the table is told not to be sound, then the verdict
abbrev pub answer_if : (isSound : Bool) (b : Bytes) (o : Offering) → Result Offered Refusal
answer_if isSound b o =
    cond (is_valid o && not isSound) (Err (plain_refusal 11)) (offered_by (offering_refusal o) (verdict_on b o))

unfoldable pub answer : Bytes → Offering → Result Offered Refusal
answer b o = answer_if (sound b) b o

-- the number of 01
abbrev pub offer_number : Result Offered Refusal → ℕ
offer_number (Ok Ephemeral) = 0
offer_number (Ok Duplicate) = 0
offer_number (Ok Older) = 0
offer_number (Ok Stored) = 0
offer_number (Err r) = r.row

abbrev pub is_stored : Result Offered Refusal → Bool
is_stored (Ok Ephemeral) = false
is_stored (Ok Duplicate) = false
is_stored (Ok Older) = false
is_stored (Ok Stored) = true
is_stored (Err r) = false

-- ---- the table afterwards
-- "over the slot with its key, else in slot C"
unfoldable pub slot_for : Bytes → Held → ℕ
slot_for b h = find (has_key signed_events (of_held h)) (view b)

abbrev pub count_after : Bytes → ℕ → ℕ
count_after b k = cond (ltb k (count_of b)) (count_of b) (count_of b + 1)

-- "A store writes only the bytes of the one slot it fills, and the count."
unfoldable pub stored_in : Bytes → Held → Bytes
stored_in b h = put (put b (slot_place (slot_for b h)) (slot_bytes h)) count_place (le_bytes 4 (count_after b (slot_for b h)))

-- "every lent buffer stays as found" on a refusal, and with every other verdict
unfoldable pub next : Bytes → Offering → Bytes
next b o = cond (is_stored (answer b o)) (stored_in b (offered_of o)) b
