-- One message answered into a lent output, over a lent table; and a REQ's answer a reply at a time, for an output that
-- does not hold it whole.
use Rattle.std.specs.Prelude.{Bool, false, cond, List, [], ◌∷◌, ◌++◌, map, ℕ, suc, ◌-◌, eqb, ltb, length, take, Result, Ok, Err}
use Rattle.text.specs.Event.{all}
use Rattle.text.specs.Read.{read_text}
use Rattle.message.specs.declared.Span.{Span}
use Rattle.event.specs.Lent.{said}
use Rattle.event.specs.Answer.{or_else, answered}
use Rattle.table.specs.Layout.{count_of, slot_at, text_in}
use Rattle.table.specs.Sound.{sound}
use Rattle.table.specs.Format.{shown_row}
use Rattle.reply.specs.Replies.{Reply, reply_text}
use Rattle.reply.specs.Lent.{eose_row, short_row, output_after}
use Rattle.program.specs.Program.{event_replies, replies_to, table_after, written}
use Rattle.wire.specs.Bytes.{Bytes, Row}

-- ---- the message m to the table b, answered to the output: what refuses the message is a reply, so the call is
-- refused by row 13 alone
unfoldable pub response : Bytes → Bytes → Bytes
response b m = written (replies_to b m)

unfoldable pub respond_row : (b m out : Bytes) → Row
respond_row b m out = short_row (response b m) out

unfoldable pub responded : (b m out : Bytes) → Result ℕ ℕ
responded b m out = answered (respond_row b m out) (length (response b m))

unfoldable pub responded_out : (b m out : Bytes) → Bytes
responded_out b m out = output_after (respond_row b m out) (response b m) out

-- "every lent buffer stays as found": the table too
unfoldable pub responded_table : (b m out : Bytes) → Bytes
responded_table b m out = cond (eqb (respond_row b m out) 0) (table_after b m) b

-- ---- the EVENT of slot k, for the subscription id sub; of a slot that is not held there is none
abbrev pub slot_replies : (b sub : Bytes) (k : ℕ) → List Reply
slot_replies b sub k = cond (ltb k (count_of b)) (event_replies sub (slot_at b k) (read_text (text_in (slot_at b k)))) []

abbrev pub first_text : List Reply → Bytes
first_text [] = []
first_text (r ∷ rs) = reply_text r

-- alone, and as a line
unfoldable pub slot_text : (b sub : Bytes) (k : ℕ) → Bytes
slot_text b sub k = first_text (slot_replies b sub k)

unfoldable pub slot_line : (b sub : Bytes) (k : ℕ) → Bytes
slot_line b sub k = written (slot_replies b sub k)

-- ---- the EVENT of slot k alone, for the subscription id that stands at s in the buffer m: rows 2, 4, 5 and 8 of that
-- id, then 11; then 14, "slot not held", or 13
unfoldable pub slot_event_row : (b : Bytes) (k : ℕ) (m : Bytes) (s : Span) (out : Bytes) → Row
slot_event_row b k m s out = or_else (eose_row m s) (or_else (shown_row b k) (short_row (slot_text b (said m s) k) out))

unfoldable pub slot_event : (b : Bytes) (k : ℕ) (m : Bytes) (s : Span) (out : Bytes) → Result ℕ ℕ
slot_event b k m s out = answered (slot_event_row b k m s out) (length (slot_text b (said m s) k))

unfoldable pub slot_event_out : (b : Bytes) (k : ℕ) (m : Bytes) (s : Span) (out : Bytes) → Bytes
slot_event_out b k m s out = output_after (slot_event_row b k m s out) (slot_text b (said m s) k) out

-- ---- the EVENTs of the slots ks, each a line: as many as fit whole, from the first on
unfoldable pub joined : List (List ℕ) → Bytes
joined [] = []
joined (l ∷ ls) = l ++ joined ls

unfoldable pub fitting : (room : ℕ) → List (List ℕ) → ℕ
fitting room [] = 0
fitting room (l ∷ ls) = cond (ltb room (length l)) 0 (suc (fitting (room - length l) ls))

abbrev pub slot_lines : (b sub : Bytes) (ks : List ℕ) → List (List ℕ)
slot_lines b sub ks = map (slot_line b sub) ks

unfoldable pub fitting_text : (b sub : Bytes) (ks : List ℕ) (out : Bytes) → Bytes
fitting_text b sub ks out = joined (take (fitting (length out) (slot_lines b sub ks)) (slot_lines b sub ks))

-- rows 2, 4, 5 and 8 of the subscription id, then 11, then 13 where not even the first fits, then 14
abbrev pub none_fits : (room : ℕ) → List (List ℕ) → Bool
none_fits room [] = false
none_fits room (l ∷ ls) = ltb room (length l)

abbrev pub all_held : Bytes → List ℕ → Bool
all_held b ks = all (λ k. ltb k (count_of b)) ks

abbrev pub events_row_if : (isSound : Bool) (b : Bytes) (ks : List ℕ) (m : Bytes) (s : Span) (out : Bytes) → Row
events_row_if isSound b ks m s out =
    or_else (eose_row m s) (cond isSound
    (cond (none_fits (length out) (slot_lines b (said m s) ks)) 13 (cond (all_held b ks) 0 14)) 11)

unfoldable pub events_row : (b : Bytes) (ks : List ℕ) (m : Bytes) (s : Span) (out : Bytes) → Row
events_row b ks m s out = events_row_if (sound b) b ks m s out

-- how many bytes, and of how many slots
unfoldable pub sent_events : (b : Bytes) (ks : List ℕ) (m : Bytes) (s : Span) (out : Bytes) → Result (ℕ × ℕ) ℕ
sent_events b ks m s out =
    cond (eqb (events_row b ks m s out) 0)
    (Ok ((length (fitting_text b (said m s) ks out)), (fitting (length out) (slot_lines b (said m s) ks))))
    (Err (events_row b ks m s out))

unfoldable pub sent_events_out : (b : Bytes) (ks : List ℕ) (m : Bytes) (s : Span) (out : Bytes) → Bytes
sent_events_out b ks m s out = output_after (events_row b ks m s out) (fitting_text b (said m s) ks out) out

-- the number of 01, and the values
abbrev pub sent_number : Result (ℕ × ℕ) ℕ → ℕ
sent_number (Ok (n, k)) = 0
sent_number (Err r) = r

abbrev pub sent_bytes : Result (ℕ × ℕ) ℕ → ℕ
sent_bytes (Ok (n, k)) = n
sent_bytes (Err r) = 0

abbrev pub sent_slots : Result (ℕ × ℕ) ℕ → ℕ
sent_slots (Ok (n, k)) = k
sent_slots (Err r) = 0
