-- What a message is replied to, and the program: 01, "Filters and replies" and "What the floor relay does".
use Rattle.std.specs.Prelude.{Bool, true, false, cond, List, [], ◌∷◌, ◌++◌, ℕ, eqb, leb, replicate, Result, Ok, Err}
use Rattle.text.specs.Read.{Read, too_large, wrong_shape, read, read_text}
use Rattle.message.specs.Read.{read_of, named_of}
use Rattle.shape.specs.declared.Refusal.{Refusal}
use Rattle.message.specs.declared.Message.{Message}
use Rattle.message.specs.declared.Message.TheVariants as message
use Rattle.message.specs.declared.Named.{Named}
use Rattle.message.specs.declared.Named.TheVariants as names
use Rattle.event.specs.Lent.{said}
use Rattle.event.specs.Answer.{hex_of}
use Rattle.table.specs.Layout.{table_size, slot_at, id_in, sig_in, text_in}
use Rattle.table.specs.Sound.{sound}
use Rattle.table.specs.Offer.{as_message, answer, next}
use Rattle.table.specs.Format.{formatted}
use Rattle.table.specs.declared.Offered.{Offered}
use Rattle.table.specs.declared.Offered.TheVariants as offered
use Rattle.query.specs.Answer.{answer_list, filters_meant}
use Rattle.shape.specs.Offsets.{refusal_for}
use Rattle.reply.specs.Replies.{Reply, ok, event, eose, closed, notice, reply_text, refusal_reason}
use Rattle.wire.specs.Bytes.{Bytes}
use Rattle.wire.specs.Ascii.{ascii}

-- ---- "Replies: ephemeral and stored `true,""`; duplicate .. ; older .."
abbrev pub is_accepted : Result Offered Refusal → Bool
is_accepted (Ok offered.Ephemeral) = true
is_accepted (Ok offered.Stored) = true
is_accepted (Ok offered.Duplicate) = true
is_accepted (Ok offered.Older) = true
is_accepted (Err r) = false

abbrev pub verdict_reason : Result Offered Refusal → Bytes
verdict_reason (Ok offered.Ephemeral) = []
verdict_reason (Ok offered.Stored) = []
verdict_reason (Ok offered.Duplicate) = ascii "duplicate: already have this event"
verdict_reason (Ok offered.Older) = ascii "duplicate: have a newer version"
verdict_reason (Err r) = refusal_reason r

-- ---- "Rows 1-5 give NOTICE. Rows 6-12 give OK with false if the id field is 64 lower-case hex; CLOSED for a REQ whose
-- subscription id is within bounds; otherwise NOTICE."
abbrev pub refusal_naming : (m : Bytes) (x : Named) (reason : Bytes) → Reply
refusal_naming m (names.Id p) reason = ok (said m p) false reason
refusal_naming m (names.Subscription p) reason = closed (said m p) reason
refusal_naming m names.Nothing reason = notice reason

-- the reason why row r refuses the message m
abbrev pub reason_for : Bytes → ℕ → Bytes
reason_for m r = refusal_reason (refusal_for m r)

unfoldable pub refusal : Bytes → ℕ → Reply
refusal m r = cond (leb r 5) (notice (reason_for m r)) (refusal_naming m (named_of m) (reason_for m r))

-- ---- an EVENT message: the verdict on the event, whose id is i
abbrev pub offer_reply : (m i : Bytes) (x : Result Offered Refusal) → Reply
offer_reply m i (Ok offered.Ephemeral) = ok i true (verdict_reason (Ok offered.Ephemeral))
offer_reply m i (Ok offered.Duplicate) = ok i true (verdict_reason (Ok offered.Duplicate))
offer_reply m i (Ok offered.Older) = ok i true (verdict_reason (Ok offered.Older))
offer_reply m i (Ok offered.Stored) = ok i true (verdict_reason (Ok offered.Stored))
offer_reply m i (Err r) = refusal m r.row

-- ---- "An accepted REQ gives its EVENTs, then EOSE."
-- every held text of a sound table reads, so no slot is left out: specs/Claims/Replies, `ReadRequest`
abbrev pub event_replies : (sub s : Bytes) (r : Read) → List Reply
event_replies sub s too_large = []
event_replies sub s wrong_shape = []
event_replies sub s (read e) = event sub (hex_of (id_in s)) e (hex_of (sig_in s)) ∷ []

unfoldable pub events_of : (b sub : Bytes) (ks : List ℕ) → List Reply
events_of b sub [] = []
events_of b sub (k ∷ ks) = event_replies sub (slot_at b k) (read_text (text_in (slot_at b k))) ++ events_of b sub ks

abbrev pub request_replies_if : (isSound : Bool) (b m sub : Bytes) (v : ℕ) → List Reply
request_replies_if isSound b m sub v =
    cond isSound (events_of b sub (answer_list b (filters_meant m v)) ++ (eose sub ∷ [])) (refusal m 11 ∷ [])

unfoldable pub request_replies : (b m sub : Bytes) (v : ℕ) → List Reply
request_replies b m sub v = request_replies_if (sound b) b m sub v

-- ---- one message m to the table b: the replies, and the table afterwards
abbrev pub replies_in : (b m : Bytes) (x : Result Message Refusal) → List Reply
replies_in b m (Ok (message.Event p)) = offer_reply m (said m p.id) (answer b (as_message m)) ∷ []
replies_in b m (Ok (message.Req r)) = request_replies b m (said m r.subscription) r.filters
-- "CLOSE gives nothing."
replies_in b m (Ok (message.Close p)) = []
replies_in b m (Err r) = refusal m r.row ∷ []

unfoldable pub replies_to : Bytes → Bytes → List Reply
replies_to b m = replies_in b m (read_of m)

abbrev pub table_in : (b m : Bytes) (x : Result Message Refusal) → Bytes
table_in b m (Ok (message.Event p)) = next b (as_message m)
table_in b m (Ok (message.Req r)) = b
table_in b m (Ok (message.Close p)) = b
table_in b m (Err r) = b

unfoldable pub table_after : Bytes → Bytes → Bytes
table_after b m = table_in b m (read_of m)

-- ---- "One program reads messages from standard input, one a line, over a fresh table of 8 slots. 0A ends a line and
-- is no part of the message; a last line without it counts if not empty; an overlong line gives one reply."
abbrev pub push_byte : ℕ → List (List ℕ) → List (List ℕ)
push_byte x [] = (x ∷ []) ∷ []
push_byte x (l ∷ ls) = (x ∷ l) ∷ ls

unfoldable pub lines : Bytes → List (List ℕ)
lines [] = []
lines (x ∷ s) = cond (eqb x 0x0a) ([] ∷ lines s) (push_byte x (lines s))

-- "The program ends each reply with 0A."
abbrev pub reply_line : Reply → Bytes
reply_line r = reply_text r ++ (0x0a ∷ [])

unfoldable pub written : List Reply → Bytes
written [] = []
written (r ∷ rs) = reply_line r ++ written rs

unfoldable pub output_from : Bytes → List (List ℕ) → Bytes
output_from b [] = []
output_from b (m ∷ ms) = written (replies_to b m) ++ output_from (table_after b m) ms

abbrev pub program_slots : ℕ
program_slots = 8

abbrev pub fresh_table : Bytes
fresh_table = formatted program_slots (replicate (table_size program_slots) 0)

-- what the program writes to standard output, of its standard input
unfoldable pub output : Bytes → Bytes
output input = output_from fresh_table (lines input)
