-- What specs/Respond and Feed mean: proved in proofs/Respond, Streamed, Feed and Enough, each under its own name in
-- small letters.
use Rattle.std.specs.Prelude.{◌≡◌, true, false, cond, ◌↔◌, ◌≢◌, List, [], ◌∷◌, ◌++◌, ℕ, ◌*◌, ◌+◌, ◌≤◌, ◌<◌}
use Rattle.std.specs.Prelude.{length, take, drop, Ok}
use Rattle.text.specs.Event.{Event}
use Rattle.text.specs.Read.{read, read_text}
use Rattle.message.specs.Read.{read_of}
use Rattle.message.specs.declared.Span.{Span}
use Rattle.message.specs.declared.ReqParts.{ReqParts}
use Rattle.message.specs.declared.Message.TheVariants as message
use Rattle.event.specs.Lent.{said}
use Rattle.event.specs.Answer.{hex_of}
use Rattle.law.specs.Lists.{◌∈◌, any}
use Rattle.table.specs.Layout.{capacity_of, count_of, slot_at, id_in, sig_in, text_in}
use Rattle.table.specs.Sound.{sound_up_to, sound}
use Rattle.query.specs.Answer.{answer_list, filters_meant}
use Rattle.wire.specs.Lowest.{Lowest}
use Rattle.reply.specs.Replies.{event, eose, reply_text}
use Rattle.reply.specs.declared.ReplyParts.TheVariants as parts
use Rattle.program.specs.Program.{replies_to, table_after, reply_line, output}
use Rattle.reply.specs.Claims.{PartsHold, WritesOr}
use Rattle.program.specs.Respond.{response, respond_row, responded, responded_out, responded_table, slot_text}
use Rattle.program.specs.Respond.{slot_line, slot_event_row, slot_event, slot_event_out, joined, fitting, slot_lines}
use Rattle.program.specs.Respond.{fitting_text, events_row_if, events_row, sent_events, sent_events_out, sent_number}
use Rattle.program.specs.Respond.{sent_bytes, sent_slots}
use Rattle.program.specs.Feed.{State, start, kept, is_end, after_bytes, said_by, said_last, feed_state, before, used_of}
use Rattle.program.specs.Feed.{turn_text, turn_state, turn_row, turned, turn_table, turn_line, turn_out, turned_number}
use Rattle.program.specs.Feed.{turned_used, turned_line, turned_bytes, most_line}

-- ---- one message answered
-- row 13, "lent output .. too short", and no other
abbrev pub RespondRowIs : Type 0
RespondRowIs =
    (b m out : List ℕ) → (respond_row b m out ≢ 0) ↔ ((respond_row b m out ≡ 13) × (length out < length (response b m)))

-- "every lent buffer stays as found": neither output nor table changes where the output is too short
abbrev pub RespondedMeans : Type 0
RespondedMeans = (b m out : List ℕ) →
    WritesOr (respond_row b m out) (response b m) out (responded b m out) (responded_out b m out)
    × (respond_row b m out ≡ 0 → responded_table b m out ≡ table_after b m)
    × (respond_row b m out ≢ 0 → responded_table b m out ≡ b)

-- an output of so many bytes is never too short, over a table of N slots: an EVENT's line has at most 24,827 bytes,
-- every other at most 428
abbrev pub enough_for : ℕ → ℕ
enough_for N = N * 24827 + 428

abbrev pub Enough : Type 0
Enough = (b m out : List ℕ) → enough_for (capacity_of b) ≤ length out → respond_row b m out ≡ 0

-- ---- a reply at a time
-- "An accepted REQ gives its EVENTs, then EOSE": what is answered at once is what the calls for one slot after the
-- other and for EOSE write
abbrev pub OneByOne : Type 0
OneByOne = (b m : List ℕ) (r : ReqParts) → read_of m ≡ Ok (message.Req r) → sound b ≡ true →
    response b m
    ≡ joined (slot_lines b (said m r.subscription) (answer_list b (filters_meant m r.filters))) ++ reply_line
    (eose (said m r.subscription))

-- of a held slot there is an EVENT, and its line is the EVENT and 0A
abbrev pub SlotTextIs : Type 0
SlotTextIs = (b sub : List ℕ) (k : ℕ) → sound b ≡ true → k < count_of b →
    (e : Event)
    × (read_text (text_in (slot_at b k)) ≡ read e)
    × (slot_text b sub k ≡ reply_text (event sub (hex_of (id_in (slot_at b k))) e (hex_of (sig_in (slot_at b k)))))
    × (slot_line b sub k ≡ slot_text b sub k ++ (0x0a ∷ []))

-- the rows of the subscription id are those of an EOSE that names it; 11, "table not sound"; 13, "lent output .. too
-- short"; 14, "slot not held". "Where several hold, the lowest number is given"
pub data SlotEventHolds (b : List ℕ) (k : ℕ) (m : List ℕ) (s : Span) (out : List ℕ) : ℕ → Type 0 where
  of_subscription : {r : ℕ} → PartsHold m (parts.Eose s) r → SlotEventHolds b k m s out r
  not_sound : sound b ≡ false → SlotEventHolds b k m s out 11
  too_short : k < count_of b → length out < length (slot_text b (said m s) k) → SlotEventHolds b k m s out 13
  not_held : count_of b ≤ k → SlotEventHolds b k m s out 14

abbrev pub SlotEventRowIs : Type 0
SlotEventRowIs =
    (b : List ℕ) (k : ℕ) (m : List ℕ) (s : Span) (out : List ℕ) →
    Lowest (SlotEventHolds b k m s out) (slot_event_row b k m s out)

abbrev pub SlotEventMeans : Type 0
SlotEventMeans = (b : List ℕ) (k : ℕ) (m : List ℕ) (s : Span) (out : List ℕ) →
    WritesOr (slot_event_row b k m s out) (slot_text b (said m s) k) out (slot_event b k m s out) (slot_event_out b k m s out)

-- ---- as many as fit
-- what is written fits, no line more would, and what is left is the rest
pub record Batch (room : ℕ) (ls : List (List ℕ)) : Type 0 where
  pub fits : length (joined (take (fitting room ls) ls)) ≤ room
  pub most : (n : ℕ) → n ≤ length ls → length (joined (take n ls)) ≤ room → n ≤ fitting room ls
  pub few : fitting room ls ≤ length ls
  pub rest : joined (take (fitting room ls) ls) ++ joined (drop (fitting room ls) ls) ≡ joined ls

abbrev pub Batches : Type 0
Batches = (room : ℕ) (ls : List (List ℕ)) → Batch room ls

pub data EventsHold (b ks m : List ℕ) (s : Span) (out : List ℕ) : ℕ → Type 0 where
  of_label : {r : ℕ} → PartsHold m (parts.Eose s) r → EventsHold b ks m s out r
  bad_table : sound b ≡ false → EventsHold b ks m s out 11
  none_fits_lem : {k : ℕ} {js : List ℕ} → ks ≡ k ∷ js → k < count_of b → length out < length (slot_line b (said m s) k) →
      EventsHold b ks m s out 13
  some_not_held : {k : ℕ} → k ∈ ks → count_of b ≤ k → EventsHold b ks m s out 14

abbrev pub EventsRowIs : Type 0
EventsRowIs = (b ks m : List ℕ) (s : Span) (out : List ℕ) → Lowest (EventsHold b ks m s out) (events_row b ks m s out)

-- 02, Wish 6: over a table of at most 64 slots that row stays, and with it what is written
abbrev pub SameEvents : Type 0
SameEvents = (b ks m : List ℕ) (s : Span) (out : List ℕ) → capacity_of b ≤ 64 →
    events_row b ks m s out ≡ events_row_if (sound_up_to 64 b) b ks m s out

pub record SentIs (b ks m : List ℕ) (s : Span) (out : List ℕ) : Type 0 where
  pub number : sent_number (sent_events b ks m s out) ≡ events_row b ks m s out
  pub bytes : events_row b ks m s out ≡ 0 →
      sent_bytes (sent_events b ks m s out) ≡ length (fitting_text b (said m s) ks out)
  pub begins : events_row b ks m s out ≡ 0 →
      take (sent_bytes (sent_events b ks m s out)) (sent_events_out b ks m s out)
      ≡ joined (slot_lines b (said m s) (take (sent_slots (sent_events b ks m s out)) ks))
  pub rest : events_row b ks m s out ≡ 0 →
      drop (sent_bytes (sent_events b ks m s out)) (sent_events_out b ks m s out) ≡ drop
      (sent_bytes (sent_events b ks m s out)) out
  -- some slot is served where there is one, so calls for the slots that are left come to an end
  pub progress : events_row b ks m s out ≡ 0 → ks ≢ [] → 1 ≤ sent_slots (sent_events b ks m s out)
  pub as_long : length (sent_events_out b ks m s out) ≡ length out
  pub refused : events_row b ks m s out ≢ 0 →
      (sent_bytes (sent_events b ks m s out) ≡ 0) × (sent_slots (sent_events b ks m s out) ≡ 0) ×
      (sent_events_out b ks m s out ≡ out)

abbrev pub SentMeans : Type 0
SentMeans = (b ks m : List ℕ) (s : Span) (out : List ℕ) → SentIs b ks m s out

-- ---- the program as a state
-- "an overlong line gives one reply": what is kept of a line is answered as the line is
abbrev pub KeptSame : Type 0
KeptSame = (b m : List ℕ) → (replies_to b (kept m) ≡ replies_to b m) × (table_after b (kept m) ≡ table_after b m)

-- however the input is cut into pieces
abbrev pub InPieces : Type 0
InPieces = (s : State) (l k : List ℕ) →
    (after_bytes s (l ++ k) ≡ after_bytes (after_bytes s l) k) ×
    (said_by s (l ++ k) ≡ said_by s l ++ said_by (after_bytes s l) k)

-- the program's output is what is said on the way, and at the end
abbrev pub SaysOutput : Type 0
SaysOutput = (input : List ℕ) → said_by start input ++ said_last (after_bytes start input) ≡ output input

-- ---- one turn
-- a turn uses up some of a piece, and answers a line where the piece ends one
pub record TurnIs (b line : List ℕ) (n : ℕ) (piece : List ℕ) : Type 0 where
  pub used : used_of piece ≤ length piece
  pub progress : piece ≢ [] → 1 ≤ used_of piece
  pub says : turn_text b line n piece ≡ cond (any is_end piece) (response b (kept (take n (kept line) ++ before piece)))
      []
  -- what the turn leaves of the piece is fed to the state that it leaves
  pub goes_on : said_by (feed_state b line n) piece ≡ turn_text b line n piece ++ said_by (turn_state b line n piece)
      (drop (used_of piece) piece)
  pub state : after_bytes (feed_state b line n) piece ≡ after_bytes (turn_state b line n piece) (drop (used_of piece) piece)

abbrev pub TurnMeans : Type 0
TurnMeans = (b line : List ℕ) (n : ℕ) (piece : List ℕ) → TurnIs b line n piece

-- row 13, "lent output .. too short", and no other
abbrev pub TurnRowIs : Type 0
TurnRowIs = (b line : List ℕ) (n : ℕ) (piece out : List ℕ) →
    (turn_row b line n piece out ≡ 0) ↔ ((most_line ≤ length line) × (length (turn_text b line n piece) ≤ length out))

-- the buffers afterwards are the state afterwards
pub record TurnedIs (b line : List ℕ) (n : ℕ) (piece out : List ℕ) : Type 0 where
  pub number : turned_number (turned b line n piece out) ≡ turn_row b line n piece out
  pub used : turn_row b line n piece out ≡ 0 → turned_used (turned b line n piece out) ≡ used_of piece
  pub bytes : turn_row b line n piece out ≡ 0 → turned_bytes (turned b line n piece out) ≡ length
      (turn_text b line n piece)
  pub is_state : turn_row b line n piece out ≡ 0 →
      feed_state (turn_table b line n piece out) (turn_line b line n piece out)
      (turned_line (turned b line n piece out)) ≡ turn_state b line n piece
  pub begins : turn_row b line n piece out ≡ 0 →
      take (length (turn_text b line n piece)) (turn_out b line n piece out) ≡ turn_text b line n piece
  pub rest : turn_row b line n piece out ≡ 0 →
      drop (length (turn_text b line n piece)) (turn_out b line n piece out) ≡ drop (length (turn_text b line n piece)) out
  pub as_long : (length (turn_out b line n piece out) ≡ length out) ×
      (length (turn_line b line n piece out) ≡ length line)
  pub refused : turn_row b line n piece out ≢ 0 →
      (turn_table b line n piece out ≡ b) × (turn_line b line n piece out ≡ line) × (turn_out b line n piece out ≡ out)

abbrev pub TurnedMeans : Type 0
TurnedMeans = (b line : List ℕ) (n : ℕ) (piece out : List ℕ) → TurnedIs b line n piece out
