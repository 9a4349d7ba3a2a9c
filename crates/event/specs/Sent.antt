-- 01, "Numbers the relay answers with", of an event that is offered as a client message m: what testing it answers, and
-- its text in a lent output.
use Rattle.std.specs.Prelude.{ℕ, cond, ◌||◌, eqb, leb, length, Result, Ok, Err}
use Rattle.shape.specs.Offsets.{plain_refusal}
use Rattle.shape.specs.declared.Refusal.{Refusal}
use Rattle.message.specs.Read.{is_event, read_of}
use Rattle.message.specs.declared.EventParts.{EventParts}
use Rattle.message.specs.declared.Message.{Message}
use Rattle.message.specs.declared.Message.TheVariants as message
use Rattle.event.specs.Lent.{text_of}
use Rattle.event.specs.Answer.{offered_text_row, offered_out}
use Rattle.wire.specs.Bytes.{Bytes, Row}

-- "Reading a message tests rows 1 to 8", "offering one .. gives 5 also if it isn't an EVENT": where the reader refused
-- m by r. "The lowest number is given", so 5 goes after 1 to 4 and before 6 to 8
abbrev pub unread_refusal : Bytes → Refusal → Refusal
unread_refusal m r = cond (leb r.row 4 || is_event m) r (plain_refusal 5)

-- by what the reader answers: a REQ and a CLOSE aren't EVENTs; an EVENT is tested "by 9 too, and by 10 when offered",
-- then by 13
abbrev pub sent_row_of : (m out : Bytes) (x : Result Message Refusal) → ℕ
sent_row_of m out (Ok (message.Event p)) = offered_text_row m p out
sent_row_of m out (Ok (message.Req p)) = 5
sent_row_of m out (Ok (message.Close p)) = 5
sent_row_of m out (Err r) = (unread_refusal m r).row

unfoldable pub sent_row : Bytes → Bytes → Row
sent_row m out = sent_row_of m out (read_of m)

-- "A refusal carries its number and no other value", but for the offset of rows 6 and 7 (02, Wish 9); else the parts of
-- the event, and how many bytes its text has
abbrev pub sent_as : (r : ℕ) (p : EventParts) (n : ℕ) → Result (EventParts × ℕ) Refusal
sent_as r p n = cond (eqb r 0) (Ok (p, n)) (Err (plain_refusal r))

abbrev pub sent_text_of : (m out : Bytes) (x : Result Message Refusal) → Result (EventParts × ℕ) Refusal
sent_text_of m out (Ok (message.Event p)) = sent_as (offered_text_row m p out) p (length (text_of m p.body))
sent_text_of m out (Ok (message.Req p)) = Err (plain_refusal 5)
sent_text_of m out (Ok (message.Close p)) = Err (plain_refusal 5)
sent_text_of m out (Err r) = Err (unread_refusal m r)

unfoldable pub sent_text : Bytes → Bytes → Result (EventParts × ℕ) Refusal
sent_text m out = sent_text_of m out (read_of m)

-- "Output is written from its start, and its rest stays"; on a refusal "every lent buffer stays as found"
abbrev pub sent_out_of : (m out : Bytes) (x : Result Message Refusal) → Bytes
sent_out_of m out (Ok (message.Event p)) = offered_out m p out
sent_out_of m out (Ok (message.Req p)) = out
sent_out_of m out (Ok (message.Close p)) = out
sent_out_of m out (Err r) = out

unfoldable pub sent_out : Bytes → Bytes → Bytes
sent_out m out = sent_out_of m out (read_of m)

-- the number of 01
abbrev pub sent_text_number : Result (EventParts × ℕ) Refusal → ℕ
sent_text_number (Ok (p, n)) = 0
sent_text_number (Err r) = r.row
