-- A reply given as lent parts over the buffer b: "Parts of an event, filter or reply are tested by rows 2 and 4 to 8
-- .., an event by 9 too"; then 13, "lent output .. too short". The reason is any string; ids are "Hex", subscription
-- ids are bounded by "Counts".
use Rattle.std.specs.Prelude.{Bool, false, cond, ◌||◌, length, Result, ℕ}
use Rattle.wire.specs.Limits.{hex_length}
pub use Rattle.wire.specs.Put.{short_row, output_after}
use Rattle.message.specs.declared.Span.{Span}
use Rattle.message.specs.declared.EventParts.{EventParts}
unfoldable pub use Rattle.message.specs.Lent.{subscription8}
use Rattle.message.specs.Lent.{string2, string4, string5, string7, lowest, event2, event4, event5, event7, body6, body8}
use Rattle.event.specs.Lent.{said, event_of}
use Rattle.event.specs.Answer.{or_else, is_large, answered}
use Rattle.reply.specs.Replies.{Reply, ok, event, eose, closed, notice, reply_text}
use Rattle.reply.specs.declared.ReplyParts.{ReplyParts}
use Rattle.reply.specs.declared.ReplyParts.TheVariants as parts
use Rattle.wire.specs.Bytes.{Bytes, Row}

-- the reply that the parts spell
abbrev pub reply_of : Bytes → ReplyParts → Reply
reply_of b (parts.Ok i accepted r) = ok (said b i) accepted (said b r)
reply_of b (parts.Event s p) = event (said b s) (said b p.id) (event_of b p.body) (said b p.sig)
reply_of b (parts.Eose s) = eose (said b s)
reply_of b (parts.Closed s r) = closed (said b s) (said b r)
reply_of b (parts.Notice r) = notice (said b r)

-- ---- rows 2 and 4 to 9
abbrev pub none : Bool
none = false

abbrev pub ok_row : (b : Bytes) (i r : Span) → Row
ok_row b i r = lowest (record {
  row2 = string2 b i || string2 b r;
  row4 = string4 b i || string4 b r;
  row5 = string5 b i || string5 b r;
  row6 = none;
  row7 = string7 hex_length b i;
  row8 = none;
})

abbrev pub event_reply_row : (b : Bytes) (s : Span) (p : EventParts) → Row
event_reply_row b s p = lowest (record {
  row2 = string2 b s || event2 b p;
  row4 = string4 b s || event4 b p;
  row5 = string5 b s || event5 b p;
  row6 = body6 p.body;
  row7 = event7 b p;
  row8 = subscription8 b s || body8 b p.body;
})

abbrev pub eose_row : Bytes → Span → Row
eose_row b s = lowest (record {
  row2 = string2 b s;
  row4 = string4 b s;
  row5 = string5 b s;
  row6 = none;
  row7 = none;
  row8 = subscription8 b s;
})

abbrev pub closed_row : (b : Bytes) (s r : Span) → Row
closed_row b s r = lowest (record {
  row2 = string2 b s || string2 b r;
  row4 = string4 b s || string4 b r;
  row5 = string5 b s || string5 b r;
  row6 = none;
  row7 = none;
  row8 = subscription8 b s;
})

abbrev pub notice_row : Bytes → Span → Row
notice_row b r = lowest (record {
  row2 = string2 b r;
  row4 = string4 b r;
  row5 = string5 b r;
  row6 = none;
  row7 = none;
  row8 = none;
})

abbrev pub parts_row : Bytes → ReplyParts → Row
parts_row b (parts.Ok i accepted r) = ok_row b i r
parts_row b (parts.Event s p) = or_else (event_reply_row b s p) (cond (is_large b p.body) 9 0)
parts_row b (parts.Eose s) = eose_row b s
parts_row b (parts.Closed s r) = closed_row b s r
parts_row b (parts.Notice r) = notice_row b r

-- ---- the reply written: the answer, and the output afterwards
unfoldable pub reply_row : (b : Bytes) (p : ReplyParts) (out : Bytes) → Row
reply_row b p out = or_else (parts_row b p) (short_row (reply_text (reply_of b p)) out)

unfoldable pub replied : (b : Bytes) (p : ReplyParts) (out : Bytes) → Result ℕ ℕ
replied b p out = answered (reply_row b p out) (length (reply_text (reply_of b p)))

unfoldable pub replied_out : (b : Bytes) (p : ReplyParts) (out : Bytes) → Bytes
replied_out b p out = output_after (reply_row b p out) (reply_text (reply_of b p)) out
