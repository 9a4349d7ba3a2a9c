-- What specs/Replies and Lent mean, in the sentences of 01: proved in proofs/Plain and Lent, each under its own name in
-- small letters (PartsPass: parts-pass).
use Rattle.std.specs.Prelude.{◌≡◌, Bool, true, false, ◌↔◌, ◌≢◌, List, ℕ, ◌≤◌, ◌<◌, eqb, ltb, length, take, drop, Result, Ok, Err}
use Rattle.wire.specs.Limits.{hex_length}
use Rattle.message.specs.Lent.{string2, string4, string5, string7, event2, event4, event5, event7, body6, body8}
use Rattle.message.specs.declared.Span.{Span}
use Rattle.message.specs.declared.Body.{Body}
use Rattle.message.specs.declared.EventParts.{EventParts}
use Rattle.event.specs.Lent.{text_of}
use Rattle.event.specs.Answer.{is_large, serialised, serialised_row, written_number, written_length}
use Rattle.law.specs.Lists.{any}
use Rattle.wire.specs.Lowest.{Lowest}
use Rattle.reply.specs.Replies.{Reply, reply_text}
use Rattle.reply.specs.declared.ReplyParts.{ReplyParts}
use Rattle.reply.specs.declared.ReplyParts.TheVariants as parts
use Rattle.reply.specs.Lent.{subscription8, reply_of, parts_row, reply_row, replied, replied_out}
use Rattle.wire.specs.Bytes.{Bytes}

-- ---- a reply is one line
abbrev pub is_newline : ℕ → Bool
is_newline x = eqb x 0x0a

-- no byte 0A
abbrev pub Plain : Bytes → Type 0
Plain l = any is_newline l ≡ false

-- no reply has a line's end in it: "strings escaped as above"
abbrev pub ReplyPlain : Type 0
ReplyPlain = (r : Reply) → Plain (reply_text r)

-- nor any other byte below 20: "replies, to stay JSON" (02, Wish 3)
abbrev pub is_low : ℕ → Bool
is_low x = ltb x 0x20

abbrev pub ReplyRaw : Type 0
ReplyRaw = (r : Reply) → any is_low (reply_text r) ≡ false

-- ---- a reply given as lent parts (specs/Lent): proved in proofs/Lent
abbrev pub lent_text : Bytes → ReplyParts → Bytes
lent_text b q = reply_text (reply_of b q)

-- the strings of a reply, its event's aside, and which of them is a subscription id
pub data StringOf : ReplyParts → Span → Type 0 where
  ok_id : {i r : Span} {a : Bool} → StringOf (parts.Ok i a r) i
  ok_reason : {i r : Span} {a : Bool} → StringOf (parts.Ok i a r) r
  event_subscription : {s : Span} {p : EventParts} → StringOf (parts.Event s p) s
  eose_subscription : {s : Span} → StringOf (parts.Eose s) s
  closed_subscription : {s r : Span} → StringOf (parts.Closed s r) s
  closed_reason : {s r : Span} → StringOf (parts.Closed s r) r
  notice_reason : {r : Span} → StringOf (parts.Notice r) r

pub data SubscriptionOf : ReplyParts → Span → Type 0 where
  of_event : {s : Span} {p : EventParts} → SubscriptionOf (parts.Event s p) s
  of_eose : {s : Span} → SubscriptionOf (parts.Eose s) s
  of_closed : {s r : Span} → SubscriptionOf (parts.Closed s r) s

-- the row k holds of the event p: "Parts of an event .. are tested by rows 2 and 4 to 8 .., an event by 9 too"
pub data EventHolds (b : List ℕ) (p : EventParts) : ℕ → Type 0 where
  event_utf8 : event2 b p ≡ true → EventHolds b p 2
  event_string : event4 b p ≡ true → EventHolds b p 4
  event_shape : event5 b p ≡ true → EventHolds b p 5
  event_number_lem : body6 p.body ≡ true → EventHolds b p 6
  event_hex_lem : event7 b p ≡ true → EventHolds b p 7
  event_count_lem : body8 b p.body ≡ true → EventHolds b p 8
  event_large : is_large b p.body ≡ true → EventHolds b p 9

-- the row k holds of the reply q: an id is 64 of lower-case hex, a subscription id has "1 to 64 characters", a reason
-- is any string
pub data PartsHold (b : List ℕ) : ReplyParts → ℕ → Type 0 where
  not_utf8 : {q : ReplyParts} {s : Span} → StringOf q s → string2 b s ≡ true → PartsHold b q 2
  not_allowed : {q : ReplyParts} {s : Span} → StringOf q s → string4 b s ≡ true → PartsHold b q 4
  not_spelled : {q : ReplyParts} {s : Span} → StringOf q s → string5 b s ≡ true → PartsHold b q 5
  not_hex : {i r : Span} {a : Bool} → string7 hex_length b i ≡ true → PartsHold b (parts.Ok i a r) 7
  miscounted : {q : ReplyParts} {s : Span} → SubscriptionOf q s → subscription8 b s ≡ true → PartsHold b q 8
  in_event : {s : Span} {p : EventParts} {k : ℕ} → EventHolds b p k → PartsHold b (parts.Event s p) k

-- 01, "Numbers the relay answers with": "Where several hold, the lowest number is given"
abbrev pub PartsRowIs : Type 0
PartsRowIs = (b : List ℕ) (q : ReplyParts) → Lowest (PartsHold b q) (parts_row b q)

abbrev pub PartsPass : Type 0
PartsPass = (b : List ℕ) (q : ReplyParts) → (parts_row b q ≡ 0) ↔ ((k : ℕ) → PartsHold b q k → ⊥)

-- row 13, "lent output .. too short"
pub data ReplyHolds (b : List ℕ) (q : ReplyParts) (out : List ℕ) : ℕ → Type 0 where
  of_parts : {k : ℕ} → PartsHold b q k → ReplyHolds b q out k
  too_short : length out < length (lent_text b q) → ReplyHolds b q out 13

abbrev pub ReplyRowIs : Type 0
ReplyRowIs = (b : List ℕ) (q : ReplyParts) (out : List ℕ) → Lowest (ReplyHolds b q out) (reply_row b q out)

-- a row of the parts is given before 13
abbrev pub PartsFirst : Type 0
PartsFirst = (b : List ℕ) (q : ReplyParts) (out : List ℕ) → parts_row b q ≢ 0 → reply_row b q out ≡ parts_row b q

abbrev pub ShortOutput : Type 0
ShortOutput =
    (b : List ℕ) (q : ReplyParts) (out : List ℕ) →
    (reply_row b q out ≡ 13) ↔ ((parts_row b q ≡ 0) × (length out < length (lent_text b q)))

abbrev pub ReplyFits : Type 0
ReplyFits =
    (b : List ℕ) (q : ReplyParts) (out : List ℕ) →
    (reply_row b q out ≡ 0) ↔ ((parts_row b q ≡ 0) × (length (lent_text b q) ≤ length out))

-- what a call answers, and the output o afterwards, that row r refuses or that writes the text t: "Output is written
-- from its start, and its rest stays. A refusal carries its number and no other value .., and every lent buffer stays
-- as found."
pub record WritesOr (row : ℕ) (t out : List ℕ) (w : Result ℕ ℕ) (o : List ℕ) : Type 0 where
  pub number : written_number w ≡ row
  pub wrote : row ≡ 0 → w ≡ Ok (length t)
  pub value : row ≡ 0 → written_length w ≡ length t
  pub begins : row ≡ 0 → take (length t) o ≡ t
  pub rest : row ≡ 0 → drop (length t) o ≡ drop (length t) out
  pub as_long : length o ≡ length out
  pub refused : row ≢ 0 → (w ≡ Err row) × (written_length w ≡ 0) × (o ≡ out)

abbrev pub RepliedMeans : Type 0
RepliedMeans =
    (b : List ℕ) (q : ReplyParts) (out : List ℕ) → WritesOr (reply_row b q out) (lent_text b q) out (replied b q out)
    (replied_out b q out)

-- ---- the number and value of other answers: "A refusal carries its number and no other value"
abbrev pub SerialisedNumber : Type 0
SerialisedNumber = (b : List ℕ) (p : Body) (out : List ℕ) →
    (written_number (serialised b p out) ≡ serialised_row b p out)
    × (serialised_row b p out ≡ 0 → written_length (serialised b p out) ≡ length (text_of b p))
    × (serialised_row b p out ≢ 0 → written_length (serialised b p out) ≡ 0)
