-- A message read: rows 1 to 8 and then its parts; and what a refusal's reply names.
use Rattle.std.specs.Prelude.{ℕ, ◌≡◌, List, Bool, true, false, cond, ◌&&◌, eqb, leb, Result, Ok, Err}
use Rattle.wire.specs.Limits.{hex_length}
use Rattle.json_tree.specs.Tree.{Json, word, Items, nil, item, Got, none, got, root}
use Rattle.rows.specs.Strings.{part}
use Rattle.rows.specs.Rows.{on_root}
use Rattle.spell.specs.Spell.{is_hex_of}
use Rattle.shape.specs.Shape.{Word, event, req, close, other, opened, id_name}
use Rattle.shape.specs.Rows.{message_row, wrong_subscription}
use Rattle.shape.specs.Offsets.{plain_refusal, refusal_of}
use Rattle.message.specs.Parts.{span_of, event_parts_of, members_of, member_of, span_in}
use Rattle.message.specs.declared.Span.{Span}
use Rattle.shape.specs.declared.Refusal.{Refusal}
use Rattle.message.specs.declared.Message.{Message}
use Rattle.message.specs.declared.Message.TheVariants as message
use Rattle.message.specs.declared.Named.{Named}
use Rattle.message.specs.declared.Naming.{Naming}
use Rattle.message.specs.declared.Named.TheVariants as names
use Rattle.wire.specs.Bytes.{Bytes}

-- the first of some elements, and the place of the second
abbrev pub first_item : Items → Json
first_item nil = word 0 0
first_item (item p v t ts) = t

abbrev pub second_place : Items → ℕ
second_place nil = 0
second_place (item p v t nil) = 0
second_place (item p v t (item q w u us)) = w

-- the elements after the first word
abbrev pub message_parts : (s : Bytes) (word : Word) (ts : Items) → Result Message Refusal
message_parts s event ts = Ok (message.Event (event_parts_of s (members_of (first_item ts))))
message_parts s req ts = Ok (message.Req (record { subscription = span_of (first_item ts); filters = second_place ts }))
message_parts s close ts = Ok (message.Close (span_of (first_item ts)))
message_parts s other ts = Err (plain_refusal 5)

abbrev pub in_root : Bytes → Got Json → Result Message Refusal
in_root s none = Err (plain_refusal 3)
in_root s (got t n) = message_parts s (opened s t).first (opened s t).rest

-- 01: "A read message is an EVENT, a REQ or a CLOSE, each with its own parts"; "A refusal carries its number and no
-- other value", but for the offset of rows 6 and 7 (02, Wish 9)
unfoldable pub read_of : Bytes → Result Message Refusal
read_of s = cond (eqb (message_row s) 0) (in_root s (root s)) (Err (refusal_of s))

-- 01's number of an answer: 0 where none of rows 1 to 8 holds. That it is the message's row is proved in
-- proofs/Reading.antt
abbrev pub read_number : Result Message Refusal → ℕ
read_number (Ok (message.Event p)) = 0
read_number (Ok (message.Req r)) = 0
read_number (Ok (message.Close p)) = 0
read_number (Err r) = r.row

abbrev pub RowRead : Type 0
RowRead = (s : List ℕ) → read_number (read_of s) ≡ message_row s

-- ---- 01: "offering one tests 1 to 12 .. and gives 5 also if it isn't an EVENT"; "Names and the first word compare as
-- decoded"
abbrev pub is_event_word : Word → Bool
is_event_word event = true
is_event_word req = false
is_event_word close = false
is_event_word other = false

-- the message's first word is EVENT, whatever else is wrong with it; false where no JSON value begins the text
unfoldable pub is_event : Bytes → Bool
is_event m = on_root (λ t. is_event_word (opened m t).first) (root m)

-- ---- 01, "Filters and replies": "Rows 6-12 give OK with false if the id field is 64 lower-case hex; CLOSED for a REQ
-- whose subscription id is within bounds; otherwise NOTICE". What is found in a text that has its shape (rows 1 to 5 do
-- not hold); nothing elsewhere
abbrev pub id_named : Bytes → Span → Named
id_named s p = cond (is_hex_of hex_length (part s p.start p.len)) (names.Id p) names.Nothing

abbrev pub subscription_named : Bytes → Json → Named
subscription_named s t = cond (wrong_subscription s t) names.Nothing (names.Subscription (span_of t))

abbrev pub named_in : (s : Bytes) (word : Word) (ts : Items) → Named
named_in s event ts = id_named s (span_in (member_of s id_name (members_of (first_item ts))))
named_in s req ts = subscription_named s (first_item ts)
named_in s close ts = names.Nothing
named_in s other ts = names.Nothing

abbrev pub named_root : Bytes → Got Json → Named
named_root s none = names.Nothing
named_root s (got t n) = named_in s (opened s t).first (opened s t).rest

-- whether a row is one of 1 to 5
abbrev pub is_early : ℕ → Bool
is_early r = leb 1 r && leb r 5

unfoldable pub named_of : Bytes → Named
named_of s = cond (is_early (message_row s)) names.Nothing (named_root s (root s))

-- what refuses a message, if any row does, and what the reply names: all that a reply to it says
abbrev pub naming_of : Bytes → Naming
naming_of s = record { refusal = refusal_of s; named = named_of s }
