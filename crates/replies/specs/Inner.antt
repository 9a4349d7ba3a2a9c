-- What private functions hand on: the three pieces of an EVENT, and whether a text has room.
use Rattle.std.specs.Prelude.{◌≡◌, Bool, true, false, ◌++◌, ℕ, ◌≤◌, ◌<◌}
use Rattle.numeral.specs.Decimal.{digits, decimal}
use Rattle.text.specs.Event.{Event}
use Rattle.reply.specs.Replies.{string_json, tags_json}
use Rattle.message.specs.declared.Span.{Span}
use Rattle.message.specs.declared.EventParts.{EventParts}
use Rattle.wire.specs.Ascii.{ascii}
use Rattle.reply.specs.declared.ReplyParts.{ReplyParts}
use Rattle.reply.specs.declared.ReplyParts.TheVariants.{Ok, Event as EventOf, Eose, Closed, Notice}
use Rattle.wire.specs.Bytes.{Bytes}

-- ---- the EVENT of the event e, for the subscription id sub, with the id i and the signature s, in pieces
unfoldable pub front_text : (sub i : Bytes) (e : Event) → Bytes
front_text sub i e =
    ascii "[\"EVENT\"," ++ (string_json sub ++
    (ascii ",{\"id\":" ++ (string_json i ++ (ascii ",\"pubkey\":" ++ string_json e.pubkey))))

unfoldable pub middle_text : Event → Bytes
middle_text e =
    ascii ",\"created_at\":" ++ (decimal e.time ++
    (ascii ",\"kind\":" ++ (digits e.kind ++ (ascii ",\"tags\":" ++ tags_json e.tags))))

unfoldable pub back_text : Event → (s : Bytes) → Bytes
back_text e s = ascii ",\"content\":" ++ (string_json e.content ++ (ascii ",\"sig\":" ++ (string_json s ++ ascii "}]")))

-- ---- the parts by what they are of
abbrev pub ok_parts : (i : Span) (accepted : Bool) (r : Span) → ReplyParts
ok_parts i accepted r = Ok i accepted r

abbrev pub event_parts : Span → EventParts → ReplyParts
event_parts s p = EventOf s p

abbrev pub eose_parts : Span → ReplyParts
eose_parts s = Eose s

abbrev pub closed_parts : Span → Span → ReplyParts
closed_parts s r = Closed s r

abbrev pub notice_parts : Span → ReplyParts
notice_parts r = Notice r

-- whether n bytes have room
pub record Room (n room : ℕ) (r : Bool) : Type 0 where
  pub yes : r ≡ true → n ≤ room
  pub no : r ≡ false → room < n
