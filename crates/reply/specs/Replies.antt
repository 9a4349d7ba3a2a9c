-- 01, "Filters and replies": the five replies. "Each reply begins with fixed bytes, copied exactly .. No white space;
-- strings escaped as above; event fields in the order listed under Shape." 001, "From relay to client", says what
-- follows the fixed bytes.
use Rattle.std.specs.Prelude.{Bool, true, false, List, [], ◌∷◌, ◌++◌, ℕ, get_or, Option, Some, None}
use Rattle.numeral.specs.Decimal.{digits, decimal}
use Rattle.shape.specs.declared.Refusal.{Refusal}
use Rattle.text.specs.Event.{Tag, Event, quoted, tags_text}
use Rattle.wire.specs.Ascii.{ascii}
use Rattle.wire.specs.Bytes.{Bytes}
use Rattle.wire.specs.Escape.{json_of}

-- strings are decoded; ids and signatures are in hex
pub data Reply : Type 0 where
  ok : (id : List ℕ) (accepted : Bool) (reason : List ℕ) → Reply
  event : (subscription id : List ℕ) (e : Event) (sig : List ℕ) → Reply
  eose : (subscription : List ℕ) → Reply
  closed : (subscription reason : List ℕ) → Reply
  notice : (reason : List ℕ) → Reply

abbrev pub truth : Bool → Bytes
truth true = ascii "true"
truth false = ascii "false"

-- "strings escaped as above", and the control characters that stand raw there spelled out (02, Wish 3): a string, and
-- the tags of an event
unfoldable pub string_json : Bytes → Bytes
string_json v = json_of (quoted v)

unfoldable pub tags_json : List Tag → Bytes
tags_json ts = json_of (tags_text ts)

-- "id, pubkey, created_at, kind, tags, content, sig"
unfoldable pub object_text : (id : Bytes) (e : Event) (sig : Bytes) → Bytes
object_text i e s =
    ascii "{\"id\":"
    ++ (string_json i
    ++ (ascii ",\"pubkey\":"
    ++ (string_json e.pubkey
    ++ (ascii ",\"created_at\":"
    ++ (decimal e.time
    ++ (ascii ",\"kind\":"
    ++ (digits e.kind
    ++ (ascii ",\"tags\":"
    ++ (tags_json e.tags
    ++ (ascii ",\"content\":"
    ++ (string_json e.content ++ (ascii ",\"sig\":" ++ (string_json s ++ ascii "}")))))))))))))

unfoldable pub reply_text : Reply → Bytes
reply_text (ok i accepted reason) =
    ascii "[\"OK\"," ++ (string_json i ++
    (ascii "," ++ (truth accepted ++ (ascii "," ++ (string_json reason ++ ascii "]")))))
reply_text (event s i e sig) = ascii "[\"EVENT\"," ++ (string_json s ++ (ascii "," ++ (object_text i e sig ++ ascii "]")))
reply_text (eose s) = ascii "[\"EOSE\"," ++ (string_json s ++ ascii "]")
reply_text (closed s reason) = ascii "[\"CLOSED\"," ++ (string_json s ++ (ascii "," ++ (string_json reason ++ ascii "]")))
reply_text (notice reason) = ascii "[\"NOTICE\"," ++ (string_json reason ++ ascii "]")

-- ---- "Reply text", from row 0 on; rows 13 and 14 have none
abbrev pub reasons : List (List ℕ)
reasons =
    []
    ∷ ascii "invalid: message too long"
    ∷ ascii "invalid: not UTF-8"
    ∷ ascii "invalid: not JSON"
    ∷ ascii "invalid: string not allowed"
    ∷ ascii "invalid: wrong shape"
    ∷ ascii "invalid: number"
    ∷ ascii "invalid: hex"
    ∷ ascii "invalid: count or length"
    ∷ ascii "invalid: event too large"
    ∷ ascii "invalid: id does not match"
    ∷ ascii "error: bad table"
    ∷ ascii "error: no room"
    ∷ []

unfoldable pub reason_of : ℕ → Bytes
reason_of r = get_or reasons r []

-- 02, Wish 9: "The reply text gains ` at ` and the decimal offset"
abbrev pub offset_text : Option ℕ → Bytes
offset_text None = []
offset_text (Some p) = ascii " at " ++ digits p

abbrev pub refusal_reason : Refusal → Bytes
refusal_reason r = reason_of r.row ++ offset_text r.offset
