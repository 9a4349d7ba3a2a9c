-- Worked replies, by computation: the bytes of each kind of reply, and of every reason.
use Rattle.std.specs.Prelude.{◌≡◌, refl, true, false, [], ◌∷◌, ◌++◌, map, ℕ, negsuc, Some, None}
use Rattle.wire.specs.Ascii.{ascii}
use Rattle.wire.specs.Escape.{letter_of, esc_one, escape, json_one, json_of}
use Rattle.numeral.specs.Decimal.{digits_in, digits, decimal}
use Rattle.shape.specs.declared.Refusal.{Refusal}
use Rattle.text.specs.Event.{Event, quoted, members_text, tag_text, tags_text}
use Rattle.reply.specs.Replies.{ok, event, eose, closed, notice, string_json, tags_json, object_text}
use Rattle.reply.specs.Replies.{reply_text, reason_of, refusal_reason}

-- ids, keys and signatures are shortened here
abbrev small : Event
small =
    record {
      pubkey = ascii "aa";
      time = negsuc 7199;
      kind = 1;
      tags = (ascii "d" ∷ ascii "t\n1" ∷ []) ∷ [];
      content =
          ascii "a\"b";
    }

pub texts :
    (reply_text (ok (ascii "0f") true []) ≡ ascii "[\"OK\",\"0f\",true,\"\"]")
    × (reply_text (ok (ascii "0f") false (reason_of 12)) ≡ ascii "[\"OK\",\"0f\",false,\"error: no room\"]")
    × (reply_text (event (ascii "s") (ascii "0f") small (ascii "9e"))
    ≡ ascii "[\"EVENT\",\"s\",{\"id\":\"0f\",\"pubkey\":\"aa\",\"created_at\":-7200,\"kind\":1,\"tags\":[[\"d\",\"t\\n1\"]],\"content\":\"a\\\"b\",\"sig\":\"9e\"}]")
    × (reply_text (eose (ascii "a/\"")) ≡ ascii "[\"EOSE\",\"a/\\\"\"]")
    × (reply_text (closed (ascii "s") (reason_of 8)) ≡ ascii "[\"CLOSED\",\"s\",\"invalid: count or length\"]")
    × (reply_text (notice (reason_of 2)) ≡ ascii "[\"NOTICE\",\"invalid: not UTF-8\"]")
    -- "0A, 22, 5C, 0D, 09, 08, 0C become .."
    × (reply_text (notice (0x0a ∷ 0x22 ∷ 0x5c ∷ 0x0d ∷ 0x09 ∷ 0x08 ∷ 0x0c ∷ [])) ≡ ascii
    "[\"NOTICE\",\"\\n\\\"\\\\\\r\\t\\b\\f\"]")
    -- 02, Wish 3: all 32 characters below U+0020, and 7F, which stays
    × (reply_text (notice (0x00 ∷ 0x01 ∷ 0x02 ∷ 0x03 ∷ 0x04 ∷ 0x05 ∷ 0x06 ∷ 0x07 ∷ 0x08 ∷ 0x09 ∷ 0x0a ∷ 0x0b ∷ 0x0c ∷ 0x0d ∷
    0x0e ∷ 0x0f ∷ []))
    ≡ ascii
    "[\"NOTICE\",\"\\u0000\\u0001\\u0002\\u0003\\u0004\\u0005\\u0006\\u0007\\b\\t\\n\\u000b\\f\\r\\u000e\\u000f\"]")
    × (reply_text (notice (0x10 ∷ 0x11 ∷ 0x12 ∷ 0x13 ∷ 0x14 ∷ 0x15 ∷ 0x16 ∷ 0x17 ∷ 0x18 ∷ 0x19 ∷ 0x1a ∷ 0x1b ∷ 0x1c ∷ 0x1d ∷
    0x1e ∷ 0x1f ∷ []))
    ≡ ascii
    "[\"NOTICE\",\"\\u0010\\u0011\\u0012\\u0013\\u0014\\u0015\\u0016\\u0017\\u0018\\u0019\\u001a\\u001b\\u001c\\u001d\\u001e\\u001f\"]")
    × (reply_text (eose (0x7f ∷ [])) ≡ ascii "[\"EOSE\",\"" ++ (0x7f ∷ ascii "\"]"))
unfolding reply_text object_text string_json tags_json json_of json_one reason_of quoted members_text tag_text tags_text letter_of esc_one escape digits_in digits
    decimal
texts = (refl, refl, refl, refl, refl, refl, refl, refl, refl, refl)

-- 01, "Numbers the relay answers with", the column "Reply text": rows 1 to 12, and none past them
pub reason_texts :
    map (λ r. reply_text (notice (reason_of r))) (1 ∷ 2 ∷ 3 ∷ 4 ∷ 5 ∷ 6 ∷ 7 ∷ 8 ∷ 9 ∷ 10 ∷ 11 ∷ 12 ∷ 13 ∷ [])
    ≡ ascii "[\"NOTICE\",\"invalid: message too long\"]"
    ∷ ascii "[\"NOTICE\",\"invalid: not UTF-8\"]"
    ∷ ascii "[\"NOTICE\",\"invalid: not JSON\"]"
    ∷ ascii "[\"NOTICE\",\"invalid: string not allowed\"]"
    ∷ ascii "[\"NOTICE\",\"invalid: wrong shape\"]"
    ∷ ascii "[\"NOTICE\",\"invalid: number\"]"
    ∷ ascii "[\"NOTICE\",\"invalid: hex\"]"
    ∷ ascii "[\"NOTICE\",\"invalid: count or length\"]"
    ∷ ascii "[\"NOTICE\",\"invalid: event too large\"]"
    ∷ ascii "[\"NOTICE\",\"invalid: id does not match\"]"
    ∷ ascii "[\"NOTICE\",\"error: bad table\"]"
    ∷ ascii "[\"NOTICE\",\"error: no room\"]"
    ∷ ascii "[\"NOTICE\",\"\"]"
    ∷ []
unfolding reply_text string_json json_of json_one reason_of quoted letter_of esc_one escape
reason_texts = refl

-- 02, Wish 9: `invalid: number at 57`; the first byte of a message, and the last of the longest; no offset
abbrev by_number : ℕ → Refusal
by_number p = record { row = 6; offset = Some p }

abbrev by_hex : ℕ → Refusal
by_hex p = record { row = 7; offset = Some p }

pub offset_texts :
    (reply_text (ok (ascii "0f") false (refusal_reason (by_number 57)))
    ≡ ascii "[\"OK\",\"0f\",false,\"invalid: number at 57\"]")
    × (reply_text (ok (ascii "0f") false (refusal_reason (by_hex 12))) ≡ ascii "[\"OK\",\"0f\",false,\"invalid: hex at 12\"]")
    × (reply_text (closed (ascii "s") (refusal_reason (by_number 16383)))
    ≡ ascii "[\"CLOSED\",\"s\",\"invalid: number at 16383\"]")
    × (reply_text (closed (ascii "s") (refusal_reason (by_hex 12))) ≡ ascii "[\"CLOSED\",\"s\",\"invalid: hex at 12\"]")
    × (reply_text (notice (refusal_reason (by_number 0))) ≡ ascii "[\"NOTICE\",\"invalid: number at 0\"]")
    × (reply_text (notice (refusal_reason (by_hex 12))) ≡ ascii "[\"NOTICE\",\"invalid: hex at 12\"]")
    × (reply_text (notice (refusal_reason (record { row = 8; offset = None })))
    ≡ ascii "[\"NOTICE\",\"invalid: count or length\"]")
unfolding reply_text string_json json_of json_one reason_of quoted letter_of esc_one escape digits_in digits
offset_texts = (refl, refl, refl, refl, refl, refl, refl)
