-- 01, "Numbers the relay answers with", of an event given as parts p over the buffer b: what serialising, identifying
-- and offering it answer.
use Rattle.std.specs.Prelude.{ℕ, ◌/◌, ◌%◌, Bool, cond, [], ◌∷◌, eqb, ltb, length, replicate, Result, Ok, Err}
use Rattle.wire.specs.Limits.{most_text}
use Rattle.wire.specs.Bytes.{Bytes, Row, same_bytes, hex_digit}
pub use Rattle.wire.specs.Put.{short_row, output_after}
use Rattle.digest.specs.Digest.{digest}
use Rattle.message.specs.declared.Body.{Body}
use Rattle.message.specs.declared.EventParts.{EventParts}
use Rattle.message.specs.Lent.{body_row, event_row}
use Rattle.event.specs.Lent.{said, text_of}
use Rattle.event.specs.declared.Identified.{Identified}

-- row 9: "serialised text over 4,096 bytes"
unfoldable pub is_large : Bytes → Body → Bool
is_large b p = ltb most_text (length (text_of b p))

-- a row, or else the next
abbrev pub or_else : ℕ → ℕ → ℕ
or_else r s = cond (eqb r 0) s r

-- ---- serialising: rows 2 and 4 to 9; then 13, "lent output too short"
unfoldable pub body_text_row : Bytes → Body → Row
body_text_row b p = or_else (body_row b p) (cond (is_large b p) 9 0)

unfoldable pub serialised_row : (b : Bytes) (p : Body) (out : Bytes) → Row
serialised_row b p out = or_else (body_text_row b p) (short_row (text_of b p) out)

abbrev pub answered : ℕ → ℕ → Result ℕ ℕ
answered r n = cond (eqb r 0) (Ok n) (Err r)

unfoldable pub serialised : (b : Bytes) (p : Body) (out : Bytes) → Result ℕ ℕ
serialised b p out = answered (serialised_row b p out) (length (text_of b p))

unfoldable pub serialised_out : (b : Bytes) (p : Body) (out : Bytes) → Bytes
serialised_out b p out = output_after (serialised_row b p out) (text_of b p) out

-- the number of 01, and the value
abbrev pub written_number : Result ℕ ℕ → ℕ
written_number (Ok n) = 0
written_number (Err r) = r

abbrev pub written_length : Result ℕ ℕ → ℕ
written_length (Ok n) = n
written_length (Err r) = 0

-- ---- the id: SHA-256 of the text; zeros on a refusal
abbrev pub identified_by : ℕ → Bytes → Identified
identified_by r t = record { row = r; id = cond (eqb r 0) (digest t) (replicate 32 0) }

-- by the text alone: row 9, or none
unfoldable pub hashed_of : Bytes → Identified
hashed_of t = identified_by (cond (ltb most_text (length t)) 9 0) t

unfoldable pub identified : Bytes → Body → Identified
identified b p = identified_by (body_text_row b p) (text_of b p)

-- ---- offering: row 10, "id is not the SHA-256 of the text"; the id is its hex, in lower case
unfoldable pub hex_of : Bytes → Bytes
hex_of [] = []
hex_of (x ∷ l) = hex_digit (x / 16) ∷ hex_digit (x % 16) ∷ hex_of l

unfoldable pub has_id : Bytes → EventParts → Bool
has_id b p = same_bytes (said b p.id) (hex_of (digest (text_of b p.body)))

-- rows 2 and 4 to 8 of all parts, then 9, then 10
unfoldable pub offered_row : Bytes → EventParts → Row
offered_row b p = or_else (event_row b p) (cond (is_large b p.body) 9 (cond (has_id b p) 0 10))

-- the text of what is offered, into an output: then 13
unfoldable pub offered_text_row : (b : Bytes) (p : EventParts) (out : Bytes) → Row
offered_text_row b p out = or_else (offered_row b p) (short_row (text_of b p.body) out)

unfoldable pub offered : (b : Bytes) (p : EventParts) (out : Bytes) → Result ℕ ℕ
offered b p out = answered (offered_text_row b p out) (length (text_of b p.body))

unfoldable pub offered_out : (b : Bytes) (p : EventParts) (out : Bytes) → Bytes
offered_out b p out = output_after (offered_text_row b p out) (text_of b p.body) out
