-- The EVENTs of the slots ks, each a line, whatever bytes are lent (`written (events_of b sub ks)` of
-- program/specs/Program): how many bytes they take, and what these leave of a room.
use Rattle.std.specs.Prelude.{cond, List, [], ◌∷◌, ℕ, ◌+◌, ◌-◌, ltb, length, Option, Some, None}
use Rattle.wire.specs.Bytes.{Bytes}
use Rattle.wire.specs.Escape.{escape, json_of}
use Rattle.table.specs.Layout.{slot_at, text_in}

-- if the table is sound and holds the slots: each line is 267 bytes longer than the slot's text and the subscription id
-- escaped, both as they stand in a reply
unfoldable pub lines_size : (b sub : Bytes) (ks : List ℕ) → ℕ
lines_size b sub [] = 0
lines_size b sub (k ∷ ks) =
    length (json_of (text_in (slot_at b k))) + length (json_of (escape sub)) + 267 + lines_size b sub ks

-- what n bytes leave of a room
unfoldable pub left_in : (room n : ℕ) → Option ℕ
left_in room n = cond (ltb room n) None (Some (room - n))
