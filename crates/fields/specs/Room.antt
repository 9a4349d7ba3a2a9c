-- A room for a table and lent bytes beside it, and what a line does with them, by its first letter.
use Rattle.std.specs.Prelude.{cond, List, ℕ, ◌+◌, ◌*◌, ◌%◌, eqb, length, get_or, set, replicate}
use Rattle.std.specs.Int.Bits.{bit_xor}
use Rattle.wire.specs.Bytes.{part}
use Rattle.wire.specs.Limits.{most_slots}
use Rattle.wire.specs.Put.{put}
use Rattle.fields.specs.Number.{count_field}

-- the first byte, and 0 where there is none
unfoldable pub first_byte : List ℕ → ℕ
first_byte l = get_or l 0 0

-- as many bytes as a table of the most slots has, and 256 more
abbrev pub room_length : ℕ
room_length = 16 + most_slots * 4208 + 256

-- before the first line: zeros
abbrev pub empty_room : List ℕ
empty_room = replicate room_length 0

-- L len fill: the table has `len` bytes from here on
unfoldable pub length_after : List ℕ → ℕ → ℕ
length_after l n = cond (eqb (first_byte l) 76) (count_field l 1) n

-- B bytes: all that stands behind the letter and the space
unfoldable pub lent_after : List ℕ → List ℕ → List ℕ
lent_after l lent = cond (eqb (first_byte l) 66) (put lent 0 (part l 2 65536)) lent

-- a byte with some of its bits turned over; past the end there is none
unfoldable pub turned_over : List ℕ → ℕ → ℕ → List ℕ
turned_over room at bits = set room at (bit_xor (get_or room at 0) bits)

-- every byte b
abbrev pub filled : List ℕ → ℕ → List ℕ
filled room b = replicate (length room) b

-- L len fill, and X at bits
unfoldable pub room_after : List ℕ → List ℕ → List ℕ
room_after l room =
    cond (eqb (first_byte l) 76) (filled room (count_field l 2 % 256))
    (cond (eqb (first_byte l) 88) (turned_over room (count_field l 1) (count_field l 2 % 256)) room)
