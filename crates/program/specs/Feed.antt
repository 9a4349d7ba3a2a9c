-- The program as a state that bytes are fed to, and one turn of feeding over lent buffers. 01: "One program reads
-- messages from standard input, one a line, over a fresh table of 8 slots. 0A ends a line and is no part of the
-- message; a last line without it counts if not empty; an overlong line gives one reply."
use Rattle.std.specs.Prelude.{Bool, cond, List, [], ◌∷◌, ◌++◌, ℕ, suc, ◌-◌, min, eqb, ltb, length, take, Result, Ok, Err}
use Rattle.wire.specs.Limits.{most_message}
use Rattle.wire.specs.Put.{put}
use Rattle.reply.specs.Lent.{short_row, output_after}
use Rattle.program.specs.Program.{table_after, fresh_table}
use Rattle.program.specs.Respond.{response}
use Rattle.program.specs.declared.Fed.{Fed}
use Rattle.wire.specs.Bytes.{Bytes, Row}

pub record State : Type 0 where
  pub table : List ℕ
  -- what is kept of the line that is being read
  pub line : List ℕ

abbrev pub start : State
start = record { table = fresh_table; line = [] }

-- a byte more than a message may have tells that the line is too long
abbrev pub most_line : ℕ
most_line = suc most_message

abbrev pub kept : Bytes → Bytes
kept l = take most_line l

abbrev pub is_end : ℕ → Bool
is_end x = eqb x 0x0a

-- ---- one byte of the input: the state afterwards, and what is said
unfoldable pub after_byte : State → ℕ → State
after_byte s x =
    cond (is_end x) (record { table = table_after s.table s.line; line = [] })
    (record { table = s.table; line = kept (s.line ++ (x ∷ [])) })

unfoldable pub said_at : State → ℕ → Bytes
said_at s x = cond (is_end x) (response s.table s.line) []

-- some bytes
unfoldable pub after_bytes : State → Bytes → State
after_bytes s [] = s
after_bytes s (x ∷ l) = after_bytes (after_byte s x) l

unfoldable pub said_by : State → Bytes → Bytes
said_by s [] = []
said_by s (x ∷ l) = said_at s x ++ said_by (after_byte s x) l

-- the end of the input: "a last line without it counts if not empty"
abbrev pub last_line : Bytes → Bytes → Bytes
last_line b [] = []
last_line b (x ∷ l) = response b (x ∷ l)

unfoldable pub said_last : State → Bytes
said_last s = last_line s.table s.line

-- ---- one turn: a piece of the input is fed up to its first line's end, and with it. The first n bytes of the lent
-- line buffer are the line so far
abbrev pub feed_state : (b line : Bytes) (n : ℕ) → State
feed_state b line n = record { table = b; line = take n (kept line) }

-- the bytes before the piece's first line's end, and how many are used up
unfoldable pub before : Bytes → Bytes
before [] = []
before (x ∷ l) = cond (is_end x) [] (x ∷ before l)

unfoldable pub used_of : Bytes → ℕ
used_of [] = 0
used_of (x ∷ l) = cond (is_end x) 1 (suc (used_of l))

unfoldable pub turn_text : (b line : Bytes) (n : ℕ) (piece : Bytes) → Bytes
turn_text b line n piece = said_by (feed_state b line n) (take (used_of piece) piece)

unfoldable pub turn_state : (b line : Bytes) (n : ℕ) (piece : Bytes) → State
turn_state b line n piece = after_bytes (feed_state b line n) (take (used_of piece) piece)

-- row 13: a line buffer that does not hold what is kept of a line, or an output too short
unfoldable pub turn_row : (b line : Bytes) (n : ℕ) (piece out : Bytes) → Row
turn_row b line n piece out = cond (ltb (length line) most_line) 13 (short_row (turn_text b line n piece) out)

-- how many bytes of the piece are used up, how many the line has then, how many are written
unfoldable pub turned : (b line : Bytes) (n : ℕ) (piece out : Bytes) → Result Fed ℕ
turned b line n piece out =
    cond (eqb (turn_row b line n piece out) 0)
    (Ok (record { used = used_of piece; kept = length (turn_state b line n piece).line; written = length (turn_text b line n piece) }))
    (Err (turn_row b line n piece out))

unfoldable pub turn_table : (b line : Bytes) (n : ℕ) (piece out : Bytes) → Bytes
turn_table b line n piece out = cond (eqb (turn_row b line n piece out) 0) (turn_state b line n piece).table b

-- what is kept of the piece stands behind the line so far, and the buffer's rest stays
unfoldable pub turn_line : (b line : Bytes) (n : ℕ) (piece out : Bytes) → Bytes
turn_line b line n piece out =
    cond (eqb (turn_row b line n piece out) 0)
    (put line (min n most_line) (take (most_line - min n most_line) (before piece))) line

unfoldable pub turn_out : (b line : Bytes) (n : ℕ) (piece out : Bytes) → Bytes
turn_out b line n piece out = output_after (turn_row b line n piece out) (turn_text b line n piece) out

-- the number of 01, and the values
abbrev pub turned_number : Result Fed ℕ → ℕ
turned_number (Ok f) = 0
turned_number (Err r) = r

abbrev pub turned_used : Result Fed ℕ → ℕ
turned_used (Ok f) = f.used
turned_used (Err r) = 0

abbrev pub turned_line : Result Fed ℕ → ℕ
turned_line (Ok f) = f.kept
turned_line (Err r) = 0

abbrev pub turned_bytes : Result Fed ℕ → ℕ
turned_bytes (Ok f) = f.written
turned_bytes (Err r) = 0
