-- What the end of the input gives, outputs that are never too short, and what a run of calls writes, however the input
-- is cut. Proved in proofs/Run and Room, each under its own name in small letters.
use Rattle.std.specs.Prelude.{◌≡◌, ◌↔◌, ◌≢◌, List, [], ◌++◌, ℕ, ◌≤◌, ◌<◌, length, take, Ok}
use Rattle.table.specs.Layout.{capacity_of}
use Rattle.program.specs.declared.Fed.{Fed}
use Rattle.reply.specs.Claims.{WritesOr}
use Rattle.program.specs.Program.{fresh_table, output}
use Rattle.program.specs.Feed.{most_line, feed_state, turn_row, turned, turn_table, turn_line, turn_out}
use Rattle.program.specs.Claims.Respond.{enough_for}
use Rattle.feed.specs.Turn.{looked_at}
use Rattle.feed.specs.Finish.{finish_text, finish_row, feed_finished, finish_out, finish_table, last_table}

-- ---- the end of the input
-- row 13, "lent output .. too short", and no other
abbrev pub FinishRowIs : Type 0
FinishRowIs = (b line : List ℕ) (n : ℕ) (out : List ℕ) →
    (finish_row b line n out ≢ 0) ↔ ((finish_row b line n out ≡ 13) × (length out < length (finish_text b line n)))

-- "every lent buffer stays as found": neither output nor table changes where the output is too short
abbrev pub FinishedMeans : Type 0
FinishedMeans = (b line : List ℕ) (n : ℕ) (out : List ℕ) →
    WritesOr (finish_row b line n out) (finish_text b line n) out (feed_finished b line n out) (finish_out b line n out)
    × (finish_row b line n out ≡ 0 → finish_table b line n out ≡ last_table b (feed_state b line n).line)
    × (finish_row b line n out ≢ 0 → finish_table b line n out ≡ b)

-- ---- an output that is never too short, over a table of so many slots (program/specs/Claims/Respond, `enough_for`):
-- with it, and with a line buffer that holds what is kept of a line, no call is refused
abbrev pub TurnFits : Type 0
TurnFits =
    (b line : List ℕ) (n : ℕ) (piece out : List ℕ) → most_line ≤ length line → enough_for (capacity_of b) ≤ length out →
    turn_row b line n piece out ≡ 0

abbrev pub FinishFits : Type 0
FinishFits =
    (b line : List ℕ) (n : ℕ) (out : List ℕ) → enough_for (capacity_of b) ≤ length out → finish_row b line n out ≡ 0

-- the next call finds as many slots
abbrev pub SlotsStay : Type 0
SlotsStay = (b line : List ℕ) (n : ℕ) (piece out : List ℕ) → capacity_of (turn_table b line n piece out) ≡ capacity_of b

-- ---- a run of calls of `turn`, from a table, a line buffer and a count: the input that was used up and what was
-- written, and the table, the line buffer and the count that the next call goes on with. Any piece may come, of which
-- the call looks at a part (`looked_at`), and any output; a call that is refused changes nothing and is left out
pub data Turns (b line : List ℕ) (n : ℕ) : (input said b' line' : List ℕ) → ℕ → Type 0 where
  none : Turns b line n [] [] b line n
  more : {input said b' line' : List ℕ} {n' : ℕ} → Turns b line n input said b' line' n'
      → (piece out : List ℕ) {u k w : ℕ} → turned b' line' n' (looked_at n' piece) out ≡ Ok (record { used = u; kept = k; written = w })
      → Turns b line n (input ++ take u piece) (said ++ take w (turn_out b' line' n' (looked_at n' piece) out))
      (turn_table b' line' n' (looked_at n' piece) out) (turn_line b' line' n' (looked_at n' piece) out) k

-- a call uses some of every piece that has bytes, so a caller that goes on with the rest comes to its end
abbrev pub UsesSome : Type 0
UsesSome = (b line : List ℕ) (n : ℕ) (piece out : List ℕ) (u k w : ℕ) → 1 ≤ length piece →
    turned b line n (looked_at n piece) out ≡ Ok (record { used = u; kept = k; written = w }) → (1 ≤ u) × (u ≤ length piece)

-- a run from a fresh table and no line so far, and then the end of the input, write what the program prints: "One
-- program reads messages from standard input, one a line, over a fresh table of 8 slots"
abbrev pub WritesOutput : Type 0
WritesOutput = (line input said b line' : List ℕ) (n : ℕ) → Turns fresh_table line 0 input said b line' n
    → (out : List ℕ) (w : ℕ) → feed_finished b line' n out ≡ Ok w
    → said ++ take w (finish_out b line' n out) ≡ output input
