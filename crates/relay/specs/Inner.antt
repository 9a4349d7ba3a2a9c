-- The program's buffers, and where it stands in a chunk of the input.
use Rattle.std.specs.Prelude.{◌≡◌, List, ℕ, ◌+◌, ◌-◌, ◌*◌, ◌≤◌, min, length}
use Rattle.table.specs.Layout.{capacity_of}
use Rattle.program.specs.Program.{program_slots}
use Rattle.program.specs.Feed.{most_line}
use Rattle.program.specs.Claims.Respond.{enough_for}
use Rattle.relay.specs.declared.Place.{Place}

-- a table of 8 slots, a line buffer that holds what is kept of a line, an output that is never too short
pub record Ready (table line out : List ℕ) : Type 0 where
  pub slots : capacity_of table ≡ program_slots
  pub wide : most_line ≤ length line
  pub enough : enough_for program_slots ≤ length out

pub record Stands (chunk out : List ℕ) (p : Place) : Type 0 where
  pub used : p.at ≤ length chunk
  pub waits : p.w ≤ length out

-- falls with each turn: what is left of the chunk, and whether the output is to be written
abbrev pub waiting_from : List ℕ → Place → ℕ
waiting_from chunk p = 2 * (length chunk - p.at) + min p.w 1
