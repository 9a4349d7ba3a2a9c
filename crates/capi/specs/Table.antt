-- Calls on a table for Rust and C: what they answer as numbers.
use Rattle.std.specs.Prelude.{ℕ, cond, Result, Ok, Err}
use Rattle.table.specs.Sound.{sound}
use Rattle.shape.specs.declared.Refusal.{Refusal}
use Rattle.table.specs.declared.Offered.{Offered}
use Rattle.table.specs.declared.Offered.TheVariants as offered
use Rattle.wire.specs.Bytes.{Bytes, Row}
use Rattle.capi.specs.Calls.{offset_or}

-- 11, "table not sound", or 0
unfoldable pub sound_row : Bytes → Row
sound_row b = cond (sound b) 0 11

-- the row that refuses an offer, and for the verdicts numbers that no row has; 0 says that it was stored
abbrev pub offered_number : Result Offered Refusal → ℕ
offered_number (Ok offered.Stored) = 0
offered_number (Ok offered.Ephemeral) = 100
offered_number (Ok offered.Duplicate) = 101
offered_number (Ok offered.Older) = 102
offered_number (Err r) = r.row

-- where an offer's refusal carries an offset, that goes to a lent number, which stays elsewhere
abbrev pub offered_offset : Result Offered Refusal → ℕ → ℕ
offered_offset (Ok offered.Stored) k = k
offered_offset (Ok offered.Ephemeral) k = k
offered_offset (Ok offered.Duplicate) k = k
offered_offset (Ok offered.Older) k = k
offered_offset (Err r) k = offset_or r k

-- where a shown text stands and how long it is; on a refusal the lent numbers stay
abbrev pub shown_place : Result (ℕ × ℕ) ℕ → ℕ → ℕ
shown_place (Ok (v, n)) m = v
shown_place (Err r) m = m

abbrev pub shown_length : Result (ℕ × ℕ) ℕ → ℕ → ℕ
shown_length (Ok (v, n)) m = n
shown_length (Err r) m = m
