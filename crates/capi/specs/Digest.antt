-- Digests for Rust and C: whole, and by pieces over a state that is lent as bytes (digest/specs/Bytes). Its first 104
-- bytes count, and its rest stays. A row of fewer bytes is no state, and is refused by 13 before all else.
use Rattle.std.specs.Prelude.{[], cond, leb, length}
use Rattle.digest.specs.State.{count_row, state_of, finished, digested}
use Rattle.digest.specs.Bytes.{state_size, state_bytes, state_lent}
use Rattle.capi.specs.Calls.{lent_row, lent_out}
use Rattle.wire.specs.Bytes.{Bytes, Row}

-- ---- whole: row 8, then 13
abbrev pub digest_row : Bytes → Bytes → Row
digest_row l out = lent_row (count_row (length l)) 32 out

abbrev pub digest_out : Bytes → Bytes → Bytes
digest_out l out = lent_out (count_row (length l)) 32 (digested l).bytes out

-- ---- by pieces: "A digest can be fed piece by piece and finished". A piece more is digest/specs/Bytes, `update_row` and
-- `update_out`
abbrev pub start_row : Bytes → Row
start_row st = lent_row 0 state_size st

abbrev pub start_out : Bytes → Bytes
start_out st = lent_out 0 state_size (state_bytes (state_of [])) st

-- the digest of all that was fed: row 8, then 13 of the output
unfoldable pub end_row : Bytes → Bytes → Row
end_row st out = cond (leb state_size (length st)) (lent_row (count_row (state_lent st).total) 32 out) 13

unfoldable pub end_out : Bytes → Bytes → Bytes
end_out st out =
    cond (leb state_size (length st)) (lent_out (count_row (state_lent st).total) 32 (finished (state_lent st)).bytes out)
    out
