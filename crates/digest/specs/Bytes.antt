-- A state as bytes, for callers that can lend nothing else: the hash value, the block that is being filled and the
-- count of bytes, the most significant byte first. Any 104 bytes are some state.
use Rattle.std.specs.Prelude.{ℕ, ◌+◌, ◌*◌, ◌^◌, cond, List, ◌++◌, length, take, drop, ◌==◌, nat_le}
use Rattle.digest.specs.declared.Sha256.{Sha256}
use Rattle.digest.specs.Block as block
use Rattle.digest.specs.Digest.{big_endian, digest_bytes}
use Rattle.digest.specs.State.{first_bytes, count_row, updated}

-- how many bytes that is
abbrev pub state_size : ℕ
state_size = 104

unfoldable pub state_bytes : Sha256 → List ℕ
state_bytes s = digest_bytes s.words 32 ++ (s.block ++ big_endian s.total 8)

-- the number in the eight bytes from 96 on
abbrev pub total_in : List ℕ → ℕ
total_in l = block.block_word l 96 * 2 ^ 32 + block.block_word l 100

unfoldable pub state_in : List ℕ → Sha256
state_in l = record { words = block.words l 8; block = first_bytes (drop 32 l) 64; total = total_in l }

-- ---- a state that is lent as bytes. Its first 104 count, and its rest stays. A row of fewer bytes is no state, and is
-- refused by 13 before all else
unfoldable pub state_lent : List ℕ → Sha256
state_lent st = state_in (take state_size st)

-- 01, "A count over 2^61 - 1 bytes, fed or finished, is refused by row 8, and the state handed back is the one given"
unfoldable pub update_row : List ℕ → List ℕ → ℕ
update_row st d = cond (nat_le state_size (length st)) (count_row ((state_lent st).total + length d)) 13

unfoldable pub update_out : List ℕ → List ℕ → List ℕ
update_out st d = cond (update_row st d == 0) (state_bytes (updated (state_lent st) d).state ++ drop state_size st) st
