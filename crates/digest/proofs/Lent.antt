-- A piece more to a state that is lent as bytes: a law for each way out.
use Rattle.std.proofs.Common.{◌≡◌, ℕ, ◌+◌, ◌%◌, ◌<◌, ◌≤◌, List, ◌++◌, length, take, drop, refl, ◌∙◌, le-leb}
use borrow.Author.Tests.{lt-leb}
use Rattle.digest.specs.declared.Sha256.{Sha256}
use Rattle.digest.specs.Block.{words}
use Rattle.digest.specs.Digest.{hashed, rest}
use Rattle.digest.specs.State.{most, count_row, first_bytes, waiting, state_after}
use Rattle.digest.specs.Claims.{update_done}
use Rattle.digest.specs.Bytes.{state_bytes, total_in, state_in, state_lent, update_row, update_out}
use Rattle.digest.proofs.StateBytes.{whole}

module _ (st d : List ℕ) where
  pub lent_short : length st < 104 → (13 ≡ update_row st d) × (st ≡ update_out st d)
  unfolding update_row update_out
  lent_short h = rw (lt-leb 104 (length st) h) (refl, refl)

  -- t is the count in the first 104 bytes, and w and b are the hash value and the block in them
  module _ {t : ℕ} (long : 104 ≤ length st) (et : t ≡ total_in (take 104 st)) where
    pub lent_refused : most < t + length d → (8 ≡ update_row st d) × (st ≡ update_out st d)
    unfolding update_row update_out state_lent state_in
    lent_refused h = rw (le-leb 104 (length st) long, ← et, lt-leb (t + length d) most h) (refl, refl)

    -- the row does not hold the state to anything but its count
    counted : update_row st d ≡ count_row (t + length d)
    unfolding update_row state_lent state_in
    counted = rw (le-leb 104 (length st) long, ← et)

    pub lent_row_lem : t + length d ≤ most → 0 ≡ update_row st d
    lent_row_lem h = rw (counted, le-leb (t + length d) most h)

    module _ {w b : List ℕ} (ew : w ≡ words (take 104 st) 8) (eb : b ≡ first_bytes (drop 32 (take 104 st)) 64) where
      read : state_lent st ≡ record { words = w; block = b; total = t }
      unfolding state_lent state_in
      read = rw (ew, eb, et)

      pub lent_out_lem : {x y o : List ℕ} → t + length d ≤ most → x ≡ hashed w (take (t % 64) b ++ d)
          → y ≡ first_bytes (rest (take (t % 64) b ++ d)) 64 → o ≡ whole x y (t + length d) ++ drop 104 st → o ≡ update_out st d
      unfolding update_out waiting state_after state_bytes
      lent_out_lem h ex ey eo =
          let s : Sha256 = record { words = w; block = b; total = t } in
          rw (← lent_row_lem h, read, update_done s d h) (eo ∙ rw (ex, ey))
