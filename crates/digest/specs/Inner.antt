-- The sixteen words of the schedule that the code holds at a time. Contracts of its private functions cite these; that
-- they come to the rounds over the whole schedule is proofs/Ring.
use Rattle.std.specs.Prelude.{ℕ, zero, suc, ◌+◌, ◌%◌, List, slice_set}
use Rattle.digest.specs.Words.{plus, σ0, σ1}
use Rattle.digest.specs.Block.{K, at, round}

-- a ring w of sixteen words: the one that comes at place j. The words 2, 7, 15 and 16 before it stand 14, 9, 1 and 0
-- places on
abbrev pub ring_word : List ℕ → ℕ → ℕ
ring_word w j =
    plus (plus (plus (σ1 (at w ((j + 14) % 16))) (at w ((j + 9) % 16))) (σ0 (at w ((j + 1) % 16)))) (at w j)

-- the ring after n words more, each over the oldest, from place 0 on
unfoldable pub ring_after : List ℕ → ℕ → List ℕ
ring_after w zero = w
ring_after w (suc n) = slice_set (ring_after w n) n (ring_word (ring_after w n) n)

-- the working variables after n rounds more, from round t on, each at the word that comes
unfoldable pub rounds_from : (t : ℕ) (w s : List ℕ) (n : ℕ) → List ℕ
rounds_from t w s zero = s
rounds_from t w s (suc n) = round (at K (t + n)) (ring_word (ring_after w n) n) (rounds_from t w s n)
