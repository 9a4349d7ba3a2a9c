-- FIPS 180-4, sections 4.2.2, 5.2.1, 5.3.3 and 6.2.2: the constants, a block's words, the message schedule, the 64
-- rounds. A block is a list of 64 bytes, a hash value a list of eight words.
use Rattle.std.specs.Prelude.{ℕ, zero, suc, ◌+◌, ◌*◌, List, [], ◌∷◌, ◌++◌, slice_index}
use Rattle.digest.specs.Words.{plus, Ch, Maj, Σ0, Σ1, σ0, σ1}

-- the entry at t of a list of bytes or words
abbrev pub at : List ℕ → ℕ → ℕ
at ws t = slice_index ws t

-- section 4.2.2: the constants K_0 to K_63
unfoldable pub K : List ℕ
K =
    0x428a2f98 ∷ 0x71374491 ∷ 0xb5c0fbcf ∷ 0xe9b5dba5 ∷ 0x3956c25b ∷ 0x59f111f1 ∷ 0x923f82a4 ∷ 0xab1c5ed5 ∷
    0xd807aa98 ∷ 0x12835b01 ∷ 0x243185be ∷ 0x550c7dc3 ∷ 0x72be5d74 ∷ 0x80deb1fe ∷ 0x9bdc06a7 ∷ 0xc19bf174 ∷
    0xe49b69c1 ∷ 0xefbe4786 ∷ 0x0fc19dc6 ∷ 0x240ca1cc ∷ 0x2de92c6f ∷ 0x4a7484aa ∷ 0x5cb0a9dc ∷ 0x76f988da ∷
    0x983e5152 ∷ 0xa831c66d ∷ 0xb00327c8 ∷ 0xbf597fc7 ∷ 0xc6e00bf3 ∷ 0xd5a79147 ∷ 0x06ca6351 ∷ 0x14292967 ∷
    0x27b70a85 ∷ 0x2e1b2138 ∷ 0x4d2c6dfc ∷ 0x53380d13 ∷ 0x650a7354 ∷ 0x766a0abb ∷ 0x81c2c92e ∷ 0x92722c85 ∷
    0xa2bfe8a1 ∷ 0xa81a664b ∷ 0xc24b8b70 ∷ 0xc76c51a3 ∷ 0xd192e819 ∷ 0xd6990624 ∷ 0xf40e3585 ∷ 0x106aa070 ∷
    0x19a4c116 ∷ 0x1e376c08 ∷ 0x2748774c ∷ 0x34b0bcb5 ∷ 0x391c0cb3 ∷ 0x4ed8aa4a ∷ 0x5b9cca4f ∷ 0x682e6ff3 ∷
    0x748f82ee ∷ 0x78a5636f ∷ 0x84c87814 ∷ 0x8cc70208 ∷ 0x90befffa ∷ 0xa4506ceb ∷ 0xbef9a3f7 ∷ 0xc67178f2 ∷ []

-- section 5.3.3: the initial hash value H(0)
unfoldable pub H0 : List ℕ
H0 =
    0x6a09e667 ∷ 0xbb67ae85 ∷ 0x3c6ef372 ∷ 0xa54ff53a ∷ 0x510e527f ∷ 0x9b05688c ∷ 0x1f83d9ab ∷ 0x5be0cd19 ∷ []

-- section 3.1: the word in the four bytes from i on, the first byte the most significant
abbrev pub block_word : List ℕ → ℕ → ℕ
block_word b i = at b i * 0x1000000 + at b (i + 1) * 0x10000 + at b (i + 2) * 0x100 + at b (i + 3)

-- section 5.2.1: the first t words of a block
unfoldable pub words : List ℕ → ℕ → List ℕ
words b zero = []
words b (suc t) = words b t ++ (block_word b (4 * t) ∷ [])

-- section 6.2.2, step 1: the word W_t of the schedule at t = k + 16, from the words before it
abbrev pub next_word : List ℕ → ℕ → ℕ
next_word W k = plus (plus (plus (σ1 (at W (k + 14))) (at W (k + 9))) (σ0 (at W (k + 1)))) (at W k)

-- the first k + 16 words of the schedule of a block's words M
unfoldable pub schedule : List ℕ → ℕ → List ℕ
schedule M zero = M
schedule M (suc k) = schedule M k ++ (next_word (schedule M k) k ∷ [])

-- step 3: T1, T2 and a round, at the constant k and the schedule's word w. The working variables a to h are the list s
abbrev pub T1 : (k w : ℕ) (s : List ℕ) → ℕ
T1 k w s = plus (plus (plus (plus (at s 7) (Σ1 (at s 4))) (Ch (at s 4) (at s 5) (at s 6))) k) w

abbrev pub T2 : List ℕ → ℕ
T2 s = plus (Σ0 (at s 0)) (Maj (at s 0) (at s 1) (at s 2))

unfoldable pub round : (k w : ℕ) (s : List ℕ) → List ℕ
round k w s =
    plus (T1 k w s) (T2 s) ∷ at s 0 ∷ at s 1 ∷ at s 2 ∷ plus (at s 3) (T1 k w s) ∷ at s 4 ∷ at s 5 ∷ at s 6 ∷ []

-- the working variables after t rounds from s, over the schedule W
unfoldable pub rounds : (s s' : List ℕ) (t : ℕ) → List ℕ
rounds W s zero = s
rounds W s (suc t) = round (at K t) (at W t) (rounds W s t)

-- step 4: the next hash value
unfoldable pub chained : List ℕ → List ℕ → List ℕ
chained h s =
    plus (at s 0) (at h 0) ∷ plus (at s 1) (at h 1) ∷ plus (at s 2) (at h 2) ∷ plus (at s 3) (at h 3) ∷
    plus (at s 4) (at h 4) ∷ plus (at s 5) (at h 5) ∷ plus (at s 6) (at h 6) ∷ plus (at s 7) (at h 7) ∷ []

-- steps 1 to 4: the hash value after the block b
unfoldable pub compress : List ℕ → List ℕ → List ℕ
compress h b = chained h (rounds (schedule (words b 16) 48) h 64)
