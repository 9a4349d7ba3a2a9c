-- 01, "The text that is hashed": a digest that is fed piece by piece and finished. What each call answers, for any
-- state that it can be given.
use Rattle.std.specs.Prelude.{ℕ, zero, suc, ◌+◌, ◌-◌, ◌%◌, ◌^◌, Bool, true, false, List, [], ◌∷◌, ◌++◌, length, take, replicate, nat_le, slice_index}
use Rattle.digest.specs.declared.Answer.{Answer}
use Rattle.digest.specs.declared.Answer.TheVariants.{Done, TooLong}
use Rattle.digest.specs.declared.Sha256.{Sha256}
use Rattle.digest.specs.declared.Updated.{Updated}
use Rattle.digest.specs.declared.Finished.{Finished}
use Rattle.digest.specs.declared.Digest.{Digest}
use Rattle.digest.specs.Block.{H0}
use Rattle.digest.specs.Digest.{padding, hashed, rest, digest_bytes, digest}

-- 01's number for each answer
abbrev pub answer_number : Answer → ℕ
answer_number Done = 0
answer_number TooLong = 8

-- the most bytes that a digest takes: a length in bits is below 2 ^ 64
abbrev pub most : ℕ
most = 2 ^ 61 - 1

abbrev pub pick : {A : Type 0} (q : Bool) (a b : A) → A
pick true a b = a
pick false a b = b

-- "A count over 2^61 - 1 bytes, fed or finished, is refused by row 8": 01's number for n bytes in all
abbrev pub count_row : ℕ → ℕ
count_row n = pick (nat_le n most) 0 8

-- the first n bytes of l, with zeros past its end
unfoldable pub first_bytes : List ℕ → ℕ → List ℕ
first_bytes l zero = []
first_bytes l (suc n) = first_bytes l n ++ (slice_index l n ∷ [])

-- the bytes of a state that wait for their block to be full
unfoldable pub waiting : Sha256 → List ℕ
waiting s = take (s.total % 64) s.block

-- a state with the hash value h that l was fed to, n bytes in all: the whole blocks of l are hashed, the rest waits,
-- zeros behind it
unfoldable pub state_after : (h l : List ℕ) (n : ℕ) → Sha256
state_after h l n = record { words = hashed h l; block = first_bytes (rest l) 64; total = n }

-- the state of nothing fed, and of the bytes l fed
abbrev pub state_of : List ℕ → Sha256
state_of l = state_after H0 l (length l)

-- update: the bytes d are taken in; or they are too many, and the state is the one given
unfoldable pub updated : Sha256 → List ℕ → Updated
updated s d =
    pick (nat_le (s.total + length d) most)
    (record { answer = Done; state = state_after s.words (waiting s ++ d) (s.total + length d) })
    (record { answer = TooLong; state = s })

-- finish: the padding is hashed behind the bytes that wait; or the state counts too many. The state is the one given
unfoldable pub finished : Sha256 → Finished
finished s =
    pick (nat_le s.total most)
    (record { answer = Done; state = s; bytes = digest_bytes (hashed s.words (waiting s ++ padding s.total)) 32 })
    (record { answer = TooLong; state = s; bytes = replicate 32 0 })

-- the digest of a whole list of bytes; or it is too long
unfoldable pub digested : List ℕ → Digest
digested l =
    pick (nat_le (length l) most) (record { answer = Done; bytes = digest l })
    (record { answer = TooLong; bytes = replicate 32 0 })
