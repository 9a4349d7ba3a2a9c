-- FIPS 180-4, sections 5.1.1, 5.2.1 and 6.2.2: the padding, the blocks one after the other, and the digest of a list of
-- bytes.
use Rattle.std.specs.Prelude.{ℕ, zero, suc, ◌-◌, ◌*◌, ◌/◌, ◌%◌, ◌^◌, List, [], ◌∷◌, ◌++◌, length, take, drop, replicate}
use Rattle.digest.specs.Block.{compress, H0, at}

-- section 5.1.1: how many zero bytes follow the byte 0x80. The smallest k at which n + 1 + k is 56 modulo 64
abbrev pub zeros : ℕ → ℕ
zeros n = (119 - n % 64) % 64

-- byte i of a number's eight, the most significant first
abbrev pub byte_of : ℕ → ℕ → ℕ
byte_of x i = x / 2 ^ (8 * (7 - i)) % 256

-- the first i of those bytes
unfoldable pub big_endian : ℕ → ℕ → List ℕ
big_endian x zero = []
big_endian x (suc i) = big_endian x i ++ (byte_of x i ∷ [])

-- section 5.1.1: what is appended to a message of n bytes: the bit 1, zeros, and the length in bits
unfoldable pub padding : ℕ → List ℕ
padding n = ((0x80 ∷ []) ++ replicate (zeros n) 0) ++ big_endian (n * 8) 8

unfoldable pub padded : List ℕ → List ℕ
padded l = l ++ padding (length l)

-- section 6.2.2: the hash value H(n), after the first n blocks of l, from h
unfoldable pub hash_after : (h l : List ℕ) (n : ℕ) → List ℕ
hash_after h l zero = h
hash_after h l (suc n) = compress (hash_after h l n) (take 64 (drop (64 * n) l))

-- section 5.2.1: how many whole blocks l has, the hash value after them, and the bytes behind them
abbrev pub blocks : List ℕ → ℕ
blocks l = length l / 64

abbrev pub hashed : List ℕ → List ℕ → List ℕ
hashed h l = hash_after h l (blocks l)

abbrev pub rest : List ℕ → List ℕ
rest l = drop (64 * blocks l) l

-- byte i of a hash value's 32: the words' bytes, the most significant first
abbrev pub digest_byte : List ℕ → ℕ → ℕ
digest_byte h i = at h (i / 4) / 2 ^ (8 * (3 - i % 4)) % 256

-- the first i of those bytes
unfoldable pub digest_bytes : List ℕ → ℕ → List ℕ
digest_bytes h zero = []
digest_bytes h (suc i) = digest_bytes h i ++ (digest_byte h i ∷ [])

-- the digest of a list of bytes
unfoldable pub digest : List ℕ → List ℕ
digest l = digest_bytes (hashed H0 (padded l)) 32
