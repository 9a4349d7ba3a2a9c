-- What the private functions promise each other: a character is small, and a step over the decoded bytes.
use Rattle.std.specs.Prelude.{Bool, true, cond, ◌≡◌, List, [], ◌∷◌, ◌++◌, ℕ, ◌-◌, ◌≤◌, ◌<◌, length, take, drop}
use Rattle.wire.specs.Escape.{esc_one, escape}
use Rattle.spell.specs.declared.Char.{Char}
use Rattle.spell.specs.declared.Step.{Step}
use Rattle.spell.specs.declared.steps.Decoded.{Decoded}
use Rattle.spell.specs.Spell.{short_of, char_of, char_bytes, decode}
use Rattle.wire.specs.Bytes.{Bytes}

-- a character's width and its code are within bounds, and the code of a raw one is a byte
pub record Sized (c : Char) : Type 0 where
  pub some : 1 ≤ c.width
  pub few : c.width ≤ 12
  pub small : c.code ≤ cond c.raw 0xff 0x10ffff

-- c begins the spelling l
pub record Begins (l : List ℕ) (c : Char) : Type 0 where
  pub is : c ≡ char_of l
  pub sized : Sized c

-- what is left of the decoded bytes after k bytes of the character that begins at i
unfoldable pub left_of : (p : Bytes) (i k : ℕ) → Bytes
left_of p i k = drop k (decode (drop i p))

-- k bytes are fewer than the character at i has
pub record Within (p : List ℕ) (i k : ℕ) : Type 0 where
  pub below : k < length (char_bytes (char_of (drop i p)))

-- from i and k on the next byte is r's, and what is left after it begins at r's place
pub record Stepped (p : List ℕ) (i k : ℕ) (r : Step) : Type 0 where
  pub left : left_of p i k ≡ r.byte ∷ left_of p r.at r.taken
  pub within : Within p r.at r.taken

-- what an iterator over the decoded bytes has left, and that it stands within a character or before one
unfoldable pub bytes_left : Decoded → Bytes
bytes_left d = left_of d.text.now d.at d.taken

abbrev pub Stands : Decoded → Type 0
Stands d = Within d.text.now d.at d.taken

-- where r is true, a backslash and y are escaped to themselves
pub record Stays (y : ℕ) (r : Bool) : Type 0 where
  pub other : r ≡ true → y ≡ 0x75 → ⊥
  pub some : r ≡ true → 0 < y
  pub pair : r ≡ true → esc_one (short_of y) ≡ 0x5c ∷ y ∷ []

-- the bytes of p from i to n are escaped to themselves, whatever k of the first character are taken
pub record Same (p : List ℕ) (i n : ℕ) : Type 0 where
  pub from : i ≤ n
  pub inside : n ≤ length p
  pub is : (k : ℕ) → Within p i k → escape (left_of p i k) ≡ take (n - i) (drop i p) ++ escape (left_of p n k)
  pub within : (k : ℕ) → Within p i k → Within p n k
