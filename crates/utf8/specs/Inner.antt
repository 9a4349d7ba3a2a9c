-- What the private functions promise each other: ASCII or a character is passed over, and the answer stays.
use Rattle.std.specs.Prelude.{false, ◌≡◌, List, ℕ, ◌≤◌, ◌<◌, length, drop}
use Rattle.utf8.specs.declared.Want.{Want}
use Rattle.utf8.specs.declared.Want.TheVariants.{Lead, Tail, Bad}
use Rattle.utf8.specs.Utf8.{utf8_from}

-- from i to r the bytes of s are whole characters
pub record Past (s : List ℕ) (i r : ℕ) : Type 0 where
  pub from : i ≤ r
  pub within : r ≤ length s
  pub same : utf8_from Lead (drop i s) ≡ utf8_from Lead (drop r s)

-- a character that begins at i and of which w is wanted at j: r is the place after it; or r is i, and the bytes are no
-- UTF-8
pub record Passed (w : Want) (s : List ℕ) (j i r : ℕ) : Type 0 where
  pub from : i ≤ r
  pub within : r ≤ length s
  pub none : r ≡ i → utf8_from w (drop j s) ≡ false
  pub same : i < r → utf8_from w (drop j s) ≡ utf8_from Lead (drop r s)

-- what a first octet wants: 0 will not do, and at most two tails come after the next octet
abbrev pub Small : Want → Type 0
Small Lead = Unit {0}
Small (Tail lo hi more) = (0 < lo) × (more ≤ 2)
Small Bad = Unit {0}
