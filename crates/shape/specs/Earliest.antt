-- 02, Wish 9, over the tree: "Refusals by rows 6 and 7 also carry the byte offset, in the message, from 0, of the
-- earliest number (row 6) or string's opening quote (row 7) that breaks that row". Proved in proofs/Earliest.antt.
use Rattle.std.specs.Prelude.{ℕ, ◌≤◌, ◌<◌, ◌≡◌, cond, ◌↔◌, ◌⊎◌, ◌≢◌, eqb, length, Some, None}
use mathlib.Core.List.{List, [], Memᴰ}
use Rattle.json_tree.specs.Grammar.{number_at, string_at}
use Rattle.json_tree.specs.Tree.{Json, Got, none, got, root}
use Rattle.wire.specs.Bytes.{Bytes, Place, Row}
use Rattle.shape.specs.Rows.{message_row}
use Rattle.shape.specs.Offsets.{number_places, hex_places, offset_of}

-- the places of a message that break a row, in the tree
abbrev pub tree_places : (row : Row) (s : Bytes) (t : Json) → List Place
tree_places row s t = cond (eqb row 6) (number_places s t) (cond (eqb row 7) (hex_places s t) [])

abbrev pub root_places : (row : Row) (s : Bytes) (g : Got Json) → List Place
root_places row s none = []
root_places row s (got t n) = tree_places row s t

abbrev pub Breaks : Bytes → Row → Place → Type 0
Breaks s row p = Memᴰ p (root_places row s (root s))

-- p breaks the row, and no earlier place does
pub record IsEarliest (s : List ℕ) (row p : ℕ) : Type 0 where
  pub breaking : Breaks s row p
  pub none_earlier : (q : ℕ) → Breaks s row q → p ≤ q

-- a refusal carries an offset exactly where this is so, of the row that it gives
abbrev pub OffsetEarliest : Type 0
OffsetEarliest = (s : List ℕ) (p : ℕ) → (offset_of s ≡ Some p) ↔ IsEarliest s (message_row s) p

-- "Refusals by rows 6 and 7 also carry .."; other rows carry none
abbrev pub OffsetCarried : Type 0
OffsetCarried = (s : List ℕ) → (message_row s ≡ 6) ⊎ (message_row s ≡ 7) → (p : ℕ) × (offset_of s ≡ Some p)

abbrev pub OtherRows : Type 0
OtherRows = (s : List ℕ) → message_row s ≢ 6 → message_row s ≢ 7 → offset_of s ≡ None

-- what stands there: a number as RFC 8259 has it, so its minus or first digit; a string, so its opening quote
abbrev pub NumberThere : Type 0
NumberThere = (s : List ℕ) (p : ℕ) → message_row s ≡ 6 → offset_of s ≡ Some p → (n : ℕ) × (number_at s p ≡ Some n)

abbrev pub StringThere : Type 0
StringThere = (s : List ℕ) (p : ℕ) → message_row s ≡ 7 → offset_of s ≡ Some p → (n : ℕ) × (string_at s p ≡ Some n)

-- "in the message"
abbrev pub OffsetInside : Type 0
OffsetInside = (s : List ℕ) (p : ℕ) → offset_of s ≡ Some p → p < length s
