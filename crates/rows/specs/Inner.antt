-- What one walk over a value answers: where the value ends, and whether row 4 refuses some string in it.
use Rattle.std.specs.Prelude.{ℕ, Bool, cond, ◌&&◌, ◌||◌, eqb, Option, Some, None}
use Rattle.json_tree.specs.Grammar.{case, head_at}
use Rattle.json_tree.specs.Tree.{Json, Got, none, got}
use Rattle.spell.specs.Spell.{refuses}
use Rattle.rows.specs.declared.Seen.{Seen}
use Rattle.rows.specs.Strings.{spelled_at, refused_in}
use Rattle.wire.specs.Bytes.{Bytes, Place}

abbrev pub made : ℕ → Bool → Option Seen
made n b = Some (record { end = n; refused = b })

abbrev pub seen_of : Bytes → Got Json → Option Seen
seen_of s none = None
seen_of s (got t n) = made n (refused_in s t)

-- an end, where there is one, and what was refused by then
abbrev pub seen_at : Option ℕ → Bool → Option Seen
seen_at (Some n) b = made n b
seen_at None b = None

-- the same, where something may have been refused before
abbrev pub seen_after : Bool → Option Seen → Option Seen
seen_after b (Some x) = made x.end (b || x.refused)
seen_after b None = None

-- an item up to its value: where the value begins, and whether the item's name is refused
abbrev pub name_seen : (s : Bytes) (at : Place) (named : Bool) → Option Seen
name_seen s at named = case (head_at s at named) (λ v. made v (named && refuses (spelled_at s at))) None

-- rows 3 and 4 of a text of so many bytes, by what its value came to
abbrev pub seen_told : Option Seen → ℕ → ℕ
seen_told (Some x) size = cond (eqb x.end size) (cond x.refused 4 0) 3
seen_told None size = 3
