-- A filter whose list members were found beforehand: they stand in a row of numbers, strings as two numbers each (start
-- and length of what stands between the quotes, in the buffer m), kinds as one.
use Rattle.std.specs.Prelude.{List, [], ◌∷◌, map, ℕ, ℤ, pos, take, Some, None, Option}
use Rattle.wire.specs.Bytes.{Bytes, part}
use Rattle.spell.specs.Spell.{decode}
use Rattle.query.specs.Filter.{Filter, Condition}
use Rattle.matching.specs.declared.Needed.{Needed}
use Rattle.matching.specs.declared.Known.{Known}

unfoldable pub spelled_by : Bytes → Bytes → List (List ℕ)
spelled_by m [] = []
spelled_by m (a ∷ []) = []
spelled_by m (a ∷ n ∷ r) = decode (part m a n) ∷ spelled_by m r

unfoldable pub numbers_by : Bytes → List ℤ
numbers_by [] = []
numbers_by (k ∷ r) = pos k ∷ numbers_by r

-- the members that stand in the row, or none given
abbrev pub given : {A : Type 0} (f : List ℕ → A) (row : List ℕ) (x : Option (ℕ × ℕ)) → Option A
given f row None = None
given f row (Some (a, n)) = Some (f (part row a n))

abbrev pub condition_by : (m : Bytes) (row : List ℕ) (c : Needed) → Condition
condition_by m row c = record { letter = c.letter; members = spelled_by m (part row c.from c.len) }

unfoldable pub filter_by : (m : Bytes) (row : List ℕ) (k : Known) → Filter
filter_by m row k = record {
  ids = given (spelled_by m) row k.ids;
  authors = given (spelled_by m) row k.authors;
  kinds = given numbers_by row k.kinds;
  since = k.since;
  until = k.until;
  limit = k.limit;
  conditions = map (condition_by m row) (take k.n k.conditions);
}
