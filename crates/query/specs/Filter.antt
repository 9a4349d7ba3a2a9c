-- 01, "Shape": a filter as it is meant, every string decoded; and the one that lent parts p over the buffer b spell.
use Rattle.std.specs.Prelude.{cond, List, [], ◌∷◌, ℕ, ℤ, get_or, Some, None, Option}
use Rattle.json_tree.specs.Tree.{Json, Items, nil, item, Got, of_array}
use Rattle.json_tree.specs.Tree as tree
use Rattle.shape.specs.Shape.{name_at, is_condition}
use Rattle.message.specs.Parts.{number_spelled, members_at}
use Rattle.message.specs.Lent.{value_at}
use Rattle.message.specs.declared.FilterParts.{FilterParts}
use Rattle.event.specs.Lent.{tag_of}
use Rattle.wire.specs.Bytes.{Bytes}

-- a list of strings that may be absent
abbrev pub Strings : Type 0
Strings = Option (List (List ℕ))

-- "# with one letter a-z or A-Z", and its list
pub record Condition : Type 0 where
  pub letter : ℕ
  pub members : List (List ℕ)

-- "in a filter, since, until and limit are each absent or a number"
pub record Filter : Type 0 where
  pub ids : Strings
  pub authors : Strings
  pub kinds : Option (List ℤ)
  pub since : Option ℤ
  pub until : Option ℤ
  pub limit : Option ℤ
  pub conditions : List Condition

-- ---- what is at a place of b: its strings, its numbers; of no array none
abbrev pub strings_in : Bytes → Got Json → List (List ℕ)
strings_in b tree.none = []
strings_in b (tree.got t n) = tag_of b t

abbrev pub numbers_of : Bytes → Items → List ℤ
numbers_of b nil = []
numbers_of b (item p v t ts) = number_spelled b t ∷ numbers_of b ts

abbrev pub numbers_in : Bytes → Got Json → List ℤ
numbers_in b tree.none = []
numbers_in b (tree.got t n) = of_array [] (numbers_of b) t

-- the members of an object that are conditions
abbrev pub conditions_of : Bytes → Items → List Condition
conditions_of b nil = []
conditions_of b (item p v t ts) =
    cond (is_condition (name_at b p)) (record { letter = get_or (name_at b p) 1 0; members = tag_of b t } ∷ conditions_of b ts)
    (conditions_of b ts)

-- ---- the parts
abbrev pub if_listed : {A : Type 0} → (ℕ → A) → Option ℕ → Option A
if_listed f None = None
if_listed f (Some v) = Some (f v)

abbrev pub conditions_in : Bytes → Option ℕ → List Condition
conditions_in b None = []
conditions_in b (Some v) = conditions_of b (members_at b v)

unfoldable pub filter_of : Bytes → FilterParts → Filter
filter_of b p = record {
  ids = if_listed (λ v. strings_in b (value_at b v)) p.ids;
  authors = if_listed (λ v. strings_in b (value_at b v)) p.authors;
  kinds = if_listed (λ v. numbers_in b (value_at b v)) p.kinds;
  since = p.since;
  until = p.until;
  limit = p.limit;
  conditions = conditions_in b p.conditions;
}
