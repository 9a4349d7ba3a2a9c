-- What finding the members of a list hands on.
use Rattle.std.specs.Prelude.{◌≡◌, true, false, cond, List, map, ℕ, ◌+◌, ◌-◌, ◌*◌, ◌≤◌, length, get_or, take, Some}
use Rattle.std.specs.Prelude.{None, Option}
use Rattle.wire.specs.Limits.{most_members, most_conditions}
use Rattle.wire.specs.Bytes.{Bytes, Place, part}
use Rattle.json_tree.specs.Grammar.{case, scalar_at, head_at, next_at}
use Rattle.json_tree.specs.Tree.{end_of, tree_at}
use Rattle.json_tree.specs.declared.Kind.{Kind}
use Rattle.json_tree.specs.declared.Kind.TheVariants.{Str, Num, Word}
use Rattle.json_tree.specs.declared.Start.{Start}
use Rattle.json_tree.specs.declared.Start.TheVariants.{Leaf, Empty, Many}
use Rattle.json_tree.specs.declared.Next.{Next}
use Rattle.json_tree.specs.declared.Next.TheVariants.{More, Done, Wrong}
use Rattle.numeral.specs.Whole.{whole_of, whole_answer}
use Rattle.numeral.specs.declared.Whole.{Whole}
use Rattle.shape.specs.Shape.{is_condition}
use Rattle.message.specs.Parts.{whole_value}
use Rattle.message.specs.Lists.{open_within}
use Rattle.event.specs.Lent.{natural}
use Rattle.query.specs.Filter.{conditions_in}
use Rattle.matching.specs.declared.Needed.{Needed}
use Rattle.matching.specs.Inner.Found.{given, condition_by}

-- ---- the row that a filter's members are written to: two numbers for each string, one for each kind
abbrev pub strings_room : ℕ
strings_room = most_members * 2

abbrev pub kinds_room : ℕ
kinds_room = most_members

-- ids stand from 0 on, and behind them authors, kinds, and the members of the # conditions
abbrev pub authors_place : ℕ
authors_place = strings_room

abbrev pub kinds_place : ℕ
kinds_place = authors_place + strings_room

abbrev pub conditions_place : ℕ
conditions_place = kinds_place + kinds_room

abbrev pub row_room : ℕ
row_room = conditions_place + most_conditions * strings_room

-- what a list says stands in the row from a place on, in n numbers of at most so many; what stands before it stays
pub record Finds {X : Type 0} (means : List ℕ → List X) (whole : List X) (most : ℕ) (before : List ℕ) (at n : ℕ)
    (row : List ℕ) : Type 0 where
  pub few : n ≤ most
  pub is : means (part row at n) ≡ whole
  pub same : take at row ≡ take at before
  pub long : length row ≡ length before

-- the same of a list that may be absent
abbrev pub reach : Option (ℕ × ℕ) → ℕ
reach None = 0
reach (Some (a, n)) = a + n

pub record FindsMembers {X : Type 0} (means : List ℕ → List X) (whole : Option (List X)) (most : ℕ) (before : List ℕ)
    (at : ℕ) (l : Option (ℕ × ℕ)) (row : List ℕ) : Type 0 where
  pub inside : reach l ≤ at + most
  pub is : given means row l ≡ whole
  pub same : take at row ≡ take at before
  pub long : length row ≡ length before

-- the conditions that a filter's object has, the first n of a list; their members stand in the row behind the other
-- lists
pub record FindsConditions (m : List ℕ) (l : Option ℕ) (before : List ℕ) (list : List Needed) (n : ℕ)
    (row : List ℕ) : Type 0 where
  pub is : map (condition_by m row) (take n list) ≡ conditions_in m l
  pub same : take conditions_place row ≡ take conditions_place before
  pub long : length row ≡ length before

-- ---- the number at a place, if it is not negative; otherwise 0
abbrev pub small_from : Whole → ℕ
small_from w = natural (whole_value w)

abbrev pub small_of : (s : Bytes) (at : Place) (x : Option Kind) → ℕ
small_of s at (Some (Str n)) = 0
small_of s at (Some (Num n)) = small_from (whole_answer (whole_of (part s at (n - at))))
small_of s at (Some (Word n)) = 0
small_of s at None = 0

unfoldable pub small_at : Bytes → Place → ℕ
small_at s at = small_of s at (scalar_at s at)

-- ---- the members of an object: the place of the first name, of a name's value, of the name after a value
abbrev pub first_named : Start → Option ℕ
first_named Leaf = None
first_named (Empty n named) = None
first_named (Many i true) = Some i
first_named (Many i false) = None

abbrev pub more_named : Next → Option ℕ
more_named (More j) = Some j
more_named (Done n) = None
more_named Wrong = None

unfoldable pub next_named : Bytes → ℕ → Option ℕ
next_named s v = case (end_of (tree_at s open_within v)) (λ n. more_named (next_at s n true)) None

abbrev pub value_place : Bytes → ℕ → ℕ
value_place s p = case (head_at s p true) (λ v. v) 0

-- the letter of a condition's name; 0 of another name
unfoldable pub condition_letter : Bytes → ℕ
condition_letter w = cond (is_condition w) (get_or w 1 0) 0
