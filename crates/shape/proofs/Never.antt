-- Where nothing may stand the shape is broken, and only row 4 is lower. A turn over an item, for every form.
use mathlib.Core.Path.{refl}
use mathlib.Core.List.{List, [], ◌++◌}
use mathlib.Core.Bool.{Bool, true, false, ◌&&◌, ◌||◌}
use Prim.Native.Nat.{ℕ, ◌+◌}
use Rattle.json_tree.specs.Tree.{Json, word, num, str, arr, obj, Items, nil, item}
use Rattle.spell.specs.Spell.{refuses}
use Rattle.rows.specs.Strings.{spelled_at, refused_in, refused_items}
use Rattle.shape.specs.declared.Tally.{Tally}
use Rattle.shape.specs.Inner.{NEVER, string_form, string_fault, number_fault, group_form, name_fault, member_item}
use Rattle.shape.specs.Inner.{item_of, member_form, element_form, bit_of, is_in, once_fault, stepped, fresh, end_fault}
use Rattle.shape.specs.Inner.{closed, fault_of, fault_items}
use Rattle.shape.proofs.Low.{placed_at, low, Lowest, After, ends, goes_on, begins}

-- ---- an item's name, and whether it is there already
name_lowest : (s : List ℕ) (f : ℕ) (named : Bool) (k p : ℕ) → Lowest (item_of s f named k p).fault (named && refuses (spelled_at s p)) false [] [] false
unfolding low placed_at item_of member_item name_fault
name_lowest s f true k p = record { is = refl }
name_lowest s f false k p = record { is = refl }

once_lowest : (named : Bool) (slot seen : ℕ) → Lowest (once_fault named slot seen) false (named && is_in (bit_of slot) seen) [] [] false
unfolding low placed_at once_fault
once_lowest true slot seen = record { is = refl }
once_lowest false slot seen = record { is = refl }

-- a turn: the item's value breaks a₁ to e₁, what follows a₂ to e₂
module _ (s : List ℕ) (f : ℕ) (named : Bool) (k p : ℕ) (a : Tally) where
  pub turn_after : {x r : ℕ} {a₁ b₁ e₁ a₂ b₂ e₂ : Bool} {c₁ d₁ c₂ d₂ : List ℕ} → Lowest r a₁ b₁ c₁ d₁ e₁
      → After x (stepped named a (item_of s f named k p) r).fault a₂ b₂ c₂ d₂ e₂
      → After x a.fault ((named && refuses (spelled_at s p)) || (a₁ || a₂)) (b₁ || ((named && is_in (bit_of (item_of s f named k p).slot) a.seen) || b₂)) (c₁ ++ c₂) (d₁ ++ d₂) (e₁ || e₂)
  unfolding stepped
  turn_after w v = goes_on (name_lowest s f named k p) w (once_lowest named (item_of s f named k p).slot a.seen) v

-- ---- NEVER
mutual
  unfolding low placed_at fault_of refused_in string_fault string_form number_fault group_form member_form element_form item_of member_item fresh closed end_fault

  pub never : (s : List ℕ) (v : ℕ) (t : Json) → Lowest (fault_of s NEVER v t) (refused_in s t) true [] [] false
  never s v (word a n) = record { is = refl }
  never s v (num a n) = record { is = refl }
  never s v (str a n) = record { is = refl }
  never s v (arr ts) = begins (never_after s false 0 fresh ts)
  never s v (obj ts) = begins (never_after s true 0 fresh ts)

  pub never_after : (s : List ℕ) (named : Bool) (k : ℕ) (a : Tally) (ts : Items)
      → After (fault_items s named NEVER k a ts) a.fault (refused_items s named ts) true [] [] false
  never_after s named k a nil = ends refl record { is = refl }
  never_after s true k a (item p v t ts) = turn_after s NEVER true k p a (never s v t) (never_after s true (k + 1) _ ts)
  never_after s false k a (item p v t ts) = turn_after s NEVER false k p a (never s v t) (never_after s false (k + 1) _ ts)
