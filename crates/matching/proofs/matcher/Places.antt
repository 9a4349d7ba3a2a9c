-- The elements of an array that are left while they are passed one by one.
use Rattle.std.specs.Prelude.{Option}
use mathlib.Core.Path.{◌≡◌, ap}
use mathlib.Core.Bool.{false}
use Prim.Native.Nat.{ℕ}
use mathlib.Core.List.{List}
use Rattle.json_tree.specs.Grammar.{start_at}
use Rattle.json_tree.specs.Tree.{Items}
use Rattle.message.specs.Lists.{start_element}
use Rattle.message.proofs.Elements.{Group, first_place, Listing, array_listing}
use Rattle.matching.specs.Inner.Steps.{placed}

-- the place of the first that is left, if there is one
abbrev pub first_left : Items → Option ℕ
first_left ts = placed (first_place ts)

pub all_left : {s : List ℕ} {at : ℕ} {ts : Items} {n : ℕ} → Group s at false ts n → (placed (start_element (start_at s at)) ≡ first_left ts) × Listing s ts
all_left g = let (f, l) = array_listing g in (ap placed f, l)
