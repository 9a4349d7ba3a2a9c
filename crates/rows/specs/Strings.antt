-- 01, row 4, as 02, Wish 3, amends it: some string, names included, decodes to an unpaired surrogate.
use Rattle.std.specs.Prelude.{ℕ, ◌+◌, ◌-◌, List, [], Bool, true, false, ◌&&◌, ◌||◌}
pub use Rattle.wire.specs.Bytes.{part}
use Rattle.json_tree.specs.Grammar.{case, string_at}
use Rattle.json_tree.specs.Tree.{Json, word, num, str, arr, obj, Items, nil, item}
use Rattle.spell.specs.Spell.{refuses}
use Rattle.wire.specs.Bytes.{Bytes}

-- the string that begins at p, as spelled between its quotes: an object's item begins with its name
unfoldable pub spelled_at : Bytes → ℕ → Bytes
spelled_at s p = case (string_at s p) (λ n. part s (p + 1) (n - p - 2)) []

-- some string in a value, or in the items of an object (named) or an array, is refused
unfoldable mutual
  pub refused_in : List ℕ → Json → Bool
  refused_in s (word a n) = false
  refused_in s (num a n) = false
  refused_in s (str a n) = refuses (part s a n)
  refused_in s (arr ts) = refused_items s false ts
  refused_in s (obj ts) = refused_items s true ts

  pub refused_items : List ℕ → Bool → Items → Bool
  refused_items s named nil = false
  refused_items s named (item p v t ts) =
      (named && refuses (spelled_at s p)) || (refused_in s t || refused_items s named ts)
