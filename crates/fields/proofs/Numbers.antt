-- The loop over the bytes of a number.
use mathlib.Core.Path.{◌≡◌}
use mathlib.Core.List.{List}
use Prim.Native.Nat.{ℕ, ◌+◌, ◌≤◌, ◌<◌}
use native.Mathlib.Numerals.{add-one}
use lib.ListN.{length, drop, get_or, drop_of_length-le}
use lib.Seq.{drop-cons}
use Rattle.fields.specs.Number.{grown_by, natural_field}

module _ (p : List ℕ) (i v : ℕ) where
  pub natural_turn : i < length p → natural_field v (drop i p) ≡ natural_field (grown_by v (get_or p i 0)) (drop (i + 1) p)
  unfolding natural_field
  natural_turn h = rw (drop-cons p i 0 h, add-one i)

  pub natural_end : length p ≤ i → natural_field v (drop i p) ≡ v
  unfolding natural_field
  natural_end h = rw (drop_of_length-le p {i = i} h)
