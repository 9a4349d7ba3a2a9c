-- The walk over a value by itself answers its lowest row of 4 to 8, the law of its form, and where it ends: so row 2 is
-- tested on its text.
use Rattle.std.specs.Prelude.{None}
use mathlib.Core.Path.{◌≡◌, refl, sym}
use mathlib.Core.List.{List, []}
use mathlib.Core.Bool.{true, false, cond, not}
use Prim.Native.Nat.{ℕ, ◌-◌}
use Rattle.utf8.specs.Utf8.{is_utf8}
use Rattle.json_tree.specs.Tree.{Json, Got, none, got, depth, tree_at, of_object}
use Rattle.rows.specs.Strings.{part, refused_in}
use Rattle.shape.specs.declared.Sort.{Sort}
use Rattle.shape.specs.declared.Sort.TheVariants.{Tags, Hexes, Smalls, Filter}
use Rattle.shape.specs.Inner.{ends, fault_of, judged_of, fault_row}
use Rattle.shape.specs.Values.{fits, sort6, sort7, sort8, own_text, sort_row, got_row, value_row, form_of}
use Rattle.shape.proofs.Walks.{same_end, same_fault}
use Rattle.shape.proofs.Names.{no}
use Rattle.shape.proofs.Low.{Lowest}
use Rattle.wire.specs.Limits.{hex_length}
use Rattle.shape.specs.Rows.{wrong_small, wrong_hex, filter_number, filter_hex}
use Rattle.shape.specs.Offsets.{member_places}
use Rattle.shape.proofs.Lists.{list_places, tags, hexes, smalls}
use Rattle.shape.proofs.Filters.{filter}
use Rattle.shape.proofs.Placed.{some, smalls_some, hexes_some, filter_numbers_lem, filter_hexes}
use Rattle.shape.proofs.Told.{told_row_lem}

module _ (s : List ℕ) where
  -- the places that break row 6, and row 7
  numbers_in : Sort → Json → List ℕ
  numbers_in Tags t = []
  numbers_in Hexes t = []
  numbers_in Smalls t = list_places (wrong_small s) t
  numbers_in Filter t = of_object [] (member_places (filter_number s) (wrong_small s)) t

  hexes_in : Sort → Json → List ℕ
  hexes_in Tags t = []
  hexes_in Hexes t = list_places (wrong_hex hex_length s) t
  hexes_in Smalls t = []
  hexes_in Filter t = of_object [] (member_places (filter_hex s) (wrong_hex hex_length s)) t

  numbers_some : (k : Sort) (t : Json) → sort6 s k t ≡ some (numbers_in k t)
  unfolding numbers_in
  numbers_some Tags t = refl
  numbers_some Hexes t = refl
  numbers_some Smalls t = smalls_some s t
  numbers_some Filter t = filter_numbers_lem s t

  hexes_are : (k : Sort) (t : Json) → sort7 s k t ≡ some (hexes_in k t)
  unfolding hexes_in
  hexes_are Tags t = refl
  hexes_are Hexes t = hexes_some s t
  hexes_are Smalls t = refl
  hexes_are Filter t = filter_hexes s t

  sort_lowest : (k : Sort) (v : ℕ) (t : Json) → Lowest (fault_of s (form_of k) v t) (refused_in s t) (not (fits s k t)) (numbers_in k t) (hexes_in k t) (sort8 s k t)
  unfolding form_of numbers_in hexes_in
  sort_lowest Tags v t = tags s v t
  sort_lowest Hexes v t = hexes s v t
  sort_lowest Smalls v t = smalls s v t
  sort_lowest Filter v t = filter s v t

  sort_told : (k : Sort) (v : ℕ) (t : Json) → fault_row (fault_of s (form_of k) v t) ≡ sort_row s k t
  unfolding sort_row
  sort_told k v t = rw (numbers_some k t, hexes_are k t) (told_row_lem (sort_lowest k v t))

  module _ (at : ℕ) (k : Sort) {f : ℕ} (form : f ≡ form_of k) where
    module _ {n r : ℕ} (e : ends n r ≡ judged_of s f at (tree_at s depth at)) {w : List ℕ} (q : w ≡ part s at (n - at)) where
      pub value_told : is_utf8 w ≡ true → fault_row r ≡ value_row s at k
      unfolding judged_of value_row
      value_told u = go (tree_at s depth at) e
        where
          go : (g : Got Json) → ends n r ≡ judged_of s f at g → fault_row r ≡ cond (own_text s at g) 2 (got_row s k g)
          go none e = no cc
          go (got t m) e =
              let y : m ≡ n = sym (same_end e) in
              let z : r ≡ fault_of s f at t = same_fault e in
              rw (y, ← q, u, z, form) (sort_told k at t)

      pub value_bytes : is_utf8 w ≡ false → 2 ≡ value_row s at k
      unfolding judged_of value_row
      value_bytes u = go (tree_at s depth at) e
        where
          go : (g : Got Json) → ends n r ≡ judged_of s f at g → 2 ≡ cond (own_text s at g) 2 (got_row s k g)
          go none e = no cc
          go (got t m) e = let y : m ≡ n = sym (same_end e) in rw (y, ← q, u)

    pub value_wrong : None ≡ judged_of s f at (tree_at s depth at) → 5 ≡ value_row s at k
    unfolding judged_of value_row
    value_wrong e = go (tree_at s depth at) e
      where
        go : (g : Got Json) → None ≡ judged_of s f at g → 5 ≡ cond (own_text s at g) 2 (got_row s k g)
        go none e = refl
        go (got t m) e = no cc
