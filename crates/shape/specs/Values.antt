-- A value by itself, where the tags of an event, a list of a filter or a filter must stand. 01: "Parts of an event,
-- filter or reply are tested by rows 2 and 4 to 8": the lowest that holds, 0 where none does, 5 where there is no
-- value.
use Rattle.std.specs.Prelude.{ℕ, ◌-◌, Bool, false, cond, not}
use Rattle.utf8.specs.Utf8.{is_utf8}
use Rattle.json_tree.specs.Tree.{Json, Got, none, got, depth, tree_at, on_object}
use Rattle.rows.specs.Strings.{part, refused_in}
use Rattle.shape.specs.Shape.{any_item, is_string, is_number, is_array_of, is_filter}
use Rattle.shape.specs.Rows.{wrong_smalls, wrong_hexes, wrong_tags, wrong_list, filter_number, filter_hex, filter_counts}
use Rattle.shape.specs.Inner.{TAGLIST, HEXES, SMALLS, FILTER}
use Rattle.shape.specs.declared.Sort.{Sort}
use Rattle.shape.specs.declared.Sort.TheVariants.{Tags, Hexes, Smalls, Filter}
use Rattle.wire.specs.Bytes.{Bytes, Place, Row}

abbrev pub fits : (s : Bytes) (x : Sort) (t : Json) → Bool
fits s Tags t = is_array_of (is_array_of is_string) t
fits s Hexes t = is_array_of is_string t
fits s Smalls t = is_array_of is_number t
fits s Filter t = is_filter s t

abbrev pub sort6 : (s : Bytes) (x : Sort) (t : Json) → Bool
sort6 s Tags t = false
sort6 s Hexes t = false
sort6 s Smalls t = wrong_smalls s t
sort6 s Filter t = on_object (any_item (filter_number s)) t

abbrev pub sort7 : (s : Bytes) (x : Sort) (t : Json) → Bool
sort7 s Tags t = false
sort7 s Hexes t = wrong_hexes s t
sort7 s Smalls t = false
sort7 s Filter t = on_object (any_item (filter_hex s)) t

abbrev pub sort8 : (s : Bytes) (x : Sort) (t : Json) → Bool
sort8 s Tags t = wrong_tags t
sort8 s Hexes t = wrong_list t
sort8 s Smalls t = wrong_list t
sort8 s Filter t = on_object (filter_counts s) t

-- row 2: the value's own text, and the white space after it, is not UTF-8
abbrev pub own_text : (s : Bytes) (at : Place) (g : Got Json) → Bool
own_text s at none = false
own_text s at (got t n) = not (is_utf8 (part s at (n - at)))

unfoldable pub sort_row : (s : Bytes) (k : Sort) (t : Json) → Row
sort_row s k t =
    cond (refused_in s t) 4 (cond (not (fits s k t)) 5
    (cond (sort6 s k t) 6 (cond (sort7 s k t) 7 (cond (sort8 s k t) 8 0))))

abbrev pub got_row : (s : Bytes) (k : Sort) (g : Got Json) → Row
got_row s k none = 5
got_row s k (got t n) = sort_row s k t

-- of the value at a place
unfoldable pub value_row : (s : Bytes) (at : Place) (k : Sort) → Row
value_row s at k = cond (own_text s at (tree_at s depth at)) 2 (got_row s k (tree_at s depth at))

-- the form by which the walk goes
unfoldable pub form_of : Sort → ℕ
form_of Tags = TAGLIST
form_of Hexes = HEXES
form_of Smalls = SMALLS
form_of Filter = FILTER
