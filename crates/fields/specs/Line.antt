-- A line is fields with single spaces between.
use Rattle.std.specs.Prelude.{cond, List, [], ◌∷◌, ℕ, zero, suc, eqb, take, drop}

-- the index of the first space, or the length where there is none
unfoldable pub space_in : List ℕ → ℕ
space_in [] = 0
space_in (b ∷ l) = cond (eqb b 32) 0 (suc (space_in l))

-- what stands behind the first space
unfoldable pub rest_of_line : List ℕ → List ℕ
rest_of_line l = drop (suc (space_in l)) l

-- the line from field k on, counted from 0
unfoldable pub fields_from : ℕ → List ℕ → List ℕ
fields_from zero l = l
fields_from (suc k) l = fields_from k (rest_of_line l)

-- field k: empty past the last
unfoldable pub field_of : List ℕ → ℕ → List ℕ
field_of l k = take (space_in (fields_from k l)) (fields_from k l)

-- what stands before a field that is written at an index
unfoldable pub gap_of : ℕ → List ℕ
gap_of at = cond (eqb at 0) [] (32 ∷ [])
