-- What refuses a message, as a field: the row, and behind an @ the offset that goes with rows 6 and 7.
use Rattle.std.specs.Prelude.{List, [], ◌∷◌, ◌++◌, ℕ, Option, Some, None}
use Rattle.numeral.specs.Decimal.{digits}
use Rattle.shape.specs.declared.Refusal.{Refusal}

-- nothing where there is no offset
abbrev pub offset_field : Option ℕ → List ℕ
offset_field None = []
offset_field (Some n) = 64 ∷ digits n

abbrev pub refusal_field : Refusal → List ℕ
refusal_field x = digits x.row ++ offset_field x.offset
