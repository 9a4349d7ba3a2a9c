-- Lists of offers to a table that is given as the list of its events: what Machine's claims come to once the table's
-- form is left aside.
use mathlib.Core.Bool.{Bool, not}
use mathlib.Core.List.{List, [], ◌∷◌}
use Prim.Native.Nat.{ℕ}
use lib.Dec.{T}
use Rattle.law.specs.Lists.{any}
use Rattle.law.specs.Table.{Events, Verdict, is_no_room, Table, Offer, verdict, after}

module _ (E : Events) where
  unfoldable pub run : ℕ → Table E → List (Offer E) → Table E
  run N t [] = t
  run N t (o ∷ os) = run N (after E N t o) os

  unfoldable pub verdicts : ℕ → Table E → List (Offer E) → List Verdict
  verdicts N t [] = []
  verdicts N t (o ∷ os) = verdict E N t o ∷ verdicts N (after E N t o) os

  -- some offer of the list lacks room
  abbrev pub lacks : ℕ → Table E → List (Offer E) → Bool
  lacks N t os = any is_no_room (verdicts N t os)

  -- none does, from a fresh table of capacity N
  abbrev pub NoneLacks : ℕ → List (Offer E) → Type 0
  NoneLacks N os = T (not (lacks N [] os))
