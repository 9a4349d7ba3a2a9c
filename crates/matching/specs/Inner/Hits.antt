-- A byte for each held slot and filter, four to a slot: whether the slot matches the filter. Each pair is matched once,
-- and the order is found over these bytes.
use Rattle.std.specs.Prelude.{◌≡◌, Bool, not, List, ℕ, ◌+◌, ◌*◌, ◌<◌, eqb, get_or}
use Rattle.query.specs.Filter.{Filter}
use Rattle.query.specs.Answer.{matches_slot}

-- filter number f matches slot s
unfoldable pub hit_at : (h : List ℕ) (f s : ℕ) → Bool
hit_at h f s = not (eqb (get_or h (s * 4 + f) 0) 0)

-- the filter f, number j, was asked of the first c slots of the table b, and what the other filters hit stays
pub record Filled (b : List ℕ) (f : Filter) (j c : ℕ) (h out : List ℕ) : Type 0 where
  pub here : (s : ℕ) → s < c → hit_at out j s ≡ matches_slot b f s
  pub others : (i s : ℕ) → i < 4 → (i ≡ j → ⊥) → hit_at out i s ≡ hit_at h i s
