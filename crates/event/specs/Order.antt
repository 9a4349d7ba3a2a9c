-- 01, "Kinds and keys": which of two events is newer, by their times and ids.
use Rattle.std.specs.Prelude.{Bool, not, ◌&&◌, ◌||◌, List, ◌≡◌, refl, ℕ, ℤ}
use Rattle.law.specs.Event.{Event, lower, earlier}
use Rattle.law.specs.Event as law
use Rattle.wire.specs.Bytes.{Bytes}

unfoldable pub is_lower : Bytes → Bytes → Bool
is_lower i j = lower i j

-- "created_at compares as a signed number; between equal times the lower id is newer"
unfoldable pub is_newer : (s : ℤ) (i : Bytes) (t : ℤ) (j : Bytes) → Bool
is_newer s i t j = earlier t s || (not (earlier s t) && is_lower i j)

-- the order of demand 3 is this one, at the times of the texts
pub newer_is : (time : List ℕ → ℤ) (e f : Event) → law.newer time e f ≡ is_newer (time e.text) e.id
    (time f.text) f.id
unfolding is_newer is_lower
newer_is time e f = refl
