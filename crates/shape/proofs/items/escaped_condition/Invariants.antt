-- No letter up to b fits: the name is none of those passed.
use mathlib.Core.Path.{◌≡◌}
use mathlib.Core.Bool.{false}
use mathlib.Core.List.{[], ◌∷◌}
use Prim.Native.Nat.{ℕ, ◌≤◌, ◌<◌}
use Rattle.wire.specs.Bytes.{same_bytes}
use Rattle.spell.specs.Spell.{decode}
use Rattle.shape.proofs.items.escaped_condition.Given as goal

abbrev pub invariant-loop-b : goal.invariant-loop-b
invariant-loop-b l = (k : ℕ) → 65 ≤ k → k < l.b → same_bytes (decode l.p) (35 ∷ k ∷ []) ≡ false
