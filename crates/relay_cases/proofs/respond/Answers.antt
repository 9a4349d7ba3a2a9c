use mathlib.Core.Path.{◌≡◌, sym}
use mathlib.Core.List.{List}
use Prim.Native.Nat.{ℕ, ◌+◌, ◌≤◌, ◌<◌}
use lib.ListN.{length, set, take, length-set}
use lib.Seq.{length-take-le}
use native.Mathlib.Omega.{arith}
use Rattle.relay_cases.proofs.respond.Goals as goal

-- a byte more than the first k, once byte k is set
set_room : (l : List ℕ) (k x : ℕ) → k < length l → k + 1 ≤ length (set l k x)
set_room l k x h = omega (arith, length-set l k x)

set-taken : (l : List ℕ) (k x : ℕ) → k < length l → k + 1 ≡ length (take (k + 1) (set l k x))
set-taken l k x h = sym (length-take-le (k + 1) (set l k x) (set_room l k x h))

pub slice_bounds-step-end : goal.slice_bounds-step-end
slice_bounds-step-end g c = set_room c.args.given.now _ 10 c.if-k-given.true

pub slice_bounds-step-end-then-k-given : goal.slice_bounds-step-end-then-k-given
slice_bounds-step-end-then-k-given g c = set-taken c.args.given.now _ 10 c.if-k-given.true
