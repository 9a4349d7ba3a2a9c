-- A law for each way out.
use mathlib.Core.Logic.{◌⊎◌}
use Prim.Native.Nat.{◌<◌, ◌≤◌}
use borrow.Author.Rules.{rules}
use Rattle.wire.specs.Limits.{most_slots}
use Rattle.slots.proofs.Formats.{outside, too_short, fresh}
use Rattle.slots.proofs.format.Goals as goal

pub returns-then-not-contains : goal.returns-then-not-contains
returns-then-not-contains c =
    let g : (c.args.capacity < 1) ⊎ (most_slots < c.args.capacity) = search rules in
    let both = outside _ _ g in record { value = both.0; table_after = both.1 }

pub returns-then-table-capacity : goal.returns-then-table-capacity
returns-then-table-capacity c =
    let g : 1 ≤ c.args.capacity = search rules in
    let h : c.args.capacity ≤ most_slots = search rules in
    let both = too_short _ _ g h c.if-table-capacity.true in record { value = both.0; table_after = both.1 }

pub returns : goal.returns
returns c =
    let g : 1 ≤ c.args.capacity = search rules in
    let h : c.args.capacity ≤ most_slots = search rules in
    let both = fresh _ _ g h c.if-table-capacity.false c.put_fresh.ensures in record { value = both.0; table_after = both.1 }
