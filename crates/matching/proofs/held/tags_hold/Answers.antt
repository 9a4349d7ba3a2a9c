-- The place is that of the tags, after a time and a kind of at most 20 characters each.
use native.Mathlib.Omega.{arith}
use Rattle.matching.proofs.held.Ways.{no_conditions, place_few, kind_few, array_there, conditions_hold}
use Rattle.matching.proofs.held.tags_hold.Goals as goal

pub returns-then-f-eq0 : goal.returns-then-f-eq0
returns-then-f-eq0 c = let a = c.args in no_conditions a.t.now a.time a.kind a.m.now a.row.now a.f c.if-f-eq0.true

pub overflow_add-tags : goal.overflow_add-tags
overflow_add-tags c =
    let d = place_few c.args.t.now c.args.time c.args.kind c.args.m.now c.args.row.now c.args.f c.ranges.time c.decimal_len.ensures in
    omega arith

pub overflow_add-tags-2 : goal.overflow_add-tags-2
overflow_add-tags-2 c =
    let d = place_few c.args.t.now c.args.time c.args.kind c.args.m.now c.args.row.now c.args.f c.ranges.time c.decimal_len.ensures in
    let e = kind_few c.args.kind (omega arith) c.natural_len.ensures in
    omega arith

pub all_hold-requires : goal.all_hold-requires
all_hold-requires c = array_there c.args.t.now c.args.time c.args.kind c.args.m.now c.args.row.now c.args.f c.ranges.time c.decimal_len.ensures
    c.natural_len.ensures c.requires

pub returns : goal.returns
returns c = conditions_hold c.args.t.now c.args.time c.args.kind c.args.m.now c.args.row.now c.args.f c.ranges.time c.decimal_len.ensures
    c.natural_len.ensures c.all_hold.ensures
