-- The slot and the count lie within a sound table.
use native.Mathlib.Omega.{arith}
use Rattle.offers.proofs.Stores.{count_few, fits, stored_is}
use Rattle.offers.proofs.store.Goals as goal

pub overflow_mul-a : goal.overflow_mul-a
overflow_mul-a c = let p = c.requires in let f = fits _ _ p.new p.has_room p.k_value in omega arith

pub overflow_add-a : goal.overflow_add-a
overflow_add-a c = let p = c.requires in let f = fits _ _ p.new p.has_room p.k_value in omega arith

pub overflow_add-e : goal.overflow_add-e
overflow_add-e c = let p = c.requires in let f = fits _ _ p.new p.has_room p.k_value in omega arith

pub slice_bounds-write_slot-end : goal.slice_bounds-write_slot-end
slice_bounds-write_slot-end c = let p = c.requires in let f = fits _ _ p.new p.has_room p.k_value in omega arith

pub count_after-requires : goal.count_after-requires
count_after-requires c =
    let p = c.requires in
    count_few _ _ p.new p.has_room p.k_value c.le_at-c.ensures.is

pub returns : goal.returns
returns c =
    let p = c.requires in
    stored_is _ _ p.new p.has_room p.k_value c.le_at-c.ensures.is c.write_slot.ensures c.count_after.ensures c.put_le.ensures
