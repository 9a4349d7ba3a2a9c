-- The bytes do not fill the block, and wait; or they do, and the rest of them is hashed and waits. Assumes nothing.
use Rattle.std.proofs.Common.{◌≡◌, ℕ, rules, ◌-◌, ◌<◌, List, ◌++◌, length, take, sym, arith, length-append, length-take, length-take-le}
use Rattle.digest.proofs.Laws.{length_compress}
use Rattle.digest.proofs.Ends.{few_hashed, few_rest, took}
use Rattle.digest.proofs.take_in.Goals as goal

pub returns-then-n-room : goal.returns-then-n-room
returns-then-n-room c =
    let a = c.args in
    let m : List ℕ = take a.fill a.b.now ++ a.bytes.now in
    let k : length m < 64 = simp (length-append, length-take) (omega arith) in
    record { h_after = few_hashed a.h.now m k; b_after = rw (← few_rest m k) c.lay.ensures }

pub slice_bounds-lay-end-3 : goal.slice_bounds-lay-end-3
slice_bounds-lay-end-3 c = sym (length-take-le _ _ c.if-n-room.false)

pub lay-requires-2 : goal.lay-requires-2
lay-requires-2 c =
    let a = c.args in
    let long : length a.b.now ≡ 64 = search rules in
    let e = length-take-le (64 - a.fill) a.bytes.now (omega arith) in
    (long, omega (arith, e))

pub absorb-requires : goal.absorb-requires
absorb-requires c = rw (c.block_at.ensures, length_compress)

pub returns : goal.returns
returns c =
    let a = c.args in
    let long : length a.b.now ≡ 64 = search rules in
    let both = took a.h.now a.b.now a.bytes.now a.fill (omega arith) long
    c.if-n-room.false c.lay-2.ensures c.block_at.ensures c.absorb.ensures
    c.lay-3.ensures in record { h_after = both.0; b_after = both.1 }
