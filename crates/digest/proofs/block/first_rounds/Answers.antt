-- One round more at each call, at its constant and its word. Assumes nothing.
use Rattle.std.proofs.Common.{refl}
use Rattle.digest.specs.Block.{K}
use Rattle.digest.proofs.Ring.{rounded_none, rounded_more}
use Rattle.digest.proofs.block.first_rounds.Goals as goal

pub returns : goal.returns
unfolding K
returns c =
    let p1 = rounded_more _ _ (rounded_none _ _) refl c.turn-s1.ensures in
    let p2 = rounded_more _ _ p1 refl c.turn-s2.ensures in
    let p3 = rounded_more _ _ p2 refl c.turn-s3.ensures in
    let p4 = rounded_more _ _ p3 refl c.turn-s4.ensures in
    let p5 = rounded_more _ _ p4 refl c.turn-s5.ensures in
    let p6 = rounded_more _ _ p5 refl c.turn-s6.ensures in
    let p7 = rounded_more _ _ p6 refl c.turn-s7.ensures in
    let p8 = rounded_more _ _ p7 refl c.turn-s8.ensures in
    let p9 = rounded_more _ _ p8 refl c.turn-s9.ensures in
    let p10 = rounded_more _ _ p9 refl c.turn-s10.ensures in
    let p11 = rounded_more _ _ p10 refl c.turn-s11.ensures in
    let p12 = rounded_more _ _ p11 refl c.turn-s12.ensures in
    let p13 = rounded_more _ _ p12 refl c.turn-s13.ensures in
    let p14 = rounded_more _ _ p13 refl c.turn-s14.ensures in
    let p15 = rounded_more _ _ p14 refl c.turn-s15.ensures in
    (rounded_more _ _ p15 refl c.turn.ensures).variables
