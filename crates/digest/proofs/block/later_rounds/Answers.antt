-- One round more at each call, at its constant. Assumes nothing.
use Rattle.std.proofs.Common.{refl, sym, ap, add-zero}
use Rattle.digest.specs.Block.{K, at}
use Rattle.digest.proofs.Ring.{turned_none, turned_more}
use Rattle.digest.proofs.block.later_rounds.Goals as goal

pub returns : goal.returns
unfolding K
returns g c =
    let p1 = turned_more _ _ _ (turned_none _ _ _) (ap (at K) (sym (add-zero g.row.FROM))) c.made_round-s1.ensures.value c.made_round-s1.ensures.w_after in
    let p2 = turned_more _ _ _ p1 refl c.made_round-s2.ensures.value c.made_round-s2.ensures.w_after in
    let p3 = turned_more _ _ _ p2 refl c.made_round-s3.ensures.value c.made_round-s3.ensures.w_after in
    let p4 = turned_more _ _ _ p3 refl c.made_round-s4.ensures.value c.made_round-s4.ensures.w_after in
    let p5 = turned_more _ _ _ p4 refl c.made_round-s5.ensures.value c.made_round-s5.ensures.w_after in
    let p6 = turned_more _ _ _ p5 refl c.made_round-s6.ensures.value c.made_round-s6.ensures.w_after in
    let p7 = turned_more _ _ _ p6 refl c.made_round-s7.ensures.value c.made_round-s7.ensures.w_after in
    let p8 = turned_more _ _ _ p7 refl c.made_round-s8.ensures.value c.made_round-s8.ensures.w_after in
    let p9 = turned_more _ _ _ p8 refl c.made_round-s9.ensures.value c.made_round-s9.ensures.w_after in
    let p10 = turned_more _ _ _ p9 refl c.made_round-s10.ensures.value c.made_round-s10.ensures.w_after in
    let p11 = turned_more _ _ _ p10 refl c.made_round-s11.ensures.value c.made_round-s11.ensures.w_after in
    let p12 = turned_more _ _ _ p11 refl c.made_round-s12.ensures.value c.made_round-s12.ensures.w_after in
    let p13 = turned_more _ _ _ p12 refl c.made_round-s13.ensures.value c.made_round-s13.ensures.w_after in
    let p14 = turned_more _ _ _ p13 refl c.made_round-s14.ensures.value c.made_round-s14.ensures.w_after in
    let p15 = turned_more _ _ _ p14 refl c.made_round-s15.ensures.value c.made_round-s15.ensures.w_after in
    let p16 = turned_more _ _ _ p15 refl c.made_round.ensures.value c.made_round.ensures.w_after in
    record { value = p16.variables; w_after = p16.ring }
