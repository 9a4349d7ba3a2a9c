use Rattle.std.proofs.Common.{◌≡◌, ℕ, ◌+◌, ◌%◌, ◌^◌, ◌<◌, get_or, List, sym, refl, ap, ◌∙◌, add-one, arith, length-set, take_all, get_or-set_other, take-suc, rules}
use Rattle.digest.specs.Block.{at, chained, compress}
use Rattle.digest.proofs.Laws.{filled, at_chained, length_chained}
use Rattle.digest.proofs.block.block_at.Goals as goal

pub loop-i-init : goal.loop-i-init
loop-i-init c = (refl, λ j k. refl, search rules, search rules)

pub loop-i-preserved : goal.loop-i-preserved
loop-i-preserved c =
    let l = c.loop-i in
    let h : List ℕ = c.args.h.now in
    let s = c.all_rounds-s.result in
    let k : l.i < 8 = omega arith in
    let v = (get_or s l.i 0 + get_or l.h l.i 0) % 2 ^ 32 in
    let e : v ≡ at (chained h s) l.i = rw (at_chained h s l.i, l.invariant.1 l.i (omega arith)) in (
      filled l.h l.i (l.i + 1) v l.invariant.0 (add-one l.i) (omega arith)
          ∙ rw (e, add-one, take-suc (chained h s) l.i 0 (rw length_chained k)),
      λ j m. get_or-set_other l.h l.i j v 0 (omega arith) ∙ l.invariant.1 j (omega arith),
      simp length-set l.invariant.2,
      omega arith,
    )

pub returns : goal.returns
unfolding compress
returns c =
    let l = c.loop-i in
    let h : List ℕ = c.args.h.now in
    let d : List ℕ = chained h c.all_rounds-s.result in
    let e : l.i ≡ 8 = omega arith in
    sym (take_all 8 l.h (omega arith)) ∙ (rw e at l.invariant.0) ∙ take_all 8 d (omega (arith, length_chained h c.all_rounds-s.result))
    ∙ ap (chained h) c.all_rounds-s.ensures
