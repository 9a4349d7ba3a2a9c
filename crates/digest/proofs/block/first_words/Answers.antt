use Rattle.std.proofs.Common.{◌≡◌, ◌+◌, sym, refl, ◌∙◌, add-one, arith, length-set, take_all, rules}
use Rattle.digest.specs.Block.{words}
use Rattle.digest.proofs.Laws.{filled, word_part}
use Rattle.digest.proofs.block.first_words.Goals as goal

pub loop-i-init : goal.loop-i-init
unfolding words
loop-i-init c = (refl, refl, search rules)

pub loop-i-preserved : goal.loop-i-preserved
unfolding words
loop-i-preserved c =
    let l = c.loop-i in (
      filled l.word-items l.i (l.i + 1) c.word_at.result l.invariant.0 (add-one l.i) (omega arith)
          ∙ rw (add-one, word_part _ l.i (omega arith), c.word_at.ensures),
      simp length-set l.invariant.1,
      omega arith,
    )

pub returns : goal.returns
returns c =
    let l = c.loop-i in
    let e : l.i ≡ 16 = omega arith in
    sym (take_all 16 l.word-items (omega arith)) ∙ (rw e at l.invariant.0)
