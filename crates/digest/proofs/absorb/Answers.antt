use Rattle.std.proofs.Common.{◌∙◌, refl, arith, length-append}
use Rattle.digest.proofs.Laws.{absorbed_none, absorbed_words, absorbed_turn, absorbed_end}
use Rattle.digest.proofs.absorb.Goals as goal

pub block_at-requires : goal.block_at-requires
block_at-requires c = (absorbed_words c.loop-chunk.invariant.1 c.requires, omega (arith, c.in-Some.ensures.steps.1.1, c.loop-chunk.invariant.0))

pub loop-chunk-init : goal.loop-chunk-init
loop-chunk-init c =
    let e = c.chunks_exact-chunk-items.ensures in
    rw (c.into_iter-chunk-iterator.ensures.into_iter_gives, e.size, e.rest) (refl, absorbed_none _ _)

pub loop-chunk-preserved : goal.loop-chunk-preserved
loop-chunk-preserved c =
    let e = c.in-Some.ensures.steps in
    let i = c.loop-chunk.invariant in
    (e.0 ∙ i.0, rw length-append (absorbed_turn i.1 _ e.1.0 (e.1.1 ∙ i.0) c.block_at.ensures))

pub returns : goal.returns
returns c = absorbed_end c.loop-chunk.invariant.1 (omega (arith, c.in-None.ensures.steps.1.0, c.loop-chunk.invariant.0))
