-- One step leaves what follows its byte, and stands in the text.
use mathlib.Core.Path.{ap}
use borrow.Author.Rules.{rules}
use lib.ListN.{length}
use Rattle.spell.specs.Inner.{bytes_left}
use Rattle.spell.proofs.Chars.{left_over, step_byte}
use Rattle.spell.proofs.steps.DecodedIterator.next.Goals as goal

pub returns-then-self-clause-steps : goal.returns-then-self-clause-steps
unfolding bytes_left
returns-then-self-clause-steps c = let e = left_over _ _ _ c.if-self.true in (e, e)

pub returns-then-b-ne92-clause-steps : goal.returns-then-b-ne92-clause-steps
unfolding bytes_left
returns-then-b-ne92-clause-steps c = (step_byte _ _ c.if-b-ne92.true _ c.if-self.false c.requires).left

pub returns-then-b-ne92-clause-goes : goal.returns-then-b-ne92-clause-goes
unfolding bytes_left
returns-then-b-ne92-clause-goes c =
    let r = step_byte _ _ c.if-b-ne92.true _ c.if-self.false c.requires in
    let shorter = ap length r.left in
    search rules

pub returns-clause-goes : goal.returns-clause-goes
returns-clause-goes c =
    let w = c.step.ensures.stands in
    let shorter = ap length c.step.ensures.byte in
    search rules
