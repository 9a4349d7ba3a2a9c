-- Both tests say what they say of the numbers that the bits stand for.
use mathlib.Core.Logic.{inl, inr}
use borrow.Author.Rules.{rules}
use Rattle.numeral.specs.Whole.{is_within}
use Rattle.numeral.proofs.Ways.{within_low, within_high}
use Rattle.numeral.proofs.within.Goals as goal

pub returns-then-lo-z : goal.returns-then-lo-z
returns-then-lo-z c = within_high _ _ _ _ c.in-Value.is (search rules) c.ranges.lo.sfits c.ranges.hi.sfits c.if-lo-z.true

pub returns-else-lo-z : goal.returns-else-lo-z
returns-else-lo-z c = within_low _ _ _ _ c.in-Value.is (search rules) c.ranges.lo.sfits c.ranges.hi.sfits c.if-lo-z.false

pub returns-in-Large : goal.returns-in-Large
unfolding is_within
returns-in-Large c = elim c.in-Large.is [ inl e ↦ rw e | inr e ↦ rw e ]
