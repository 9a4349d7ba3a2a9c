use mathlib.Core.Path.{refl, ◌∙◌}
use borrow.Author.Tests.{not-true}
use Rattle.utf8.specs.Utf8.{is_utf8}
use Rattle.utf8.specs.declared.Want.TheVariants.{Lead}
use Rattle.utf8.proofs.Laws.{over}
use Rattle.text.proofs.Blocks.{ascii_more}
use Rattle.text.proofs.octets.is_ascii.Goals as goal

pub loop-b-init : goal.loop-b-init
unfolding is_utf8
loop-b-init c e = refl

pub loop-b-preserved : goal.loop-b-preserved
unfolding is_utf8
loop-b-preserved c e = ascii_more _ _ _ _ c.loop-b-test.true c.loop-b.invariant e

pub returns : goal.returns
unfolding is_utf8
returns c e = c.loop-b.invariant (not-true _ e) ∙ over Lead _ _ c.loop-b-test.false
