-- Outer invariant: a tag fits exactly if one from x on does. Inner: a member fits exactly if one of the pairs from k on does.
use Rattle.spell.specs.Spell.{decode}
use Rattle.matching.specs.Inner.Found.{spelled_by}
use Rattle.matching.specs.Inner.Steps.{asked}
use Rattle.matching.proofs.matcher.Tags.{Going}
use Rattle.matching.proofs.matcher.Lists.{Left}
use Rattle.matching.proofs.matcher.holds.Given as goal

abbrev pub invariant-members : goal.invariant-members
invariant-members l = Left (decode l.value) l.m l.spans l.k

abbrev pub invariant-tags : goal.invariant-tags
invariant-tags l = Going l.b l.tags (asked l.letter (spelled_by l.m l.spans)) l._k l.x
