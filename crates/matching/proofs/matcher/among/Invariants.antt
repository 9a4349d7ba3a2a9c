-- The invariant: a member is alike exactly if one of the pairs from k on is. Equal bytes decode alike.
use Rattle.spell.specs.Spell.{decode}
use Rattle.matching.proofs.matcher.Lists.{Left}
use Rattle.matching.proofs.matcher.among.Given as goal

abbrev pub invariant-loop-k : goal.invariant-loop-k
invariant-loop-k l = Left (decode l.v) l.m l.spans l.k
