-- An arm for each letter, and the rest.
use Rattle.spell.specs.Spell.{short_of}
use Rattle.wire.proofs.Laws.{tests}
use Rattle.spell.proofs.escapes.short.Goals as goal

pub returns-in-98 : goal.returns-in-98
unfolding short_of
returns-in-98 c = rw c.in-98.is

pub returns-in-102 : goal.returns-in-102
unfolding short_of
returns-in-102 c = rw c.in-102.is

pub returns-in-110 : goal.returns-in-110
unfolding short_of
returns-in-110 c = rw c.in-110.is

pub returns-in-114 : goal.returns-in-114
unfolding short_of
returns-in-114 c = rw c.in-114.is

pub returns-in-116 : goal.returns-in-116
unfolding short_of
returns-in-116 c = rw c.in-116.is

pub returns-in_default : goal.returns-in_default
unfolding short_of
returns-in_default c = search tests
