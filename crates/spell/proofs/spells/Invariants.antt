-- The invariant: the answer is the same for what is left of both.
use mathlib.Core.Path.{◌≡◌}
use lib.ListN.{drop}
use Rattle.wire.specs.Bytes.{same_bytes}
use Rattle.spell.specs.Spell.{decode}
use Rattle.spell.specs.Inner.{bytes_left, Stands}
use Rattle.spell.proofs.spells.Given as goal

abbrev pub invariant-loop-b : goal.invariant-loop-b
invariant-loop-b l = (same_bytes (decode l.p) l.word ≡ same_bytes (bytes_left l.rest) (drop l.b-index l.word)) × Stands l.rest
