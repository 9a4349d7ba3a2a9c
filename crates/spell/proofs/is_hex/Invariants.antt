-- The invariant: the answer is the same for what is left and the count left.
use mathlib.Core.Path.{◌≡◌}
use mathlib.Core.Bool.{◌&&◌}
use lib.Dec.{eqb}
use lib.ListN.{length}
use Rattle.wire.specs.Bytes.{is_hex}
use Rattle.spell.specs.Spell.{is_hex_of, all}
use Rattle.spell.specs.Inner.{bytes_left}
use Rattle.spell.proofs.is_hex.Given as goal

abbrev pub invariant-loop-b : goal.invariant-loop-b
invariant-loop-b l = is_hex_of l.n l.p ≡ (eqb (length (bytes_left l.b-iterator)) l.left && all is_hex (bytes_left l.b-iterator))
