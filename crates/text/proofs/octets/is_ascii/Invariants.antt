-- While no byte was high, the rest decides; the end is one of UTF-8.
use mathlib.Core.Path.{◌≡◌}
use mathlib.Core.Bool.{false}
use lib.ListN.{drop}
use Rattle.utf8.specs.Utf8.{utf8_from, is_utf8}
use Rattle.utf8.specs.declared.Want.TheVariants.{Lead}
use Rattle.text.proofs.octets.is_ascii.Given as goal

abbrev pub invariant-loop-b : goal.invariant-loop-b
invariant-loop-b l = l.high ≡ false → is_utf8 l.s ≡ utf8_from Lead (drop l.b-index l.s)
