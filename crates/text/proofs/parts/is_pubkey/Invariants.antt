-- What was seen and the rest decide.
use mathlib.Core.Path.{◌≡◌}
use mathlib.Core.Bool.{◌&&◌}
use lib.ListN.{drop}
use Rattle.wire.specs.Bytes.{is_hex}
use Rattle.text.specs.Event.{all, is_pubkey}
use Rattle.text.proofs.parts.is_pubkey.Given as goal

abbrev pub invariant-loop-b : goal.invariant-loop-b
invariant-loop-b l = is_pubkey l.p ≡ (l.hex && all is_hex (drop l.b-index l.p))
