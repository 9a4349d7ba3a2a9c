-- The end of the strings seen from here, with so many still allowed, is the tag's end.
use mathlib.Core.Path.{◌≡◌}
use Prim.Native.Nat.{◌-◌}
use Rattle.wire.specs.Limits.{most_strings}
use Rattle.text.specs.Read.{string_at, tag_at, text_members_at}
use Rattle.text.specs.Inner.Parts.{got_end}
use Rattle.text.proofs.parts.tag_end.Given as goal

abbrev pub invariant-loop : goal.invariant-loop
invariant-loop l = got_end (text_members_at (string_at l.s) l.s (most_strings - l.counter) l.i) ≡ got_end (tag_at l.s l.at)
