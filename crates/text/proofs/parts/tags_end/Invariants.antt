-- What is known of d and the tags seen from here, with so many still allowed, make the answer.
use Rattle.std.specs.Prelude.{None}
use mathlib.Core.Path.{◌≡◌}
use Prim.Native.Nat.{◌+◌, ◌-◌}
use Rattle.wire.specs.Limits.{most_tags}
use Rattle.text.specs.Read.{tag_at, tags_at, text_members_at}
use Rattle.text.specs.Inner.Parts.{tagged_of}
use Rattle.text.proofs.parts.tags_end.Given as goal

abbrev pub invariant-loop : goal.invariant-loop
invariant-loop l = tagged_of l.d l.i (text_members_at (tag_at l.s) l.s (most_tags - l.counter) l.i) ≡ tagged_of None (l.at + 1) (tags_at l.s l.at)
