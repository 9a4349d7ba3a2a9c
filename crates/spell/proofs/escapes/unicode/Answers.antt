-- A pair, or the one escape.
use native.Mathlib.Omega.{arith}
use mathlib.Core.Path.{sym, ◌∙◌}
use Rattle.spell.specs.Spell.{unicode_of}
use Rattle.spell.proofs.Chars.{pair_bounds}
use Rattle.spell.proofs.escapes.unicode.Goals as goal

pub pair_code-code-requires : goal.pair_code-code-requires
pair_code-code-requires c = pair_bounds _ _ _ _ (sym c.is_pair.ensures ∙ c.if-is_pair.true)

pub returns-then-is_pair : goal.returns-then-is_pair
unfolding unicode_of
returns-then-is_pair c = record {
  value = rw (sym c.is_pair.ensures ∙ c.if-is_pair.true, c.pair_code-code.ensures.value);
  sized = record { some = omega arith; few = omega arith; small = omega arith };
}

pub returns : goal.returns
unfolding unicode_of
returns c = record {
  value = rw (sym c.is_pair.ensures ∙ c.if-is_pair.false);
  sized = record { some = omega arith; few = omega arith; small = omega arith };
}
