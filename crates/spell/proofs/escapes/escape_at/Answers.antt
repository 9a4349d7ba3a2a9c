-- The byte after the backslash decides, and then the number.
use mathlib.Core.Bool.{true}
use mathlib.Core.Path.{refl, sym, ap, ◌∙◌}
use Prim.Native.Nat.{ℕ}
use native.Mathlib.Omega.{arith}
use Rattle.spell.proofs.Chars.{here, there, four_there, char_short, char_unicode, no_pair}
use Rattle.spell.proofs.escapes.escape_at.Goals as goal

pub returns-then-y-ne117 : goal.returns-then-y-ne117
returns-then-y-ne117 c =
    let p = c.args.p.now in
    let i = c.args.i in
    record {
      is = char_short _ (sym (here p i) ∙ c.requires.i_value) (there p i 1 c.byte-y.ensures) _ c.if-y-ne117.true (ap (λ (n : ℕ). record { code = n; raw = true; width = 2 }) c.short-code.ensures);
      sized = record { some = omega arith; few = omega arith; small = omega arith };
    }

pub returns-then-u-lt55296 : goal.returns-then-u-lt55296
returns-then-u-lt55296 c =
    let p = c.args.p.now in
    let i = c.args.i in
    record {
      is = char_unicode _ (sym (here p i) ∙ c.requires.i_value) (there p i 1 c.byte-y.ensures) _ c.if-y-ne117.false (four_there p i 2 c.hex_at-u.ensures.value) refl refl refl (no_pair _ _ _ _ c.if-u-lt55296.true);
      sized = record { some = omega arith; few = omega arith; small = omega arith };
    }

pub returns : goal.returns
returns c =
    let p = c.args.p.now in
    let i = c.args.i in
    record {
      is = char_unicode _ (sym (here p i) ∙ c.requires.i_value) (there p i 1 c.byte-y.ensures) _ c.if-y-ne117.false (four_there p i 2 c.hex_at-u.ensures.value) (there p i 6 c.byte.ensures) (there p i 7 c.byte-2.ensures) (four_there p i 8 c.hex_at.ensures.value) c.unicode.ensures.value;
      sized = c.unicode.ensures.sized;
    }
