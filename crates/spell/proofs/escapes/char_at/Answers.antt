-- A byte that is no backslash is raw.
use native.Mathlib.Omega.{arith}
use mathlib.Core.Path.{refl}
use Rattle.spell.proofs.Chars.{here, char_raw}
use Rattle.spell.proofs.escapes.char_at.Goals as goal

pub returns-then-x-ne92 : goal.returns-then-x-ne92
returns-then-x-ne92 c =
    let h = c.type_inv.p c.args.i in
    record {
      is = char_raw _ (here c.args.p.now c.args.i) _ c.if-x-ne92.true refl;
      sized = record { some = omega arith; few = omega arith; small = omega arith };
    }

pub overflow_cast-code : goal.overflow_cast-code
overflow_cast-code c = omega (arith, c.type_inv.p c.args.i)
