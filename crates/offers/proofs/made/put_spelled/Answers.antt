-- A part that is as long as its digits is these digits; else what was decoded stands whole at the front of the array.
use mathlib.Core.Path.{ap, ◌∙◌}
use native.Mathlib.Omega.{arith}
use lib.ListN.{length}
use Rattle.spell.specs.Spell.{decode, all}
use Rattle.wire.specs.Bytes.{is_hex}
use Rattle.offers.proofs.Digits.{spelled_length, spelled_hex, as_spelled, digits_put}
use Rattle.offers.proofs.Makes.{front_is, front_length}
use Rattle.offers.proofs.made.put_spelled.Goals as goal

pub put_digits-requires : goal.put_digits-requires
put_digits-requires c =
    let p = c.requires in
    record {
      s_value = as_spelled _ p.spells_hex c.piece-s.ensures c.if-s-n.true;
      s_in_bounds = omega (arith, c.if-s-n.true, p.n_le_sig_length);
    }

pub returns-then-s-n : goal.returns-then-s-n
returns-then-s-n c = digits_put _ c.requires.spells_hex c.piece-s.ensures c.if-s-n.true c.put_digits.ensures

pub slice_bounds-put_digits-end : goal.slice_bounds-put_digits-end
slice_bounds-put_digits-end c =
    let p = c.requires in
    front_length c.hex-2-1.given c.put_decoded-k.ensures (omega (arith, spelled_length _ p.spells_hex c.piece-s.ensures, p.n_le_sig_length))

pub put_digits-requires-2 : goal.put_digits-requires-2
put_digits-requires-2 c =
    let p = c.requires in
    let n = spelled_length _ p.spells_hex c.piece-s.ensures in
    let f = front_is c.hex-2-1.given c.put_decoded-k.ensures (omega (arith, n, p.n_le_sig_length)) in
    record {
      s_value = ap (all is_hex) f ∙ spelled_hex _ p.spells_hex c.piece-s.ensures;
      s_in_bounds = omega (arith, ap length f, n, p.n_le_sig_length);
    }

pub returns : goal.returns
returns c =
    let p = c.requires in
    let f = front_is c.hex-2-1.given c.put_decoded-k.ensures (omega (arith, spelled_length _ p.spells_hex c.piece-s.ensures, p.n_le_sig_length)) in
    rw (f ∙ ap decode c.piece-s.ensures) at c.put_digits-2.ensures
