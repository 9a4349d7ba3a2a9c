-- One put after another.
use native.Mathlib.Omega.{arith}
use Rattle.wire.proofs.Laws.{puts_then}
use Rattle.offers.specs.Inner.{head_of}
use Rattle.offers.proofs.Digits.{room_left}
use Rattle.offers.proofs.made.put_head.Goals as goal

pub put_spelled-a-requires : goal.put_spelled-a-requires
put_spelled-a-requires c = let p = c.requires in record { spells_hex = p.spells_hex.0; n_le_sig_length = (omega arith, omega (arith, p.slot_size_in_bounds)) }

pub put_spelled-c-requires : goal.put_spelled-c-requires
put_spelled-c-requires c =
    let p = c.requires in
    record {
      spells_hex = p.spells_hex.1;
      n_le_sig_length = (omega arith, room_left _ p.spells_hex.0 (omega (arith, p.slot_size_in_bounds)) c.put_spelled-a.ensures);
    }

pub returns : goal.returns
unfolding head_of
returns c = puts_then (puts_then c.put_spelled-a.ensures c.put_spelled-c.ensures) c.put_numbers.ensures
