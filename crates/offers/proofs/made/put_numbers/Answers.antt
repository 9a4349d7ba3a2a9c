-- One put after another.
use native.Mathlib.Omega.{arith}
use Rattle.wire.proofs.Laws.{puts_then}
use Rattle.wire.proofs.Fields.{bits_back}
use Rattle.offers.proofs.Makes.{numbers_put}
use Rattle.offers.proofs.made.put_numbers.Goals as goal

pub returns : goal.returns
returns c =
    let a = c.args in
    numbers_put a.t a.n (bits_back a.t.time (omega arith) c.to_unsigned.ensures) c.d_if.ensures
    c.d_if-2.ensures
    (puts_then (puts_then (puts_then (puts_then c.put_le-a.ensures c.put_le-b.ensures) c.put_le-c.ensures) c.put_le-d.ensures) c.put_le.ensures)
