use native.Mathlib.Omega.{arith}
use borrow.Author.Rules.{rules}
use lib.ListN.{length-set}
use Rattle.matching.proofs.held.Ways.{hex_start, hex_more, hex_end}
use Rattle.matching.proofs.held.put_hex.Goals as goal

pub loop-i-preserved : goal.loop-i-preserved
loop-i-preserved c =
    let l = c.loop-i in
    (search rules, simp length-set l.invariant.1, hex_more _ _ l.i l.invariant.2 (omega arith) (omega arith) c.hex_digit.ensures c.hex_digit-in-loop-i.ensures)

pub returns : goal.returns
returns c = let l = c.loop-i in hex_end _ _ l.i l.invariant.2 (omega arith) (omega arith)

pub loop-i-init : goal.loop-i-init
loop-i-init c = (search rules, search rules, hex_start)

pub hex_digit-requires : goal.hex_digit-requires
hex_digit-requires c = omega (arith, c.type_inv.id c.loop-i.i)

pub bounds-hex-i-in-loop-i : goal.bounds-hex-i-in-loop-i
bounds-hex-i-in-loop-i c = simp length-set (omega arith)
