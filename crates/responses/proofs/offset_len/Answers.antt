-- None, or four bytes and the digits.
use native.Mathlib.Omega.{arith}
use Rattle.numeral.proofs.Digits.{digits_20}
use Rattle.responses.proofs.Lines.{offset_length}
use Rattle.responses.proofs.offset_len.Goals as goal

pub overflow_add-result : goal.overflow_add-result
overflow_add-result c = omega (arith, c.natural_len.ensures, digits_20 c.in-Some.p (omega arith))

pub returns-in-Some : goal.returns-in-Some
returns-in-Some c = offset_length c.in-Some.p c.in-Some.is (omega arith) c.natural_len.ensures
