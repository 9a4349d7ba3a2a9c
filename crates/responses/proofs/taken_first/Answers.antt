-- By the room.
use mathlib.Core.Bool.{false≢true}
use native.Mathlib.Omega.{arith}
use Rattle.responses.proofs.taken_first.Goals as goal

pub returns-then-room-lt-LONGEST_OK : goal.returns-then-room-lt-LONGEST_OK
returns-then-room-lt-LONGEST_OK c = λ q. absurd (false≢true q)

pub returns-then-m-lt3 : goal.returns-then-m-lt3
returns-then-m-lt3 c = λ q. absurd (false≢true q)

pub returns : goal.returns
returns c = λ q. let h = c.if-room-lt-LONGEST_OK.false in omega arith
