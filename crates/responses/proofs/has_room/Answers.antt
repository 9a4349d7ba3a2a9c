-- By subtraction.
use mathlib.Core.Bool.{false≢true}
use native.Mathlib.Omega.{arith}
use Prim.Native.Nat.{◌-◌}
use borrow.Author.Tests.{leb-true, leb-false}
use Rattle.responses.proofs.has_room.Goals as goal

pub returns-then-room-m : goal.returns-then-room-m
returns-then-room-m c = record { yes = λ e. absurd (false≢true e); no = λ e. omega arith }

pub returns : goal.returns
returns c = let a = c.args in record { yes = λ e. let h = leb-true a.n (a.room - a.m) e in omega (arith, c.if-room-m.false); no = λ e. let h = leb-false a.n (a.room - a.m) e in omega (arith, c.if-room-m.false) }
