-- By subtraction.
use mathlib.Core.Bool.{false≢true}
use native.Mathlib.Omega.{arith}
use Prim.Native.Nat.{◌-◌}
use borrow.Author.Tests.{leb-true, leb-false}
use Rattle.replies.proofs.has_room.Goals as goal

pub returns-then-room-fixed : goal.returns-then-room-fixed
returns-then-room-fixed c = record { yes = λ e. absurd (false≢true e); no = λ e. omega arith }

pub returns-then-room-fixed-2 : goal.returns-then-room-fixed-2
returns-then-room-fixed-2 c = record { yes = λ e. absurd (false≢true e); no = λ e. omega (arith, c.if-room-fixed.false) }

pub returns : goal.returns
returns c = let a = c.args in record { yes = λ e. let h = leb-true a.n (a.room - a.fixed - a.m) e in omega (arith, c.if-room-fixed.false, c.if-room-fixed-2.false); no = λ e. let h = leb-false a.n (a.room - a.fixed - a.m) e in omega (arith, c.if-room-fixed.false, c.if-room-fixed-2.false) }
