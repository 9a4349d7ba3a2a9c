-- Each return is an octet of the range that the tests tell.
use native.Mathlib.Omega.{arith}
use mathlib.Core.Path.{refl, ap}
use lib.ListN.{length}
use Rattle.spell.proofs.Chars.{at_index, utf8_1, utf8_2, utf8_3, utf8_4}
use Rattle.spell.proofs.steps.octet.Goals as goal

pub returns-then-n-lt128 : goal.returns-then-n-lt128
returns-then-n-lt128 c = let e = utf8_1 c.args.n c.if-n-lt128.true in at_index _ 0 e (omega (arith, ap length e)) refl

pub returns-then-k-eq0 : goal.returns-then-k-eq0
returns-then-k-eq0 c = at_index _ 0 (utf8_2 _ c.if-n-lt128.false c.if-n-lt2048.true) c.if-k-eq0.true refl

pub returns-else-k-eq0 : goal.returns-else-k-eq0
returns-else-k-eq0 c = let e = utf8_2 c.args.n c.if-n-lt128.false c.if-n-lt2048.true in at_index _ 1 e (omega (arith, ap length e)) refl

pub returns-then-k-eq0-2 : goal.returns-then-k-eq0-2
returns-then-k-eq0-2 c = at_index _ 0 (utf8_3 _ c.if-n-lt128.false c.if-n-lt2048.false c.if-n-lt65536.true) c.if-k-eq0-2.true refl

pub returns-then-k-eq1 : goal.returns-then-k-eq1
returns-then-k-eq1 c = at_index _ 1 (utf8_3 _ c.if-n-lt128.false c.if-n-lt2048.false c.if-n-lt65536.true) c.if-k-eq1.true refl

pub returns-else-k-eq1 : goal.returns-else-k-eq1
returns-else-k-eq1 c = let e = utf8_3 c.args.n c.if-n-lt128.false c.if-n-lt2048.false c.if-n-lt65536.true in at_index _ 2 e (omega (arith, ap length e)) refl

pub returns-then-k-eq0-3 : goal.returns-then-k-eq0-3
returns-then-k-eq0-3 c = at_index _ 0 (utf8_4 _ c.if-n-lt128.false c.if-n-lt2048.false c.if-n-lt65536.false) c.if-k-eq0-3.true refl

pub returns-then-k-eq1-2 : goal.returns-then-k-eq1-2
returns-then-k-eq1-2 c = at_index _ 1 (utf8_4 _ c.if-n-lt128.false c.if-n-lt2048.false c.if-n-lt65536.false) c.if-k-eq1-2.true refl

pub returns-then-k-eq2 : goal.returns-then-k-eq2
returns-then-k-eq2 c = at_index _ 2 (utf8_4 _ c.if-n-lt128.false c.if-n-lt2048.false c.if-n-lt65536.false) c.if-k-eq2.true refl

pub returns-else-k-eq2 : goal.returns-else-k-eq2
returns-else-k-eq2 c = let e = utf8_4 c.args.n c.if-n-lt128.false c.if-n-lt2048.false c.if-n-lt65536.false in at_index _ 3 e (omega (arith, ap length e)) refl
