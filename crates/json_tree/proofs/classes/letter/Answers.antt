-- A letter lies within the text, so the place after it fits.
use native.Mathlib.Omega.{arith}
use borrow.Author.Rules.{rules}
use Rattle.json_tree.specs.Grammar.{one_at}
use Rattle.json_tree.specs.declared.Class.TheVariants.{Short}
use Rattle.json_tree.proofs.Bytes.{short_not_zero, class_within}
use Rattle.json_tree.proofs.classes.letter.Goals as goal

pub byte-requires : goal.byte-requires
unfolding one_at
byte-requires c = search rules

pub short-requires : goal.short-requires
unfolding one_at
short-requires c = search rules

pub overflow_add-result : goal.overflow_add-result
unfolding one_at
overflow_add-result c = let h = class_within Short c.args.s.now c.args.at short_not_zero (rw (← c.byte.ensures, ← c.short.ensures) c.if-short.true) in omega arith

pub returns-then-short : goal.returns-then-short
unfolding one_at
returns-then-short c = simp (← c.byte.ensures, ← c.short.ensures, c.if-short.true)

pub returns-else-short : goal.returns-else-short
unfolding one_at
returns-else-short c = simp (← c.byte.ensures, ← c.short.ensures, c.if-short.false)
