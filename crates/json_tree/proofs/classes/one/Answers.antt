-- A byte of the class lies within the text, so the place after it fits.
use native.Mathlib.Omega.{arith}
use borrow.Author.Rules.{rules}
use Rattle.json_tree.specs.Grammar.{one_at}
use Rattle.json_tree.proofs.Bytes.{class_within}
use Rattle.json_tree.proofs.classes.one.Goals as goal

pub overflow_add-result : goal.overflow_add-result
overflow_add-result c =
    let h = class_within c.args.class c.args.s.now c.args.at c.requires (rw (← c.byte.ensures, ← c.is.ensures) c.if-is.true) in
    omega arith

pub byte-requires : goal.byte-requires
unfolding one_at
byte-requires c = search rules

pub is-requires : goal.is-requires
unfolding one_at
is-requires c = search rules

pub returns-then-is : goal.returns-then-is
unfolding one_at
returns-then-is c = simp (← c.byte.ensures, ← c.is.ensures, c.if-is.true)

pub returns-else-is : goal.returns-else-is
unfolding one_at
returns-else-is c = simp (← c.byte.ensures, ← c.is.ensures, c.if-is.false)
