-- A zero, else digits: each way is the calls' answers.
use borrow.Author.Rules.{rules}
use Rattle.json_tree.specs.Grammar.{digits_at, int_at}
use Rattle.json_tree.proofs.Ends.{or_else_case}
use Rattle.json_tree.proofs.leaves.int.Goals as goal

pub returns : goal.returns
unfolding int_at
returns c =
    let f = or_else_case {z = digits_at c.args.s.now c.args.at} c.this.result c.or_else.ensures (λ p. search rules) in
    rw (← c.this.ensures) f
