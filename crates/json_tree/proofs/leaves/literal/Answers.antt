-- The three names in turn.
use mathlib.Core.Path.{ap, ◌∙◌}
use borrow.Author.Rules.{rules}
use Rattle.std.specs.Prelude.{Option, Some}
use Prim.Native.Nat.{ℕ}
use Rattle.json_tree.specs.Grammar.{case, null_name, true_name, word_at, literal_at}
use Rattle.json_tree.proofs.Ends.{or_else_case, case_assoc}
use Rattle.json_tree.proofs.leaves.literal.Goals as goal

pub returns : goal.returns
unfolding literal_at
returns c =
    let s = c.args.s.now in
    let at = c.args.at in
    let f = or_else_case {z = word_at s null_name at} c.word.result c.or_else.ensures (λ p. search rules) in
    let g = or_else_case {z = word_at s true_name at} c.or_else.result c.or_else-2.ensures (λ p. search rules) in
    g ∙ ap (λ (o : Option ℕ). case o Some (word_at s true_name at)) f ∙ case_assoc c.word.result (word_at s null_name at) (word_at s true_name at) ∙ simp (← c.word.ensures)
