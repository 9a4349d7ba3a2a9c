-- The end, or the place itself.
use Rattle.std.specs.Prelude.{◌≡◌, ℕ, Option, Some, None, unwrap_or, refl}
use mathlib.Core.Path.{◌∙◌}
use Rattle.json_tree.specs.Grammar.{case}
use Rattle.json_tree.specs.Tree.{end_of, tree_at}
use Rattle.event.proofs.writing.past.Goals as goal

or_place : (o : Option ℕ) (v : ℕ) → unwrap_or o v ≡ case o (λ n. n) v
or_place None v = refl
or_place (Some n) v = refl

pub returns : goal.returns
returns c = rw c.value.ensures at c.unwrap_or.ensures ∙ or_place (end_of (tree_at c.args.b.now c.args.d c.args.v)) c.args.v
