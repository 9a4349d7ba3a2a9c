-- The first tag and those after it, or none.
use mathlib.Core.Path.{refl, sym, ◌∙◌}
use mathlib.Core.List.{[], ◌∷◌}
use Rattle.json_tree.specs.Tree.{tree_at}
use Rattle.event.specs.Inner.{Counts, one_tag_text, all_tags_text}
use borrow.Author.Rules.{rules}
use Rattle.event.proofs.Forms.{count_fixed}
use Rattle.event.proofs.Walks.{counts_chain}
use Rattle.event.proofs.Tags.{some_tags, no_tags, tags_printer}
use Rattle.event.proofs.Lengths.{none_count}
use Rattle.event.proofs.counting.tags_len.Goals as goal

pub returns-in-Some : goal.returns-in-Some
returns-in-Some c = none_count c.args.json (some_tags (Counts c.args.json) c.args.b.now c.args.tags (counts_chain c.args.json) (sym c.first_tag.ensures ∙ c.in-Some.is) (count_fixed c.args.json (91 ∷ []) refl refl) (c.count_items.ensures c.args.json (tree_at c.args.b.now 7) (one_tag_text c.args.b.now) (all_tags_text c.args.b.now) (tags_printer _) (λ o v w q. search rules)))

pub returns-in-None : goal.returns-in-None
returns-in-None c = none_count c.args.json (no_tags (Counts c.args.json) c.args.b.now c.args.tags (sym c.first_tag.ensures ∙ c.in-None.is) (count_fixed c.args.json (91 ∷ 93 ∷ []) refl refl))
