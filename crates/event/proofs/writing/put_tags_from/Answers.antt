-- The first tag and those after it, or none.
use mathlib.Core.Path.{refl, sym, ◌∙◌}
use borrow.Author.Rules.{rules}
use Rattle.json_tree.specs.Tree.{tree_at}
use Rattle.event.specs.Inner.{PutsOf, one_tag_text, all_tags_text}
use Rattle.event.proofs.Forms.{put_fixed}
use Rattle.event.proofs.Walks.{puts_chain}
use Rattle.event.proofs.Tags.{some_tags, no_tags, tags_printer}
use Rattle.event.proofs.writing.put_tags_from.Goals as goal

pub returns-in-Some : goal.returns-in-Some
returns-in-Some c = some_tags (PutsOf c.args.json) c.args.b.now c.args.tags (puts_chain c.args.json) (sym c.requires ∙ c.in-Some.is) (put_fixed c.args.json _ refl c.put-o.ensures) (c.put_items.ensures c.args.json (tree_at c.args.b.now 7) (one_tag_text c.args.b.now) (all_tags_text c.args.b.now) (tags_printer _) (λ x o v w y q. search rules))

pub returns-in-None : goal.returns-in-None
returns-in-None c = no_tags (PutsOf c.args.json) c.args.b.now c.args.tags (sym c.requires ∙ c.in-None.is) (put_fixed c.args.json _ refl c.put.ensures)
