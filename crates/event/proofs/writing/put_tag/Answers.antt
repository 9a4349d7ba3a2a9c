-- A law for each way out.
use mathlib.Core.Path.{refl, sym, ◌∙◌}
use borrow.Author.Rules.{rules}
use Rattle.json_tree.specs.Tree.{tree_at}
use Rattle.event.specs.Inner.{string_text, strings_text}
use Rattle.event.proofs.Forms.{put_fixed}
use Rattle.event.proofs.Walks.{puts_chain}
use Rattle.event.proofs.Tags.{tag_bare, tag_many, strings_printer}
use Rattle.event.proofs.writing.put_tag.Goals as goal

pub returns-in-Some : goal.returns-in-Some
returns-in-Some c = tag_many c.args.b.now c.args.v (puts_chain c.args.json) (sym c.begun.ensures ∙ c.in-Some.is) (put_fixed c.args.json _ refl c.put-o.ensures) (c.put_items.ensures c.args.json (tree_at c.args.b.now 6) (string_text c.args.b.now) (strings_text c.args.b.now) (strings_printer _) (λ x o v w y q. search rules))

pub returns-in-None : goal.returns-in-None
returns-in-None c = tag_bare c.args.b.now c.args.v (sym c.begun.ensures ∙ c.in-None.is) (put_fixed c.args.json _ refl c.put.ensures) c.past.ensures
