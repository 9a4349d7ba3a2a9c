-- Where four bytes stand for themselves, four characters are passed.
use mathlib.Core.Path.{sym, ◌∙◌}
use borrow.Author.Rules.{rules}
use Rattle.json_tree.proofs.Ends.{all_both, chars_four}
use Rattle.json_tree.proofs.classes.own4.Goals as goal

pub returns : goal.returns
returns c = record {
  same = λ t.
      let (x, d) = all_both _ _ t in
      let (y, e) = all_both _ _ x in
      let (a, b) = all_both _ _ y in
      chars_four _ _ (search rules) (sym c.own.ensures ∙ a) (sym c.own-2.ensures ∙ b) (sym c.own-3.ensures ∙ e) (sym c.own-4.ensures ∙ d);
}
