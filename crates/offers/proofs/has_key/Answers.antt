-- d that ends otherwise is another.
use mathlib.Core.Path.{sym, ◌∙◌}
use borrow.Author.Tests.{ne_eqb}
use Rattle.offers.proofs.Held.{other_end}
use Rattle.offers.proofs.has_key.Goals as goal

pub returns-else-d_last-last : goal.returns-else-d_last-last
returns-else-d_last-last c = ne_eqb _ _ c.if-d_last-last.false ∙ other_end _ _ (λ e. c.if-d_last-last.false (c.d_last.ensures ∙ e ∙ sym c.requires))
