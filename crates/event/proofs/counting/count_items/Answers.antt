use mathlib.Core.Path.{refl, sym, ◌∙◌}
use Rattle.event.proofs.Forms.{count_fixed}
use Rattle.event.proofs.Walks.{left_start, left_gone, left_wrong, left_done, left_more, counts_chain}
use Rattle.event.proofs.counting.count_items.Goals as goal

pub loop-init : goal.loop-init
loop-init g c json value p all print each = left_start _ _ _ _ _ _

pub returns-in-Done : goal.returns-in-Done
returns-in-Done g c json value p all print each = left_done (c.loop.invariant json value p all print each) (counts_chain json) print (each _ _ _ c.one-w.ensures) (sym c.after.ensures ∙ c.in-Done.is) (count_fixed json _ refl c.saturating_add.ensures)

pub returns-in-Wrong : goal.returns-in-Wrong
returns-in-Wrong g c json value p all print each = left_wrong (c.loop.invariant json value p all print each) (counts_chain json) print (each _ _ _ c.one-w.ensures) (sym c.after.ensures ∙ c.in-Wrong.is) _ _

pub loop-preserved : goal.loop-preserved
loop-preserved g c json value p all print each = left_more (c.loop.invariant json value p all print each) (counts_chain json) print (each _ _ _ c.one-w.ensures) (sym c.after.ensures ∙ c.in-More.is) (count_fixed json _ refl c.saturating_add-o.ensures)

pub returns : goal.returns
returns g c json value p all print each = left_gone (c.loop.invariant json value p all print each) c.loop-test.false _ _
