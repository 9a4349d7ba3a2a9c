use mathlib.Core.Path.{refl, sym, ◌∙◌}
use Rattle.event.proofs.Forms.{put_fixed}
use Rattle.event.proofs.Walks.{left_start, left_gone, left_wrong, left_done, left_more, puts_chain}
use Rattle.event.proofs.writing.put_items.Goals as goal

pub loop-init : goal.loop-init
loop-init g c json value p all print each = left_start _ _ _ _ _ _

pub returns-in-Done : goal.returns-in-Done
returns-in-Done g c json value p all print each = left_done (c.loop.invariant json value p all print each) (puts_chain json) print (each _ _ _ _ _ c.one-w.ensures) (sym c.after.ensures ∙ c.in-Done.is) (put_fixed json _ refl c.put-at.ensures)

pub returns-in-Wrong : goal.returns-in-Wrong
returns-in-Wrong g c json value p all print each = left_wrong (c.loop.invariant json value p all print each) (puts_chain json) print (each _ _ _ _ _ c.one-w.ensures) (sym c.after.ensures ∙ c.in-Wrong.is) _ _

pub loop-preserved : goal.loop-preserved
loop-preserved g c json value p all print each = left_more (c.loop.invariant json value p all print each) (puts_chain json) print (each _ _ _ _ _ c.one-w.ensures) (sym c.after.ensures ∙ c.in-More.is) (put_fixed json _ refl c.put-o.ensures)

pub returns : goal.returns
returns g c json value p all print each = left_gone (c.loop.invariant json value p all print each) c.loop-test.false _ _
