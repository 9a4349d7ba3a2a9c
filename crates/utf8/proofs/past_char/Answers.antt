-- The first octet is a turn, and what it wants is tested by past_tails.
use mathlib.Core.Path.{sym, ◌∙◌}
use native.Mathlib.Omega.{arith}
use Rattle.utf8.proofs.Laws.{turn, bad, first, stops, goes}
use Rattle.utf8.proofs.past_char.Goals as goal

pub past_tails-requires : goal.past_tails-requires
past_tails-requires c = record { i_in_bounds = c.requires; small = rw c.in-Tail.is at c.lead.ensures.small }

pub returns-in-Lead : goal.returns-in-Lead
returns-in-Lead c =
    let h = c.requires in
    goes h (omega arith) (omega arith) (turn _ _ _ h _ (sym c.in-Lead.is ∙ c.lead.ensures.value))

pub returns-in-Tail : goal.returns-in-Tail
returns-in-Tail c = first c.requires (sym c.in-Tail.is ∙ c.lead.ensures.value) c.past_tails.ensures

pub returns-in-Bad : goal.returns-in-Bad
returns-in-Bad c =
    let h = c.requires in
    stops h (turn _ _ _ h _ (sym c.in-Bad.is ∙ c.lead.ensures.value) ∙ bad _)
