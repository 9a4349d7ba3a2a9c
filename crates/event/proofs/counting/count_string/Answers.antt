-- A string with two quotes, and what is no string as an empty one.
use mathlib.Core.Path.{refl, sym, ◌∙◌}
use native.Mathlib.Omega.{arith}
use Rattle.event.proofs.Strings.{string_ends, string_done, string_empty}
use Rattle.event.proofs.Forms.{count_fixed}
use Rattle.event.proofs.Lengths.{string_count}
use Rattle.event.proofs.counting.count_string.Goals as goal

pub overflow_add-v : goal.overflow_add-v
overflow_add-v c = let h = string_ends c.args.b.now c.args.v (sym c.string.ensures ∙ c.in-Some.is) in omega arith

pub overflow_sub-e : goal.overflow_sub-e
overflow_sub-e c = let h = string_ends c.args.b.now c.args.v (sym c.string.ensures ∙ c.in-Some.is) in omega arith

pub overflow_sub-e-in-Some : goal.overflow_sub-e-in-Some
overflow_sub-e-in-Some c = let h = string_ends c.args.b.now c.args.v (sym c.string.ensures ∙ c.in-Some.is) in omega arith

pub returns-in-Some : goal.returns-in-Some
returns-in-Some c = string_done c.args.b.now c.args.v (sym c.string.ensures ∙ c.in-Some.is) (string_count c.args.json c.piece.ensures c.string_len-k.ensures c.saturating_add.ensures c.saturating_add-in-Some.ensures) c.space.ensures

pub returns-in-None : goal.returns-in-None
returns-in-None c = string_empty c.args.b.now c.args.v (sym c.string.ensures ∙ c.in-None.is) (count_fixed c.args.json _ refl c.saturating_add-in-None.ensures) c.past.ensures
