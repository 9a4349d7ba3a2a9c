-- A string as it decodes, and what is no string as an empty one.
use mathlib.Core.Path.{refl, sym, ◌∙◌}
use native.Mathlib.Omega.{arith}
use Rattle.event.proofs.Forms.{put_fixed}
use Rattle.event.proofs.Strings.{string_ends, string_piece, string_done, string_empty}
use Rattle.event.proofs.writing.put_string.Goals as goal

pub overflow_add-v : goal.overflow_add-v
overflow_add-v c = let h = string_ends c.args.b.now c.args.v (sym c.string.ensures ∙ c.in-Some.is) in omega arith

pub overflow_sub-n : goal.overflow_sub-n
overflow_sub-n c = let h = string_ends c.args.b.now c.args.v (sym c.string.ensures ∙ c.in-Some.is) in omega arith

pub overflow_sub-n-in-Some : goal.overflow_sub-n-in-Some
overflow_sub-n-in-Some c = let h = string_ends c.args.b.now c.args.v (sym c.string.ensures ∙ c.in-Some.is) in omega arith

pub returns-in-Some : goal.returns-in-Some
returns-in-Some c = string_done c.args.b.now c.args.v (sym c.string.ensures ∙ c.in-Some.is) (string_piece c.args.json c.piece.ensures c.put_in.ensures) c.space.ensures

pub returns-in-None : goal.returns-in-None
returns-in-None c = string_empty c.args.b.now c.args.v (sym c.string.ensures ∙ c.in-None.is) (put_fixed c.args.json _ refl c.put.ensures) c.past.ensures
