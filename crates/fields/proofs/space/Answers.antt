-- The first space, or the end: `space_in` is where std looks for it.
use Rattle.std.specs.Prelude.{ℕ, Option, length}
use Rattle.std.specs.Option.{unwrap_or}
use mathlib.Core.Path.{ap, ◌∙◌}
use Rattle.fields.proofs.Fields.{space_found}
use Rattle.fields.proofs.space.Goals as goal

pub returns-clause-value : goal.returns-clause-value
returns-clause-value c = space_found c.args.line.now (c.unwrap_or.ensures ∙ ap (λ (x : Option ℕ). unwrap_or x (length c.args.line.now)) c.first_space.ensures)
