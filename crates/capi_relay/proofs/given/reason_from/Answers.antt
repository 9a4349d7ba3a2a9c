-- `behind` gives the numbers from 3 on, and `span_from` the span of the first two of them.
use mathlib.Core.Path.{ap, ◌∙◌}
use mathlib.Core.List.{List}
use Prim.Native.Nat.{ℕ}
use Rattle.numbers.specs.Parts.{span_from}
use Rattle.capi_relay.proofs.given.reason_from.Goals as goal

pub returns : goal.returns
returns c = c.span_from.ensures ∙ ap (λ (l : List ℕ). span_from l 0) c.behind.ensures
