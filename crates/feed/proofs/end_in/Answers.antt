-- The first byte that ends a line, or none.
use mathlib.Core.Path.{◌≡◌, ◌∙◌}
use Prim.Native.Nat.{ℕ, ◌<◌}
use borrow.Author.Rules.{rules}
use lib.ListN.{length, get_or}
use Rattle.std.specs.Option.{MatchOption}
use Rattle.std.proofs.iter.runs.Made.{chains}
use Rattle.feed.proofs.Lines.{end_first}
use Rattle.feed.proofs.end_in.Goals as goal

pub returns : goal.returns
returns c =
    let t = c.args.text.now in
    let found : MatchOption c.position.result ((j : ℕ) → j < length t → get_or t j 0 ≡ 10 → ⊥) (λ e. (e < length t) × (get_or t e 0 ≡ 10) × ((j : ℕ) → j < e → get_or t j 0 ≡ 10 → ⊥)) = search (rules, chains) in
    c.unwrap_or.ensures ∙ end_first t _ found
