-- The least rank of five fields is the lowest row that one of them breaks; time and kind fit in 64 bits.
use borrow.Author.Rules.{rules}
use mir.Syntax.{w64}
use mir.ValLaws.{to_z-of_z}
use Rattle.message.proofs.Ranks.{body_lowest}
use Rattle.message.proofs.lent.body_rank.Goals as goal

pub returns : goal.returns
returns c =
    let p = c.args.p in
    body_lowest _ _ c.least.ensures c.least-kind.ensures c.least-texts.ensures c.least-tags.ensures
    (simp (to_z-of_z w64 p.created_at (record { sfits = search rules })) at c.number_rank-2.ensures)
    (simp (to_z-of_z w64 p.kind (record { sfits = search rules })) at c.number_rank.ensures)
    c.hex_rank.ensures c.value_rank.ensures c.string_rank.ensures
