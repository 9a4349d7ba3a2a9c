-- One turn over what is looked at, of which a line stands in one place.
use Rattle.feed.proofs.Lines.{looked_whole}
use Rattle.feed.proofs.turn.Goals as goal

pub turn_over-requires : goal.turn_over-requires
turn_over-requires c = rw c.looked_at.ensures (looked_whole _ _)

pub returns : goal.returns
returns c =
    let e = c.turn_over.ensures in
    let l = c.looked_at.ensures in
    record {
      value = rw l at e.value;
      result_value = rw l at e.result_value;
      table_after = rw l at e.table_after;
      line_after = rw l at e.line_after;
      out_after = rw l at e.out_after;
    }
