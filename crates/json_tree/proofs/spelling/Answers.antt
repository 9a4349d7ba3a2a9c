-- The characters from the start on end where the slice ends.
use Rattle.json_tree.proofs.spelling.Goals as goal

pub returns : goal.returns
returns c = simp c.chars.ensures
