-- The two tests are the definition's.
use Rattle.json_tree.proofs.Bytes.{tests}
use Rattle.json_tree.proofs.between.Goals as goal

pub returns-then-low-b : goal.returns-then-low-b
returns-then-low-b c = search tests

pub returns-else-low-b : goal.returns-else-low-b
returns-else-low-b c = search tests
