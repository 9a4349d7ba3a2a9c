-- Copied where no byte is a control character; else the invariant: the rest of the bytes, spelled out, gives the whole.
use lib.ListN.{drop}
use Rattle.wire.specs.Escape.{json_of}
use Rattle.wire.proofs.Laws.{Rest}
use Rattle.wire.proofs.put_json.Given as goal

abbrev pub invariant-loop-b : goal.invariant-loop-b
invariant-loop-b l = Rest l.initial.out l.at (json_of l.part) l.out l.o (json_of (drop l.b-index l.part))
