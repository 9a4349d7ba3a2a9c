-- A remainder; all numbers are below 2^64.
use Rattle.slots.specs.Marks.{key_number}
use Rattle.slots.proofs.twice.key_number.Goals as goal

pub returns : goal.returns
unfolding key_number
returns c = rw (c.last_words-a.ensures, c.first_words-b.ensures, c.word.ensures)
