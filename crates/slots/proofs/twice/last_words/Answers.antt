-- The four words.
use Rattle.slots.specs.Marks.{last_words}
use Rattle.slots.proofs.twice.last_words.Goals as goal

pub returns : goal.returns
unfolding last_words
returns c = rw (c.word.ensures, c.word-2.ensures, c.word-3.ensures, c.word-4.ensures)
