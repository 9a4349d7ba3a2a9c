-- The four words.
use Rattle.slots.specs.Marks.{first_words}
use Rattle.slots.proofs.twice.first_words.Goals as goal

pub returns : goal.returns
unfolding first_words
returns c = rw (c.word_at.ensures, c.word_at-2.ensures, c.word_at-3.ensures, c.word_at-4.ensures)
