-- Row 9, or the digest.
use Rattle.event.proofs.Answers.{text_large, text-hashed}
use Rattle.event.proofs.tested.hashed.Goals as goal

pub returns-then-t-gt-MOST_TEXT : goal.returns-then-t-gt-MOST_TEXT
returns-then-t-gt-MOST_TEXT c = text_large _ c.if-t-gt-MOST_TEXT.true

pub returns : goal.returns
returns c = text-hashed _ c.if-t-gt-MOST_TEXT.false c.digest_of.ensures.value
