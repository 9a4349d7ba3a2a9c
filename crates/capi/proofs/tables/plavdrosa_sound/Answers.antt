-- `sound` tells the branch: `sound_row` is 0 of a sound table and 11 of any other.
use Rattle.capi.proofs.Table.{sound_0, unsound_11}
use Rattle.capi.proofs.tables.plavdrosa_sound.Goals as goal

pub returns-then-sound : goal.returns-then-sound
returns-then-sound c = sound_0 _ c.sound.ensures c.if-sound.true

pub returns : goal.returns
returns c = unsound_11 _ c.sound.ensures c.if-sound.false
