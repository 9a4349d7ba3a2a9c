-- json_tree's definition of a text, row 3, says what RFC 8259's ABNF says with 01's limit: in both directions, for
-- every text.
use mathlib.Core.Path.{◌≡◌}
use mathlib.Core.Logic.{◌↔◌}
use mathlib.Core.List.{List}
use mathlib.Core.Bool.{true}
use Prim.Native.Nat.{ℕ}
use Rattle.json_tree.specs.Tree.{is_text}
use Rattle.grammar.specs.Rfc.{Text}
use Rattle.grammar.proofs.Sound.{text_sound}
use Rattle.grammar.proofs.Complete.{text_taken}

pub same : (s : List ℕ) → is_text s ≡ true ↔ Text s
same s = (text_sound s, text_taken s)
