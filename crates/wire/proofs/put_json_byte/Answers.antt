-- A put of the byte, or of \u00 and two digits.
use mathlib.Core.Path.{sym, ◌∙◌}
use borrow.Author.Tests.{not-true, not-false}
use Rattle.wire.proofs.Json.{put_kept, put_spelled}
use Rattle.wire.proofs.put_json_byte.Goals as goal

pub returns-then-not-is_control : goal.returns-then-not-is_control
returns-then-not-is_control c = put_kept _ (sym c.is_control.ensures ∙ not-true _ c.if-not-is_control.true-raw) c.put_byte.ensures

pub returns : goal.returns
returns c = put_spelled _ _ _ (sym c.is_control.ensures ∙ not-false _ c.if-not-is_control.false-raw) c.hex_digit.ensures c.hex_digit-2.ensures
    c.put-n.ensures c.put_byte-m.ensures c.put_byte-2.ensures
