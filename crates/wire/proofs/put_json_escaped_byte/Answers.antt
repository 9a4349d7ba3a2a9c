-- A control character is its own escape; no other escape has one.
use mathlib.Core.Path.{sym, ◌∙◌}
use Rattle.wire.proofs.Json.{put_own, put_escape}
use Rattle.wire.proofs.put_json_escaped_byte.Goals as goal

pub returns-then-is_control : goal.returns-then-is_control
returns-then-is_control c = put_own _ (sym c.is_control.ensures ∙ c.if-is_control.true) c.put_json_byte.ensures

pub returns : goal.returns
returns c = put_escape _ (sym c.is_control.ensures ∙ c.if-is_control.false) c.put_escaped_byte.ensures
