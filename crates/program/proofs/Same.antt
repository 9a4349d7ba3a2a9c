-- Messages of at most 8,192 bytes and tables of at most 64 slots: where the numbers stand both tests say the same.
use mathlib.Core.Path.{◌≡◌, sym, ap, ◌∙◌}
use mathlib.Core.List.{List}
use Prim.Native.Nat.{ℕ, ◌≤◌}
use native.Mathlib.Omega.{arith}
use borrow.Author.Tests.{le-ltb}
use lib.Dec.{ltb}
use lib.ListN.{length}
use Rattle.wire.specs.Limits.{most_message}
use Rattle.rows.specs.Rows.{row1, text_row_if, text_row}
use Rattle.shape.specs.Rows.{message_row_if, message_row}
use Rattle.table.proofs.StillSound.{same_sound}
use Rattle.program.specs.Program.{request_replies_if, request_replies}
use Rattle.program.specs.Respond.{events_row_if, events_row}
use Rattle.program.specs.Claims.Program.{SameRows, MessageBorder, SameRequest}
use Rattle.program.specs.Claims.Respond.{SameEvents}

same_long : (m : List ℕ) → length m ≤ 8192 → row1 m ≡ ltb 8192 (length m)
same_long m h = le-ltb most_message (length m) (omega (arith, h)) ∙ sym (le-ltb 8192 (length m) h)

pub message_border : MessageBorder
message_border m = (λ l. rw l, λ l. rw l)

pub same_rows : SameRows
unfolding text_row message_row
same_rows m h = (ap (λ t. text_row_if t m) (same_long m h), ap (λ t. message_row_if t m) (same_long m h))

pub same_request : SameRequest
unfolding request_replies
same_request b m sub v h = ap (λ s. request_replies_if s b m sub v) (same_sound b h)

pub same_events : SameEvents
unfolding events_row
same_events b ks m s out h = ap (λ t. events_row_if t b ks m s out) (same_sound b h)
