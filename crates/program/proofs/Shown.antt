-- An accepted REQ over a sound table: an EVENT for each slot number, then EOSE. Its numbers are of held slots, and each
-- held text reads.
use mathlib.Core.Path.{◌≡◌, refl, ap}
use mathlib.Core.Bool.{true}
use mathlib.Core.List.Memᴰ
use mathlib.Core.List.{List, [], ◌∷◌}
use Prim.Native.Nat.{ℕ, suc, ◌<◌}
use lib.ListN.{length}
use Rattle.text.specs.Event.{Event}
use Rattle.text.specs.Read.{read, read_text}
use Rattle.event.specs.Lent.{said}
use Rattle.law.specs.Lists.{◌∈◌}
use Rattle.table.specs.Layout.{count_of, slot_at, text_in}
use Rattle.table.specs.Sound.{sound}
use Rattle.query.specs.Answer.{answer_list, filters_meant}
use Rattle.query.proofs.Tables.{slot_matches, answer_means}
use Rattle.reply.specs.Replies.{Reply}
use Rattle.program.specs.Program.{events_of, request_replies, replies_to, table_after}
use Rattle.program.specs.Claims.Program.{Shows, no_slot, slot, ReadRequest, AnswersHeld}

pub answers_held : AnswersHeld
answers_held b fs k m = (((answer_means b fs).exactly k).0 m).0

pub slot_reads : (b : List ℕ) (k : ℕ) → sound b ≡ true → k < count_of b → (e : Event) × (read_text (text_in (slot_at b k)) ≡ read e)
slot_reads b k s h = let (e, r, f) = slot_matches b s k h in (e, r)

-- ---- the replies
shows : (b sub : List ℕ) → sound b ≡ true → (ks : List ℕ) → ((k : ℕ) → k ∈ ks → k < count_of b) → Shows b sub ks (events_of b sub ks)
unfolding events_of
shows b sub s [] h = no_slot
shows b sub s (k ∷ ks) h =
    let (e, r) = slot_reads b k s (h k (Memᴰ.head refl)) in
    rw r (slot r (shows b sub s ks (λ j i. h j (Memᴰ.tail i))))

shows_length : (b sub : List ℕ) (ks : List ℕ) (rs : List Reply) → Shows b sub ks rs → length rs ≡ length ks
shows_length b sub ks rs no_slot = refl
shows_length b sub ks rs (slot {ks = js} {rs = qs} r s) = ap suc (shows_length b sub js qs s)

pub read_request : ReadRequest
unfolding replies_to table_after request_replies
read_request b m r e s =
    let ks = answer_list b (filters_meant m r.filters) in
    let sub = said m r.subscription in
    let w = shows b sub s ks (answers_held b (filters_meant m r.filters)) in
    (events_of b sub ks, w, shows_length b sub ks (events_of b sub ks) w, rw (e, s), rw e)
