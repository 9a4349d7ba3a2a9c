-- How long the EVENT of a slot is, and what is answered.
use Rattle.std.specs.Prelude.{Result, Ok, Err}
use mathlib.Core.Path.{◌≡◌, sym, ap, ◌∙◌}
use mathlib.Core.Bool.{Bool, true, false, false≢true}
use mathlib.Core.List.{List}
use Prim.Native.Nat.{ℕ, ◌+◌, ◌-◌, ◌*◌, ◌^◌, ◌≤◌, ◌<◌, min}
use native.Mathlib.Omega.{arith}
use borrow.Author.Tests.{lt-ltb, leb-true, leb-false}
use lib.Dec.{leb}
use lib.ListN.{length, drop, length-take}
use Rattle.wire.specs.Put.{Puts}
use Rattle.wire.specs.Escape.{escape, json_of, control_count}
use Rattle.wire.proofs.Json.{json_length, count_most}
use Rattle.wire.specs.Field.{Field}
use Rattle.rows.specs.Strings.{part}
use Rattle.spell.specs.Spell.{decode}
use Rattle.message.specs.declared.Span.{Span}
use Rattle.message.specs.Lent.{subscription_row}
use Rattle.event.specs.Lent.{said, most_length}
use Rattle.event.specs.Answer.{or_else, written_number}
use Rattle.event.proofs.Answers.{Outcome, refused, passed, too_short, room_for}
use Rattle.table.specs.Layout.{count_of, slot_at, length_in, text_in}
use Rattle.table.specs.Format.{shown_row}
use Rattle.table.proofs.Shown.{shown_if}
use Rattle.slots.specs.Shown.{shown_number}
use Rattle.reply.specs.Lent.{eose_row, short_row}
use Rattle.program.specs.Respond.{slot_text, slot_event_row, slot_event, slot_event_out}
use Rattle.program.proofs.Sizes.{slot_length}
use Rattle.replies.specs.Inner.{Room}
use Rattle.replies.proofs.Written.{eose_row_lem}
use Rattle.slot_replies.specs.Inner.{held_text}

-- ---- room
-- how long a text is as it stands in a reply, as the code counts it
pub text-size : (s : List ℕ) {t : List ℕ} {k c : ℕ} → Field s 106 2 k → t ≡ part s 112 k → c ≡ control_count t
    → (length t + 5 * c ≡ length (json_of (text_in s))) × (length t + 5 * c ≤ 393210)
unfolding text_in length_in
text-size s {t} {k} {c} f q e =
    let a : text_in s ≡ t = ap (part s 112) (sym f.is) ∙ sym q in
    let l : length t ≤ k = omega (arith, ap length q, length-take k (drop 112 s)) in
    (omega (arith, e, json_length t, ap (λ v. length (json_of v)) a), omega (arith, e, count_most t, f.small))

module _ (s : List ℕ) {n k : ℕ} (m : ℕ) {room : ℕ} (f : k ≡ length (json_of (text_in s))) (e : n ≡ min m most_length) (h : room < 2 ^ 64) where
  pub no_text : room < k + 266 → Room (length (json_of (text_in s)) + m + 266) room false
  no_text g = record { yes = λ q. absurd (false≢true q); no = λ q. omega (arith, f) }

  pub rest-room : k + 266 ≤ room → Room (length (json_of (text_in s)) + m + 266) room (leb n (room - (k + 266)))
  rest-room g = record {
    yes = λ q. let z = leb-true n (room - (k + 266)) q in omega (arith, f, e);
    no = λ q. let z = leb-false n (room - (k + 266)) q in omega (arith, f, e);
  }

-- ---- the row of a slot that is shown
pub shown-number : (r : ℕ) (x y : Result (ℕ × ℕ) ℕ) → x ≡ y → shown_number x ≡ r → shown_number y ≡ r
shown-number r x y e q = ap shown_number (sym e) ∙ q

-- ---- what is answered
abbrev pub AsSent : List ℕ → ℕ → List ℕ → Span → List ℕ → Result ℕ ℕ → List ℕ → Type 0
AsSent b k m s out w o = (w ≡ slot_event b k m s out) × ((written_number w ≡ slot_event_row b k m s out) × (o ≡ slot_event_out b k m s out))

held-text : (b sub : List ℕ) (k : ℕ) → k < count_of b → slot_text b sub k ≡ held_text sub (slot_at b k)
unfolding slot_text held_text
held-text b sub k h = rw (lt-ltb k (count_of b) h)

module _ (b : List ℕ) (k : ℕ) (m : List ℕ) (s : Span) (out : List ℕ) {x : ℕ} (e : x ≡ subscription_row m s) where
  abbrev text : List ℕ
  text = slot_text b (said m s) k

  abbrev rest : ℕ
  rest = or_else (shown_row b k) (short_row text out)

  pub id-refused : (x ≡ 0 → ⊥) → AsSent b k m s out (Err x) out
  unfolding slot_event slot_event_row slot_event_out
  id-refused n = refused text out (eose_row m s) rest (eose_row_lem m s e) n

  module _ (z : x ≡ 0) {y : ℕ} (f : y ≡ shown_row b k) where
    later : {w : Result ℕ ℕ} {o : List ℕ} → Outcome rest text out w o → AsSent b k m s out w o
    unfolding slot_event slot_event_row slot_event_out
    later q = passed text out (eose_row m s) rest (sym (eose_row_lem m s e) ∙ z) q.0 q.1.1

    pub not-shown : (y ≡ 0 → ⊥) → AsSent b k m s out (Err y) out
    not-shown n = later (refused text out (shown_row b k) (short_row text out) f n)

    module _ (v : y ≡ 0) {t id : List ℕ} (et : t ≡ slot_at b k) (ei : id ≡ part m s.start s.len) {r : Bool}
        (room : Room (length (json_of (text_in t)) + length (json_of (escape (decode id))) + 266) (length out) r) where
      size : length text ≡ length (json_of (text_in t)) + length (json_of (escape (decode id))) + 266
      size = let (a, h) = shown_if b k (sym f ∙ v) in slot_length b k a h (said m s) ∙ rw (et, ei)

      pub no_room_lem : r ≡ false → AsSent b k m s out (Err 13) out
      no_room_lem q =
          let (g, h) = too_short text out (let n = room.no q in omega (arith, size)) in
          later (passed text out (shown_row b k) (short_row text out) (sym f ∙ v) g h)

      pub slot-sent : r ≡ true → {n : ℕ} {o : List ℕ} → Puts out 0 (held_text (decode id) t) n o → AsSent b k m s out (Ok n) o
      slot-sent q {n} {o} p =
          let i : held_text (decode id) t ≡ text = rw (et, ei) (sym (held-text b (said m s) k (shown_if b k (sym f ∙ v)).1)) in
          let (g, h) = room_for text out (let n = room.yes q in omega (arith, size)) (rw i at p) in
          later (passed text out (shown_row b k) (short_row text out) (sym f ∙ v) g h)
