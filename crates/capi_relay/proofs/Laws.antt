-- What a call below answered, as a number and as lent numbers.
use Rattle.std.specs.Prelude.{Result}
use mathlib.Core.Path.{◌≡◌, refl, sym, ap, ◌∙◌}
use mathlib.Core.Bool.{true, false}
use mathlib.Core.List.{List}
use Prim.Native.Nat.{ℕ, ◌≤◌, ◌<◌}
use native.Mathlib.Omega.{arith}
use borrow.Author.Tests.{le-leb, lt-leb, eq-eqb, ne_eqb}
use Rattle.message.specs.declared.Span.{Span}
use Rattle.event.specs.Answer.{written_number}
use Rattle.program.specs.Feed.{turned, turn_row, turned_number}
use Rattle.program.specs.Respond.{sent_events, events_row, sent_number}
use Rattle.reply.specs.Lent.{replied, replied_out}
use Rattle.program.specs.declared.Fed.{Fed}
use Rattle.reply.specs.declared.ReplyParts.{ReplyParts}
use Rattle.capi.specs.Calls.{length_or}
use Rattle.capi_relay.specs.Counts.{used_or, kept_or, written_or, bytes_or, slots_or}
use Rattle.capi_relay.specs.Reply.{reply_form, is_form, reply_from, written_reply, written_reply_out}

-- with m in the lent number
pub length_as : {x y : Result ℕ ℕ} {l : ℕ} (m : ℕ) → l ≡ length_or x m → x ≡ y → l ≡ length_or y m
length_as m e f = e ∙ ap (λ (z : Result ℕ ℕ). length_or z m) f

-- with k, u and w in the lent numbers
pub said_turn : (b line : List ℕ) (n : ℕ) (piece out : List ℕ) {x v : Result Fed ℕ} (k u w : ℕ) → x ≡ turned b line n piece out →
    turned_number x ≡ turn_row b line n piece out → x ≡ v →
    (turned_number v ≡ turn_row b line n piece out)
    × ((kept_or v k ≡ kept_or (turned b line n piece out) k)
    × ((used_or v u ≡ used_or (turned b line n piece out) u) × (written_or v w ≡ written_or (turned b line n piece out) w)))
said_turn b line n piece out {v = v} k u w e f h =
    let z : v ≡ turned b line n piece out = sym h ∙ e in (
      sym (ap turned_number h) ∙ f,
      (ap (λ (y : Result Fed ℕ). kept_or y k) z, (ap (λ (y : Result Fed ℕ). used_or y u) z, ap (λ (y : Result Fed ℕ). written_or y w) z)),
    )

-- with w and n in the lent numbers
pub said_sent : (b ks m : List ℕ) (s : Span) (out : List ℕ) {x v : Result (ℕ × ℕ) ℕ} (w n : ℕ) → x ≡ sent_events b ks m s out →
    sent_number x ≡ events_row b ks m s out → x ≡ v →
    (sent_number v ≡ events_row b ks m s out)
    × ((bytes_or v w ≡ bytes_or (sent_events b ks m s out) w) × (slots_or v n ≡ slots_or (sent_events b ks m s out) n))
said_sent b ks m s out {v = v} w n e f h =
    let z : v ≡ sent_events b ks m s out = sym h ∙ e in
    (sym (ap sent_number h) ∙ f, (ap (λ (y : Result (ℕ × ℕ) ℕ). bytes_or y w) z, ap (λ (y : Result (ℕ × ℕ) ℕ). slots_or y n) z))

-- ---- a reply of numbers, of which the first is f
module _ (l : List ℕ) {f : ℕ} (e : f ≡ reply_form l) where
  pub form_zero : f ≡ 0 → is_form (reply_form l) ≡ false
  form_zero h = rw (eq-eqb (reply_form l) 0 (sym e ∙ h)) refl

  pub form_over : 5 < f → is_form (reply_form l) ≡ false
  form_over h =
      let k : 5 < reply_form l = rw (sym e) h in
      rw (ne_eqb (reply_form l) 0 (λ q. omega arith), lt-leb (reply_form l) 5 k) refl

  pub form_in : (f ≡ 0 → ⊥) → f ≤ 5 → is_form (reply_form l) ≡ true
  form_in n h =
      let k : reply_form l ≤ 5 = rw (sym e) h in
      rw (ne_eqb (reply_form l) 0 (λ q. n (e ∙ q)), le-leb (reply_form l) 5 k) refl

module _ (b l out : List ℕ) where
  pub no_form : (m : ℕ) → is_form (reply_form l) ≡ false →
      (5 ≡ written_number (written_reply b l out)) × ((out ≡ written_reply_out b l out) × (m ≡ length_or (written_reply b l out) m))
  unfolding written_reply written_reply_out
  no_form m h = rw h (refl, (refl, refl))

  some_form : {p : ReplyParts} {x : Result ℕ ℕ} {o : List ℕ} → is_form (reply_form l) ≡ true → p ≡ reply_from (reply_form l) l → x ≡ replied b p out →
      o ≡ replied_out b p out → (x ≡ written_reply b l out) × (o ≡ written_reply_out b l out)
  unfolding written_reply written_reply_out
  some_form h e a c = rw (h, sym e) (a, c)

  pub said_form : {f : ℕ} {p : ReplyParts} {x : Result ℕ ℕ} {o : List ℕ} {r n : ℕ} (m : ℕ) → f ≡ reply_form l → is_form (reply_form l) ≡ true →
      p ≡ reply_from f l → x ≡ replied b p out → o ≡ replied_out b p out → r ≡ written_number x → n ≡ length_or x m →
      (r ≡ written_number (written_reply b l out)) × ((o ≡ written_reply_out b l out) × (n ≡ length_or (written_reply b l out) m))
  said_form m g h e a c r n =
      let z = some_form h (e ∙ ap (λ y. reply_from y l) g) a c in
      (r ∙ ap written_number z.0, (z.1, length_as m n z.0))
