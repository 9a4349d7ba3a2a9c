-- Counts that stop at the most that a number holds.
use mathlib.Core.Bool.{Bool}
use mathlib.Core.Path.{◌≡◌, sym, ap, ◌∙◌}
use mathlib.Core.List.{List, [], ◌∷◌}
use Prim.Native.Nat.{ℕ, ◌+◌, ◌*◌, ◌^◌, ◌<◌, min}
use native.Mathlib.Omega.{arith}
use lib.ListN.{length, length-append}
use lib.Signed.{mag}
use mir.Syntax.{w64}
use mir.Val.{to_z, of_z}
use Rattle.wire.specs.Escape.{escape, json_of, control_count}
use Rattle.wire.proofs.Json.{json_length, count_escape}
use Rattle.numeral.specs.Decimal.{digits, decimal}
use Rattle.numeral.proofs.Ways.{back}
use Rattle.spell.specs.Spell.{decode}
use Rattle.rows.specs.Strings.{part}
use Rattle.text.specs.Event.{quoted, tags_text, serialise}
use Rattle.message.specs.declared.Body.{Body}
use Rattle.event.specs.Lent.{natural, lent_tags_at, event_of, text_of}
use Rattle.event.specs.Inner.{in_form, Counts}
use Rattle.event.proofs.Forms.{form_quoted, form_serialise}
use Rattle.event.specs.Lent.{most_length, length_of}

-- five bytes more for each control character
pub json_count : {n c k m : ℕ} (l : List ℕ) → n ≡ length l → c ≡ control_count l → k ≡ min (c * 5) most_length → m ≡ min (n + k) most_length → m ≡ length_of (json_of l)
json_count l e f g h = omega (arith, json_length l)

pub escape_count : {n c k m : ℕ} (l : List ℕ) → n ≡ length (escape l) → c ≡ control_count l → k ≡ min (c * 5) most_length → m ≡ min (n + k) most_length → m ≡ length_of (json_of (escape l))
escape_count l e f g h = json_count (escape l) e (f ∙ sym (count_escape l)) g h

-- a number of 64 bits is not cut off
pub number_count : {n : ℕ} (l : List ℕ) → n ≡ length l → n < 2 ^ 64 → n ≡ length_of l
number_count l e h = omega (arith, e)

-- a string between quotes
pub string_count : {n k a m : ℕ} {p q : List ℕ} (json : Bool) → p ≡ q → k ≡ length_of (in_form json (escape (decode p))) → a ≡ min (n + k) most_length → m ≡ min (a + 2) most_length
    → Counts json n (quoted (decode q)) m
string_count {n} {k} {a} {m} {p} {q} json e f g h =
    let v = in_form json (escape (decode q)) in
    let l = length-append v (34 ∷ []) in
    let z : k ≡ length_of v = f ∙ rw e in
    record { is = omega (arith, ap length (form_quoted json (decode q))) }

-- from nothing
pub none_count : {s : List ℕ} {m : ℕ} (json : Bool) → Counts json 0 s m → m ≡ length_of (in_form json s)
none_count json e = omega (arith, e.is)

-- one more length, which may be cut off itself
cut : (x k a c : ℕ) → a ≡ min x most_length → c ≡ min (a + k) most_length → c ≡ min (x + k) most_length
cut x k a c e f = omega arith

cut_both : (x y k a c : ℕ) → a ≡ min x most_length → k ≡ min y most_length → c ≡ min (a + k) most_length → c ≡ min (x + y) most_length
cut_both x y k a c e f g = omega arith

module _ (json : Bool) (b : List ℕ) (p : Body) {key text : List ℕ} {a c d e k₁ k₂ k₃ k₄ k₅ n r : ℕ} where
  pub text_count : mag p.created_at < 2 ^ 63 → mag p.kind < 2 ^ 63 → key ≡ part b p.pubkey.start p.pubkey.len → text ≡ part b p.content.start p.content.len
      → k₁ ≡ length_of (in_form json (decode key)) → a ≡ min (k₁ + 12) most_length → k₂ ≡ length (decimal (to_z w64 (of_z w64 p.created_at))) → c ≡ min (a + k₂) most_length
      → n ≡ natural (to_z w64 (of_z w64 p.kind)) → k₃ ≡ length (digits n) → d ≡ min (c + k₃) most_length → k₄ ≡ length_of (in_form json (tags_text (lent_tags_at b p.tags))) → e ≡ min (d + k₄) most_length
      → k₅ ≡ length_of (in_form json (escape (decode text))) → r ≡ min (e + k₅) most_length → r ≡ length_of (in_form json (text_of b p))
  unfolding text_of event_of
  text_count ft fk eq eq₁ l₁ m₁ l₂ m₂ en l₃ m₃ l₄ m₄ l₅ m₅ =
      let key' = in_form json (decode (part b p.pubkey.start p.pubkey.len)) in
      let tags = in_form json (tags_text (lent_tags_at b p.tags)) in
      let text' = in_form json (escape (decode (part b p.content.start p.content.len))) in
      let x₁ : k₁ ≡ length_of key' = l₁ ∙ rw eq in
      let x₂ : k₂ ≡ length (decimal p.created_at) = l₂ ∙ rw (back p.created_at ft) in
      let x₃ : k₃ ≡ length (digits (natural p.kind)) = l₃ ∙ rw (en, back p.kind fk) in
      let x₅ : k₅ ≡ length_of text' = l₅ ∙ rw eq₁ in
      let y₁ : a ≡ min (12 + length key') most_length = omega arith in
      let y₂ = cut (12 + length key') k₂ a c y₁ m₂ in
      let y₃ = cut (12 + length key' + k₂) k₃ c d y₂ m₃ in
      let y₄ = cut_both (12 + length key' + k₂ + k₃) (length tags) k₄ d e y₃ l₄ m₄ in
      let y₅ = cut_both (12 + length key' + k₂ + k₃ + length tags) (length text') k₅ e r y₄ x₅ m₅ in
      let z : 12 + length key' + k₂ + k₃ + length tags + length text' ≡ length (in_form json (serialise (event_of b p))) = rw (x₂, x₃) (sym (form_serialise json (event_of b p))) in
      y₅ ∙ ap (λ (l : ℕ). min l most_length) z
