-- The pieces of a slot's EVENT in a row.
use Rattle.std.specs.Prelude.{Ok, Err}
use mathlib.Core.Path.{◌≡◌, refl, sym, ap, ◌∙◌}
use mathlib.Core.Bool.{true, false}
use mathlib.Core.List.{List, [], ◌∷◌, ◌++◌, append_assoc}
use Prim.Native.Nat.{ℕ, ◌+◌, ◌-◌, ◌^◌, ◌<◌}
use native.Mathlib.Omega.{arith}
use lib.Signed.{mag}
use mir.Syntax.{w64}
use mir.Val.{to_z, of_z}
use Rattle.wire.specs.Put.{Puts}
use Rattle.wire.specs.Bytes.{has_control}
use Rattle.wire.specs.Escape.{escape, json_of}
use Rattle.wire.proofs.Json.{json_same}
use Rattle.spell.proofs.Laws.{hex_escape}
use Rattle.wire.specs.Field.{Field}
use Rattle.wire.proofs.Laws.{puts_then}
use Rattle.numeral.specs.Decimal.{digits, decimal}
use Rattle.numeral.proofs.Ways.{back}
use Rattle.rows.specs.Strings.{part}
use Rattle.text.specs.declared.Unread.{Unread}
use Rattle.text.specs.Event.{Event, quoted, tags_text}
use Rattle.text.proofs.Limits.{limits_of}
use Rattle.text.specs.Read.{Read, too_large, wrong_shape, read, read_text}
use Rattle.text.specs.Answer.{text_answer_of}
use Rattle.text.specs.declared.Text.{Text}
use Rattle.text.proofs.RoundTrip.{read_same}
use Rattle.text.proofs.Places.{key_part, tags_part, content_part_lem, read_told}
use Rattle.event.specs.Answer.{hex_of}
use Rattle.event.proofs.Answers.{escape-hex}
use Rattle.event.proofs.Forms.{form_quoted}
use Rattle.table.proofs.Passes.{pubkey_hex}
use Rattle.table.specs.Layout.{id_in, sig_in, length_in, text_in}
use Rattle.wire.specs.Ascii.{ascii}
use Rattle.reply.specs.Replies.{string_json, tags_json, object_text, reply_text}
use Rattle.program.proofs.Sizes.{hex_none, digits_none}
use Rattle.program.specs.Program.{event_replies}
use Rattle.program.specs.Respond.{first_text}
use Rattle.slot_replies.specs.Inner.{numbers_text, held_strings, number_bytes, string_bytes, ReadAs, front_text}
use Rattle.slot_replies.specs.Inner.{back_text, held_text}

-- ---- a string that has no escape and no control character stands as in the text
quoted_same : (v : List ℕ) → escape v ≡ v → has_control v ≡ false → string_json v ≡ quoted v
unfolding string_json quoted
quoted_same v e h = form_quoted true v ∙ rw (e, json_same v h)

-- ---- the puts in a row
module _ (t : List ℕ) (x : Text) (w : ReadAs t x) where
  pub numbers_put : {d o₁ o₂ o₃ o₄ o₅ o : List ℕ} {i a₁ a₂ a₃ a₄ a₅ r : ℕ} {k : List ℕ} → mag x.time < 2 ^ 63 → k ≡ part t 3 66
      → Puts d i (ascii ",\"pubkey\":") a₁ o₁ → Puts o₁ a₁ k a₂ o₂ → Puts o₂ a₂ (ascii ",\"created_at\":") a₃ o₃ → Puts o₃ a₃ (decimal (to_z w64 (of_z w64 x.time))) a₄ o₄
      → Puts o₄ a₄ (ascii ",\"kind\":") a₅ o₅ → Puts o₅ a₅ (digits x.kind) r o → Puts d i (number_bytes t) r o
  unfolding number_bytes
  numbers_put {k = k} ft ek x₁ x₂ x₃ x₄ x₅ x₆ =
      let (e, rd, q) = read_told (read_text t) x w.is in
      let a = read_same t e rd in
      let h = pubkey_hex e.pubkey (limits_of e a.fit).pubkey in
      let fk : k ≡ string_json e.pubkey = ek ∙ key_part t e a ∙ sym (quoted_same e.pubkey (hex_escape e.pubkey h) (hex_none e.pubkey h)) in
      let fz : decimal (to_z w64 (of_z w64 x.time)) ≡ decimal e.time = ap decimal (back x.time ft) ∙ ap (λ v. decimal v.time) q in
      let fn : digits x.kind ≡ digits e.kind = ap (λ v. digits v.kind) q in
      rw rd (puts_then x₁ (puts_then (rw fk at x₂) (puts_then x₃ (puts_then (rw fz at x₄) (puts_then x₅ (rw fn at x₆))))))

  pub strings_put : {d o₁ o₂ o₃ o : List ℕ} {i a₁ a₂ a₃ r : ℕ} {g c : List ℕ} → g ≡ part t x.tags (x.content - 2 - x.tags) → c ≡ part t (x.content - 1) (x.content_len + 2)
      → Puts d i (ascii ",\"tags\":") a₁ o₁ → Puts o₁ a₁ (json_of g) a₂ o₂ → Puts o₂ a₂ (ascii ",\"content\":") a₃ o₃ → Puts o₃ a₃ (json_of c) r o → Puts d i (string_bytes t) r o
  unfolding string_bytes string_json tags_json
  strings_put {g = g} {c = c} eg ec x₁ x₂ x₃ x₄ =
      let (e, rd, q) = read_told (read_text t) x w.is in
      let a = read_same t e rd in
      let fg : g ≡ tags_text e.tags = eg ∙ ap (λ v. part t v.tags (v.content - 2 - v.tags)) q ∙ tags_part t e a in
      let fc : c ≡ quoted e.content = ec ∙ ap (λ v. part t (v.content - 1) (v.content_len + 2)) q ∙ content_part_lem t e a in
      rw rd (puts_then x₁ (puts_then (rw fg at x₂) (puts_then x₃ (rw fc at x₄))))

pub hex_quoted : {d o₁ o₂ o₃ : List ℕ} {i a c r : ℕ} (l : List ℕ) → Puts d i (34 ∷ []) a o₁ → Puts o₁ a (hex_of l) c o₂ → Puts o₂ c (34 ∷ []) r o₃ → Puts d i (string_json (hex_of l)) r o₃
unfolding quoted
hex_quoted l x y z = rw (quoted_same (hex_of l) (escape-hex l) (digits_none l), escape-hex l) (puts_then x (puts_then y z))

pub front_put : {d o₁ o₂ o₃ o₄ : List ℕ} {i a₁ a₂ a₃ r : ℕ} (sub l : List ℕ) → Puts d i (ascii "[\"EVENT\",") a₁ o₁ → Puts o₁ a₁ (json_of (quoted sub)) a₂ o₂
    → Puts o₂ a₂ (ascii ",{\"id\":") a₃ o₃ → Puts o₃ a₃ (string_json l) r o₄ → Puts d i (front_text sub l) r o₄
unfolding front_text string_json
front_put sub l x₁ x₂ x₃ x₄ = puts_then x₁ (puts_then x₂ (puts_then x₃ x₄))

pub back_put : {d o₁ o₂ o₃ : List ℕ} {i a₁ a₂ r : ℕ} (l : List ℕ) → Puts d i (ascii ",\"sig\":") a₁ o₁ → Puts o₁ a₁ (string_json l) a₂ o₂ → Puts o₂ a₂ (ascii "}]") r o₃ → Puts d i (back_text l) r o₃
unfolding back_text
back_put l x₁ x₂ x₃ = puts_then x₁ (puts_then x₂ x₃)

-- ---- a slot
-- the pieces of the whole, as the definition groups them and as the code writes them
regroup : (a b c d e₀ e₁ e₂ e₃ e₄ e₅ e₆ e₇ e₈ e₉ f g h j : List ℕ)
    → a ++ (b ++ ((c ++ (d ++ (e₀ ++ (e₁ ++ (e₂ ++ (e₃ ++ (e₄ ++ (e₅ ++ (e₆ ++ (e₇ ++ (e₈ ++ (e₉ ++ (f ++ (g ++ h)))))))))))))) ++ j))
    ≡ (((a ++ (b ++ (c ++ d))) ++ (e₀ ++ (e₁ ++ (e₂ ++ (e₃ ++ (e₄ ++ e₅)))))) ++ (e₆ ++ (e₇ ++ (e₈ ++ e₉)))) ++ (f ++ (g ++ (h ++ j)))
regroup a b c d e₀ e₁ e₂ e₃ e₄ e₅ e₆ e₇ e₈ e₉ f g h j = simp append_assoc

-- its text, as the code takes it
module _ (s : List ℕ) {t : List ℕ} {n : ℕ} (f : Field s 106 2 n) (q : t ≡ part s 112 n) where
  text_is : text_in s ≡ t
  unfolding text_in length_in
  text_is = ap (part s 112) (sym f.is) ∙ sym q

  slot_is : (sub : List ℕ) (r : Read) → read_text t ≡ r → held_text sub s ≡ first_text (event_replies sub s r)
  unfolding held_text
  slot_is sub r e = ap (λ v. first_text (event_replies sub s (read_text v))) text_is ∙ ap (λ v. first_text (event_replies sub s v)) e

  none_read : (sub : List ℕ) (u : Unread) (r : Read) → read_text t ≡ r → Err u ≡ text_answer_of r → held_text sub s ≡ []
  none_read sub u too_large e z = slot_is sub too_large e
  none_read sub u wrong_shape e z = slot_is sub wrong_shape e
  none_read sub u (read x) e z = absurd (let y : ◌≡◌ {A = ℕ} 0 1 = cc in omega arith)

  pub slot_none : (sub : List ℕ) {u : Unread} {d o : List ℕ} {i r : ℕ} → Err u ≡ text_answer_of (read_text t) → Puts d i [] r o → Puts d i (held_text sub s) r o
  slot_none sub {u} z x = rw (none_read sub u (read_text t) refl z) x

  slot_halves : (sub i g : List ℕ) (e : Event) → i ≡ hex_of (id_in s) → g ≡ hex_of (sig_in s) → read_text t ≡ read e → held_text sub s ≡ ((front_text sub i ++ numbers_text e) ++ held_strings e) ++ back_text g
  unfolding reply_text object_text front_text back_text
  slot_halves sub i g e ei eg rd =
      slot_is sub (read e) rd
      ∙ rw (ei, eg) (regroup (ascii "[\"EVENT\",") (string_json sub) (ascii ",{\"id\":") (string_json (hex_of (id_in s))) (ascii ",\"pubkey\":") (string_json e.pubkey) (ascii ",\"created_at\":")
      (decimal e.time) (ascii ",\"kind\":") (digits e.kind) (ascii ",\"tags\":") (tags_json e.tags) (ascii ",\"content\":") (string_json e.content) (ascii ",\"sig\":")
      (string_json (hex_of (sig_in s))) (ascii "}") (ascii "]"))

  pub slot_put : (sub : List ℕ) {x : Text} {i g : List ℕ} {d o₁ o₂ o₃ o₄ : List ℕ} {j a₁ a₂ a₃ r : ℕ} → Ok x ≡ text_answer_of (read_text t) → i ≡ part s 0 32 → g ≡ part s 32 64
      → Puts d j (front_text sub (hex_of i)) a₁ o₁ → Puts o₁ a₁ (number_bytes t) a₂ o₂ → Puts o₂ a₂ (string_bytes t) a₃ o₃ → Puts o₃ a₃ (back_text (hex_of g)) r o₄ → Puts d j (held_text sub s) r o₄
  unfolding number_bytes string_bytes id_in sig_in
  slot_put sub {x} {i} {g} w ei eg x₁ x₂ x₃ x₄ =
      let (e, rd, q) = read_told (read_text t) x w in
      rw (slot_halves sub (hex_of i) (hex_of g) e (ap hex_of ei) (ap hex_of eg) rd) (puts_then (puts_then (puts_then x₁ (rw rd at x₂)) (rw rd at x₃)) x₄)
