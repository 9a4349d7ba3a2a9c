-- The pieces of the text in a row.
use mathlib.Core.Path.{◌≡◌, sym, ap, ◌∙◌}
use mathlib.Core.List.{List, ◌++◌, append_assoc}
use Prim.Native.Nat.{ℕ, ◌^◌, ◌<◌}
use lib.Signed.{mag}
use mir.Syntax.{w64}
use mir.Val.{to_z, of_z}
use Rattle.wire.specs.Put.{Puts}
use Rattle.wire.proofs.Laws.{puts_then}
use Rattle.numeral.specs.Decimal.{digits, decimal}
use Rattle.numeral.proofs.Ways.{back}
use Rattle.spell.specs.Spell.{decode}
use Rattle.rows.specs.Strings.{part}
use Rattle.text.specs.Event.{opening, closing, comma, bracket, quoted, tags_text, serialise}
use Rattle.message.specs.declared.Body.{Body}
use Rattle.event.specs.Lent.{natural, lent_tags_at, event_of, text_of}
use Rattle.event.specs.Inner.{front_text, back_text}

regroup : (a b c d e f g h : List ℕ) → a ++ (b ++ (c ++ (d ++ (e ++ (f ++ (g ++ h)))))) ≡ (a ++ (b ++ (c ++ (d ++ (e ++ (f ++ g)))))) ++ h
regroup a b c d e f g h = sym (simp append_assoc)

text_halves : (b : List ℕ) (p : Body) → text_of b p ≡ front_text b p ++ back_text b p
unfolding text_of event_of serialise front_text back_text
text_halves b p = regroup opening (decode (part b p.pubkey.start p.pubkey.len)) closing (decimal p.created_at) comma (digits (natural p.kind)) comma (back_text b p)

pub text_put : (b : List ℕ) (p : Body) {d o o' : List ℕ} {i a r : ℕ} → Puts d i (front_text b p) a o → Puts o a (back_text b p) r o' → Puts d i (text_of b p) r o'
text_put b p x y = rw (text_halves b p) (puts_then x y)

module _ (b : List ℕ) (p : Body) {d o₁ o₂ o₃ o₄ o₅ o₆ o₇ : List ℕ} {i a₁ a₂ a₃ a₄ a₅ a₆ r : ℕ} where
  pub front_put : {key : List ℕ} {k : ℕ} → mag p.created_at < 2 ^ 63 → mag p.kind < 2 ^ 63 → key ≡ part b p.pubkey.start p.pubkey.len → k ≡ natural (to_z w64 (of_z w64 p.kind))
      → Puts d i opening a₁ o₁ → Puts o₁ a₁ (decode key) a₂ o₂ → Puts o₂ a₂ closing a₃ o₃ → Puts o₃ a₃ (decimal (to_z w64 (of_z w64 p.created_at))) a₄ o₄
      → Puts o₄ a₄ comma a₅ o₅ → Puts o₅ a₅ (digits k) a₆ o₆ → Puts o₆ a₆ comma r o₇ → Puts d i (front_text b p) r o₇
  unfolding front_text
  front_put {key} {k} ft fk e f x₁ x₂ x₃ x₄ x₅ x₆ x₇ =
      let n : k ≡ natural p.kind = f ∙ ap natural (back p.kind fk) in
      puts_then x₁ (puts_then (rw e at x₂) (puts_then x₃ (puts_then (rw (back p.created_at ft) at x₄) (puts_then x₅ (puts_then (rw n at x₆) x₇)))))

module _ (b : List ℕ) (p : Body) {d o₁ o₂ o₃ o₄ : List ℕ} {i a₁ a₂ a₃ r : ℕ} where
  pub back_put : {text : List ℕ} → text ≡ part b p.content.start p.content.len
      → Puts d i (tags_text (lent_tags_at b p.tags)) a₁ o₁ → Puts o₁ a₁ comma a₂ o₂ → Puts o₂ a₂ (quoted (decode text)) a₃ o₃ → Puts o₃ a₃ bracket r o₄ → Puts d i (back_text b p) r o₄
  unfolding back_text
  back_put e x₁ x₂ x₃ x₄ = puts_then x₁ (puts_then x₂ (puts_then (rw e at x₃) x₄))
