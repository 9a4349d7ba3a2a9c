-- A reply from numbers, by the row's first.
use mathlib.Core.Path.{◌≡◌, refl, sym, ◌∙◌}
use mathlib.Core.Bool.{Bool, true, false}
use mathlib.Core.List.{List}
use Prim.Native.Nat.{ℕ}
use borrow.Author.Tests.{eq-eqb, ne_eqb}
use lib.ListN.{drop, get_or}
use Rattle.message.specs.declared.Span.{Span}
use Rattle.message.specs.declared.EventParts.{EventParts}
use Rattle.reply.specs.declared.ReplyParts.{ReplyParts}
use Rattle.reply.specs.declared.ReplyParts.TheVariants as parts
use Rattle.numbers.specs.Parts.{event_from}
use Rattle.capi_relay.specs.Reply.{name_from, reason_from, accepted_in, reply_from}

module _ (l : List ℕ) {v : ℕ} (e : v ≡ get_or l 5 0) where
  pub not_accepted : v ≡ 0 → false ≡ accepted_in l
  not_accepted h = rw (eq-eqb (get_or l 5 0) 0 (sym e ∙ h)) refl

  pub is_accepted_lem : (v ≡ 0 → ⊥) → true ≡ accepted_in l
  is_accepted_lem h = rw (ne_eqb (get_or l 5 0) 0 (λ q. h (e ∙ q))) refl

module _ (f : ℕ) (l : List ℕ) {s : Span} (e : s ≡ name_from l) where
  pub is_ok : {a : Bool} {r : Span} → f ≡ 1 → a ≡ accepted_in l → r ≡ reason_from l → parts.Ok s a r ≡ reply_from f l
  unfolding reply_from
  is_ok h a r = rw (h, e, a, r) refl

  pub is_event_lem : {p : EventParts} → f ≡ 2 → p ≡ event_from (drop 3 l) → parts.Event s p ≡ reply_from f l
  unfolding reply_from
  is_event_lem h p = rw (h, e, p) refl

  pub is_eose : f ≡ 3 → parts.Eose s ≡ reply_from f l
  unfolding reply_from
  is_eose h = rw (h, e) refl

  pub is_closed : {r : Span} → f ≡ 4 → r ≡ reason_from l → parts.Closed s r ≡ reply_from f l
  unfolding reply_from
  is_closed h r = rw (h, e, r) refl

  pub is_notice : (f ≡ 1 → ⊥) → (f ≡ 2 → ⊥) → (f ≡ 3 → ⊥) → (f ≡ 4 → ⊥) → parts.Notice s ≡ reply_from f l
  unfolding reply_from
  is_notice a b c d = rw (ne_eqb f 1 a, ne_eqb f 2 b, ne_eqb f 3 c, ne_eqb f 4 d, e) refl
