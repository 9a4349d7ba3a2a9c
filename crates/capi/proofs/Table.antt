-- Laws of the calls on a table: an answer of the call below says what the numbers are.
use Rattle.std.specs.Prelude.{Result, Err}
use mathlib.Core.Path.{◌≡◌, refl, sym, ap, ◌∙◌}
use mathlib.Core.Bool.{Bool, true, false}
use mathlib.Core.List.{List}
use Prim.Native.Nat.{ℕ}
use Rattle.shape.specs.declared.Refusal.{Refusal}
use Rattle.message.specs.declared.EventParts.{EventParts}
use Rattle.table.specs.Sound.{sound}
use Rattle.table.specs.Format.{shown_row}
use Rattle.table.specs.Offer.{as_parts, answer, next}
use Rattle.table.specs.declared.Offered.{Offered}
use Rattle.table.specs.declared.Offered.TheVariants as offered
use Rattle.slots.specs.Shown.{shown_at, shown_number}
use Rattle.capi.specs.Calls.{offset_or}
use Rattle.capi.specs.Table.{sound_row, offered_number, offered_offset, shown_place, shown_length}

pub sound_0 : (t : List ℕ) {x : Bool} → x ≡ sound t → x ≡ true → 0 ≡ sound_row t
unfolding sound_row
sound_0 t e h = rw (sym e ∙ h) refl

pub unsound_11 : (t : List ℕ) {x : Bool} → x ≡ sound t → x ≡ false → 11 ≡ sound_row t
unfolding sound_row
unsound_11 t e h = rw (sym e ∙ h) refl

pub offered_as : (t b : List ℕ) {p q : EventParts} {x : Result Offered Refusal} {o : List ℕ} {r : ℕ} → p ≡ q → r ≡ offered_number x → x ≡ answer t (as_parts b p) →
    o ≡ next t (as_parts b p) → (r ≡ offered_number (answer t (as_parts b q))) × (o ≡ next t (as_parts b q))
offered_as t b e f g h =
    (f ∙ ap offered_number (g ∙ ap (λ (y : EventParts). answer t (as_parts b y)) e), h ∙ ap (λ (y : EventParts). next t (as_parts b y)) e)

-- a refusal's offset, and an answer told, with k in the lent number
pub offset_told : (k : ℕ) {x : Result Offered Refusal} {r : Refusal} {o : ℕ} → x ≡ Err r → o ≡ offset_or r k → o ≡ offered_offset x k
offset_told k e f = f ∙ ap (λ (z : Result Offered Refusal). offered_offset z k) (sym e)

pub offered_told : (k : ℕ) {x y : Result Offered Refusal} {r o : ℕ} → x ≡ y → r ≡ offered_number x → o ≡ offered_offset x k → (r ≡ offered_number y) × (o ≡ offered_offset y k)
offered_told k e f g = (f ∙ ap offered_number e, g ∙ ap (λ (z : Result Offered Refusal). offered_offset z k) e)

-- what is answered and left, with m and n in the lent numbers
pub said_place : (t : List ℕ) (k : ℕ) {x v : Result (ℕ × ℕ) ℕ} (m n : ℕ) → x ≡ shown_at t k → shown_number x ≡ shown_row t k → x ≡ v →
    (shown_number v ≡ shown_row t k) × ((shown_place v m ≡ shown_place (shown_at t k) m) × (shown_length v n ≡ shown_length (shown_at t k) n))
said_place t k m n e f h =
    (sym (ap shown_number h) ∙ f, (ap (λ (z : Result (ℕ × ℕ) ℕ). shown_place z m) (sym h ∙ e), ap (λ (z : Result (ℕ × ℕ) ℕ). shown_length z n) (sym h ∙ e)))
