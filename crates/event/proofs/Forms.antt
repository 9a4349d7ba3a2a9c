-- What is escaped, in the text or in a reply: piece by piece, fixed bytes, and how long it is.
use mathlib.Core.Bool.{Bool, true, false, ◌||◌}
use mathlib.Core.Path.{◌≡◌, refl, ◌∙◌}
use mathlib.Core.List.{List, [], ◌∷◌, ◌++◌}
use Prim.Native.Nat.{ℕ, suc, ◌+◌, ◌/◌, ◌%◌, ◌≤◌, ◌<◌, min}
use native.Mathlib.Omega.{arith}
use lib.IntN.{ℤ, pos, negsuc}
use lib.ListN.{length}
use Rattle.wire.specs.Bytes.{is_control, has_control}
use Rattle.wire.specs.Put.{Puts}
use Rattle.wire.specs.Escape.{escape, control_count}
use Rattle.wire.proofs.Escapes.{control_high}
use Rattle.wire.proofs.Json.{json_append, json_same, json_length, count_none, count_append}
use Rattle.numeral.specs.Decimal.{digits, decimal}
use Rattle.numeral.proofs.Digits.{digits_one, digits_split, by_digits}
use Rattle.text.specs.Event.{Event, opening, closing, comma, bracket, quoted, tags_text, serialise}
use Rattle.text.proofs.RoundTrip.{serialise_length_lem}
use Rattle.event.specs.Lent.{most_length}
use Rattle.event.specs.Inner.{in_form, Counts}

-- ---- pieces in a row, and bytes that have no control character
pub form_append : (json : Bool) (a b : List ℕ) → in_form json (a ++ b) ≡ in_form json a ++ in_form json b
form_append true a b = json_append a b
form_append false a b = refl

pub form_fixed : (json : Bool) (l : List ℕ) → has_control l ≡ false → in_form json l ≡ l
form_fixed true l h = json_same l h
form_fixed false l h = refl

pub put_fixed : {d o : List ℕ} {i r : ℕ} (json : Bool) (l : List ℕ) → has_control l ≡ false → Puts d i l r o → Puts d i (in_form json l) r o
put_fixed json l h p = rw (form_fixed json l h) p

pub count_fixed : {n m : ℕ} (json : Bool) (l : List ℕ) → has_control l ≡ false → m ≡ min (n + length l) most_length → Counts json n l m
count_fixed json l h e = record { is = rw (form_fixed json l h) e }

-- a string between its quotes
pub form_quoted : (json : Bool) (v : List ℕ) → in_form json (quoted v) ≡ 34 ∷ (in_form json (escape v) ++ (34 ∷ []))
unfolding quoted
form_quoted json v =
    form_append json (34 ∷ []) (escape v ++ (34 ∷ []))
    ∙ rw (form_append json (escape v) (34 ∷ []), form_fixed json (34 ∷ []) refl)

-- ---- numbers have none
none_append : (a b : List ℕ) → has_control a ≡ false → has_control b ≡ false → has_control (a ++ b) ≡ false
none_append [] b p q = q
none_append (x ∷ a) b p q = go (is_control x) p (λ h. none_append a b h q)
  where
    go : (t : Bool) → (t || has_control a) ≡ false → (has_control a ≡ false → has_control (a ++ b) ≡ false) → (t || has_control (a ++ b)) ≡ false
    go true h ih = h
    go false h ih = ih h

none_byte : (x : ℕ) → 0x20 ≤ x → has_control (x ∷ []) ≡ false
none_byte x h = rw (control_high x h)

pub digits_none : (n : ℕ) → has_control (digits n) ≡ false
digits_none = by_digits (λ n. has_control (digits n) ≡ false) one more
  where
    one : (n : ℕ) → n < 10 → has_control (digits n) ≡ false
    one n h = rw (digits_one n h) (none_byte (48 + n) (omega arith))

    more : (n : ℕ) → 10 ≤ n → has_control (digits (n / 10)) ≡ false → has_control (digits n) ≡ false
    more n h p = rw (digits_split n h) (none_append (digits (n / 10)) ((48 + n % 10) ∷ []) p (none_byte (48 + n % 10) (omega arith)))

pub decimal_none : (z : ℤ) → has_control (decimal z) ≡ false
unfolding decimal
decimal_none (pos n) = digits_none n
decimal_none (negsuc n) = digits_none (suc n)

-- ---- the whole text
count_quoted : (v : List ℕ) → control_count (quoted v) ≡ control_count (escape v)
unfolding quoted control_count
count_quoted v = omega (arith, count_append (escape v) (34 ∷ []))

pub count_serialise : (e : Event) → control_count (serialise e) ≡ control_count e.pubkey + control_count (tags_text e.tags) + control_count (escape e.content)
unfolding serialise
count_serialise e =
    simp count_append
    (omega (
      arith,
      count_none opening refl,
      count_none closing refl,
      count_none comma refl,
      count_none bracket refl,
      count_none (decimal e.time) (decimal_none e.time),
      count_none (digits e.kind) (digits_none e.kind),
      count_quoted e.content,
    ))

pub form_serialise : (json : Bool) (e : Event) → length (in_form json (serialise e))
    ≡ 12 + length (in_form json e.pubkey) + length (decimal e.time) + length (digits e.kind) + length (in_form json (tags_text e.tags)) + length (in_form json (escape e.content))
form_serialise false e = serialise_length_lem e
form_serialise true e =
    omega (
      arith,
      serialise_length_lem e,
      count_serialise e,
      json_length (serialise e),
      json_length e.pubkey,
      json_length (tags_text e.tags),
      json_length (escape e.content),
    )
