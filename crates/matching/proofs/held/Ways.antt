-- What the fields and the text of a held slot say of its event, a law for each way out.
use Rattle.std.specs.Prelude.{Option}
use mathlib.Core.Path.{◌≡◌, refl, sym, ap, ap₂, ◌∙◌}
use mathlib.Core.Bool.{Bool, true, false, not}
use mathlib.Core.List.{List, [], ◌∷◌, ◌++◌, append_assoc, map}
use Prim.Native.Nat.{ℕ, zero, suc, ◌+◌, ◌*◌, ◌/◌, ◌%◌, ◌^◌, ◌≤◌, ◌<◌}
use native.Mathlib.Numerals.{add-one}
use native.Mathlib.Omega.{arith}
use borrow.Author.Tests.{lt-ltb}
use lib.IntN.{ℤ}
use lib.ListN.{length, get_or, set, take, length-set, length-take}
use lib.Seq.{take-suc, take-suc-set, take_all}
use mir.Syntax.{w8, w64}
use mir.Val.{to_z, of_z, Fits, SFits}
use mir.Facts.{to_z-of_z}
use Rattle.wire.specs.Bytes.{part}
use Rattle.wire.specs.Field.{field_at, signed}
use Rattle.numeral.specs.Decimal.{digits, decimal}
use Rattle.numeral.proofs.Digits.{digits_20}
use Rattle.numeral.proofs.Wholes.{decimal_20}
use Rattle.spell.specs.Spell.{decode}
use Rattle.spell.proofs.Laws.{hex_itself}
use Rattle.text.specs.Event.{Event, all}
use Rattle.text.specs.Read.{read, read_text}
use Rattle.text.specs.Answer.{tags_place}
use Rattle.text.proofs.Pieces.{and_true}
use Rattle.text.proofs.RoundTrip.{read_same}
use Rattle.message.specs.Lent.{is_tags_shape, value5}
use Rattle.event.specs.Lent.{lent_tags_at}
use Rattle.event.specs.Answer.{hex_of}
use Rattle.wire.specs.Bytes.{hex_digit}
use Rattle.table.specs.Layout.{is_byte, count_of, slot_at, id_in, text_in, kind_in, length_in}
use Rattle.table.specs.Sound.{sound}
use Rattle.table.specs.Demand3.{SpellsTags}
use Rattle.table.proofs.Slots.{sound_signed, sound_kind}
use Rattle.table.proofs.Shown.{slot_sound_at, slot_size_lem}
use Rattle.table.proofs.Hex.{hex_is}
use Rattle.table.proofs.Tellable.{pubkey_said, tags_said}
use Rattle.query.specs.Match.{is_listed, condition_holds, matches}
use Rattle.query.specs.Answer.{matches_slot}
use Rattle.query.proofs.Tables.{slot_matches}
use Rattle.matching.specs.declared.Known.{Known}
use Rattle.matching.specs.Inner.Found.{spelled_by, given, condition_by, filter_by}
use Rattle.matching.specs.Inner.Steps.{fields_hold}
use Rattle.matching.proofs.matcher.Ways.{ids_no, fields_no, all_are}

-- ---- the id in hex
bytes_are : (l : List ℕ) → ((i : ℕ) → get_or l i 0 < 256) → all is_byte l ≡ true
unfolding all
bytes_are [] h = refl
bytes_are (x ∷ l) h = and_true (is_byte x) _ (lt-ltb x 256 (h 0)) (bytes_are l (λ i. h (suc i)))

first_bytes_lem : (n : ℕ) (l : List ℕ) → ((i : ℕ) → get_or l i 0 < 256) → (i : ℕ) → get_or (take n l) i 0 < 256
first_bytes_lem zero l h i = omega arith
first_bytes_lem (suc n) [] h i = omega arith
first_bytes_lem (suc n) (x ∷ l) h zero = h 0
first_bytes_lem (suc n) (x ∷ l) h (suc i) = first_bytes_lem n l (λ j. h (suc j)) i

hex_append : (a b : List ℕ) → hex_of (a ++ b) ≡ hex_of a ++ hex_of b
unfolding hex_of
hex_append [] b = refl
hex_append (x ∷ a) b = ap (λ l. hex_digit (x / 16) ∷ hex_digit (x % 16) ∷ l) (hex_append a b)

-- none are stored; two digits more; then all are there
pub hex_start : [] ≡ hex_of []
unfolding hex_of
hex_start = refl

module _ (l o : List ℕ) (i : ℕ) (w : take (i * 2) o ≡ hex_of (take i l)) where
  pub hex_more : i < length l → i * 2 + 1 < length o → {x y : ℕ} → x ≡ hex_digit (get_or l i 0 / 16) → y ≡ hex_digit (get_or l i 0 % 16)
      → take ((i + 1) * 2) (set (set o (i * 2) x) (i * 2 + 1) y) ≡ hex_of (take (i + 1) l)
  unfolding hex_of
  hex_more h k {x} {y} p q =
      let e : (i + 1) * 2 ≡ suc (suc (i * 2)) = omega arith in
      let f : i * 2 + 1 ≡ suc (i * 2) = omega arith in
      let n : suc (i * 2) < length (set o (i * 2) x) = omega (arith, length-set o (i * 2) x) in
      rw (e, f, add-one i, take-suc-set (set o (i * 2) x) (suc (i * 2)) y n, take-suc-set o (i * 2) x (omega arith), w, take-suc l i 0 h, hex_append (take i l) (get_or l i 0 ∷ []), p, q)
      (append_assoc (hex_of (take i l)) (hex_digit (get_or l i 0 / 16) ∷ []) (hex_digit (get_or l i 0 % 16) ∷ []))

  pub hex_end : length l ≤ i → length o ≤ i * 2 → o ≡ hex_of l
  hex_end h k = sym (take_all (i * 2) o k) ∙ w ∙ ap hex_of (take_all i l h)

pub id_long : (s : List ℕ) {w : List ℕ} → w ≡ part s 0 32 → 32 ≤ length s → length w ≡ 32
id_long s e h = ap length e ∙ length-take 32 s ∙ omega arith

module _ (s m row : List ℕ) (l : Option (ℕ × ℕ)) where
  pub id_given : ((i : ℕ) → Fits w8 (get_or s i 0)) → {w o : List ℕ} {r : Bool} → w ≡ part s 0 32 → o ≡ hex_of w
      → r ≡ is_listed (given (spelled_by m) row l) (decode o) → r ≡ is_listed (given (spelled_by m) row l) (hex_of (id_in s))
  unfolding id_in
  id_given small {w} {o} p q x =
      let y : decode o ≡ hex_of (part s 0 32) =
      ap decode (q ∙ ap hex_of p)
      ∙ hex_itself (hex_of (part s 0 32)) (hex_is (part s 0 32) (bytes_are (part s 0 32) (first_bytes_lem 32 s (λ i. (small i).fits)))) in
      x ∙ ap (is_listed (given (spelled_by m) row l)) y

-- ---- the tags
module _ (t : List ℕ) (time : ℤ) (kind : ℕ) (m row : List ℕ) (f : Known) where
  abbrev place_of : ℕ
  place_of = 72 + length (decimal time) + length (digits kind)

  abbrev all_hold : Bool
  all_hold = all (condition_holds (lent_tags_at t place_of)) (map (condition_by m row) (take f.n f.conditions))

  pub no_conditions : f.n ≡ 0 → true ≡ all_hold
  unfolding all
  no_conditions e = sym (ap (λ n. all (condition_holds (lent_tags_at t place_of)) (map (condition_by m row) (take n f.conditions))) e)

  pub place_few : SFits w64 time → {d : ℕ} → d ≡ length (decimal (to_z w64 (of_z w64 time))) → d ≤ 20
  place_few g e = let q = decimal_20 time g.sfits in let z = ap (λ x. length (decimal x)) (to_z-of_z g) in omega arith

  module _ (g : SFits w64 time) {d n : ℕ} (p : d ≡ length (decimal (to_z w64 (of_z w64 time)))) (q : n ≡ length (digits kind)) where
    place_is : 72 + d + n ≡ place_of
    place_is = ap₂ (λ x y. 72 + x + y) (p ∙ ap (λ x. length (decimal x)) (to_z-of_z g)) q

    pub array_there : value5 is_tags_shape t place_of ≡ false → value5 is_tags_shape t (72 + d + n) ≡ false
    array_there h = ap (value5 is_tags_shape t) place_is ∙ h

    pub conditions_hold : {r : Bool} → r ≡ all (condition_holds (lent_tags_at t (72 + d + n))) (map (condition_by m row) (take f.n f.conditions)) → r ≡ all_hold
    conditions_hold e = e ∙ ap (λ x. all (condition_holds (lent_tags_at t x)) (map (condition_by m row) (take f.n f.conditions))) place_is

pub kind_few : (y : ℕ) → y < 2 ^ 64 → {n : ℕ} → n ≡ length (digits y) → n ≤ 20
kind_few y h e = let q = digits_20 y h in omega arith

-- ---- a held slot
module _ (b : List ℕ) (ok : sound b ≡ true) (k : ℕ) (h : k < count_of b) (m row : List ℕ) (f : Known) where
  abbrev Answer : Bool
  Answer = matches_slot b (filter_by m row f) k

  abbrev event : Event
  event = (slot_matches b ok k h).0

  reads : read_text (text_in (slot_at b k)) ≡ read event
  reads = (slot_matches b ok k h).1

  matched_is : Answer ≡ matches (filter_by m row f) (hex_of (id_in (slot_at b k))) event
  matched_is = (slot_matches b ok k h).2 (filter_by m row f)

  module _ {s : List ℕ} (es : s ≡ slot_at b k) where
    pub id_there : 32 ≤ length s
    id_there = let z = ap length es ∙ slot_size_lem b ok k h in omega arith

    module _ {r₁ : Bool} (e₁ : r₁ ≡ is_listed (given (spelled_by m) row f.ids) (hex_of (id_in s))) where
      id_test : r₁ ≡ is_listed (filter_by m row f).ids (hex_of (id_in (slot_at b k)))
      unfolding filter_by
      id_test = e₁ ∙ ap (λ x. is_listed (given (spelled_by m) row f.ids) (hex_of (id_in x))) es

      pub id_no : not r₁ ≡ true → false ≡ Answer
      id_no n = ids_no (filter_by m row f) _ event id_test n ∙ sym matched_is

    module _ {x y z : ℕ} {time : ℤ} {t : List ℕ} (ft : SFits w64 time) (fx : x ≡ field_at s 96 8) (et : time ≡ signed x) (fy : y ≡ field_at s 104 2)
        (fz : z ≡ field_at s 106 2) (text : t ≡ part s 112 z) where
      text_is : t ≡ text_in (slot_at b k)
      unfolding text_in length_in
      text_is = text ∙ ap (part s 112) fz ∙ ap (λ w. part w 112 (field_at w 106 2)) es

      time_is : to_z w64 (of_z w64 time) ≡ event.time
      time_is = to_z-of_z ft ∙ et ∙ ap signed (fx ∙ ap (λ w. field_at w 96 8) es) ∙ sound_signed (slot_at b k) (slot_sound_at b ok k h) event reads

      kind_is : y ≡ event.kind
      unfolding kind_in
      kind_is = fy ∙ ap (λ w. field_at w 104 2) es ∙ sound_kind (slot_at b k) (slot_sound_at b ok k h) event reads

      place_there : 72 + length (decimal (to_z w64 (of_z w64 time))) + length (digits y) ≡ tags_place event
      place_there = ap₂ (λ u v. 72 + length (decimal u) + length (digits v)) time_is kind_is

      tags_are : SpellsTags (text_in (slot_at b k)) (tags_place event) event.tags
      tags_are = tags_said (text_in (slot_at b k)) event (read_same (text_in (slot_at b k)) event reads)

      pub tags_there : value5 is_tags_shape t (72 + length (decimal (to_z w64 (of_z w64 time))) + length (digits y)) ≡ false
      tags_there = ap₂ (value5 is_tags_shape) text_is place_there ∙ tags_are.array

      module _ {r₁ : Bool} (e₁ : r₁ ≡ is_listed (given (spelled_by m) row f.ids) (hex_of (id_in s))) (n₁ : not r₁ ≡ false)
          {p : List ℕ} (ep : p ≡ part t 4 64) {r₂ : Bool} (e₂ : r₂ ≡ fields_hold (filter_by m row f) (decode p) (to_z w64 (of_z w64 time)) y) where
        key_is : decode p ≡ event.pubkey
        key_is =
            ap decode (ep ∙ ap (λ w. part w 4 64) text_is)
            ∙ (pubkey_said (text_in (slot_at b k)) event (read_same (text_in (slot_at b k)) event reads)).says

        fields_test : r₂ ≡ fields_hold (filter_by m row f) event.pubkey event.time event.kind
        fields_test = e₂ ∙ ap₂ (λ u v. fields_hold (filter_by m row f) u v y) key_is time_is ∙ ap (fields_hold (filter_by m row f) event.pubkey event.time) kind_is

        pub fields_differ : not r₂ ≡ true → false ≡ Answer
        fields_differ n = fields_no (filter_by m row f) _ event (id_test e₁) n₁ fields_test n ∙ sym matched_is

        pub tags_decide : not r₂ ≡ false → {r : Bool}
            → r ≡ all (condition_holds (lent_tags_at t (72 + length (decimal (to_z w64 (of_z w64 time))) + length (digits y)))) (map (condition_by m row) (take f.n f.conditions))
            → r ≡ Answer
        unfolding filter_by
        tags_decide n e =
            all_are (filter_by m row f) _ event (id_test e₁) n₁ fields_test n
            (e ∙ ap (λ v. all (condition_holds v) (map (condition_by m row) (take f.n f.conditions))) (ap₂ lent_tags_at text_is place_there ∙ tags_are.says))
            ∙ sym matched_is
