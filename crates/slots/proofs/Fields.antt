-- One slot: its fields against what its text answers, and a law for each way out of the code that tests it.
use Rattle.std.specs.Prelude.{Result, Ok, Err}
use Rattle.text.specs.declared.Unread.{Unread}
use mathlib.Core.Path.{◌≡◌, refl, sym, ap, ap₂, ◌∙◌}
use mathlib.Core.Bool.{Bool, true, false, not, ◌&&◌, and_assoc, and_comm, and-false}
use mathlib.Core.List.{List}
use Prim.Native.Nat.{ℕ, ◌+◌, ◌≤◌, ◌<◌}
use native.Mathlib.Omega.{arith}
use lib.Dec.{eqb, leb}
use lib.ListN.{length, drop, length-drop}
use lib.Seq.{take_all}
use borrow.Author.Tests.{le-leb, lt-leb, eqb-true, eq-eqb, ne_eqb}
use Rattle.wire.specs.Bytes.{part}
use Rattle.wire.specs.Limits.{most_text}
use Rattle.wire.specs.Field.{field_at, unsigned}
use Rattle.text.specs.Event.{Event}
use Rattle.text.specs.Read.{Read, too_large, wrong_shape, read, read_text}
use Rattle.text.specs.Kinds.{is_ephemeral, key_of, class_of}
use Rattle.text.specs.Answer.{text_parts, text_answer_of}
use Rattle.text.specs.declared.Class.{Class}
use Rattle.text.specs.declared.Class.TheVariants.{Regular, Replaceable, Ephemeral, Addressable}
use Rattle.text.specs.declared.Text.{Text}
use Rattle.law.specs.Table as law
use Rattle.table.specs.Layout.{time_in, kind_in, length_in, d_in, text_in, rest_in, d_place, d_if_addressable}
use Rattle.table.specs.Events.{class_for}
use Rattle.table.specs.Sound.{is_read, is_zero, text_reads, agrees_with, fields_agree, is_lasting, zero_after_text, slot_sound}
use Rattle.table.proofs.Distinct.{class_lasts}
use Rattle.slots.specs.Slots.{d_agrees, agrees_text}

-- ---- the fields of a slot and what its text answers
module _ (s : List ℕ) (t : Text) {r u : ℕ} (a : r ≡ field_at s 96 8) (b : u ≡ unsigned t.time) where
  pub other_time : (r ≡ u → ⊥) → false ≡ agrees_text s t
  unfolding agrees_text
  other_time n =
      sym
      (ap (◌&& (eqb (kind_in s) t.kind && d_agrees (class_of t.kind) (d_in s).at (d_in s).len t.d t.d_len)) (ne_eqb (field_at s 96 8) (unsigned t.time) (λ e. n (a ∙ e ∙ sym b))))

  module _ (e : r ≡ u) {k : ℕ} (c : k ≡ field_at s 104 2) where
    same_time : eqb (field_at s 96 8) (unsigned t.time) ≡ true
    same_time = eq-eqb (field_at s 96 8) (unsigned t.time) (sym a ∙ e ∙ b)

    pub other_kind : (k ≡ t.kind → ⊥) → false ≡ agrees_text s t
    unfolding agrees_text kind_in
    other_kind n = sym (rw (same_time, ne_eqb (field_at s 104 2) t.kind (λ q. n (c ∙ q))))

    pub by_d : {x : Bool} {i l : ℕ} → k ≡ t.kind → i ≡ field_at s 108 2 → l ≡ field_at s 110 2
        → x ≡ d_agrees (class_of t.kind) i l t.d t.d_len → x ≡ agrees_text s t
    unfolding agrees_text kind_in d_in
    by_d {x} {i} {l} q f g h =
        h ∙ ap₂ (λ m n. d_agrees (class_of t.kind) m n t.d t.d_len) f g
        ∙ sym (rw (same_time, eq-eqb (field_at s 104 2) t.kind (sym c ∙ q)))

-- d's place and the kind, by class
d_by : (c : Class) (s : List ℕ) (e : Event)
    → ((eqb (d_in s).at (d_if_addressable c e).at && eqb (d_in s).len (d_if_addressable c e).len) && not (law.is_ephemeral (class_for c (key_of e))))
    ≡ d_agrees c (d_in s).at (d_in s).len (text_parts e).d (text_parts e).d_len
d_by Regular s e = and_comm (eqb (d_in s).at 0 && eqb (d_in s).len 0) true
d_by Replaceable s e = and_comm (eqb (d_in s).at 0 && eqb (d_in s).len 0) true
d_by Ephemeral s e = and-false (eqb (d_in s).at 0 && eqb (d_in s).len 0)
d_by Addressable s e = and_comm (eqb (d_in s).at (text_parts e).d && eqb (d_in s).len (text_parts e).d_len) true

agrees_same : (s : List ℕ) (e : Event) → (agrees_with s e && is_lasting s) ≡ agrees_text s (text_parts e)
unfolding agrees_with agrees_text is_lasting d_place
agrees_same s e =
    let a = eqb (time_in s) (unsigned e.time) in
    let k = eqb (kind_in s) e.kind in
    let d = eqb (d_in s).at (d_place e).at && eqb (d_in s).len (d_place e).len in
    and_assoc a (k && d) (is_lasting s) ∙ ap (a &&◌) (and_assoc k d (is_lasting s) ∙ go k refl)
  where
    go : (k : Bool) → eqb (kind_in s) e.kind ≡ k
        → (k && ((eqb (d_in s).at (d_place e).at && eqb (d_in s).len (d_place e).len) && not (is_ephemeral (kind_in s))))
        ≡ (k && d_agrees (class_of e.kind) (d_in s).at (d_in s).len (text_parts e).d (text_parts e).d_len)
    go false q = refl
    go true q =
        ap (λ t. (eqb (d_in s).at (d_place e).at && eqb (d_in s).len (d_place e).len) && not t)
        (ap is_ephemeral (eqb-true (kind_in s) e.kind q) ∙ sym (class_lasts e.kind (key_of e)))
        ∙ d_by (class_of e.kind) s e

-- ---- a slot: x is what its text answers
abbrev rest : List ℕ → Bool
rest s = fields_agree s && (is_lasting s && zero_after_text s)

module _ (s : List ℕ) {n : ℕ} (l : n ≡ field_at s 106 2) where
  pub long_text : 4096 < n → false ≡ slot_sound s
  unfolding slot_sound text_reads length_in
  long_text h = sym (rw (lt-leb (field_at s 106 2) most_text (omega arith)))

  module _ {p : List ℕ} {x : Result Text Unread} (q : p ≡ part s 112 n) (a : x ≡ text_answer_of (read_text p)) where
    answers : x ≡ text_answer_of (read_text (text_in s))
    unfolding text_in length_in
    answers = a ∙ ap (λ t. text_answer_of (read_text t)) (q ∙ ap (part s 112) l)

    no_text : (r : Read) → read_text (text_in s) ≡ r → is_read r ≡ false → slot_sound s ≡ false
    unfolding slot_sound text_reads
    no_text r e f =
        ap (λ t. (leb (length_in s) most_text && is_read t) && rest s) e ∙ ap (λ t. (leb (length_in s) most_text && t) && rest s) f
        ∙ ap (◌&& rest s) (and-false (leb (length_in s) most_text))

    pub unread_lem : {u : Unread} → x ≡ Err u → false ≡ slot_sound s
    unread_lem {u} e = sym (go (read_text (text_in s)) refl (sym e ∙ answers))
      where
        go : (r : Read) → read_text (text_in s) ≡ r → Err u ≡ text_answer_of r → slot_sound s ≡ false
        go too_large h f = no_text too_large h refl
        go wrong_shape h f = no_text wrong_shape h refl
        go (read v) h f = absurd (let z : ◌≡◌ {A = ℕ} 0 1 = cc in omega arith)

    module _ {t : Text} (m : n ≤ 4096) (e : x ≡ Ok t) where
      short : length_in s ≤ most_text
      unfolding length_in
      short = omega arith

      slot_by : slot_sound s ≡ (agrees_text s t && zero_after_text s)
      unfolding slot_sound text_reads fields_agree
      slot_by =
          ap (λ b. (b && is_read (read_text (text_in s))) && rest s) (le-leb (length_in s) most_text short)
          ∙ go (read_text (text_in s)) refl (sym e ∙ answers)
        where
          go : (r : Read) → read_text (text_in s) ≡ r → Ok t ≡ text_answer_of r
              → (is_read (read_text (text_in s)) && rest s) ≡ (agrees_text s t && zero_after_text s)
          go too_large h f = absurd (let z : ◌≡◌ {A = ℕ} 0 1 = cc in omega arith)
          go wrong_shape h f = absurd (let z : ◌≡◌ {A = ℕ} 0 1 = cc in omega arith)
          go (read v) h f =
              let z : text_parts v ≡ t = cc in
              rw h
              (sym (and_assoc (agrees_with s v) (is_lasting s) (zero_after_text s)) ∙ ap (◌&& zero_after_text s) (agrees_same s v ∙ ap (agrees_text s) z))

      pub fields_bad : {y : Bool} → y ≡ agrees_text s t → y ≡ false → false ≡ slot_sound s
      fields_bad f h = sym (slot_by ∙ ap (◌&& zero_after_text s) (sym f ∙ h))

      pub rest_decides : {y z : Bool} {w : List ℕ} → y ≡ agrees_text s t → y ≡ true → w ≡ part s (112 + n) (length s) → z ≡ is_zero w → z ≡ slot_sound s
      unfolding zero_after_text rest_in length_in
      rest_decides {y} {z} {w} f h g k =
          k ∙ ap is_zero (g ∙ take_all (length s) (drop (112 + n) s) (omega (arith, length-drop (112 + n) s)) ∙ ap (λ j. drop (112 + j) s) l)
          ∙ sym (slot_by ∙ ap (◌&& zero_after_text s) (sym f ∙ h))
