-- The slot that an event given as parts would fill: its text, then what stands before it.
use Rattle.std.specs.Prelude.{Result, Ok, Err}
use Rattle.text.specs.declared.Unread.{Unread}
use mathlib.Core.Path.{◌≡◌, refl, sym, ap, ap₂, ◌∙◌}
use mathlib.Core.Bool.{false}
use mathlib.Core.List.{List, [], ◌++◌, append_assoc, append-nil}
use Prim.Native.Nat.{ℕ, ◌+◌, ◌-◌, ◌≤◌}
use native.Mathlib.Omega.{arith}
use lib.ListN.{length, take, drop, replicate, length-append, length-replicate, replicate-append-replicate}
use lib.ListN.{drop_of_length-le}
use lib.Seq.{take_all, take-append_seam, drop-append_seam}
use borrow.Author.Tests.{eq-eqb, not-false}
use borrow.Rule.Slice.PartMut.{put_mid}
use Rattle.wire.specs.Limits.{most_text, hex_length, sig_length}
use Rattle.wire.specs.Bytes.{part}
use Rattle.wire.specs.Put.{Puts}
use Rattle.wire.specs.Field.{le_bytes, unsigned}
use Rattle.wire.proofs.Laws.{length_put, puts_whole}
use Rattle.wire.proofs.Fields.{length_le_bytes}
use Rattle.text.specs.Event.{Event}
use Rattle.text.specs.Read.{read, read_text}
use Rattle.text.specs.Kinds.{class_of}
use Rattle.text.specs.Answer.{text_parts, text_answer_of}
use Rattle.text.specs.declared.Class.{Class}
use Rattle.text.specs.declared.Class.TheVariants.{Regular, Replaceable, Ephemeral, Addressable}
use Rattle.text.specs.declared.Text.{Text}
use Rattle.text.proofs.RoundTrip.{read_back}
use Rattle.message.specs.declared.Span.{Span}
use Rattle.message.specs.declared.EventParts.{EventParts}
use Rattle.message.specs.Lent.{is_spelled, string5, string7, body5, body7, event5, event7}
use Rattle.event.specs.Lent.{said, event_of}
use Rattle.event.specs.Lent as lent
use Rattle.event.specs.Answer.{offered_row, offered_text_row, offered, offered_out, answered, output_after, written_number}
use Rattle.event.proofs.Decoded.{or_neither}
use Rattle.event.proofs.Fit.{and_fails}
use Rattle.event.proofs.Answers.{offered-small, row-alone-most}
use Rattle.table.specs.Layout.{Fits, slot_size, text_place, d_if_addressable, d_place, text_bytes, slot_bytes}
use Rattle.table.specs.Offer.{as_parts, held_of}
use Rattle.table.proofs.Valid.{clean, valid_fits}
use Rattle.offers.specs.Inner.{SpellsHex, if_addressable, slot_numbers, head_of}

-- ---- the front of an array that something was put into whole
module _ {d s o : List ℕ} {n m : ℕ} (room : length o ≡ m) (p : Puts d 0 s n o) (h : length s ≤ m) where
  whole : (n ≡ length s) × (o ≡ s ++ drop (length s) d)
  whole = puts_whole (omega (arith, length_put d 0 s, ap length p.bytes)) p

  pub front_is : take n o ≡ s
  front_is = ap₂ take whole.0 whole.1 ∙ take-append_seam s (drop (length s) d)

  pub front_length : n ≡ length (take n o)
  front_length = whole.0 ∙ ap length (sym front_is)

-- ---- the numbers before the text
pub numbers_put : (t : Text) (n : ℕ) {d o : List ℕ} {at r u i j : ℕ} → u ≡ unsigned t.time → i ≡ if_addressable (class_of t.kind) t.d
    → j ≡ if_addressable (class_of t.kind) t.d_len
    → Puts d at (le_bytes 8 u ++ le_bytes 2 t.kind ++ le_bytes 2 n ++ le_bytes 2 i ++ le_bytes 2 j) r o → Puts d at (slot_numbers t n) r o
unfolding slot_numbers
numbers_put t n p q s w = rw (p, q, s) at w

-- what reading a text answers where it reads as the event e
pub read_answers : {x : Result Text Unread} {s t : List ℕ} (e : Event) → s ≡ t → x ≡ text_answer_of (read_text s) → read_text t ≡ read e → x ≡ Ok (text_parts e)
read_answers e q a r = a ∙ ap (λ z. text_answer_of (read_text z)) q ∙ ap text_answer_of r

pub same_read : {x : Result Text Unread} {t v : Text} → x ≡ Ok t → x ≡ Ok v → t ≡ v
same_read p q = cc

pub not_unread : {x : Result Text Unread} {u : Unread} {v : Text} → x ≡ Err u → x ≡ Ok v → ⊥
not_unread p q = let z : ◌≡◌ {A = ℕ} 0 1 = cc in omega arith

-- ---- zeros, and a part of them that was lent
zeros_take : (a k : ℕ) → take a (replicate (a + k) 0) ≡ replicate {A = ℕ} a 0
zeros_take a k =
    ap (take a) (sym (replicate-append-replicate a k 0)) ∙ ap (λ n. take n (replicate {A = ℕ} a 0 ++ replicate k 0)) (sym (length-replicate {A = ℕ} a 0))
    ∙ take-append_seam (replicate {A = ℕ} a 0) (replicate k 0)

zeros_drop : (a k : ℕ) → drop a (replicate (a + k) 0) ≡ replicate {A = ℕ} k 0
zeros_drop a k =
    ap (drop a) (sym (replicate-append-replicate a k 0)) ∙ ap (λ n. drop n (replicate {A = ℕ} a 0 ++ replicate k 0)) (sym (length-replicate {A = ℕ} a 0))
    ∙ drop-append_seam (replicate {A = ℕ} a 0) (replicate k 0)

module _ (a k n : ℕ) (s : n ≡ a + k) {d : List ℕ} (e : d ≡ replicate n 0) where
  is : d ≡ replicate (a + k) 0
  is = e ∙ ap (λ m. replicate m 0) s

  rest_zeros : drop a d ≡ replicate k 0
  rest_zeros = ap (drop a) is ∙ zeros_drop a k

  part_zeros : part d a k ≡ replicate k 0
  part_zeros = ap (take k) rest_zeros ∙ take_all k (replicate {A = ℕ} k 0) (omega (arith, length-replicate {A = ℕ} k 0))

  lent_zeros : (y : List ℕ) → take a d ++ (y ++ drop k (drop a d)) ≡ replicate a 0 ++ y
  lent_zeros y =
      let t : take a d ≡ replicate a 0 = ap (take a) is ∙ zeros_take a k in
      let u : drop k (drop a d) ≡ [] = ap (drop k) rest_zeros ∙ drop_of_length-le (replicate {A = ℕ} k 0) {i = k} (omega (arith, length-replicate {A = ℕ} k 0)) in
      ap₂ (λ x z. x ++ (y ++ z)) t u ∙ ap (λ z. replicate a 0 ++ z) (append-nil y)

-- what of a slot is lent for the text, and the slot when it came back as y
abbrev pub lent_part : List ℕ → List ℕ
lent_part d = part d text_place (slot_size - text_place)

pub slot_long : {d : List ℕ} → d ≡ replicate slot_size 0 → length d ≡ slot_size
slot_long zs = ap length zs ∙ length-replicate {A = ℕ} slot_size 0

blank : {d : List ℕ} → d ≡ replicate slot_size 0 → lent_part d ≡ replicate most_text 0
blank zs = part_zeros text_place most_text slot_size (omega arith) zs

pub lent_most : {d : List ℕ} → d ≡ replicate slot_size 0 → most_text ≤ length (lent_part d)
lent_most zs = omega (arith, ap length (blank zs), length-replicate {A = ℕ} most_text 0)

abbrev pub given : List ℕ → List ℕ → List ℕ
given d y = put_mid text_place (slot_size - text_place) d y

d_if : (c : Class) (v : Event) → (if_addressable c (text_parts v).d ≡ (d_if_addressable c v).at) × (if_addressable c (text_parts v).d_len ≡ (d_if_addressable c v).len)
d_if Regular v = (refl, refl)
d_if Replaceable v = (refl, refl)
d_if Ephemeral v = (refl, refl)
d_if Addressable v = (refl, refl)

-- a part that rows 5 and 7 let pass
hex_spelled : (k : ℕ) (b : List ℕ) (q : Span) → string5 b q ≡ false → string7 k b q ≡ false → SpellsHex b q k
unfolding string5 string7
hex_spelled k b q e f = not-false _ (and_fails (is_spelled b q) _ (not-false (is_spelled b q) e) f)

-- ---- parts p over the buffer b
module _ (b : List ℕ) (p : EventParts) where
  -- an offer that no row refuses
  module _ (e : offered_row b p ≡ 0) where
    fits : Fits (held_of b p)
    fits = valid_fits (as_parts b p) (eq-eqb (offered_row b p) 0 e)

    id_hex : SpellsHex b p.id hex_length
    unfolding event5 event7
    id_hex =
        let n = clean b p e in
        hex_spelled hex_length b p.id (or_neither (string5 b p.id) _ n.not5).0 (or_neither (string7 hex_length b p.id) _ n.not7).0

    sig_hex : SpellsHex b p.sig sig_length
    unfolding event5 event7
    sig_hex =
        let n = clean b p e in
        hex_spelled sig_length b p.sig (or_neither (body5 b p.body) _ (or_neither (string5 b p.id) _ n.not5).1).1
        (or_neither (body7 b p.body) _ (or_neither (string7 hex_length b p.id) _ n.not7).1).1

    reads : read_text (lent.text_of b p.body) ≡ read (event_of b p.body)
    unfolding held_of lent.text_of
    reads = read_back (event_of b p.body) fits.event fits.text

    -- a slot of zeros in which the text was written
    module _ (d : List ℕ) (q : d ≡ replicate text_place 0 ++ text_bytes (lent.text_of b p.body)) (n : ℕ) (l : n ≡ length (lent.text_of b p.body)) where
      rest : drop text_place d ≡ text_bytes (lent.text_of b p.body)
      rest =
          ap (drop text_place) q ∙ ap (λ k. drop k (replicate {A = ℕ} text_place 0 ++ text_bytes (lent.text_of b p.body))) (sym (length-replicate {A = ℕ} text_place 0))
          ∙ drop-append_seam (replicate {A = ℕ} text_place 0) (text_bytes (lent.text_of b p.body))

      text_reads_lem : read_text (part d text_place n) ≡ read (event_of b p.body)
      unfolding text_bytes
      text_reads_lem =
          let t = lent.text_of b p.body in
          ap read_text (ap₂ take l rest ∙ take-append_seam t (replicate (most_text - length t) 0)) ∙ reads

      head_length : length (head_of b p n (text_parts (event_of b p.body))) ≡ text_place
      unfolding head_of slot_numbers held_of
      head_length = simp (length-append, length_le_bytes) (omega (arith, fits.id, fits.sig))

      head_text : head_of b p n (text_parts (event_of b p.body)) ++ text_bytes (lent.text_of b p.body) ≡ slot_bytes (held_of b p)
      unfolding head_of slot_numbers held_of slot_bytes d_place lent.text_of
      head_text =
          let v = event_of b p.body in
          let k = d_if (class_of v.kind) v in
          rw (l, k.0, k.1) (simp append_assoc)

      slot_made : {o : List ℕ} {r : ℕ} → Puts d 0 (head_of b p n (text_parts (event_of b p.body))) r o → o ≡ slot_bytes (held_of b p)
      slot_made u =
          let s = head_of b p n (text_parts (event_of b p.body)) in
          let x : text_place ≤ length d
          =
          omega
          (arith, ap length q, length-append (replicate {A = ℕ} text_place 0) (text_bytes (lent.text_of b p.body)), length-replicate {A = ℕ} text_place 0)
          in
          (puts_whole (omega (arith, head_length)) u).1 ∙ ap (λ j. s ++ drop j d) head_length ∙ ap (s ++◌) rest ∙ head_text

  -- what a slot d of zeros came back as, its place for the text having been lent
  module _ (d : List ℕ) (zs : d ≡ replicate slot_size 0) {w : Result ℕ ℕ} (a : w ≡ offered b p (lent_part d)) (q : written_number w ≡ offered_text_row b p (lent_part d)) where
    row_is : written_number w ≡ offered_row b p
    row_is = q ∙ row-alone-most b p (lent_part d) (lent_most zs)

    not_wrote : (x r n : ℕ) → x ≡ 0 → answered x n ≡ Err r → ⊥
    not_wrote x r n h f = let g = sym (ap (λ t. answered t n) h) ∙ f in let y : ◌≡◌ {A = ℕ} 0 1 = cc in omega arith

    pub made_none : {r : ℕ} {o : List ℕ} → w ≡ Err r → (r ≡ offered_row b p) × (r ≡ 0 → o ≡ slot_bytes (held_of b p))
    unfolding offered
    made_none {r} e = (
      sym (ap written_number e) ∙ row_is,
      λ n. absurd (not_wrote (offered_text_row b p (lent_part d)) r (length (lent.text_of b p.body)) (sym q ∙ ap written_number e ∙ n) (sym a ∙ e)),
    )

    module _ {n : ℕ} (e : w ≡ Ok n) where
      pub row_none : offered_row b p ≡ 0
      row_none = sym row_is ∙ ap written_number e

      text_row_lem : offered_text_row b p (lent_part d) ≡ 0
      text_row_lem = sym q ∙ ap written_number e

      length_is : n ≡ length (lent.text_of b p.body)
      unfolding offered
      length_is =
          let g : Ok n ≡ Ok (length (lent.text_of b p.body))
          = sym e ∙ a ∙ ap (λ t. answered t (length (lent.text_of b p.body))) text_row_lem in
          cc

      module _ {y : List ℕ} (o : y ≡ offered_out b p (lent_part d)) where
        text_is : y ≡ text_bytes (lent.text_of b p.body)
        unfolding offered_out text_bytes
        text_is =
            let t = lent.text_of b p.body in
            let m = offered-small b p row_none in
            let s : most_text ≡ length t + (most_text - length t) = omega arith in
            o ∙ ap (λ x. output_after x t (lent_part d)) text_row_lem ∙ ap (t ++◌) (rest_zeros (length t) (most_text - length t) most_text s (blank zs))

        came_back : given d y ≡ replicate text_place 0 ++ text_bytes (lent.text_of b p.body)
        came_back = lent_zeros text_place most_text slot_size (omega arith) zs y ∙ ap (λ z. replicate text_place 0 ++ z) text_is

        pub ready : (SpellsHex b p.id hex_length × SpellsHex b p.sig sig_length) × (slot_size ≤ length (given d y))
        unfolding text_bytes
        ready =
            let t = lent.text_of b p.body in
            let m = offered-small b p row_none in
            let l : length (given d y) ≡ text_place + (length t + (most_text - length t)) = ap length came_back ∙ simp (length-append, length-replicate) (omega arith) in
            ((id_hex row_none, sig_hex row_none), omega arith)

        pub made : {r : ℕ} {u : List ℕ}
            → ((v : Event) → read_text (part (given d y) text_place n) ≡ read v → Puts (given d y) 0 (head_of b p n (text_parts v)) r u)
            → (0 ≡ offered_row b p) × (◌≡◌ {A = ℕ} 0 0 → u ≡ slot_bytes (held_of b p))
        made f =
            (sym row_none, λ z. slot_made row_none (given d y) came_back n length_is (f (event_of b p.body) (text_reads_lem row_none (given d y) came_back n length_is)))
