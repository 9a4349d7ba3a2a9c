-- A buffer formatted and a slot shown: a law for each way out.
use Rattle.std.specs.Prelude.{Result, Ok, Err}
use mathlib.Core.Path.{◌≡◌, sym, ap, ◌∙◌}
use mathlib.Core.Bool.{Bool, true, false, cond, ◌&&◌, and_comm}
use mathlib.Core.Logic.{◌⊎◌, inl, inr}
use mathlib.Core.List.{List, ◌++◌, append_assoc}
use Prim.Native.Nat.{ℕ, ◌+◌, ◌*◌, ◌≤◌, ◌<◌}
use native.Mathlib.Omega.{arith}
use lib.Dec.{eqb, leb, ltb}
use lib.ListN.{length, drop, replicate, length-append, length-replicate}
use borrow.Author.Tests.{le-leb, lt-leb, lt-ltb, le-ltb, ne_eqb}
use Rattle.wire.specs.Bytes.{part}
use Rattle.wire.specs.Limits.{most_slots}
use Rattle.wire.specs.Put.{Puts}
use Rattle.wire.specs.Field.{le_bytes, field_at}
use Rattle.wire.proofs.Laws.{puts_whole}
use Rattle.wire.proofs.Fields.{length_le_bytes}
use Rattle.table.specs.Layout.{header_size, slot_size, slot_place, table_size, count_of, length_in, header_bytes, slot_at}
use Rattle.table.specs.Layout.{text_place}
use Rattle.table.specs.Sound.{is_capacity, sound}
use Rattle.table.specs.Format.{format_row, formatted, shown_row, shown}
use Rattle.table.proofs.Shown.{shown_inside, shown_rows}
use Rattle.table.proofs.Bytes.{clauses}
use Rattle.slots.specs.Shown.{shown_at, shown_number, bytes_in}

-- ---- formatting
module _ (n : ℕ) (b : List ℕ) where
  stays : {r : ℕ} → r ≡ format_row n b → (r ≡ 0 → ⊥) → b ≡ formatted n b
  unfolding formatted
  stays e o =
      sym (ap (λ t. cond t (header_bytes n 0 ++ (replicate (n * slot_size) 0 ++ drop (table_size n) b)) b) (ne_eqb (format_row n b) 0 (λ q. o (e ∙ q))))

  pub outside : (n < 1) ⊎ (most_slots < n) → (14 ≡ format_row n b) × (b ≡ formatted n b)
  unfolding format_row
  outside h = let e : 14 ≡ format_row n b = sym (ap (λ t. cond t (cond (ltb (length b) (table_size n)) 13 0) 14) (none h)) in (e, stays e (λ q. omega arith))
    where
      none : (n < 1) ⊎ (most_slots < n) → is_capacity most_slots n ≡ false
      none (inl l) = ap (◌&& leb n most_slots) (lt-leb 1 n l)
      none (inr l) = ap (leb 1 n &&◌) (lt-leb n most_slots l) ∙ and_comm (leb 1 n) false

  module _ (g : 1 ≤ n) (h : n ≤ most_slots) where
    pub too_short : length b < table_size n → (13 ≡ format_row n b) × (b ≡ formatted n b)
    unfolding format_row
    too_short k = let e : 13 ≡ format_row n b = sym (rw (le-leb 1 n g, le-leb n most_slots h, lt-ltb (length b) (table_size n) k)) in (e, stays e (λ q. omega arith))

    pub fresh : {o : List ℕ} {r : ℕ} → table_size n ≤ length b
        → Puts b 0 (le_bytes 4 n ++ le_bytes 4 0 ++ le_bytes 4 slot_size ++ le_bytes 4 header_size ++ replicate (n * slot_size) 0) r o
        → (0 ≡ format_row n b) × (o ≡ formatted n b)
    unfolding format_row formatted header_bytes
    fresh {o} {r} k p =
        let s : List ℕ = le_bytes 4 n ++ le_bytes 4 0 ++ le_bytes 4 slot_size ++ le_bytes 4 header_size ++ replicate (n * slot_size) 0 in
        let l : length s ≡ table_size n = simp (length-append, length_le_bytes, length-replicate) (omega arith) in
        let e : 0 ≡ format_row n b = sym (rw (le-leb 1 n g, le-leb n most_slots h, le-ltb (length b) (table_size n) k)) in
        let w : o ≡ s ++ drop (table_size n) b = (puts_whole (omega arith) p).1 ∙ ap (λ m. s ++ drop m b) l in
        (e, w ∙ sym (rw (le-leb 1 n g, le-leb n most_slots h, le-ltb (length b) (table_size n) k) (simp append_assoc)))

-- ---- showing
-- what is promised of an answer r
abbrev Shows : List ℕ → ℕ → Result (ℕ × ℕ) ℕ → Type 0
Shows b k r = (r ≡ shown_at b k) × ((shown_number r ≡ shown_row b k) × (bytes_in b r ≡ shown b k))

module _ (b : List ℕ) (k : ℕ) where
  refuses : {r : ℕ} → shown_row b k ≡ r → (r ≡ 0 → ⊥) → Shows b k (Err r)
  unfolding shown_at
  refuses {r} e o = (
    sym (ap (λ t. cond t (Ok (slot_place k + text_place, length_in (slot_at b k))) (Err (shown_row b k))) (ne_eqb (shown_row b k) 0 (λ q. o (sym e ∙ q))) ∙ ap Err e),
    (sym e, sym ((shown_rows b k).empty (λ q. o (sym e ∙ q)))),
  )

  module _ {x : Bool} (f : x ≡ sound b) where
    pub not_sound : x ≡ false → Shows b k (Err 11)
    not_sound e = refuses ((shown_rows b k).unsound (sym f ∙ e)) (λ q. omega arith)

    module _ (e : x ≡ true) {c : ℕ} (g : c ≡ field_at b 4 4) where
      pub not_held : c ≤ k → Shows b k (Err 14)
      unfolding count_of
      not_held h = refuses ((shown_rows b k).not_held (sym f ∙ e) (omega arith)) (λ q. omega arith)

      pub few : k < c → (k < most_slots) × (slot_place k + slot_size ≤ length b)
      unfolding count_of
      few h = let q = clauses b (sym f ∙ e) in (omega (arith, q.count, q.high), omega (arith, q.count, q.fit))

      pub text_shown : {n : ℕ} {s : List ℕ} → k < c → s ≡ part b (slot_place k) slot_size → n ≡ field_at s 106 2 → Shows b k (Ok (slot_place k + text_place, n))
      unfolding count_of length_in shown_at
      text_shown {n} {s} h q m =
          let r = (shown_rows b k).none (sym f ∙ e) (omega arith) in
          let l = m ∙ ap (λ w. field_at w 106 2) q in (
            ap (λ j. Ok (slot_place k + text_place, j)) l ∙ sym (ap (λ t. cond (eqb t 0) (Ok (slot_place k + text_place, length_in (slot_at b k))) (Err t)) r),
            (sym r, ap (part b (slot_place k + text_place)) l ∙ sym (shown_inside b k r)),
          )
