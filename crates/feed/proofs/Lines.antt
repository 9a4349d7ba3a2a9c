-- Where a line ends in a piece, what is kept of a line in its buffer, and the state after a piece.
use mathlib.Core.Path.{◌≡◌, refl, sym, ap, ◌∙◌}
use mathlib.Core.Bool.{Bool, true, false, cond, false≢true}
use mathlib.Core.List.{List, [], ◌∷◌, ◌++◌, append_assoc, append-nil}
use Prim.Native.Nat.{ℕ, zero, suc, ◌+◌, ◌-◌, ◌≤◌, ◌<◌, min}
use native.Mathlib.Numerals.{add-one}
use native.Mathlib.Nat.{add-suc, add-zero}
use native.Mathlib.Omega.{arith}
use native.Mathlib.Decide.{dec_le}
use borrow.Author.Tests.{eq-eqb, ne_eqb, eqb-true, eqb-false}
use lib.Dec.{eqb}
use lib.ListN.{length, take, drop, get_or, length-append, length-take, length-drop, drop_of_length-le}
use lib.Seq.{drop-cons, take_all, take-length, take-append-add, take-take}
use Rattle.std.proofs.Common.{Option, None, Some}
use Rattle.std.proofs.lemmas.List.{get_or-take, get_or-drop}
use Rattle.std.specs.Option.{MatchOption, unwrap_or}
use Rattle.wire.specs.Bytes.{part}
use Rattle.wire.specs.Put.{Puts}
use Rattle.law.specs.Lists.{any}
use Rattle.program.specs.Program.{table_after}
use Rattle.program.specs.Feed.{State, most_line, kept, is_end, after_byte, after_bytes, before, used_of, turn_state}
use Rattle.program.proofs.Feed.{in_pieces, so_far}
use Rattle.feed.specs.Turn.{looked_at}
use Rattle.feed.specs.Inner.{NoEndFrom, EndFrom, grown, Keeps, InOnePlace}

-- ---- a turn of the search for a line's end: x is the whole answer
module _ (p : List ℕ) (x i : ℕ) where
  pub end_turn : i < length p → (get_or p i 0 ≡ 0x0a → ⊥) → x ≡ i + length (before (drop i p)) → x ≡ i + 1 + length (before (drop (i + 1) p))
  unfolding before
  end_turn h n e =
      let z : before (drop i p) ≡ get_or p i 0 ∷ before (drop (i + 1) p) = rw (drop-cons p i 0 h, ne_eqb (get_or p i 0) 0x0a n, add-one i) refl in
      omega (arith, e, ap length z)

  pub end_found : i < length p → get_or p i 0 ≡ 0x0a → x ≡ i + length (before (drop i p)) → i ≡ x
  unfolding before
  end_found h n e =
      let z : before (drop i p) ≡ [] = rw (drop-cons p i 0 h, eq-eqb (get_or p i 0) 0x0a n) refl in
      omega (arith, e, ap length z)

  pub end_none : length p ≤ i → x ≡ i + length (before (drop i p)) → i ≡ x
  unfolding before
  end_none h e =
      let z : before (drop i p) ≡ [] = rw (drop_of_length-le p {i = i} h) refl in
      omega (arith, e, ap length z)

-- the first byte that ends a line, or none
pub end_behind : (p : List ℕ) (n : ℕ) → n ≤ length p → ((j : ℕ) → j < n → get_or p j 0 ≡ 0x0a → ⊥) → length (before p) ≡ n + length (before (drop n p))
end_behind p zero h f = omega arith
end_behind p (suc n) h f =
    rw (sym (add-one n)) (end_turn p (length (before p)) n (omega arith) (f n (omega arith)) (end_behind p n (omega arith) (λ j g. f j (omega arith))))

pub end_first : (p : List ℕ) (r : Option ℕ)
    → MatchOption r ((j : ℕ) → j < length p → get_or p j 0 ≡ 0x0a → ⊥) (λ e. (e < length p) × (get_or p e 0 ≡ 0x0a) × ((j : ℕ) → j < e → get_or p j 0 ≡ 0x0a → ⊥))
    → unwrap_or r (length p) ≡ length (before p)
end_first p None h = end_none p (length (before p)) (length p) (omega arith) (end_behind p (length p) (omega arith) h)
end_first p (Some e) h = end_found p (length (before p)) e h.0 h.1 (end_behind p e (omega arith) h.2)

-- ---- a block of bytes that end no line
-- the search goes on behind the block
pub end_block : (p : List ℕ) (x i n : ℕ) → i + n ≤ length p → NoEndFrom p i n → x ≡ i + length (before (drop i p)) → x ≡ i + n + length (before (drop (i + n) p))
end_block p x i zero h f e = rw (add-zero i) e
end_block p x i (suc n) h f e =
    rw (add-suc i n, sym (add-one (i + n)))
    (end_turn p x (i + n) (omega arith) (f n (omega arith)) (end_block p x i n (omega arith) (λ j g. f j (omega arith)) e))

pub block_passed : (p : List ℕ) (i : ℕ) (t : Bool) → EndFrom p i → 32 ≤ length p - i
    → (t ≡ true → NoEndFrom (take (i + 32 - i) (drop i p)) 0 (length (take (i + 32 - i) (drop i p)))) → t ≡ true → EndFrom p (i + 32)
block_passed p i t f h g e = record { inside = omega arith; rest = end_block p (length (before p)) i 32 (omega arith) none f.rest }
  where
    none : NoEndFrom p i 32
    none j less q =
        let z : i + 32 - i ≡ 32 = omega arith in
        let y : 0 + j ≡ j = omega arith in
        let l : j < length (take (i + 32 - i) (drop i p)) = omega (arith, length-take (i + 32 - i) (drop i p), length-drop i p) in
        g e j l (rw (y, z) (get_or-take 32 (drop i p) j 0 less ∙ get_or-drop i p j 0 ∙ q))

-- the end of the rest is the piece's
pub end_rest : (p : List ℕ) (i : ℕ) {e : ℕ} → EndFrom p i → e ≡ length (before (take (length p - i) (drop i p))) → i + e ≡ length (before p)
end_rest p i f z =
    let w : take (length p - i) (drop i p) ≡ drop i p = take_all (length p - i) (drop i p) (omega (arith, length-drop i p)) in
    ap (i +◌) (z ∙ ap (λ l. length (before l)) w) ∙ sym f.rest

-- ---- a piece with a line's end, and one without
pub record Ended (p : List ℕ) : Type 0 where
  pub is_before : take (length (before p)) p ≡ before p
  pub plain : any is_end (before p) ≡ false
  pub used : used_of p ≡ length (before p) + 1
  pub taken : take (used_of p) p ≡ before p ++ (0x0a ∷ [])
  pub ends : any is_end p ≡ true

pub within : (p : List ℕ) → length (before p) < length p → Ended p
unfolding before used_of
within [] h = absurd (omega arith)
within (x ∷ l) h = go (is_end x) refl (within l)
  where
    go : (t : Bool) → is_end x ≡ t → (length (before l) < length l → Ended l) → Ended (x ∷ l)
    go true e ih = record { is_before = rw e; plain = rw e; used = rw e; taken = rw e (ap (◌∷ []) (eqb-true x 0x0a e)); ends = rw e }
    go false e ih =
        let k = rw e at h in
        let i = ih (omega arith) in
        record {
          is_before = rw e (ap (x ∷◌) i.is_before);
          plain = rw (e, e) i.plain;
          used = rw e (omega (arith, i.used));
          taken = rw e (ap (x ∷◌) i.taken);
          ends = rw e i.ends;
        }

pub record Unended (p : List ℕ) : Type 0 where
  pub is_before : before p ≡ p
  pub used : used_of p ≡ length p
  pub ends : any is_end p ≡ false

pub whole : (p : List ℕ) → length p ≤ length (before p) → Unended p
unfolding before used_of
whole [] h = record { is_before = refl; used = refl; ends = refl }
whole (x ∷ l) h = go (is_end x) refl (whole l)
  where
    go : (t : Bool) → is_end x ≡ t → (length l ≤ length (before l) → Unended l) → Unended (x ∷ l)
    go true e ih = let k = rw e at h in absurd (omega arith)
    go false e ih =
        let k = rw e at h in
        let i = ih (omega arith) in
        record { is_before = rw e (ap (x ∷◌) i.is_before); used = rw e (ap suc i.used); ends = rw e i.ends }

-- ---- what is kept of a line
take_more : (n : ℕ) (l k : List ℕ) → take n (take n l ++ k) ≡ take n (l ++ k)
take_more zero l k = refl
take_more (suc n) [] k = refl
take_more (suc n) (x ∷ l) k = ap (x ∷◌) (take_more n l k)

-- no bytes so far
pub grown_none : (line p : List ℕ) (n : ℕ) → n ≡ 0 → grown line n p ≡ kept p
unfolding grown
grown_none line p n e = rw e

module _ (line : List ℕ) (n : ℕ) (p : List ℕ) (wide : most_line ≤ length line) where
  abbrev many : ℕ
  many = min n most_line

  abbrev more : List ℕ
  more = take (most_line - many) p

  length_so_far : length (take many line) ≡ many
  length_so_far = length-take many line ∙ omega arith

  grown_is : grown line n p ≡ take many line ++ more
  unfolding grown
  grown_is =
      let z : most_line ≡ length (take many line) + (most_line - many) = omega (arith, length_so_far) in
      ap (λ l. kept (l ++ p)) (so_far n line) ∙ ap (λ k. take k (take many line ++ p)) z ∙ take-append-add (take many line) p (most_line - many)

  grown_length : length (grown line n p) ≡ many + length more
  grown_length = ap length grown_is ∙ length-append (take many line) more ∙ ap (◌+ length more) length_so_far

  fits_line : many + length more ≤ most_line
  fits_line = omega (arith, length-take (most_line - many) p)

  pub keeps : {k r : ℕ} {s o : List ℕ} → k ≡ many → s ≡ part p 0 (most_line - k) → Puts line k s r o → Keeps line n p r o
  keeps {k} {r} {s} {o} e i q =
      let w : Puts line many more r o = rw (i, e) at q in
      record { many = omega (arith, w.next, grown_length, fits_line); bytes = w.bytes }

-- all of the line is in its buffer
pub grown_whole : (line p : List ℕ) (n : ℕ) {k : ℕ} {m : List ℕ} → length p ≡ 0 → k ≡ min n most_line → m ≡ part line 0 k → m ≡ grown line n p
unfolding grown
grown_whole line p n h e i =
    i ∙ ap (λ v. take v line) e ∙ sym (so_far n line)
    ∙ sym (ap (λ q. kept (take n (kept line) ++ q)) (none p h) ∙ ap kept (append-nil (take n (kept line))) ∙ take_all most_line (take n (kept line)) (omega (arith, length-take n (kept line), length-take most_line line)))
  where
    none : (l : List ℕ) → length l ≡ 0 → l ≡ []
    none [] z = refl
    none (x ∷ l) z = absurd (omega arith)

-- ---- what a turn looks at
module _ (p : List ℕ) where
  -- what comes before the line's end begins the piece, and ends no line
  pub before_taken : take (length (before p)) p ≡ before p
  before_taken = go (dec_le (length p) (length (before p)))
    where
      go : Dec (length p ≤ length (before p)) → take (length (before p)) p ≡ before p
      go (yes h) = take_all (length (before p)) p h ∙ sym (whole p h).is_before
      go (no h) = (within p (omega arith)).is_before

  before_plain : any is_end (before p) ≡ false
  before_plain = go (dec_le (length p) (length (before p)))
    where
      go : Dec (length p ≤ length (before p)) → any is_end (before p) ≡ false
      go (yes h) = ap (any is_end) (whole p h).is_before ∙ (whole p h).ends
      go (no h) = (within p (omega arith)).plain

  pub before_few : length (before p) ≤ length p
  before_few = let e = ap length before_taken in omega (arith, e, length-take (length (before p)) p)

  module _ (n : ℕ) where
    -- as it is found
    pub looked_all : n ≡ 0 → p ≡ looked_at n p
    unfolding looked_at
    looked_all e = rw (eq-eqb n 0 e)

    pub looked_start : length (before p) ≡ 0 → p ≡ looked_at n p
    unfolding looked_at
    looked_start e = go (eqb n 0)
      where
        go : (s : Bool) → p ≡ cond s p (cond (eqb (length (before p)) 0) p (before p))
        go true = refl
        go false = rw (eq-eqb (length (before p)) 0 e)

    pub looked_before : {e : ℕ} → (n ≡ 0 → ⊥) → e ≡ length (before p) → (e ≡ 0 → ⊥) → take e p ≡ looked_at n p
    unfolding looked_at
    looked_before {e} ne q nz = rw (ne_eqb n 0 ne, ne_eqb (length (before p)) 0 (λ z. nz (q ∙ z))) (ap (λ k. take k p) q ∙ before_taken)

    pub looked_whole : InOnePlace n (looked_at n p)
    unfolding looked_at
    looked_whole ne = go (eqb n 0) (eqb (length (before p)) 0) refl refl
      where
        go : (s t : Bool) → eqb n 0 ≡ s → eqb (length (before p)) 0 ≡ t → let l = cond s p (cond t p (before p)) in any is_end l ≡ true → length (before l) ≡ 0
        go true t e f h = absurd (ne (eqb-true n 0 e))
        go false true e f h = eqb-true (length (before p)) 0 f
        go false false e f h = absurd (false≢true (sym before_plain ∙ h))

    -- it begins the piece, and is none only of none
    looked_begins : take (length (looked_at n p)) p ≡ looked_at n p
    unfolding looked_at
    looked_begins = go (eqb n 0) (eqb (length (before p)) 0)
      where
        go : (s t : Bool) → let l = cond s p (cond t p (before p)) in take (length l) p ≡ l
        go true t = take-length p
        go false true = take-length p
        go false false = before_taken

    pub looked_few : length (looked_at n p) ≤ length p
    looked_few = let e = ap length looked_begins in omega (arith, e, length-take (length (looked_at n p)) p)

    pub looked_some : 1 ≤ length p → 1 ≤ length (looked_at n p)
    unfolding looked_at
    looked_some h = go (eqb n 0) (eqb (length (before p)) 0) refl
      where
        go : (s t : Bool) → eqb (length (before p)) 0 ≡ t → 1 ≤ length (cond s p (cond t p (before p)))
        go true t f = h
        go false true f = h
        go false false f = let z = eqb-false (length (before p)) 0 f in omega (arith, z)

    pub looked_taken : (u : ℕ) → u ≤ length (looked_at n p) → take u (looked_at n p) ≡ take u p
    looked_taken u h = ap (take u) (sym looked_begins) ∙ take-take u (length (looked_at n p)) p h

-- ---- the state after a piece
abbrev at : List ℕ → List ℕ → State
at b l = record { table = b; line = l }

plain_after : (b l p : List ℕ) → kept l ≡ l → any is_end p ≡ false → after_bytes (at b l) p ≡ at b (kept (l ++ p))
unfolding after_bytes after_byte
plain_after b l [] k e = ap (at b) (sym (ap kept (append-nil l) ∙ k))
plain_after b l (x ∷ p) k e =
    go (is_end x) refl (plain_after b (kept (l ++ (x ∷ []))) p (take-take most_line most_line (l ++ (x ∷ [])) (omega arith)))
  where
    go : (t : Bool) → is_end x ≡ t
        → (any is_end p ≡ false → after_bytes (at b (kept (l ++ (x ∷ [])))) p ≡ at b (kept (kept (l ++ (x ∷ [])) ++ p)))
        → after_bytes (at b l) (x ∷ p) ≡ at b (kept (l ++ (x ∷ p)))
    go true h ih = absurd (false≢true (sym (rw h at e)))
    go false h ih =
        rw h (ih (rw h at e) ∙ ap (at b) (take_more most_line (l ++ (x ∷ [])) p ∙ ap kept (append_assoc l (x ∷ []) p)))

module _ (b line : List ℕ) (n : ℕ) (p : List ℕ) where
  so_far_kept : kept (take n (kept line)) ≡ take n (kept line)
  so_far_kept = take_all most_line (take n (kept line)) (omega (arith, length-take n (kept line), length-take most_line line))

  pub state_unended : Unended p → turn_state b line n p ≡ at b (grown line n p)
  unfolding turn_state grown
  state_unended u =
      let e : take (used_of p) p ≡ p = ap (λ k. take k p) u.used ∙ take-length p in
      ap (after_bytes _) e ∙ plain_after b (take n (kept line)) p so_far_kept u.ends

  pub state_ended : Ended p → turn_state b line n p ≡ at (table_after b (grown line n (before p))) []
  unfolding turn_state grown after_bytes after_byte
  state_ended u =
      ap (after_bytes _) u.taken
      ∙ (in_pieces (at b (take n (kept line))) (before p) (0x0a ∷ [])).0
      ∙ ap (λ s. after_bytes s (0x0a ∷ [])) (plain_after b (take n (kept line)) (before p) so_far_kept u.plain)
