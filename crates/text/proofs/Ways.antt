-- A turn or a way out of the code at a time: bytes, strings, lists, numbers, kinds.
use Rattle.std.specs.Prelude.{Some, None, ◌==◌, position}
use Rattle.std.specs.List.{position_or_len}
use Rattle.std.specs.Slice.{IsGetRangeResult}
use denote.Bor.{Bor}
use mathlib.Core.Path.{◌≡◌, refl, sym, ap, ◌∙◌}
use mathlib.Core.Bool.{Bool, true, false, cond, not, ◌&&◌, ◌||◌, false≢true}
use mathlib.Core.List.{List, [], ◌∷◌, ◌++◌}
use Prim.Native.Nat.{ℕ, zero, suc, ◌+◌, ◌-◌, ◌<◌, ◌≤◌}
use native.Mathlib.Numerals.{add-one, sub-one}
use native.Mathlib.Decide.{dec_le, dec_lt}
use native.Mathlib.Omega.{arith}
use lib.Dec.{eqb, ltb}
use lib.ListN.{length, get_or, drop, length-append, length-drop, drop_of_length-le, get_or-eq_default}
use lib.Seq.{drop-cons, take-length}
use borrow.Author.Tests.{lt-ltb, le-ltb, le-leb, lt-leb, eq-eqb, ne_eqb, ltb-true, not-true, not-false}
use Rattle.utf8.specs.Utf8.{is_utf8}
use Rattle.wire.specs.Escape.{escape}
use Rattle.wire.specs.Limits.{most_strings}
use Rattle.wire.specs.Bytes.{is_hex}
use Rattle.text.specs.Event.{all}
use Rattle.text.specs.Read.{Got, none, got, stands_at, is_raw, escaped_byte, move_of, said_of, push_bytes, body_from}
use Rattle.text.specs.Read.{checked, string_at, cons, follow, text_members_at, tag_at, run_of}
use Rattle.text.specs.Inner.Parts.{got_end, is_letter, no_zero_byte, comma_after}
use Rattle.text.specs.declared.Move.TheVariants.{Go, Stop, Refuse}
use Rattle.text.proofs.Pieces.{both, spelt_inside}
use Rattle.text.proofs.Strings.{body_spelt, body_utf8}

pub ruleset tests = (lt-ltb, le-ltb, le-leb, lt-leb, eq-eqb, ne_eqb)

-- ---- fixed bytes
module _ (s w : List ℕ) (k i : ℕ) where
  pub stands_out : length w ≤ k → stands_at s (drop k w) i ≡ true
  unfolding stands_at
  stands_out h = rw (drop_of_length-le w h)

  pub stands_step : k < length w → stands_at s (drop k w) i ≡ (eqb (get_or s i 0) (get_or w k 0) && stands_at s (drop (k + 1) w) (i + 1))
  unfolding stands_at
  stands_step h = rw (add-one k, drop-cons w k 0)

pub no_zero_lem : (w : List ℕ) (k : ℕ) → no_zero_byte w ≡ true → k < length w → 0 < get_or w k 0
no_zero_lem [] k e h = omega arith
no_zero_lem (b ∷ w) zero e h = ltb-true 0 b (both (ltb 0 b) (no_zero_byte w) e).0
no_zero_lem (b ∷ w) (suc k) e h = no_zero_lem w k (both (ltb 0 b) (no_zero_byte w) e).1 (omega arith)

-- ---- a letter after a backslash
pub letter_is : (c : ℕ) → (eqb c 110 || (eqb c 34 || (eqb c 92 || (eqb c 114 || (eqb c 116 || (eqb c 98 || eqb c 102)))))) ≡ is_letter c
unfolding escaped_byte
letter_is c = go (eqb c 110) (eqb c 34) (eqb c 92) (eqb c 114) (eqb c 116) (eqb c 98) (eqb c 102)
  where
    go : (n q s r t b f : Bool) → (n || (q || (s || (r || (t || (b || f))))))
        ≡ not (eqb (cond n 0x0a (cond q 0x22 (cond s 0x5c (cond r 0x0d (cond t 0x09 (cond b 0x08 (cond f 0x0c 0))))))) 0)
    go true q s r t b f = refl
    go false true s r t b f = refl
    go false false true r t b f = refl
    go false false false true t b f = refl
    go false false false false true b f = refl
    go false false false false false true f = refl
    go false false false false false false true = refl
    go false false false false false false false = refl

-- ---- a string's body
end_push : (p : List ℕ) (g : Got (List ℕ)) → got_end (push_bytes p g) ≡ got_end g
end_push p none = refl
end_push p (got v n) = refl

module _ (e : Bool) (s : List ℕ) (i : ℕ) where
  pub body_over : length s ≤ i → got_end (body_from e i (drop i s)) ≡ None
  unfolding body_from
  body_over h = rw (drop_of_length-le s {i = i} h)

  module _ (h : i < length s) where
    pub body_go : (f : Bool) → move_of e (get_or s i 0) ≡ Go f → got_end (body_from e i (drop i s)) ≡ got_end (body_from f (i + 1) (drop (i + 1) s))
    unfolding body_from
    body_go f q = rw (drop-cons s i 0, body_from, q, add-one) (end_push (said_of e (get_or s i 0)) (body_from f (suc i) (drop (suc i) s)))

    pub body_stop : move_of e (get_or s i 0) ≡ Stop → got_end (body_from e i (drop i s)) ≡ Some (i + 1)
    unfolding body_from
    body_stop q = rw (drop-cons s i 0, body_from, q)

    pub body_refuse : move_of e (get_or s i 0) ≡ Refuse → got_end (body_from e i (drop i s)) ≡ None
    unfolding body_from
    body_refuse q = rw (drop-cons s i 0, body_from, q)

-- by the bytes themselves: a backslash and its letter, the closing quote, a byte that stands only escaped, and one that
-- stands as it is
module _ (s : List ℕ) (i : ℕ) (h : i < length s) where
  module _ (e : get_or s i 0 ≡ 92) {c : ℕ} {t : Bool} (l : c ≡ get_or s (i + 1) 0) (k : t ≡ is_letter c) where
    slashed : got_end (body_from false i (drop i s)) ≡ got_end (body_from true (i + 1) (drop (i + 1) s))
    slashed = body_go false s i h true (rw e)

    pub body_pair : t ≡ true → got_end (body_from false i (drop i s)) ≡ got_end (body_from false (i + 2) (drop (i + 2) s))
    unfolding escaped_byte
    body_pair z = go (dec_le (length s) (i + 1))
      where
        is : is_letter (get_or s (i + 1) 0) ≡ true
        is = sym (ap is_letter l) ∙ sym k ∙ z

        go : Dec (length s ≤ i + 1) → got_end (body_from false i (drop i s)) ≡ got_end (body_from false (i + 2) (drop (i + 2) s))
        go (yes m) = absurd (false≢true (rw (get_or-eq_default s 0 m) at is))
        go (no m) =
            let two : i + 1 + 1 ≡ i + 2 = omega arith in
            let d = not-true (eqb (escaped_byte (get_or s (i + 1) 0)) 0) is in
            slashed ∙ body_go true s (i + 1) (omega arith) false (rw d) ∙ ap (λ (j : ℕ). got_end (body_from false j (drop j s))) two

    pub body_unknown : t ≡ false → got_end (body_from false i (drop i s)) ≡ None
    body_unknown z = go (dec_le (length s) (i + 1))
      where
        go : Dec (length s ≤ i + 1) → got_end (body_from false i (drop i s)) ≡ None
        go (yes m) = slashed ∙ body_over true s (i + 1) m
        go (no m) =
            let d = not-false (eqb (escaped_byte (get_or s (i + 1) 0)) 0) (sym (ap is_letter l) ∙ sym k ∙ z) in
            slashed ∙ body_refuse true s (i + 1) (omega arith) (rw d)

  module _ (e : get_or s i 0 ≡ 92 → ⊥) where
    pub body_quote : get_or s i 0 ≡ 34 → got_end (body_from false i (drop i s)) ≡ Some (i + 1)
    body_quote q = body_stop false s i h (rw (eq-eqb _ 34 q))

    module _ (q : get_or s i 0 ≡ 34 → ⊥) where
      pub body_stuck : is_raw (get_or s i 0) ≡ false → got_end (body_from false i (drop i s)) ≡ None
      body_stuck m = body_refuse false s i h (rw (ne_eqb _ 34 q, ne_eqb _ 92 e, m))

      pub body_raw : is_raw (get_or s i 0) ≡ true → got_end (body_from false i (drop i s)) ≡ got_end (body_from false (i + 1) (drop (i + 1) s))
      body_raw m = body_go false s i h false (rw (ne_eqb _ 34 q, ne_eqb _ 92 e, m))

-- ---- a string
module _ (s : List ℕ) (at n : ℕ) where
  pub body_inside : got_end (body_from false at (drop at s)) ≡ Some n → (at + 1 ≤ n) × (n ≤ length s)
  body_inside q = go (body_from false at (drop at s)) refl q
    where
      go : (g : Got (List ℕ)) → body_from false at (drop at s) ≡ g → got_end g ≡ Some n → (at + 1 ≤ n) × (n ≤ length s)
      go none e r = absurd (let z : ◌≡◌ {A = ℕ} 0 1 = cc in omega arith)
      go (got v m) e r =
          let z : m ≡ n = cc in
          let a = body_spelt s at v m e in
          let l = length-append (escape v) (34 ∷ []) in
          (omega (arith, a.end), rw (← z) (spelt_inside s at (escape v ++ (34 ∷ [])) m a (omega arith)))

module _ (s : List ℕ) (at : ℕ) where
  pub string_other : (get_or s at 0 ≡ 34 → ⊥) → None ≡ got_end (string_at s at)
  unfolding string_at
  string_other h = rw (ne_eqb (get_or s at 0) 34 h)

  pub string_is : get_or s at 0 ≡ 34 → is_utf8 s ≡ true → got_end (body_from false (at + 1) (drop (at + 1) s)) ≡ got_end (string_at s at)
  unfolding string_at
  string_is h u = rw (eq-eqb (get_or s at 0) 34 h) (go (body_from false (at + 1) (drop (at + 1) s)) refl)
    where
      go : (g : Got (List ℕ)) → body_from false (at + 1) (drop (at + 1) s) ≡ g → got_end g ≡ got_end (checked g)
      go none e = refl
      go (got v n) e = rw (body_utf8 s at v n u h e)

-- ---- members of a list
module _ {A : Type 0} (one : ℕ → Got A) (s : List ℕ) where
  pub members_out : (k at : ℕ) → k ≤ 0 → text_members_at one s k at ≡ none
  unfolding text_members_at
  members_out zero at h = refl
  members_out (suc k) at h = absurd (omega arith)

  pub members_bad : (k at : ℕ) → one at ≡ none → text_members_at one s k at ≡ none
  unfolding text_members_at
  members_bad zero at q = refl
  members_bad (suc k) at q = rw q

  module _ (k at n : ℕ) (x : A) (h : 0 < k) (q : one at ≡ got x n) where
    step : text_members_at one s k at ≡ follow x (get_or s n 0) n (text_members_at one s (k - 1) (n + 1))
    unfolding text_members_at
    step = go k h
      where
        go : (k : ℕ) → 0 < k → text_members_at one s k at ≡ follow x (get_or s n 0) n (text_members_at one s (k - 1) (n + 1))
        go zero h = absurd (omega arith)
        go (suc k) h = rw (sub-one, q)

    module _ (b : ℕ) (e : b ≡ get_or s n 0) where
      pub members_more : b ≡ 44 → text_members_at one s k at ≡ cons x (text_members_at one s (k - 1) (n + 1))
      members_more f = step ∙ rw (← e, f)

      pub members_done : (b ≡ 44 → ⊥) → b ≡ 93 → text_members_at one s k at ≡ got (x ∷ []) (n + 1)
      members_done f g = step ∙ rw (← e, g)

      pub members_wrong : (b ≡ 44 → ⊥) → (b ≡ 93 → ⊥) → text_members_at one s k at ≡ none
      members_wrong f g = step ∙ rw (← e, ne_eqb b 44 f, ne_eqb b 93 g)

-- ---- what an end says
pub end_bad : {A : Type 0} (g : Got A) → None ≡ got_end g → g ≡ none
end_bad none e = refl
end_bad (got x n) e = absurd (let z : ◌≡◌ {A = ℕ} 0 1 = cc in omega arith)

pub record Has {A : Type 0} (g : Got A) (n : ℕ) : Type 0 where
  pub it : A
  pub is : g ≡ got it n

pub end_got : {A : Type 0} (g : Got A) (n : ℕ) → Some n ≡ got_end g → Has g n
end_got none n e = absurd (let z : ◌≡◌ {A = ℕ} 0 1 = cc in omega arith)
end_got (got x m) n e = record { it = x; is = ap (got x) (let z : m ≡ n = cc in z) }

-- ---- a tag: the loop of its strings
module _ (s : List ℕ) (at b : ℕ) (e : b ≡ get_or s at 0) where
  pub tag_other : (b ≡ 91 → ⊥) → None ≡ got_end (tag_at s at)
  unfolding tag_at
  tag_other h = rw (← e, ne_eqb b 91 h)

  pub tag_open : b ≡ 91 → got_end (text_members_at (string_at s) s most_strings (at + 1)) ≡ got_end (tag_at s at)
  unfolding tag_at
  tag_open h = rw (← e, h)

end_cons : {A : Type 0} (x : A) (g : Got (List A)) → got_end (cons x g) ≡ got_end g
end_cons x none = refl
end_cons x (got xs n) = refl

module _ {A : Type 0} (one : ℕ → Got A) (s : List ℕ) (k at : ℕ) where
  pub turn_out_lem : k ≤ 0 → got_end (text_members_at one s k at) ≡ None
  turn_out_lem h = ap got_end (members_out one s k at h)

  pub turn_bad : None ≡ got_end (one at) → got_end (text_members_at one s k at) ≡ None
  turn_bad q = ap got_end (members_bad one s k at (end_bad (one at) q))

  module _ (n b : ℕ) (h : 0 < k) (q : Some n ≡ got_end (one at)) (e : b ≡ get_or s n 0) where
    pub turn_more : b ≡ 44 → got_end (text_members_at one s k at) ≡ got_end (text_members_at one s (k - 1) (n + 1))
    turn_more f = let x = end_got (one at) n q in ap got_end (members_more one s k at n x.it h x.is b e f) ∙ end_cons x.it (text_members_at one s (k - 1) (n + 1))

    pub turn_done : (b ≡ 44 → ⊥) → b ≡ 93 → got_end (text_members_at one s k at) ≡ Some (n + 1)
    turn_done f g = let x = end_got (one at) n q in ap got_end (members_done one s k at n x.it h x.is b e f g)

    pub turn_wrong : (b ≡ 44 → ⊥) → (b ≡ 93 → ⊥) → got_end (text_members_at one s k at) ≡ None
    turn_wrong f g = let x = end_got (one at) n q in ap got_end (members_wrong one s k at n x.it h x.is b e f g)

-- ---- hex
module _ (p : List ℕ) (i : ℕ) where
  pub hex_over : (a : Bool) → length p ≤ i → (a && all is_hex (drop i p)) ≡ a
  unfolding all
  hex_over true h = rw (drop_of_length-le p {i = i} h)
  hex_over false h = refl

  pub hex_more : (a b : Bool) → i < length p → b ≡ is_hex (get_or p i 0) → (a && all is_hex (drop i p)) ≡ ((a && b) && all is_hex (drop (i + 1) p))
  unfolding all
  hex_more true b h e = rw (drop-cons p i 0, all, add-one, e)
  hex_more false b h e = refl

-- ---- the next comma
pub suffix_of : (s : List ℕ) (at : ℕ) (x : Bor (List ℕ)) → IsGetRangeResult s at (length s) (Some x) → x.now ≡ drop at s
suffix_of s at x e = e.0.2 ∙ (let z : length s - at ≡ length (drop at s) = sym (length-drop at s) in rw (z, take-length))

run_is : (l : List ℕ) → position_or_len (λ b. b == 44) l ≡ length (run_of l)
unfolding run_of
run_is [] = refl
run_is (x ∷ l) = go (eqb x 44) (run_is l)
  where
    go : (t : Bool) → position_or_len (λ b. b == 44) l ≡ length (run_of l)
        → cond (not t) (1 + position_or_len (λ b. b == 44) l) 0 ≡ length (cond t [] (x ∷ run_of l))
    go true e = refl
    go false e = let z : 1 + position_or_len (λ b. b == 44) l ≡ suc (length (run_of l)) = omega arith in z

module _ (s : List ℕ) (at : ℕ) where
  comma_is : position (λ b. b == 44) (drop at s) ≡ cond (ltb (length (run_of (drop at s))) (length s - at)) (Some (length (run_of (drop at s)))) None
  comma_is = rw (run_is (drop at s), length-drop)

  pub comma_found : (k : ℕ) → position (λ b. b == 44) (drop at s) ≡ Some k → Some (at + k) ≡ comma_after s at
  comma_found k e = go (dec_lt (length (run_of (drop at s))) (length s - at))
    where
      go : Dec (length (run_of (drop at s)) < length s - at) → Some (at + k) ≡ comma_after s at
      go (yes h) =
          let q = rw (lt-ltb _ _ h) at (sym comma_is ∙ e) in
          let z : length (run_of (drop at s)) ≡ k = cc in
          rw (lt-ltb (at + length (run_of (drop at s))) (length s) (omega arith), z)
      go (no h) = let q = rw (le-ltb (length (run_of (drop at s))) (length s - at) (omega arith)) at (sym comma_is ∙ e) in absurd (let z : ◌≡◌ {A = ℕ} 0 1 = cc in omega arith)

  pub comma_none : position (λ b. b == 44) (drop at s) ≡ None → None ≡ comma_after s at
  comma_none e = go (dec_lt (length (run_of (drop at s))) (length s - at))
    where
      go : Dec (length (run_of (drop at s)) < length s - at) → None ≡ comma_after s at
      go (yes h) = let q = rw (lt-ltb _ _ h) at (sym comma_is ∙ e) in absurd (let z : ◌≡◌ {A = ℕ} 0 1 = cc in omega arith)
      go (no h) = rw (le-ltb (at + length (run_of (drop at s))) (length s) (omega arith))
