-- The text in a buffer of its own, its hash, and hex; a law for each way out of what is answered.
use Rattle.std.specs.Prelude.{Result, Ok, Err}
use mathlib.Core.Path.{◌≡◌, refl, sym, ap, ◌∙◌}
use mathlib.Core.Bool.{Bool, true, false, cond}
use mathlib.Core.List.{List, [], ◌∷◌, ◌++◌, append-nil}
use Prim.Native.Nat.{ℕ, zero, suc, ◌+◌, ◌/◌, ◌%◌, ◌≤◌, ◌<◌}
use native.Mathlib.Numerals.{add-one}
use native.Mathlib.Omega.{arith}
use native.Mathlib.Decide.{dec_le}
use borrow.Author.Tests.{lt-ltb, le-ltb, eq-eqb, ne_eqb, ltb-true, ltb-false}
use lib.Dec.{ltb}
use lib.ListN.{length, take, drop, get_or, replicate, drop_of_length-le, length-take}
use lib.Seq.{take-append_seam, drop-cons, length-take-le}
use Rattle.wire.specs.Put.{Puts}
use Rattle.wire.specs.Escape.{esc_one, escape}
use Rattle.wire.proofs.Laws.{length_put, puts_whole}
use Rattle.digest.specs.Digest.{digest}
use Rattle.digest.specs.State.{digested}
use Rattle.digest.specs.declared.Digest.{Digest}
use Rattle.digest.specs.Claims.{digest_done}
use Rattle.wire.specs.Bytes.{same_bytes}
use Rattle.spell.specs.Spell.{decode}
use Rattle.text.proofs.Places.{escape_none}
use Rattle.message.specs.declared.Body.{Body}
use Rattle.message.specs.declared.EventParts.{EventParts}
use Rattle.message.specs.Lent.{body_row, event_row}
use Rattle.event.specs.declared.Identified.{Identified}
use Rattle.event.specs.Lent.{said, text_of}
use Rattle.event.specs.Answer.{or_else, is_large, body_text_row, short_row, serialised_row, answered, serialised}
use Rattle.event.specs.Answer.{written_number, output_after, serialised_out, hashed_of, identified, hex_of}
use Rattle.wire.specs.Bytes.{hex_digit}
use Rattle.event.specs.Answer.{has_id, offered_row}
use Rattle.event.specs.Answer.{offered_text_row, offered, offered_out}
use Rattle.event.specs.Inner.{Tested}

-- ---- a text's hash
pub text_large : (t : List ℕ) → 4096 < length t → record { row = 9; id = replicate 32 0 } ≡ hashed_of t
unfolding hashed_of
text_large t h = rw (lt-ltb 4096 (length t) h)

pub text-hashed : (t : List ℕ) → length t ≤ 4096 → {x : Digest} → x ≡ digested t → record { row = 0; id = x.bytes } ≡ hashed_of t
unfolding hashed_of
text-hashed t h e = rw (e, digest_done t (omega arith), le-ltb 4096 (length t) h)

pub room_kept : {d t o : List ℕ} {i n : ℕ} → length d ≡ 4097 → Puts d i t n o → length o ≡ 4097
room_kept {d} {t} {i = i} room p = ap length p.bytes ∙ length_put d i t ∙ room

-- ---- the text in a buffer that has room for one byte more than a text may have
module _ {d t o : List ℕ} {n : ℕ} (room : length o ≡ 4097) (p : Puts d 0 t n o) where
  same : length d ≡ 4097
  same = sym (length_put d 0 t) ∙ ap length (sym p.bytes) ∙ room

  pub prefix-length : n ≡ length (take n o)
  prefix-length = let s = same in sym (length-take-le n o (omega (arith, p.next)))

  -- a text of at most 4,096 bytes stands whole in it
  small : n ≤ 4096 → length t ≤ 4096
  small h = let s = same in omega (arith, p.next)

  pub prefix-is : n ≤ 4096 → take n o ≡ t
  prefix-is h =
      let s = same in
      let l = small h in
      let (e, f) = puts_whole (omega arith) p in
      rw (e, f) (take-append_seam t (drop (length t) d))

  pub prefix-hashed : {x : Identified} → x ≡ hashed_of (take n o) → x ≡ hashed_of t
  prefix-hashed {x} e = go (dec_le n 4096)
    where
      go : Dec (n ≤ 4096) → x ≡ hashed_of t
      go (yes h) = e ∙ ap hashed_of (prefix-is h)
      go (no h) =
          let s = same in
          e ∙ sym (text_large (take n o) (omega (arith, prefix-length))) ∙ text_large t (omega (arith, p.next))

-- ---- hex
module _ (s : List ℕ) (i : ℕ) where
  pub hex-turn : i < length s → hex_of (drop i s) ≡ (hex_digit (get_or s i 0 / 16) ∷ []) ++ ((hex_digit (get_or s i 0 % 16) ∷ []) ++ hex_of (drop (i + 1) s))
  unfolding hex_of
  hex-turn h = rw (drop-cons s i 0 h, add-one i)

  pub hex_none : length s ≤ i → hex_of (drop i s) ≡ []
  unfolding hex_of
  hex_none h = rw (drop_of_length-le s {i = i} h)

pub hex_length_lem : (l : List ℕ) → length (hex_of l) ≡ length l + length l
unfolding hex_of
hex_length_lem [] = refl
hex_length_lem (x ∷ l) = omega (arith, hex_length_lem l)

digit-plain : (d : ℕ) → esc_one (hex_digit d) ≡ hex_digit d ∷ []
digit-plain d = go (ltb d 10) refl
  where
    go : (t : Bool) → ltb d 10 ≡ t → esc_one (cond t (48 + d) (87 + d)) ≡ cond t (48 + d) (87 + d) ∷ []
    go true e = let h = ltb-true d 10 e in escape_none (48 + d) (omega arith) (λ q. omega arith)
    go false e = let h = ltb-false d 10 e in escape_none (87 + d) (omega arith) (λ q. omega arith)

-- it has no escapes
pub escape-hex : (l : List ℕ) → escape (hex_of l) ≡ hex_of l
unfolding escape hex_of
escape-hex [] = refl
escape-hex (x ∷ l) = rw (digit-plain (x / 16), digit-plain (x % 16), escape-hex l)

pub hex-put : {d o : List ℕ} {i r x y : ℕ} → y ≡ x → Puts d i (y ∷ []) r o → Puts d i (x ∷ []) r o
hex-put e p = rw e at p

-- 32 bytes in a buffer of 64
pub hex-whole : (l : List ℕ) {d o : List ℕ} {r : ℕ} → length o ≡ 64 → length l ≡ 32 → Puts d 0 (hex_of l) r o → o ≡ hex_of l
hex-whole l {d} {o} room e p =
    let n = hex_length_lem l in
    let m : length d ≡ 64 = sym (length_put d 0 (hex_of l)) ∙ ap length (sym p.bytes) ∙ room in
    let h : length d ≤ length (hex_of l) = omega arith in
    (puts_whole (omega arith) p).1 ∙ ap (◌++◌ (hex_of l)) (drop_of_length-le d {i = length (hex_of l)} h) ∙ append-nil (hex_of l)

pub id-spelled : {t : Bool} {q o k h : List ℕ} → q ≡ k → o ≡ h → t ≡ same_bytes (decode q) o → t ≡ same_bytes (decode k) h
id-spelled e f g = rw (e, f) at g

-- ---- an answer and an output by a row and a text
abbrev pub Outcome : ℕ → List ℕ → List ℕ → Result ℕ ℕ → List ℕ → Type 0
Outcome r t out w o = (w ≡ answered r (length t)) × ((written_number w ≡ r) × (o ≡ output_after r t out))

pub number_is : (r n : ℕ) → written_number (answered r n) ≡ r
number_is zero n = refl
number_is (suc r) n = rw (ne_eqb (suc r) 0 (λ q. omega arith))

module _ (t out : List ℕ) where
  pub outcome : {r : ℕ} {w : Result ℕ ℕ} {o : List ℕ} → w ≡ answered r (length t) → o ≡ output_after r t out → Outcome r t out w o
  outcome {r} e f = (e, (ap written_number e ∙ number_is r (length t), f))

  -- a row that holds refuses, one that does not lets the next decide
  pub refused : (r s : ℕ) {x : ℕ} → x ≡ r → (x ≡ 0 → ⊥) → Outcome (or_else r s) t out (Err x) out
  refused r s {x} e n = let h = ne_eqb r 0 (λ q. n (e ∙ q)) in outcome (simp (h, e)) (simp h)

  pub passed : (r s : ℕ) → r ≡ 0 → {w : Result ℕ ℕ} {o : List ℕ} → w ≡ answered s (length t) → o ≡ output_after s t out → Outcome (or_else r s) t out w o
  passed r s z e f = let h = eq-eqb r 0 z in outcome (e ∙ rw h) (f ∙ rw h)

  -- row 13, or the text from the output's start
  pub too_short : length out < length t → (Err 13 ≡ answered (short_row t out) (length t)) × (out ≡ output_after (short_row t out) t out)
  too_short h = let q = lt-ltb (length out) (length t) h in (rw q, rw q)

  pub room_for : length t ≤ length out → {m : ℕ} {o : List ℕ} → Puts out 0 t m o → (Ok m ≡ answered (short_row t out) (length t)) × (o ≡ output_after (short_row t out) t out)
  room_for h x =
      let q = le-ltb (length out) (length t) h in
      let (y, w) = puts_whole h x in
      (rw (q, y), rw (q, w))

-- the row and the length of an answer
pub wrote-is : (r n : ℕ) {x : ℕ} → Ok x ≡ answered r n → (r ≡ 0) × (x ≡ n)
wrote-is zero n e = (refl, cc)
wrote-is (suc r) n {x} e =
    absurd (let q : Ok x ≡ Err (suc r) = e ∙ rw (ne_eqb (suc r) 0 (λ q. omega arith)) in let z : ◌≡◌ {A = ℕ} 0 1 = cc in omega arith)

pub refused_is : (r n : ℕ) {x : ℕ} → Err x ≡ answered r n → (x ≡ r) × (x ≡ 0 → ⊥)
refused_is zero n e = absurd (let z : ◌≡◌ {A = ℕ} 0 1 = cc in omega arith)
refused_is (suc r) n {x} e =
    let q : Err x ≡ Err (suc r) = e ∙ rw (ne_eqb (suc r) 0 (λ q. omega arith)) in
    let y : x ≡ suc r = cc in
    (y, λ z. omega arith)

-- ---- the ways out of serialising
abbrev pub AsSerialised : List ℕ → Body → List ℕ → Result ℕ ℕ → List ℕ → Type 0
AsSerialised b p out w o = (w ≡ serialised b p out) × ((written_number w ≡ serialised_row b p out) × (o ≡ serialised_out b p out))

module _ (b : List ℕ) (p : Body) (out : List ℕ) {r : ℕ} (e : r ≡ body_row b p) where
  pub body_refused : (r ≡ 0 → ⊥) → AsSerialised b p out (Err r) out
  unfolding serialised serialised_out serialised_row body_text_row
  body_refused n = refused (text_of b p) out (body_text_row b p) (short_row (text_of b p) out) (e ∙ rw (ne_eqb (body_row b p) 0 (λ q. n (e ∙ q)))) n

  module _ (z : r ≡ 0) {d t : List ℕ} {n : ℕ} (room : length t ≡ 4097) (l : Puts d 0 (text_of b p) n t) where
    pub large-refused : 4096 < n → AsSerialised b p out (Err 9) out
    unfolding serialised serialised_out serialised_row body_text_row is_large
    large-refused h =
        let s = same room l in
        let q = eq-eqb (body_row b p) 0 (sym e ∙ z) in
        let k = lt-ltb 4096 (length (text_of b p)) (omega (arith, l.next)) in
        refused (text_of b p) out (body_text_row b p) (short_row (text_of b p) out) (rw (q, k)) (λ q. omega arith)

    pub text-given : n ≤ 4096 → {w : Result ℕ ℕ} {o : List ℕ} → w ≡ answered (short_row (take n t) out) (length (take n t)) → o ≡ output_after (short_row (take n t) out) (take n t) out
        → AsSerialised b p out w o
    unfolding serialised serialised_out serialised_row body_text_row is_large
    text-given h f g =
        let q = eq-eqb (body_row b p) 0 (sym e ∙ z) in
        let k = le-ltb 4096 (length (text_of b p)) (small room l h) in
        let i = prefix-is room l h in
        passed (text_of b p) out (body_text_row b p) (short_row (text_of b p) out) (rw (q, k)) (rw i at f) (rw i at g)

module _ (b : List ℕ) (p : Body) {r : ℕ} (e : r ≡ body_row b p) where
  pub id-refused : (r ≡ 0 → ⊥) → record { row = r; id = replicate 32 0 } ≡ identified b p
  unfolding identified body_text_row
  id-refused n = simp (ne_eqb (body_row b p) 0 (λ q. n (e ∙ q)), e)

  pub id_hashed : r ≡ 0 → {d t : List ℕ} {n : ℕ} → length t ≡ 4097 → Puts d 0 (text_of b p) n t → {x : Identified} → x ≡ hashed_of (take n t) → x ≡ identified b p
  unfolding identified body_text_row hashed_of is_large
  id_hashed z room l f = prefix-hashed room l f ∙ rw (eq-eqb (body_row b p) 0 (sym e ∙ z))

-- ---- the rows of an offer
rows-refused : (b : List ℕ) (p : EventParts) (t : List ℕ) {x : ℕ} → x ≡ offered_row b p → (x ≡ 0 → ⊥) → Tested b p (Err x) t
rows-refused b p t e n = record { says = simp (ne_eqb (offered_row b p) 0 (λ q. n (e ∙ q)), e); there = λ z. absurd (n (e ∙ z)) }

module _ (b : List ℕ) (p : EventParts) (z : event_row b p ≡ 0) where
  module _ {d t : List ℕ} {n : ℕ} (room : length t ≡ 4097) (l : Puts d 0 (text_of b p.body) n t) {x : Identified} (f : x ≡ hashed_of (take n t)) where
    row_is : x.row ≡ cond (is_large b p.body) 9 0
    unfolding hashed_of is_large
    row_is = ap (λ (y : Identified). y.row) (prefix-hashed room l f)

    pub large-offered : (x.row ≡ 0 → ⊥) → Tested b p (Err x.row) t
    unfolding offered_row
    large-offered n = rows-refused b p t (rw (eq-eqb (event_row b p) 0 z) (go (is_large b p.body) row_is)) n
      where
        go : (t : Bool) → x.row ≡ cond t 9 0 → x.row ≡ cond t 9 (cond (has_id b p) 0 10)
        go true q = q
        go false q = absurd (n q)

    module _ (y : x.row ≡ 0) where
      not_large : is_large b p.body ≡ false
      not_large = go (is_large b p.body) (sym row_is ∙ y)
        where
          go : (t : Bool) → ◌≡◌ {A = ℕ} (cond t 9 0) 0 → t ≡ false
          go true q = absurd (omega arith)
          go false q = refl

      id-is : x.id ≡ digest (text_of b p.body)
      unfolding hashed_of is_large
      id-is = ap (λ (w : Identified). w.id) (prefix-hashed room l f) ∙ rw not_large

      row-offered : {t : Bool} → t ≡ same_bytes (said b p.id) (hex_of x.id) → cond t 0 10 ≡ offered_row b p
      unfolding offered_row has_id
      row-offered q = rw (eq-eqb (event_row b p) 0 z, not_large, q, id-is)

      pub other_id : false ≡ same_bytes (said b p.id) (hex_of x.id) → Tested b p (Err 10) t
      other_id q = rows-refused b p t (row-offered q) (λ q. omega arith)

      pub own_id : true ≡ same_bytes (said b p.id) (hex_of x.id) → Tested b p (Ok n) t
      unfolding is_large
      own_id q =
          let h : length (text_of b p.body) ≤ 4096 = ltb-false 4096 (length (text_of b p.body)) not_large in
          let s = same room l in
          let m : n ≡ length (text_of b p.body) = omega (arith, l.next) in
          record { says = rw (eq-eqb (offered_row b p) 0 (sym (row-offered q)), m); there = λ z. rw (← m) (prefix-is room l (omega arith)) }

-- ---- an event offered: its row, and its text
abbrev pub AsOffered : List ℕ → EventParts → List ℕ → Result ℕ ℕ → List ℕ → Type 0
AsOffered b p out w o = (w ≡ offered b p out) × ((written_number w ≡ offered_text_row b p out) × (o ≡ offered_out b p out))

module _ (b : List ℕ) (p : EventParts) {r : ℕ} (e : r ≡ event_row b p) (n : r ≡ 0 → ⊥) where
  pub early_row : r ≡ offered_row b p
  unfolding offered_row
  early_row = e ∙ rw (ne_eqb (event_row b p) 0 (λ q. n (e ∙ q)))

  pub early-refused : (out : List ℕ) → AsOffered b p out (Err r) out
  unfolding offered offered_out offered_text_row
  early-refused out = refused (text_of b p.body) out (offered_row b p) (short_row (text_of b p.body) out) early_row n

module _ (b : List ℕ) (p : EventParts) {w : Result ℕ ℕ} {t : List ℕ} (k : Tested b p w t) {x : ℕ} where
  module _ (e : w ≡ Err x) where
    refusal : (x ≡ offered_row b p) × (x ≡ 0 → ⊥)
    refusal = refused_is (offered_row b p) (length (text_of b p.body)) (sym e ∙ k.says)

    pub row_of : x ≡ offered_row b p
    row_of = refusal.0

    pub rows_first : (out : List ℕ) → AsOffered b p out (Err x) out
    unfolding offered offered_out offered_text_row
    rows_first out = refused (text_of b p.body) out (offered_row b p) (short_row (text_of b p.body) out) refusal.0 refusal.1

  module _ (e : w ≡ Ok x) where
    length_is : x ≡ length (text_of b p.body)
    length_is = (wrote-is (offered_row b p) (length (text_of b p.body)) (sym e ∙ k.says)).1

    pub row_none : 0 ≡ offered_row b p
    row_none = sym (wrote-is (offered_row b p) (length (text_of b p.body)) (sym e ∙ k.says)).0

    text_is : take x t ≡ text_of b p.body
    text_is = rw length_is (k.there (sym row_none))

    pub text_length : x ≡ length (take x t)
    text_length = length_is ∙ ap length (sym text_is)

    pub text-inside : x ≤ length t
    text-inside = omega (arith, text_length, length-take x t)

    pub then-given : (out : List ℕ) {v : Result ℕ ℕ} {o : List ℕ} → v ≡ answered (short_row (take x t) out) (length (take x t)) → o ≡ output_after (short_row (take x t) out) (take x t) out
        → AsOffered b p out v o
    unfolding offered offered_out offered_text_row
    then-given out f g =
        passed (text_of b p.body) out (offered_row b p) (short_row (text_of b p.body) out) (sym row_none) (rw text_is at f) (rw text_is at g)

-- what is offered and refused by no row has a text of at most 4,096 bytes
pub offered-small : (b : List ℕ) (p : EventParts) → offered_row b p ≡ 0 → length (text_of b p.body) ≤ 4096
unfolding offered_row is_large
offered-small b p e = ltb-false 4096 (length (text_of b p.body)) (go (event_row b p) (ltb 4096 (length (text_of b p.body))) e)
  where
    go : (r : ℕ) (l : Bool) → or_else r (cond l 9 (cond (has_id b p) 0 10)) ≡ 0 → l ≡ false
    go zero true q = absurd (omega arith)
    go zero false q = refl
    go (suc r) l q = absurd (let z : suc r ≡ 0 = sym (rw (ne_eqb (suc r) 0 (λ q. omega arith))) ∙ q in omega arith)

-- an output that has room for the text, as has any of 4,096 bytes, is not too short: the row is that of the offer
module _ (b : List ℕ) (p : EventParts) (out : List ℕ) where
  pub row-alone : (offered_row b p ≡ 0 → length (text_of b p.body) ≤ length out) → offered_text_row b p out ≡ offered_row b p
  unfolding offered_text_row
  row-alone h = go (offered_row b p) refl
    where
      go : (r : ℕ) → offered_row b p ≡ r → or_else r (short_row (text_of b p.body) out) ≡ r
      go zero q = rw (le-ltb (length out) (length (text_of b p.body)) (h q))
      go (suc r) q = rw (ne_eqb (suc r) 0 (λ q. omega arith))

  pub row-alone-most : 4096 ≤ length out → offered_text_row b p out ≡ offered_row b p
  row-alone-most h = row-alone (λ e. omega (arith, offered-small b p e))
