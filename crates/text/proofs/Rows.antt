-- Fixed bytes, things in a row, the pubkey: each reader is exact where its parts are. Then all fields in a row.
use mathlib.Core.Path.{◌≡◌, refl, sym, ◌∙◌}
use mathlib.Core.Bool.{Bool, true, false, cond, ◌&&◌}
use mathlib.Core.List.{List, [], ◌∷◌, ◌++◌}
use Prim.Native.Nat.{ℕ, ◌+◌, ◌≤◌}
use native.Mathlib.Omega.{arith}
use lib.Dec.{eqb, ltb}
use lib.IntN.{ℤ}
use lib.ListN.{length, get_or, take, drop, take-append-drop}
use lib.Seq.{take_at}
use borrow.Author.Tests.{eq-eqb, eqb-true, ltb-true}
use Rattle.numeral.specs.Decimal.{digits, decimal}
use Rattle.wire.specs.Limits.{hex_length}
use Rattle.wire.specs.Bytes.{is_hex}
use Rattle.text.specs.Event.{Tag, quoted, tags_text, closing, comma, bracket, all, is_pubkey, is_time, is_kind}
use Rattle.text.specs.Event.{is_tags, is_string_bytes}
use Rattle.text.specs.Read.{Got, none, got, bind, stands_at, closed_at, pair_at, string_at, tags_at, time_at, kind_at}
use Rattle.text.specs.Read.{pubkey_at, Fields, fields_at}
use Rattle.text.specs.Inner.Parts.{no_zero_byte}
use Rattle.text.proofs.Pieces.{Spelt, Piece, Exact, both, and_true, spelt, join, left, right, byte_is, byte_at_lem}
use Rattle.text.proofs.Pieces.{tail, spelt_inside}
use Rattle.text.proofs.Strings.{string_exact}
use Rattle.text.proofs.Lists.{tags_exact}
use Rattle.text.proofs.Numbers.{time_same, time_back, kind_same, kind_back}

-- ---- fixed bytes
module _ (s : List ℕ) where
  pub stands_same : (w : List ℕ) (at : ℕ) → no_zero_byte w ≡ true → stands_at s w at ≡ true → Spelt s at w (at + length w)
  unfolding stands_at
  stands_same [] at z e = record { is = (let q : at + 0 ≡ at = omega arith in rw q); end = refl }
  stands_same (b ∷ w) at z e =
      let h = both (eqb (get_or s at 0) b) (stands_at s w (at + 1)) e in
      let k = both (ltb 0 b) (no_zero_byte w) z in
      let q : at + 1 + length w ≡ at + length (b ∷ w) = omega arith in
      rw (← q) (join {p = b ∷ []} (byte_at_lem s at b (ltb-true 0 b k.0) (eqb-true (get_or s at 0) b h.0)) (stands_same w (at + 1) k.1 h.1))

  pub stands_back : (w : List ℕ) (at n : ℕ) → Spelt s at w n → stands_at s w at ≡ true
  unfolding stands_at
  stands_back [] at n a = refl
  stands_back (b ∷ w) at n a =
      and_true (eqb (get_or s at 0) b) (stands_at s w (at + 1)) (eq-eqb (get_or s at 0) b (byte_is a)) (stands_back w (at + 1) n (tail a))

  pub stands_inside : (b : ℕ) (w : List ℕ) (at : ℕ) → no_zero_byte (b ∷ w) ≡ true → stands_at s (b ∷ w) at ≡ true → at + length (b ∷ w) ≤ length s
  stands_inside b w at z e = spelt_inside s at (b ∷ w) (at + length (b ∷ w)) (stands_same (b ∷ w) at z e) (omega arith)

-- ---- the pubkey
abbrev itself : List ℕ → List ℕ
itself k = k

pub pubkey_length : (k : List ℕ) → is_pubkey k ≡ true → length k ≡ hex_length
unfolding is_pubkey
pubkey_length k e = eqb-true (length k) hex_length (both (eqb (length k) hex_length) (all is_hex k) e).0

pub pubkey_exact : (s : List ℕ) → Exact itself is_pubkey s (pubkey_at s)
unfolding pubkey_at
pubkey_exact s = record { same = λ at k n q. pubkey_same at k n (take hex_length (drop at s)) refl (is_pubkey (take hex_length (drop at s))) refl q; back = pubkey_back }
  where
    pubkey_same : (at : ℕ) (k : List ℕ) (n : ℕ) (p : List ℕ) → take hex_length (drop at s) ≡ p → (t : Bool) → is_pubkey p ≡ t
        → cond t (got p (at + hex_length)) none ≡ got k n → Piece itself is_pubkey s at k n
    pubkey_same at k n p w false e r = absurd (let z : ◌≡◌ {A = ℕ} 0 1 = cc in omega arith)
    pubkey_same at k n p w true e r =
        let zk : p ≡ k = cc in
        let zn : at + hex_length ≡ n = cc in
        let l = pubkey_length p e in
        rw (← zk, ← zn)
        (record {
          is = spelt s p (drop hex_length (drop at s)) at (at + hex_length) (sym (take-append-drop hex_length (drop at s)) ∙ rw w) (omega arith);
          fine = e;
        })

    pubkey_back : (at : ℕ) (k : List ℕ) (n : ℕ) → Piece itself is_pubkey s at k n → pubkey_at s at ≡ got k n
    pubkey_back at k n a =
        let l = pubkey_length k a.fine in
        let z : at + hex_length ≡ n = omega (arith, a.is.end) in
        rw (a.is.is, take_at k (drop n s) hex_length l, a.fine, z)

-- ---- in a row
module _ {A B : Type 0} (p : A → List ℕ) (q : B → List ℕ) (ok : A → Bool) (fine : B → Bool) where
  abbrev pub two_text : A × B → List ℕ
  two_text x = p x.0 ++ q x.1

  abbrev pub two_fine : A × B → Bool
  two_fine x = ok x.0 && fine x.1

pub pair_exact : {A B : Type 0} (p : A → List ℕ) (q : B → List ℕ) (ok : A → Bool) (fine : B → Bool) (s : List ℕ) (f : ℕ → Got A) (g : ℕ → Got B)
    → Exact p ok s f → Exact q fine s g → Exact (two_text p q ok fine) (two_fine p q ok fine) s (pair_at f g)
unfolding pair_at
pair_exact {A} {B} p q ok fine s f g ef eg = record { same = λ at z m r. one at (f at) z m refl r; back = pair_back }
  where
    two : (at : ℕ) (x : A) (n : ℕ) (h : Got B) (z : A × B) (m : ℕ) → f at ≡ got x n → g n ≡ h → (bind h λ y m. got (x, y) m) ≡ got z m
        → Piece (two_text p q ok fine) (two_fine p q ok fine) s at z m
    two at x n none z m e1 e2 r = absurd (let z : ◌≡◌ {A = ℕ} 0 1 = cc in omega arith)
    two at x n (got y k) z m e1 e2 r =
        let zz : (x, y) ≡ z = cc in
        let zm : k ≡ m = cc in
        let a = ef.same at x n e1 in
        let b = eg.same n y k e2 in
        rw (← zz, ← zm) (record { is = join a.is b.is; fine = and_true (ok x) (fine y) a.fine b.fine })

    one : (at : ℕ) (h : Got A) (z : A × B) (m : ℕ) → f at ≡ h → (bind h λ x n. bind (g n) λ y m. got (x, y) m) ≡ got z m
        → Piece (two_text p q ok fine) (two_fine p q ok fine) s at z m
    one at none z m e r = absurd (let z : ◌≡◌ {A = ℕ} 0 1 = cc in omega arith)
    one at (got x n) z m e r = two at x n (g n) z m e refl r

    pair_back : (at : ℕ) (z : A × B) (m : ℕ) → Piece (two_text p q ok fine) (two_fine p q ok fine) s at z m → pair_at f g at ≡ got z m
    pair_back at z m a =
        let h = both (ok z.0) (fine z.1) a.fine in
        let n = at + length (p z.0) in
        rw (
          ef.back at z.0 n (record { is = left (p z.0) (q z.1) a.is; fine = h.0 }),
          eg.back n z.1 m (record { is = right (p z.0) (q z.1) a.is; fine = h.1 }),
        )

-- f is exact where w follows
pub closed_exact : {A : Type 0} (p : A → List ℕ) (ok : A → Bool) (s w : List ℕ) (f : ℕ → Got A) → no_zero_byte w ≡ true
    → ((at : ℕ) (x : A) (n : ℕ) → f at ≡ got x n → Piece p ok s at x n)
    → ((at : ℕ) (x : A) (n : ℕ) → Piece p ok s at x n → Spelt s n w (n + length w) → f at ≡ got x n)
    → Exact (λ (x : A). p x ++ w) ok s (closed_at s w f)
unfolding closed_at
closed_exact {A} p ok s w f nz fsame fback = record { same = λ at x m r. one at (f at) x m refl r; back = closed_back }
  where
    one : (at : ℕ) (h : Got A) (x : A) (m : ℕ) → f at ≡ h → (bind h λ x n. cond (stands_at s w n) (got x (n + length w)) none) ≡ got x m → Piece (λ (x : A). p x ++ w) ok s at x m
    one at none x m e r = absurd (let z : ◌≡◌ {A = ℕ} 0 1 = cc in omega arith)
    one at (got y n) x m e r = go (stands_at s w n) refl r
      where
        go : (t : Bool) → stands_at s w n ≡ t → cond t (got y (n + length w)) none ≡ got x m → Piece (λ (x : A). p x ++ w) ok s at x m
        go true u r =
            let zx : y ≡ x = cc in
            let zm : n + length w ≡ m = cc in
            let a = fsame at y n e in
            rw (← zx, ← zm) (record { is = join a.is (stands_same s w n nz u); fine = a.fine })
        go false u r = absurd (let z : ◌≡◌ {A = ℕ} 0 1 = cc in omega arith)

    closed_back : (at : ℕ) (x : A) (m : ℕ) → Piece (λ (x : A). p x ++ w) ok s at x m → closed_at s w f at ≡ got x m
    closed_back at x m a =
        let n = at + length (p x) in
        let r = right (p x) w a.is in
        let r' : Spelt s n w (n + length w) = rw (← r.end) r in
        rw (fback at x n (record { is = left (p x) w a.is; fine = a.fine }) r', stands_back s w n m r, ← r.end)

-- ---- the fields
abbrev pub fields_text : Fields → List ℕ
fields_text x =
    (x.0 ++ closing)
    ++ ((decimal x.1.0 ++ comma) ++ ((digits x.1.1.0 ++ comma) ++ ((tags_text x.1.1.1.0 ++ comma) ++ (quoted x.1.1.1.1 ++ bracket))))

abbrev pub fields_fit : Fields → Bool
fields_fit x = is_pubkey x.0 && (is_time x.1.0 && (is_kind x.1.1.0 && (is_tags x.1.1.1.0 && is_string_bytes x.1.1.1.1)))

module _ (s : List ℕ) where
  pub pubkey_closed : Exact (λ (k : List ℕ). k ++ closing) is_pubkey s (closed_at s closing (pubkey_at s))
  pubkey_closed = closed_exact itself is_pubkey s closing (pubkey_at s) refl (pubkey_exact s).same (λ at x n a _. (pubkey_exact s).back at x n a)

  pub time_closed : Exact (λ (z : ℤ). decimal z ++ comma) is_time s (closed_at s comma (time_at s))
  time_closed = closed_exact decimal is_time s comma (time_at s) refl (time_same s) (λ at x n a b. time_back s at x n a (byte_is b))

  pub kind_closed : Exact (λ (k : ℕ). digits k ++ comma) is_kind s (closed_at s comma (kind_at s))
  kind_closed = closed_exact digits is_kind s comma (kind_at s) refl (kind_same s) (λ at x n a b. kind_back s at x n a (byte_is b))

  pub tags_closed : Exact (λ (ts : List Tag). tags_text ts ++ comma) is_tags s (closed_at s comma (tags_at s))
  tags_closed = closed_exact tags_text is_tags s comma (tags_at s) refl (tags_exact s).same (λ at x n a _. (tags_exact s).back at x n a)

  pub content_closed : Exact (λ (v : List ℕ). quoted v ++ bracket) is_string_bytes s (closed_at s bracket (string_at s))
  content_closed = closed_exact quoted is_string_bytes s bracket (string_at s) refl (string_exact s).same (λ at x n a _. (string_exact s).back at x n a)

  pub fields_exact : Exact fields_text fields_fit s (fields_at s)
  unfolding fields_at
  fields_exact =
      pair_exact _ _ _ _ s _ _ pubkey_closed
      (pair_exact _ _ _ _ s _ _ time_closed (pair_exact _ _ _ _ s _ _ kind_closed (pair_exact _ _ _ _ s _ _ tags_closed content_closed)))
