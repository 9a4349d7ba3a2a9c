-- A string: what is read is what was written, and the other way round. The seven escapes by a view, an eighth case for
-- all other bytes.
use mathlib.Core.Path.{◌≡◌, refl, sym, ap, ◌∙◌}
use mathlib.Core.Bool.{Bool, true, false, cond}
use mathlib.Core.List.{List, [], ◌∷◌, ◌++◌, append_assoc}
use Prim.Native.Nat.{ℕ, suc, ◌+◌, ◌<◌}
use native.Mathlib.Omega.{arith}
use lib.Dec.{eqb}
use lib.ListN.{length, get_or, take, drop, length-append, take-append-drop}
use borrow.Author.Tests.{eq-eqb, ne_eqb, eqb-true, eqb-false}
use Rattle.utf8.specs.Utf8.{is_utf8, utf8_from, next_want}
use Rattle.utf8.specs.declared.Want.{Want}
use Rattle.utf8.proofs.States.{Reached, lead_reached, next_reached, low_next, low_stuck, utf8_cut}
use Rattle.wire.specs.Escape.{letter_of, esc_one, escape}
use Rattle.text.specs.Event.{quoted, is_string_bytes}
use Rattle.text.specs.declared.Move.TheVariants.{Go, Stop, Refuse}
use Rattle.text.specs.Read.{Got, none, got, escaped_byte, is_raw, push_bytes, body_from, checked, string_at}
use Rattle.text.proofs.Pieces.{Spelt, Piece, Exact, spelt, join, byte_is, byte_at_lem, tail}

-- the seven bytes that have an escape, each with its letter, and the others
pub data Seven : ℕ → ℕ → Type 0 where
  bs : Seven 8 98
  tab : Seven 9 116
  lf : Seven 10 110
  ff : Seven 12 102
  cr : Seven 13 114
  quote : Seven 34 34
  slash : Seven 92 92
  other : {b : ℕ} → (b ≡ 34 → ⊥) → (b ≡ 92 → ⊥) → Seven b 0

pick : {b k c z : ℕ} → Seven k c → ((b ≡ k → ⊥) → Seven b z) → Seven b (cond (eqb b k) c z)
pick {b} {k} {c} {z} p f = go (eqb b k) refl
  where
    go : (t : Bool) → eqb b k ≡ t → Seven b (cond t c z)
    go true e = rw (eqb-true b k e) p
    go false e = f (eqb-false b k e)

pub seven : (b : ℕ) → Seven b (letter_of b)
unfolding letter_of
seven b = pick lf (λ _. pick quote (λ p. pick slash (λ q. pick cr (λ _. pick tab (λ _. pick bs (λ _. pick ff (λ _. other p q)))))))

-- the letters, and 0 for no letter
data Letter (c : ℕ) : ℕ → Type 0 where
  letter : {b : ℕ} → Seven b c → (c ≡ 0 → ⊥) → Letter c b
  no_letter : Letter c 0

pick_letter : {c k b z : ℕ} → Seven b k → (k ≡ 0 → ⊥) → Letter c z → Letter c (cond (eqb c k) b z)
pick_letter {c} {k} {b} {z} p ne f = go (eqb c k) refl
  where
    go : (t : Bool) → eqb c k ≡ t → Letter c (cond t b z)
    go true e = rw (eqb-true c k e) (letter p ne)
    go false e = f

lettered : (c : ℕ) → Letter c (escaped_byte c)
unfolding escaped_byte
lettered c =
    pick_letter lf (λ e. omega arith)
    (pick_letter quote (λ e. omega arith)
    (pick_letter slash (λ e. omega arith)
    (pick_letter cr (λ e. omega arith)
    (pick_letter tab (λ e. omega arith) (pick_letter bs (λ e. omega arith) (pick_letter ff (λ e. omega arith) no_letter))))))

known : {b c : ℕ} → Seven b c → (c ≡ 0 → ⊥) → (c ≡ letter_of b) × (eqb b 0 ≡ false)
unfolding letter_of
known bs ne = (refl, refl)
known tab ne = (refl, refl)
known lf ne = (refl, refl)
known ff ne = (refl, refl)
known cr ne = (refl, refl)
known quote ne = (refl, refl)
known slash ne = (refl, refl)
known (other p q) ne = absurd (ne refl)

-- ---- written, then read
push_nil : (g : Got (List ℕ)) → push_bytes [] g ≡ g
push_nil none = refl
push_nil (got v n) = refl

module _ (i : ℕ) (l : List ℕ) where
  two : (b : ℕ) → push_bytes [] (push_bytes (b ∷ []) (body_from false (i + 1 + 1) l)) ≡ push_bytes (b ∷ []) (body_from false (i + 2) l)
  two b = let e : i + 1 + 1 ≡ i + 2 = omega arith in push_nil (push_bytes (b ∷ []) (body_from false (i + 1 + 1) l)) ∙ rw e

  one_back : (b k : ℕ) → Seven b k → k ≡ letter_of b
      → body_from false i (cond (eqb k 0) (b ∷ []) (92 ∷ k ∷ []) ++ l) ≡ push_bytes (b ∷ []) (body_from false (i + length (cond (eqb k 0) (b ∷ []) (92 ∷ k ∷ []))) l)
  unfolding body_from escaped_byte is_raw
  one_back b k bs z = two 8
  one_back b k tab z = two 9
  one_back b k lf z = two 10
  one_back b k ff z = two 12
  one_back b k cr z = two 13
  one_back b k quote z = two 34
  one_back b k slash z = two 92
  one_back b k (other p q) z = rw (body_from, ne_eqb b 34 p, ne_eqb b 92 q, ← z, ne_eqb b 92 q)

pub body_back : (v r : List ℕ) (i : ℕ) → body_from false i (escape v ++ (34 ∷ r)) ≡ got v (i + length (escape v) + 1)
unfolding body_from escape esc_one
body_back [] r i = ap (got []) (let e : i + 1 ≡ i + 0 + 1 = omega arith in e)
body_back (b ∷ v) r i =
    let z : i + length (esc_one b) + length (escape v) + 1 ≡ i + length (esc_one b ++ escape v) + 1 = rw length-append (omega arith) in
    rw append_assoc
    (one_back i (escape v ++ (34 ∷ r)) b (letter_of b) (seven b) refl ∙ ap (push_bytes (b ∷ [])) (body_back v r (i + length (esc_one b))) ∙ ap (got (b ∷ v)) z)

pub escape_once : (u v : List ℕ) → escape u ≡ escape v → u ≡ v
escape_once u v e =
    let z : got u (0 + length (escape u) + 1) ≡ got v (0 + length (escape v) + 1) =
    sym (body_back u [] 0) ∙ ap (λ (l : List ℕ). body_from false 0 (l ++ (34 ∷ []))) e ∙ body_back v [] 0 in
    cc

-- ---- read, then written
record Unpushed (p : List ℕ) (g : Got (List ℕ)) (v : List ℕ) (n : ℕ) : Type 0 where
  rest : List ℕ
  was : g ≡ got rest n
  is : v ≡ p ++ rest

unpush : (p : List ℕ) (g : Got (List ℕ)) (v : List ℕ) (n : ℕ) → push_bytes p g ≡ got v n → Unpushed p g v n
unpush p none v n e = absurd (let z : ◌≡◌ {A = ℕ} 0 1 = cc in omega arith)
unpush p (got w m) v n e = record { rest = w; was = ap (got w) (let z : m ≡ n = cc in z); is = (let z : p ++ w ≡ v = cc in sym z) }

abbrev lead : Bool → List ℕ
lead true = 92 ∷ []
lead false = []

record Body (e : Bool) (i : ℕ) (l v : List ℕ) (n : ℕ) : Type 0 where
  rest : List ℕ
  is : lead e ++ l ≡ escape v ++ (34 ∷ rest)
  end : n + length rest ≡ i + length l

-- one byte more: k is its letter, and how it is spelt ends with x
more : {e : Bool} {i : ℕ} {x : ℕ} {l w : List ℕ} {n : ℕ} (b k : ℕ) → k ≡ letter_of b → lead e ++ (x ∷ []) ≡ cond (eqb k 0) (b ∷ []) (92 ∷ k ∷ [])
    → Body false (i + 1) l w n → Body e i (x ∷ l) (b ∷ w) n
unfolding escape esc_one
more {e} {i} {x} {l} {w} {n} b k ke p a = record {
  rest = a.rest;
  is = sym (append_assoc (lead e) (x ∷ []) l) ∙ rw (p, ke, a.is) (sym (append_assoc (esc_one b) (escape w) (34 ∷ a.rest)));
  end = omega (arith, a.end);
}

module _ (x i : ℕ) (l v : List ℕ) (n : ℕ) (ih : (f : Bool) (w : List ℕ) (m : ℕ) → body_from f (i + 1) l ≡ got w m → Body f (i + 1) l w m) where
  after : (b : ℕ) → Letter x b
      → (elim (cond (eqb b 0) Refuse (Go false)) as (λ _. Got (List ℕ)) [ Go f ↦ push_bytes (b ∷ []) (body_from f (i + 1) l) | Stop ↦ got [] (i + 1) | Refuse ↦ none ]) ≡ got v n
      → Body true i (x ∷ l) v n
  after b no_letter q = absurd (let z : ◌≡◌ {A = ℕ} 0 1 = cc in omega arith)
  after b (letter s ne) q =
      let k = known s ne in
      let u = unpush (b ∷ []) (body_from false (i + 1) l) v n (rw k.1 at q) in
      rw u.is (more b x k.0 (rw (ne_eqb x 0 ne)) (ih false u.rest n u.was))

  raw : (b : Bool) → eqb (letter_of x) 0 ≡ b
      → (elim (cond b (Go false) Refuse) as (λ _. Got (List ℕ)) [ Go f ↦ push_bytes (x ∷ []) (body_from f (i + 1) l) | Stop ↦ got [] (i + 1) | Refuse ↦ none ]) ≡ got v n
      → Body false i (x ∷ l) v n
  raw false e q = absurd (let z : ◌≡◌ {A = ℕ} 0 1 = cc in omega arith)
  raw true e q =
      let u = unpush (x ∷ []) (body_from false (i + 1) l) v n q in
      rw u.is (more x 0 (sym (eqb-true (letter_of x) 0 e)) refl (ih false u.rest n u.was))

  plain : (a c : Bool) → eqb x 34 ≡ a → eqb x 92 ≡ c
      → (elim (cond a Stop (cond c (Go true) (cond (is_raw x) (Go false) Refuse))) as (λ _. Got (List ℕ)) [ Go f ↦ push_bytes (cond c [] (x ∷ [])) (body_from f (i + 1) l) | Stop ↦ got [] (i + 1) | Refuse ↦ none ]) ≡ got v n
      → Body false i (x ∷ l) v n
  unfolding escape is_raw
  plain true c ea ec q =
      let zv : v ≡ [] = cc in
      let zn : n ≡ i + 1 = cc in
      rw zv (record { rest = l; is = rw (eqb-true x 34 ea); end = omega arith })
  plain false true ea ec q =
      let a = ih true v n (sym (push_nil (body_from true (i + 1) l)) ∙ q) in
      record { rest = a.rest; is = rw (eqb-true x 92 ec) a.is; end = omega (arith, a.end) }
  plain false false ea ec q = raw (eqb (letter_of x) 0) refl q

body_same : (l : List ℕ) (e : Bool) (i : ℕ) (v : List ℕ) (n : ℕ) → body_from e i l ≡ got v n → Body e i l v n
unfolding body_from
body_same [] e i v n q = absurd (let z : ◌≡◌ {A = ℕ} 0 1 = cc in omega arith)
body_same (x ∷ l) true i v n q = after x i l v n (λ f. body_same l f (i + 1)) (escaped_byte x) (lettered x) q
body_same (x ∷ l) false i v n q = plain x i l v n (λ f. body_same l f (i + 1)) (eqb x 34) (eqb x 92) refl refl q

pub body_spelt : (s : List ℕ) (i : ℕ) (v : List ℕ) (n : ℕ) → body_from false i (drop i s) ≡ got v n → Spelt s i (escape v ++ (34 ∷ [])) n
body_spelt s i v n q =
    let a = body_same (drop i s) false i v n q in
    let l : length (drop i s) ≡ length (escape v) + suc (length a.rest) = ap length a.is ∙ length-append (escape v) (34 ∷ a.rest) in
    spelt s (escape v ++ (34 ∷ [])) a.rest i n (a.is ∙ sym (append_assoc (escape v) (34 ∷ []) a.rest)) (rw length-append (omega (arith, a.end)))

-- ---- UTF-8: a string is well formed as it is spelt where it is as it is meant
module _ (l : List ℕ) where
  esc_utf8 : (b k : ℕ) → b < 128 → k < 128 → (w : Want) → Reached w → utf8_from (next_want (next_want w 92) k) l ≡ utf8_from (next_want w b) l
  esc_utf8 b k p q Want.Lead h = rw (low_next 92 (omega arith), low_next k q, low_next b p)
  esc_utf8 b k p q (Want.Tail lo hi m) h = rw (low_stuck {lo = lo} {hi = hi} {n = m} 92 (omega arith) h, low_stuck {lo = lo} {hi = hi} {n = m} b p h)
  esc_utf8 b k p q Want.Bad h = refl

  one_utf8 : (b k : ℕ) → Seven b k → (w : Want) → Reached w → utf8_from w (cond (eqb k 0) (b ∷ []) (92 ∷ k ∷ []) ++ l) ≡ utf8_from (next_want w b) l
  unfolding utf8_from
  one_utf8 b k bs w h = esc_utf8 8 98 (omega arith) (omega arith) w h
  one_utf8 b k tab w h = esc_utf8 9 116 (omega arith) (omega arith) w h
  one_utf8 b k lf w h = esc_utf8 10 110 (omega arith) (omega arith) w h
  one_utf8 b k ff w h = esc_utf8 12 102 (omega arith) (omega arith) w h
  one_utf8 b k cr w h = esc_utf8 13 114 (omega arith) (omega arith) w h
  one_utf8 b k quote w h = esc_utf8 34 34 (omega arith) (omega arith) w h
  one_utf8 b k slash w h = esc_utf8 92 92 (omega arith) (omega arith) w h
  one_utf8 b k (other p q) w h = refl

from_escape : (v : List ℕ) (w : Want) → Reached w → utf8_from w (escape v) ≡ utf8_from w v
unfolding escape esc_one utf8_from
from_escape [] w h = refl
from_escape (b ∷ v) w h = one_utf8 (escape v) b (letter_of b) (seven b) w h ∙ from_escape v (next_want w b) (next_reached w b h)

pub utf8_escape : (v : List ℕ) → is_utf8 (escape v) ≡ is_utf8 v
unfolding is_utf8
utf8_escape v = from_escape v Want.Lead lead_reached

-- ---- in a text that is UTF-8 each string is
pub body_utf8 : (s : List ℕ) (at : ℕ) (v : List ℕ) (n : ℕ) → is_utf8 s ≡ true → get_or s at 0 ≡ 34 → body_from false (at + 1) (drop (at + 1) s) ≡ got v n → is_utf8 v ≡ true
unfolding is_utf8
body_utf8 s at v n u q e =
    let z : take at s ++ (34 ∷ drop (at + 1) s) ≡ s = ap (◌++◌ (take at s)) (sym (byte_at_lem s at 34 (omega arith) q).is) ∙ take-append-drop at s in
    let a = (utf8_cut (take at s) 34 (drop (at + 1) s) Want.Lead lead_reached (omega arith) (rw z u)).1 in
    let b : drop (at + 1) s ≡ escape v ++ (34 ∷ drop n s) = (body_spelt s (at + 1) v n e).is ∙ append_assoc (escape v) (34 ∷ []) (drop n s) in
    sym (from_escape v Want.Lead lead_reached) ∙ (utf8_cut (escape v) 34 (drop n s) Want.Lead lead_reached (omega arith) (rw b at a)).0

-- ---- the whole string, with its quotes
abbrev String : List ℕ → ℕ → List ℕ → ℕ → Type 0
String s at v n = Piece quoted is_string_bytes s at v n

unchecked : (g : Got (List ℕ)) (v : List ℕ) (n : ℕ) → checked g ≡ got v n → (g ≡ got v n) × (is_utf8 v ≡ true)
unchecked none v n e = absurd (let z : ◌≡◌ {A = ℕ} 0 1 = cc in omega arith)
unchecked (got w m) v n e = go (is_utf8 w) refl e
  where
    go : (t : Bool) → is_utf8 w ≡ t → cond t (got w m) none ≡ got v n → (got w m ≡ got v n) × (is_utf8 v ≡ true)
    go true u q = (q, (let z : w ≡ v = cc in rw z at u))
    go false u q = absurd (let z : ◌≡◌ {A = ℕ} 0 1 = cc in omega arith)

string_same : (s : List ℕ) (at : ℕ) (v : List ℕ) (n : ℕ) → string_at s at ≡ got v n → String s at v n
unfolding string_at quoted is_string_bytes
string_same s at v n q = go (eqb (get_or s at 0) 34) refl q
  where
    go : (t : Bool) → eqb (get_or s at 0) 34 ≡ t → cond t (checked (body_from false (at + 1) (drop (at + 1) s))) none ≡ got v n → String s at v n
    go true e q =
        let u = unchecked (body_from false (at + 1) (drop (at + 1) s)) v n q in
        record {
          is = join {p = 34 ∷ []} (byte_at_lem s at 34 (omega arith) (eqb-true (get_or s at 0) 34 e)) (body_spelt s (at + 1) v n u.0);
          fine = u.1;
        }
    go false e q = absurd (let z : ◌≡◌ {A = ℕ} 0 1 = cc in omega arith)

string_back : (s : List ℕ) (at : ℕ) (v : List ℕ) (n : ℕ) → String s at v n → string_at s at ≡ got v n
unfolding string_at quoted is_string_bytes
string_back s at v n a =
    let b = tail a.is in
    let e : drop (at + 1) s ≡ escape v ++ (34 ∷ drop n s) = b.is ∙ append_assoc (escape v) (34 ∷ []) (drop n s) in
    let z : at + 1 + length (escape v) + 1 ≡ n = omega (arith, b.end, length-append (escape v) (34 ∷ [])) in
    rw (eq-eqb (get_or s at 0) 34 (byte_is a.is), e, body_back v (drop n s) (at + 1), a.fine, z)

pub string_exact : (s : List ℕ) → Exact quoted is_string_bytes s (string_at s)
string_exact s = record { same = string_same s; back = string_back s }
