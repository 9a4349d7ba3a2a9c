-- A way out at a time: the rest after the kind, and the whole text. The places are functions of the event, by the
-- lengths of its pieces.
use Rattle.std.specs.Prelude.{Some, None, Option, Ok, Err}
use mathlib.Core.Path.{◌≡◌, refl, sym, ap}
use mathlib.Core.Bool.{Bool, true, false, cond, ◌&&◌, false≢true}
use mathlib.Core.List.{List, [], ◌∷◌}
use Prim.Native.Nat.{ℕ, ◌+◌, ◌-◌, ◌<◌, ◌≤◌}
use native.Mathlib.Omega.{arith}
use lib.Dec.{eqb}
use lib.IntN.{ℤ}
use lib.ListN.{length, get_or, take, drop, length-append}
use borrow.Author.Tests.{le-leb, lt-leb, eq-eqb, ne_eqb, eqb-true}
use Rattle.wire.specs.Escape.{escape}
use Rattle.numeral.specs.Decimal.{digits, decimal}
use Rattle.wire.specs.Limits.{most_text}
use Rattle.text.specs.declared.Unread.TheVariants.{WrongShape}
use Rattle.text.specs.Event.{Tag, quoted, tags_text, opening, closing, comma, is_pubkey}
use Rattle.text.specs.Read.{Got, none, got, bind, stands_at, closed_at, pair_at, string_at, tags_at, time_at, kind_at}
use Rattle.text.specs.Read.{pubkey_at, fields_at, opened_text, too_large, read_text}
use Rattle.text.specs.Answer.{d_span, text_answer_of}
use Rattle.text.specs.Inner.Parts.{got_end, time_got, kind_got, is_got, opens, found, tagged_of, rest_at, rest_of}
use Rattle.text.specs.declared.Found.{Found}
use Rattle.text.proofs.Strings.{string_exact}
use Rattle.text.proofs.Lists.{tags_exact}
use Rattle.text.proofs.Rows.{time_closed, kind_closed}
use Rattle.text.proofs.Ways.{end_bad, end_got}
use Rattle.text.proofs.Fields.{stands_byte, stands_other}

-- ---- things in a row
-- the content at i, of n bytes, and d
abbrev pub rest_in : (i n : ℕ) (d : Found) → Option (Found × Found)
rest_in i n d = Some (record { at = i; len = n }, d)

module _ {A B : Type 0} (f : ℕ → Got A) (g : ℕ → Got B) (at : ℕ) where
  first_none : f at ≡ none → pair_at f g at ≡ none
  unfolding pair_at
  first_none p = rw p

  second_none : (x : A) (n : ℕ) → f at ≡ got x n → g n ≡ none → pair_at f g at ≡ none
  unfolding pair_at
  second_none x n p q = rw (p, q)

  both_got : (x : A) (n : ℕ) (y : B) (m : ℕ) → f at ≡ got x n → g n ≡ got y m → pair_at f g at ≡ got (x, y) m
  unfolding pair_at
  both_got x n y m p q = rw (p, q)

module _ {A : Type 0} (s : List ℕ) (b at : ℕ) (f : ℕ → Got A) where
  shut_none : f at ≡ none → closed_at s (b ∷ []) f at ≡ none
  unfolding closed_at
  shut_none p = rw p

  shut_other : (x : A) (n : ℕ) → f at ≡ got x n → stands_at s (b ∷ []) n ≡ false → closed_at s (b ∷ []) f at ≡ none
  unfolding closed_at
  shut_other x n p q = rw (p, q)

  shut_got : (x : A) (n : ℕ) → f at ≡ got x n → stands_at s (b ∷ []) n ≡ true → closed_at s (b ∷ []) f at ≡ got x (n + 1)
  unfolding closed_at
  shut_got x n p q = rw (p, q)

-- ---- the rest
record Tags (g : Got (List Tag)) (at n : ℕ) (d : Found) : Type 0 where
  it : List Tag
  is : g ≡ got it n
  place : found (d_span (at + 1) it) ≡ d

tags_got : (g : Got (List Tag)) (at n : ℕ) (d : Found) → Some (n, d) ≡ tagged_of None (at + 1) g → Tags g at n d
tags_got none at n d e = absurd (let z : ◌≡◌ {A = ℕ} 0 1 = cc in omega arith)
tags_got (got ts m) at n d e =
    let p : (n, d) ≡ (m, found (d_span (at + 1) ts)) = cc in
    record { it = ts; is = ap (λ (x : ℕ × Found). got ts x.0) (sym p); place = ap (λ (x : ℕ × Found). x.1) (sym p) }

tags_none : (g : Got (List Tag)) (at : ℕ) → None ≡ tagged_of None (at + 1) g → g ≡ none
tags_none none at e = refl
tags_none (got ts m) at e = absurd (let z : ◌≡◌ {A = ℕ} 0 1 = cc in omega arith)

-- a string's quotes stand around it
quotes : (t : List ℕ) (at : ℕ) (v : List ℕ) (n : ℕ) → string_at t at ≡ got v n → n ≡ at + 2 + length (escape v)
unfolding quoted
quotes t at v n e = omega (arith, ((string_exact t).same at v n e).is.end, length-append (escape v) (34 ∷ []))

pub string_long : (t : List ℕ) (at n : ℕ) → Some n ≡ got_end (string_at t at) → at + 2 ≤ n
string_long t at n b = let v = end_got (string_at t at) n b in omega (arith, quotes t at v.it n v.is)

module _ (t : List ℕ) (at : ℕ) where
  abbrev Told : Type 0
  Told = None ≡ rest_of (length t) at (rest_at t at)

  no_rest : rest_at t at ≡ none → Told
  no_rest e = ap (rest_of (length t) at) (sym e)

  pub rest_tags : None ≡ tagged_of None (at + 1) (tags_at t at) → Told
  unfolding rest_at
  rest_tags e = no_rest (first_none _ _ at (shut_none t 44 at (tags_at t) (tags_none (tags_at t at) at e)))

  module _ (m : ℕ) (d : Found) (a : Some (m, d) ≡ tagged_of None (at + 1) (tags_at t at)) (x : ℕ) (e : x ≡ get_or t m 0) where
    ts : Tags (tags_at t at) at m d
    ts = tags_got (tags_at t at) at m d a

    pub rest_comma : (x ≡ 44 → ⊥) → Told
    unfolding rest_at
    rest_comma h = no_rest (first_none _ _ at (shut_other t 44 at (tags_at t) ts.it m ts.is (stands_other t m 44 x e h)))

    module _ (h : x ≡ 44) where
      shut : closed_at t comma (tags_at t) at ≡ got ts.it (m + 1)
      shut = shut_got t 44 at (tags_at t) ts.it m ts.is (stands_byte t m 44 x e h)

      pub rest_string : None ≡ got_end (string_at t (m + 1)) → Told
      unfolding rest_at
      rest_string b = no_rest (second_none _ _ at ts.it (m + 1) shut (shut_none t 93 (m + 1) (string_at t) (end_bad (string_at t (m + 1)) b)))

      module _ (n : ℕ) (b : Some n ≡ got_end (string_at t (m + 1))) (y : ℕ) (f : y ≡ get_or t n 0) where
        pub rest_bracket : (y ≡ 93 → ⊥) → Told
        unfolding rest_at
        rest_bracket g =
            let v = end_got (string_at t (m + 1)) n b in
            no_rest (second_none _ _ at ts.it (m + 1) shut (shut_other t 93 (m + 1) (string_at t) v.it n v.is (stands_other t n 93 y f g)))

        module _ (g : y ≡ 93) where
          rest_is : rest_at t at ≡ got (ts.it, (end_got (string_at t (m + 1)) n b).it) (n + 1)
          unfolding rest_at
          rest_is =
              let v = end_got (string_at t (m + 1)) n b in
              both_got _ _ at ts.it (m + 1) v.it (n + 1) shut (shut_got t 93 (m + 1) (string_at t) v.it n v.is (stands_byte t n 93 y f g))

          pub rest_long : (n + 1 ≡ length t → ⊥) → Told
          rest_long k = rw (rest_is, ne_eqb (n + 1) (length t) k)

          pub rest_got : n + 1 ≡ length t → rest_in (m + 2) (n - m - 3) d ≡ rest_of (length t) at (rest_at t at)
          rest_got k =
              let z : m ≡ at + length (tags_text ts.it) = ((tags_exact t).same at ts.it m ts.is).is.end in
              let c : length (escape (end_got (string_at t (m + 1)) n b).it) ≡ n - m - 3 =
              omega (arith, quotes t (m + 1) (end_got (string_at t (m + 1)) n b).it n (end_got (string_at t (m + 1)) n b).is) in
              rw (rest_is, eq-eqb (n + 1) (length t) k, ← z, c, ts.place)

-- ---- what the parts say
time_got_lem : (g : Got ℤ) (z : ℤ) (n : ℕ) → Some (z, n) ≡ time_got g → g ≡ got z n
time_got_lem none z n e = absurd (let z : ◌≡◌ {A = ℕ} 0 1 = cc in omega arith)
time_got_lem (got y m) z n e = let p : (z, n) ≡ (y, m) = cc in ap (λ (x : ℤ × ℕ). got x.0 x.1) (sym p)

time_none : (g : Got ℤ) → None ≡ time_got g → g ≡ none
time_none none e = refl
time_none (got y m) e = absurd (let z : ◌≡◌ {A = ℕ} 0 1 = cc in omega arith)

kind_got_lem : (g : Got ℕ) (k n : ℕ) → Some (k, n) ≡ kind_got g → g ≡ got k n
kind_got_lem none k n e = absurd (let z : ◌≡◌ {A = ℕ} 0 1 = cc in omega arith)
kind_got_lem (got y m) k n e = let p : (k, n) ≡ (y, m) = cc in ap (λ (x : ℕ × ℕ). got x.0 x.1) (sym p)

kind_none : (g : Got ℕ) → None ≡ kind_got g → g ≡ none
kind_none none e = refl
kind_none (got y m) e = absurd (let z : ◌≡◌ {A = ℕ} 0 1 = cc in omega arith)

record Rested (l at : ℕ) (g : Got (List Tag × List ℕ)) (c d : Found) : Type 0 where
  it : List Tag × List ℕ
  is : g ≡ got it l
  content : record { at = at + length (tags_text it.0) + 2; len = length (escape it.1) } ≡ c
  place : found (d_span (at + 1) it.0) ≡ d

rest_told : (l at : ℕ) (g : Got (List Tag × List ℕ)) (c d : Found) → Some (c, d) ≡ rest_of l at g → Rested l at g c d
rest_told l at none c d e = absurd (let z : ◌≡◌ {A = ℕ} 0 1 = cc in omega arith)
rest_told l at (got x n) c d e = go (eqb n l) refl e
  where
    r : Found
    r = record { at = at + length (tags_text x.0) + 2; len = length (escape x.1) }

    go : (b : Bool) → eqb n l ≡ b → ◌≡◌ {A = Option (Found × Found)} (Some (c, d)) (cond b (Some (r, found (d_span (at + 1) x.0))) None) → Rested l at (got x n) c d
    go true q e =
        let p : ◌≡◌ {A = Found × Found} (c, d) (r, found (d_span (at + 1) x.0)) = cc in
        record { it = x; is = ap (got x) (eqb-true n l q); content = ap (λ (x : Found × Found). x.0) (sym p); place = ap (λ (x : Found × Found). x.1) (sym p) }
    go false q e = absurd (let z : ◌≡◌ {A = ℕ} 0 1 = cc in omega arith)

-- ---- the whole text
pub text_large : (t : List ℕ) → most_text < length t → read_text t ≡ too_large
unfolding read_text
text_large t h = rw (lt-leb (length t) most_text h)

module _ (t : List ℕ) where
  module _ (h : length t ≤ most_text) where
    abbrev Wrong : Type 0
    Wrong = Err WrongShape ≡ text_answer_of (read_text t)

    wrong : opened_text t ≡ none → Wrong
    unfolding read_text
    wrong e = rw (le-leb (length t) most_text h, e)

    pub text_opening : opens t ≡ false → Wrong
    unfolding opens opened_text fields_at
    text_opening e = wrong (go (stands_at t opening 0) (closed_at t closing (pubkey_at t) 4) refl e)
      where
        go : (b : Bool) (g : Got (List ℕ)) → closed_at t closing (pubkey_at t) 4 ≡ g → (b && is_got g) ≡ false → cond b (fields_at t 4) none ≡ none
        go false g q e = refl
        go true none q e = first_none _ _ 4 q
        go true (got k n) q e = absurd (let z : ◌≡◌ {A = ℕ} 0 1 = cc in omega arith)

    module _ (o : opens t ≡ true) where
      -- the pubkey, and the place after it
      record Key : Type 0 where
        it : List ℕ
        first : stands_at t opening 0 ≡ true
        is : closed_at t closing (pubkey_at t) 4 ≡ got it 70

      key : Key
      unfolding opens closed_at pubkey_at
      key = go (stands_at t opening 0) (is_pubkey (take 64 (drop 4 t))) (stands_at t closing 68) refl refl refl o
        where
          go : (a b c : Bool) → stands_at t opening 0 ≡ a → is_pubkey (take 64 (drop 4 t)) ≡ b → stands_at t closing 68 ≡ c
              → (a && is_got (bind (cond b (got (take 64 (drop 4 t)) 68) none) λ x n. cond (stands_at t closing n) (got x (n + length closing)) none)) ≡ true → Key
          go true true true ea eb ec q = record { it = take 64 (drop 4 t); first = ea; is = rw (eb, ec) }
          go true true false ea eb ec q = absurd (false≢true (rw ec at q))
          go true false c ea eb ec q = absurd (false≢true q)
          go false b c ea eb ec q = absurd (false≢true q)

      pub text_time : None ≡ time_got (closed_at t comma (time_at t) 70) → Wrong
      unfolding opened_text fields_at
      text_time a = wrong (rw key.first (second_none _ _ 4 key.it 70 key.is (first_none _ _ 70 (time_none (closed_at t comma (time_at t) 70) a))))

      module _ (z : ℤ) (a : ℕ) (ea : Some (z, a) ≡ time_got (closed_at t comma (time_at t) 70)) where
        zs : closed_at t comma (time_at t) 70 ≡ got z a
        zs = time_got_lem (closed_at t comma (time_at t) 70) z a ea

        pub text_kind : None ≡ kind_got (closed_at t comma (kind_at t) a) → Wrong
        unfolding opened_text fields_at
        text_kind b =
            wrong (rw key.first
            (second_none _ _ 4 key.it 70 key.is (second_none _ _ 70 z a zs (first_none _ _ a (kind_none (closed_at t comma (kind_at t) a) b)))))

        module _ (k b : ℕ) (eb : Some (k, b) ≡ kind_got (closed_at t comma (kind_at t) a)) where
          ks : closed_at t comma (kind_at t) a ≡ got k b
          ks = kind_got_lem (closed_at t comma (kind_at t) a) k b eb

          fields_none : rest_at t b ≡ none → opened_text t ≡ none
          unfolding opened_text fields_at rest_at
          fields_none r = rw key.first (second_none _ _ 4 key.it 70 key.is (second_none _ _ 70 z a zs (second_none _ _ a k b ks r)))

          fields_got : (x : List Tag × List ℕ) (n : ℕ) → rest_at t b ≡ got x n → opened_text t ≡ got (key.it, (z, (k, x))) n
          unfolding opened_text fields_at rest_at
          fields_got x n r =
              rw key.first (both_got _ _ 4 key.it 70 (z, (k, x)) n key.is (both_got _ _ 70 z a (k, x) n zs (both_got _ _ a k b x n ks r)))

          pub text_rest : None ≡ rest_of (length t) b (rest_at t b) → Wrong
          unfolding read_text
          text_rest q = go (rest_at t b) refl q
            where
              long : (x : List Tag × List ℕ) (n : ℕ) (f : Bool) → eqb n (length t) ≡ f → rest_at t b ≡ got x n
                  → None ≡ cond f (rest_in (b + length (tags_text x.0) + 2) (length (escape x.1)) (found (d_span (b + 1) x.0))) None → Wrong
              long x n true ef r q = absurd (let z : ◌≡◌ {A = ℕ} 0 1 = cc in omega arith)
              long x n false ef r q = rw (le-leb (length t) most_text h, fields_got x n r, ef)

              go : (g : Got (List Tag × List ℕ)) → rest_at t b ≡ g → None ≡ rest_of (length t) b g → Wrong
              go none r q = wrong (fields_none r)
              go (got x n) r q = long x n (eqb n (length t)) refl r q

          pub text_read : (c d : Found) → Some (c, d) ≡ rest_of (length t) b (rest_at t b)
              → Ok (record { time = z; kind = k; tags = b; content = c.at; content_len = c.len; d = d.at; d_len = d.len }) ≡ text_answer_of (read_text t)
          unfolding read_text
          text_read c d q =
              let r = rest_told (length t) b (rest_at t b) c d q in
              let za = ((time_closed t).same 70 z a zs).is.end in
              let kb = ((kind_closed t).same a k b ks).is.end in
              let p : 72 + length (decimal z) + length (digits k) ≡ b = omega (arith, za, kb, length-append (decimal z) comma, length-append (digits k) comma) in
              rw (
                le-leb (length t) most_text h,
                fields_got r.it (length t) r.is,
                eq-eqb (length t) (length t) refl,
                p,
                ap (λ (x : Found). x.at) r.content,
                ap (λ (x : Found). x.len) r.content,
                ap (λ (x : Found). x.at) r.place,
                ap (λ (x : Found). x.len) r.place,
              )
