-- Members between brackets, over any exact reader of one: strings of a tag, then tags.
use mathlib.Core.Path.{◌≡◌, refl, sym, ap}
use mathlib.Core.Bool.{Bool, true, false, cond, ◌&&◌}
use mathlib.Core.List.{List, [], ◌∷◌}
use Prim.Native.Nat.{ℕ, zero, suc, ◌+◌, ◌≤◌}
use native.Mathlib.Omega.{arith}
use lib.Dec.{eqb, leb}
use lib.ListN.{length, get_or}
use borrow.Author.Tests.{le-leb, eqb-true, leb-true}
use Rattle.wire.specs.Limits.{most_tags, most_strings}
use Rattle.text.specs.Event.{Tag, quoted, members_text, tag_text, tags_text, all, is_string_bytes, is_tag, is_tags}
use Rattle.text.specs.Read.{Got, none, got, bind, cons, follow, string_at, text_members_at, tag_at, tags_at}
use Rattle.text.proofs.Pieces.{Spelt, Piece, Exact, both, and_true, join, byte_is, byte_at_lem, tail, left, right}
use Rattle.text.proofs.Strings.{string_exact}

module _ {A : Type 0} where
  record Members (print : A → List ℕ) (ok : A → Bool) (s : List ℕ) (k at : ℕ) (xs : List A) (n : ℕ) : Type 0 where
    is : Spelt s at (members_text print xs) n
    fine : all ok xs ≡ true
    some : 1 ≤ length xs
    few : length xs ≤ k

  record Unconsed (x : A) (g : Got (List A)) (xs : List A) (n : ℕ) : Type 0 where
    rest : List A
    was : g ≡ got rest n
    is : xs ≡ x ∷ rest

  uncons : (x : A) (g : Got (List A)) (xs : List A) (n : ℕ) → cons x g ≡ got xs n → Unconsed x g xs n
  uncons x none xs n e = absurd (let z : ◌≡◌ {A = ℕ} 0 1 = cc in omega arith)
  uncons x (got ys m) xs n e = record { rest = ys; was = ap (got ys) (let z : m ≡ n = cc in z); is = (let z : x ∷ ys ≡ xs = cc in sym z) }

module _ {A : Type 0} (print : A → List ℕ) (ok : A → Bool) (s : List ℕ) (one : ℕ → Got A) (exact : Exact print ok s one) where
  one_more : (k at m : ℕ) (x : A) (ys : List A) (n : ℕ) → Piece print ok s at x m → get_or s m 0 ≡ 44 → Members print ok s k (m + 1) ys n → Members print ok s (suc k) at (x ∷ ys) n
  unfolding members_text all
  one_more k at m x [] n p e a = absurd (omega (arith, a.some))
  one_more k at m x (y ∷ ys) n p e a = record {
    is = join p.is (join {p = 44 ∷ []} (byte_at_lem s m 44 (omega arith) e) a.is);
    fine = and_true (ok x) (all ok (y ∷ ys)) p.fine a.fine;
    some = omega arith;
    few = omega (arith, a.few);
  }

  members_same : (k at : ℕ) (xs : List A) (n : ℕ) → text_members_at one s k at ≡ got xs n → Members print ok s k at xs n
  unfolding text_members_at members_text all
  members_same zero at xs n q = absurd (let z : ◌≡◌ {A = ℕ} 0 1 = cc in omega arith)
  members_same (suc k) at xs n q = go (one at) refl q (λ m ys. members_same k (m + 1) ys n)
    where
      go : (g : Got A) → one at ≡ g → (bind g λ x m. follow x (get_or s m 0) m (text_members_at one s k (m + 1))) ≡ got xs n
          → ((m : ℕ) (ys : List A) → text_members_at one s k (m + 1) ≡ got ys n → Members print ok s k (m + 1) ys n) → Members print ok s (suc k) at xs n
      go none e q ih = absurd (let z : ◌≡◌ {A = ℕ} 0 1 = cc in omega arith)
      go (got x m) e q ih = next (eqb (get_or s m 0) 44) (eqb (get_or s m 0) 93) refl refl q
        where
          next : (a b : Bool) → eqb (get_or s m 0) 44 ≡ a → eqb (get_or s m 0) 93 ≡ b
              → cond a (cons x (text_members_at one s k (m + 1))) (cond b (got (x ∷ []) (m + 1)) none) ≡ got xs n → Members print ok s (suc k) at xs n
          next true b ea eb r =
              let u = uncons x (text_members_at one s k (m + 1)) xs n r in
              rw u.is (one_more k at m x u.rest n (exact.same at x m e) (eqb-true (get_or s m 0) 44 ea) (ih m u.rest u.was))
          next false true ea eb r =
              let zx : xs ≡ x ∷ [] = cc in
              let zn : n ≡ m + 1 = cc in
              let p = exact.same at x m e in
              rw (zx, zn)
              (record {
                is = join p.is (byte_at_lem s m 93 (omega arith) (eqb-true (get_or s m 0) 93 eb));
                fine = and_true (ok x) true p.fine refl;
                some = omega arith;
                few = omega arith;
              })
          next false false ea eb r = absurd (let z : ◌≡◌ {A = ℕ} 0 1 = cc in omega arith)

  members_back : (k at : ℕ) (xs : List A) (n : ℕ) → Members print ok s k at xs n → text_members_at one s k at ≡ got xs n
  unfolding text_members_at members_text all
  members_back zero at xs n a = absurd (omega (arith, a.some, a.few))
  members_back (suc k) at [] n a = absurd (omega (arith, a.some))
  members_back (suc k) at (x ∷ []) n a =
      let m = at + length (print x) in
      let h = both (ok x) true a.fine in
      let e = exact.back at x m (record { is = left (print x) (93 ∷ []) a.is; fine = h.0 }) in
      let r = right (print x) (93 ∷ []) a.is in
      rw (e, byte_is r, ← r.end)
  members_back (suc k) at (x ∷ y ∷ ys) n a =
      let m = at + length (print x) in
      let t : List ℕ = 44 ∷ members_text print (y ∷ ys) in
      let h = both (ok x) (all ok (y ∷ ys)) a.fine in
      let e = exact.back at x m (record { is = left (print x) t a.is; fine = h.0 }) in
      let r = right (print x) t a.is in
      rw (e, byte_is r, members_back k (m + 1) (y ∷ ys) n (record { is = tail r; fine = h.1; some = omega arith; few = omega (arith, a.few) }))

-- ---- a tag
module _ (s : List ℕ) where
  tag_same : (at : ℕ) (x : Tag) (n : ℕ) → tag_at s at ≡ got x n → Piece tag_text is_tag s at x n
  unfolding tag_at tag_text is_tag
  tag_same at x n q = go (eqb (get_or s at 0) 91) refl q
    where
      go : (t : Bool) → eqb (get_or s at 0) 91 ≡ t → cond t (text_members_at (string_at s) s most_strings (at + 1)) none ≡ got x n → Piece tag_text is_tag s at x n
      go true e r =
          let a = members_same quoted is_string_bytes s (string_at s) (string_exact s) most_strings (at + 1) x n r in
          record {
            is = join {p = 91 ∷ []} (byte_at_lem s at 91 (omega arith) (eqb-true (get_or s at 0) 91 e)) a.is;
            fine = simp (a.fine, le-leb 1 (length x) a.some, le-leb (length x) most_strings a.few);
          }
      go false e r = absurd (let z : ◌≡◌ {A = ℕ} 0 1 = cc in omega arith)

  tag_back : (at : ℕ) (x : Tag) (n : ℕ) → Piece tag_text is_tag s at x n → tag_at s at ≡ got x n
  unfolding tag_at tag_text is_tag
  tag_back at x n a =
      let h = both (leb 1 (length x)) (leb (length x) most_strings && all is_string_bytes x) a.fine in
      let k = both (leb (length x) most_strings) (all is_string_bytes x) h.1 in
      rw (byte_is a.is)
      (members_back quoted is_string_bytes s (string_at s) (string_exact s) most_strings (at + 1) x n
      (record { is = tail a.is; fine = k.1; some = leb-true 1 (length x) h.0; few = leb-true (length x) most_strings k.0 }))

  pub tag_exact : Exact tag_text is_tag s (tag_at s)
  tag_exact = record { same = tag_same; back = tag_back }

  -- ---- the tags
  tags_same : (at : ℕ) (x : List Tag) (n : ℕ) → tags_at s at ≡ got x n → Piece tags_text is_tags s at x n
  unfolding tags_at tags_text is_tags members_text all
  tags_same at x n q = go (eqb (get_or s at 0) 91) (eqb (get_or s (at + 1) 0) 93) refl refl q
    where
      go : (t u : Bool) → eqb (get_or s at 0) 91 ≡ t → eqb (get_or s (at + 1) 0) 93 ≡ u
          → cond t (cond u (got [] (at + 2)) (text_members_at (tag_at s) s most_tags (at + 1))) none ≡ got x n → Piece tags_text is_tags s at x n
      go true true e f r =
          let zx : x ≡ [] = cc in
          let zn : n ≡ at + 2 = cc in
          let zm : at + 2 ≡ at + 1 + 1 = omega arith in
          rw (zx, zn, zm)
          (record {
            is = join {p = 91 ∷ []} (byte_at_lem s at 91 (omega arith) (eqb-true (get_or s at 0) 91 e)) (byte_at_lem s (at + 1) 93 (omega arith) (eqb-true (get_or s (at + 1) 0) 93 f));
            fine = refl;
          })
      go true false e f r =
          let a = members_same tag_text is_tag s (tag_at s) tag_exact most_tags (at + 1) x n r in
          record { is = join {p = 91 ∷ []} (byte_at_lem s at 91 (omega arith) (eqb-true (get_or s at 0) 91 e)) a.is; fine = simp (a.fine, le-leb (length x) most_tags a.few) }
      go false u e f r = absurd (let z : ◌≡◌ {A = ℕ} 0 1 = cc in omega arith)

  -- tags begin with a bracket that opens
  first : (t : Tag) (ts : List Tag) (at n : ℕ) → Spelt s at (members_text tag_text (t ∷ ts)) n → get_or s at 0 ≡ 91
  unfolding members_text tag_text
  first t [] at n a = byte_is a
  first t (u ∷ us) at n a = byte_is a

  tags_back : (at : ℕ) (x : List Tag) (n : ℕ) → Piece tags_text is_tags s at x n → tags_at s at ≡ got x n
  unfolding tags_at tags_text is_tags members_text
  tags_back at [] n a = let z : at + 2 ≡ n = omega (arith, a.is.end) in rw (byte_is a.is, byte_is (tail a.is), z)
  tags_back at (t ∷ ts) n a =
      let h = both (leb (length (t ∷ ts)) most_tags) (all is_tag (t ∷ ts)) a.fine in
      rw (byte_is a.is, first t ts (at + 1) n (tail a.is))
      (members_back tag_text is_tag s (tag_at s) tag_exact most_tags (at + 1) (t ∷ ts) n
      (record { is = tail a.is; fine = h.1; some = omega arith; few = leb-true (length (t ∷ ts)) most_tags h.0 }))

  pub tags_exact : Exact tags_text is_tags s (tags_at s)
  tags_exact = record { same = tags_same; back = tags_back }
