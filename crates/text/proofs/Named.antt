-- d: the text is canonical, so a tag is named d exactly where `["d"` stands, and its second string stands six bytes
-- after its bracket.
use Rattle.std.specs.Prelude.{Some, None, Option, is_some, unwrap_or}
use mathlib.Core.Path.{◌≡◌, refl, sym, ap, ◌∙◌}
use mathlib.Core.Bool.{Bool, true, false, cond, ◌&&◌, and-true, and-false, false≢true}
use mathlib.Core.List.{List, [], ◌∷◌, ◌++◌, append_assoc}
use Prim.Native.Nat.{ℕ, ◌+◌, ◌-◌, ◌<◌, ◌≤◌}
use native.Mathlib.Omega.{arith}
use lib.Dec.{eqb}
use lib.ListN.{length, get_or, drop}
use lib.Seq.{drop-drop}
use borrow.Author.Tests.{ne_eqb, eqb-true}
use Rattle.wire.specs.Escape.{letter_of, esc_one, escape}
use Rattle.wire.specs.Limits.{most_tags}
use Rattle.text.specs.Event.{Tag, quoted, members_text, tag_text, is_tag}
use Rattle.text.specs.Read.{Got, none, got, stands_at, body_from, cons, text_members_at, tag_at, tags_at}
use Rattle.text.specs.Kinds.{is_named_d, second}
use Rattle.text.specs.Answer.{span_behind, d_span}
use Rattle.text.specs.Inner.Parts.{got_end, found, look_of, found_after, tagged_of}
use Rattle.text.specs.declared.Found.{Found}
use Rattle.text.proofs.Pieces.{first_of}
use Rattle.text.proofs.Strings.{Seven, bs, tab, lf, ff, cr, quote, slash, other, seven, body_back}
use Rattle.text.proofs.Lists.{tag_exact}
use Rattle.text.proofs.Ways.{members_out, members_bad, members_more, members_done, members_wrong, end_bad}
use Rattle.text.proofs.Ways.{end_got}

-- ---- the bytes that a list begins with
abbrev begins : List ℕ → List ℕ → Bool
begins [] l = true
begins (b ∷ w) l = eqb (get_or l 0 0) b && begins w (drop 1 l)

stands_begins : (s w : List ℕ) (i : ℕ) (l : List ℕ) → drop i s ≡ l → stands_at s w i ≡ begins w l
unfolding stands_at
stands_begins s [] i l e = refl
stands_begins s (b ∷ w) i l e =
    let h : drop (i + 1) s ≡ drop 1 l = sym (drop-drop 1 i s) ∙ ap (drop 1) e in
    rw (first_of s i l e, stands_begins s w (i + 1) (drop 1 l) h)

-- ---- how a byte is spelt: as it is, or after a backslash, which d is not
data Spelled (x : ℕ) : List ℕ → Type 0 where
  raw : (x ≡ 34 → ⊥) → Spelled x (x ∷ [])
  lettered : {k : ℕ} → (x ≡ 100 → ⊥) → Spelled x (92 ∷ k ∷ [])

spelled : (x : ℕ) → Spelled x (esc_one x)
unfolding esc_one
spelled x = go x (letter_of x) (seven x)
  where
    go : (x k : ℕ) → Seven x k → Spelled x (cond (eqb k 0) (x ∷ []) (92 ∷ k ∷ []))
    go x k bs = lettered (λ e. omega arith)
    go x k tab = lettered (λ e. omega arith)
    go x k lf = lettered (λ e. omega arith)
    go x k ff = lettered (λ e. omega arith)
    go x k cr = lettered (λ e. omega arith)
    go x k quote = lettered (λ e. omega arith)
    go x k slash = lettered (λ e. omega arith)
    go x k (other p q) = raw p

-- it is d alone
one_d : (q : List ℕ) (x : ℕ) (w : List ℕ) → Spelled x w → begins (100 ∷ 34 ∷ []) (w ++ (34 ∷ q)) ≡ eqb x 100
one_d q x w (raw p) = and-true (eqb x 100)
one_d q x w (lettered ne) = sym (ne_eqb x 100 ne)

-- it is no quote
no_quote : (l : List ℕ) (y : ℕ) (w : List ℕ) → Spelled y w → eqb (get_or (w ++ l) 0 0) 34 ≡ false
no_quote l y w (raw p) = ne_eqb y 34 p
no_quote l y w (lettered ne) = refl

-- no quote comes after it
two_d : (l : List ℕ) (x : ℕ) (w : List ℕ) → Spelled x w → eqb (get_or l 0 0) 34 ≡ false → begins (100 ∷ 34 ∷ []) (w ++ l) ≡ false
two_d l x w (raw p) e = rw e (and-false (eqb x 100))
two_d l x w (lettered ne) e = refl

named : (q : List ℕ) (t : Tag) (v : List ℕ) → begins (100 ∷ 34 ∷ []) (escape v ++ (34 ∷ q)) ≡ is_named_d (v ∷ t)
unfolding escape
named q t [] = refl
named q t (x ∷ []) = rw append_assoc (one_d q x (esc_one x) (spelled x))
named q t (x ∷ y ∷ l) =
    let r : List ℕ = escape l ++ (34 ∷ q) in
    rw (append_assoc (esc_one x) (esc_one y ++ escape l) (34 ∷ q), append_assoc (esc_one y) (escape l) (34 ∷ q))
    (two_d (esc_one y ++ r) x (esc_one x) (spelled x) (no_quote r y (esc_one y) (spelled y)))

-- what stands after the first string of members
abbrev pub after : Tag → List ℕ
after [] = 93 ∷ []
after (w ∷ t) = 44 ∷ members_text quoted (w ∷ t)

pub members_begin : (v : List ℕ) (t : Tag) (r : List ℕ) → members_text quoted (v ∷ t) ++ r ≡ 34 ∷ (escape v ++ (34 ∷ (after t ++ r)))
unfolding members_text quoted
members_begin v [] r = rw (append_assoc (escape v ++ (34 ∷ [])) (93 ∷ []) r, append_assoc (escape v) (34 ∷ []) ((93 ∷ []) ++ r))
members_begin v (w ∷ t) r =
    rw (append_assoc (escape v ++ (34 ∷ [])) (44 ∷ members_text quoted (w ∷ t)) r, append_assoc (escape v) (34 ∷ []) ((44 ∷ members_text quoted (w ∷ t)) ++ r))

-- ---- a tag named d
pub stands_d : (s : List ℕ) (i : ℕ) (t : Tag) (n : ℕ) → tag_at s i ≡ got t n → stands_at s (91 ∷ 34 ∷ 100 ∷ 34 ∷ []) i ≡ is_named_d t
unfolding is_tag tag_text
stands_d s i [] n e = absurd (false≢true ((tag_exact s).same i [] n e).fine)
stands_d s i (v ∷ t) n e =
    let a = (tag_exact s).same i (v ∷ t) n e in
    let l = a.is.is ∙ ap (◌∷◌ 91) (members_begin v t (drop n s)) in
    stands_begins s (91 ∷ 34 ∷ 100 ∷ 34 ∷ []) i (91 ∷ 34 ∷ (escape v ++ (34 ∷ (after t ++ drop n s)))) l ∙ named (after t ++ drop n s) t v

-- its second string, where a comma and a quote stand after its name
data Second (s : List ℕ) (b : ℕ) (t : Tag) : Bool → Type 0 where
  absent : second t ≡ [] → Second s b t false
  present : (w : List ℕ) → second t ≡ w → body_from false (b + 2) (drop (b + 2) s) ≡ got w (b + 2 + length (escape w) + 1) → Second s b t true

module _ (s : List ℕ) (i n : ℕ) where
  after_name : (t : Tag) → drop i s ≡ tag_text ((100 ∷ []) ∷ t) ++ drop n s → Second s (i + 4) ((100 ∷ []) ∷ t) (stands_at s (44 ∷ 34 ∷ []) (i + 4))
  unfolding tag_text escape esc_one letter_of
  after_name t e = go t (sym (drop-drop 4 i s) ∙ ap (drop 4) (e ∙ ap (◌∷◌ 91) (members_begin (100 ∷ []) t (drop n s))))
    where
      go : (t : Tag) → drop (i + 4) s ≡ after t ++ drop n s → Second s (i + 4) ((100 ∷ []) ∷ t) (stands_at s (44 ∷ 34 ∷ []) (i + 4))
      go [] h = rw (stands_begins s (44 ∷ 34 ∷ []) (i + 4) (93 ∷ drop n s) h) (absent refl)
      go (w ∷ t) h =
          let r : List ℕ = after t ++ drop n s in
          let l : drop (i + 4) s ≡ 44 ∷ 34 ∷ (escape w ++ (34 ∷ r)) = h ∙ ap (◌∷◌ 44) (members_begin w t (drop n s)) in
          let b : drop (i + 4 + 2) s ≡ escape w ++ (34 ∷ r) = sym (drop-drop 2 (i + 4) s) ∙ ap (drop 2) l in
          rw (stands_begins s (44 ∷ 34 ∷ []) (i + 4) (44 ∷ 34 ∷ (escape w ++ (34 ∷ r))) l) (present w refl (rw b (body_back w r (i + 4 + 2))))

  second_told : (t : Tag) → tag_at s i ≡ got t n → is_named_d t ≡ true → Second s (i + 4) t (stands_at s (44 ∷ 34 ∷ []) (i + 4))
  second_told [] e d = absurd (false≢true d)
  second_told ([] ∷ t) e d = absurd (false≢true d)
  second_told ((x ∷ y ∷ l) ∷ t) e d = absurd (false≢true d)
  second_told ((x ∷ []) ∷ t) e d = let z = eqb-true x 100 d in rw z (after_name t ((tag_exact s).same i ((100 ∷ []) ∷ t) n (rw z at e)).is.is)

-- ---- the ways out of `second_at`
abbrev pub nowhere : Found
nowhere = record { at = 0; len = 0 }

found_none : (j : ℕ) (l : List ℕ) → length l ≡ 0 → nowhere ≡ found (span_behind j l)
found_none j [] e = refl
found_none j (x ∷ l) e = absurd (omega arith)

found_some : (j k : ℕ) (l : List ℕ) → k ≡ length l → (k ≡ 0 → ⊥) → record { at = j; len = k } ≡ found (span_behind j l)
found_some j k [] f h = absurd (h f)
found_some j k (x ∷ l) f h = rw f

gone : {s : List ℕ} {b : ℕ} {t : Tag} {x : Bool} (j : ℕ) → Second s b t x → x ≡ false → nowhere ≡ found (span_behind j (escape (second t)))
unfolding escape
gone j (absent e) q = rw e
gone j (present w e f) q = absurd (let z : ◌≡◌ {A = ℕ} 0 1 = cc in omega arith)

there : {s : List ℕ} {b : ℕ} {t : Tag} {x : Bool} → Second s b t x → x ≡ true → got_end (body_from false (b + 2) (drop (b + 2) s)) ≡ Some (b + 2 + length (escape (second t)) + 1)
there (absent e) q = absurd (let z : ◌≡◌ {A = ℕ} 0 1 = cc in omega arith)
there (present w e f) q = rw (f, e)

ends : {a b : ℕ} → Some a ≡ Some b → a ≡ b
ends e = cc

module _ (s : List ℕ) (i : ℕ) where
  abbrev Is : Found → Type 0
  Is r = (t : Tag) (n : ℕ) → tag_at s i ≡ got t n → is_named_d t ≡ true → r ≡ found (span_behind (i + 6) (escape (second t)))

  pub second_none : stands_at s (44 ∷ 34 ∷ []) (i + 4) ≡ false → Is nowhere
  second_none h t n e d = gone (i + 6) (second_told s i n t e d) h

  module _ (h : stands_at s (44 ∷ 34 ∷ []) (i + 4) ≡ true) where
    pub second_bad : got_end (body_from false (i + 4 + 2) (drop (i + 4 + 2) s)) ≡ None → Is nowhere
    second_bad b t n e d = let z : Some _ ≡ None = sym (there (second_told s i n t e d) h) ∙ b in absurd (let y : ◌≡◌ {A = ℕ} 0 1 = cc in omega arith)

    module _ (m : ℕ) (b : got_end (body_from false (i + 4 + 2) (drop (i + 4 + 2) s)) ≡ Some m) where
      size : (t : Tag) (n : ℕ) → tag_at s i ≡ got t n → is_named_d t ≡ true → m - 1 - (i + 4 + 2) ≡ length (escape (second t))
      size t n e d = let z = ends (sym (there (second_told s i n t e d) h) ∙ b) in omega arith

      pub second_empty : m - 1 - (i + 4 + 2) ≡ 0 → Is nowhere
      second_empty q t n e d = found_none (i + 6) (escape (second t)) (sym (size t n e d) ∙ q)

      pub second_is : (m - 1 - (i + 4 + 2) ≡ 0 → ⊥) → Is (record { at = i + 4 + 2; len = m - 1 - (i + 4 + 2) })
      second_is q t n e d =
          let z : i + 4 + 2 ≡ i + 6 = omega arith in
          rw z (found_some (i + 6) (m - 1 - (i + 6)) (escape (second t)) (rw z at (size t n e d)) (rw z at q))

-- ---- the ways out of `look`
module _ (s : List ℕ) (i : ℕ) where
  abbrev Looked : (d r : Option Found) → Type 0
  Looked d r = (t : Tag) (n : ℕ) → tag_at s i ≡ got t n → r ≡ look_of i d t

  pub look_known : (d : Option Found) → is_some d ≡ true → Looked d d
  look_known None q t n e = absurd (false≢true q)
  look_known (Some x) q t n e = refl

  pub look_d : (d : Option Found) → is_some d ≡ false → stands_at s (91 ∷ 34 ∷ 100 ∷ 34 ∷ []) i ≡ true → (r : Found) → Is s i r → Looked d (Some r)
  look_d None q h r f t n e = let z = sym (stands_d s i t n e) ∙ h in rw z (ap Some (f t n e z))
  look_d (Some x) q h r f t n e = absurd (false≢true (sym q))

  pub look_other : (d : Option Found) → is_some d ≡ false → stands_at s (91 ∷ 34 ∷ 100 ∷ 34 ∷ []) i ≡ false → Looked d d
  look_other None q h t n e = rw (sym (stands_d s i t n e) ∙ h)
  look_other (Some x) q h t n e = absurd (false≢true (sym q))

-- ---- the loop over the tags: what is known of d goes on
pass : (i n : ℕ) (d : Option Found) (t : Tag) (ts : List Tag) → n ≡ i + length (tag_text t) → found_after d i (t ∷ ts) ≡ found_after (look_of i d t) (n + 1) ts
unfolding d_span
pass i n (Some d) t ts e = refl
pass i n None t ts e = rw e (go (is_named_d t))
  where
    go : (b : Bool) → found (cond b (span_behind (i + 6) (escape (second t))) (d_span (i + length (tag_text t) + 1) ts))
        ≡ found_after (cond b (Some (found (span_behind (i + 6) (escape (second t))))) None) (i + length (tag_text t) + 1) ts
    go true = refl
    go false = refl

-- the tags end before n, and r is what is known of d
abbrev pub ended : (n : ℕ) (r : Option Found) → Option (ℕ × Found)
ended n r = Some (n + 1, unwrap_or r nowhere)

module _ (s : List ℕ) (k i : ℕ) (d : Option Found) where
  pub tags_out : k ≤ 0 → tagged_of d i (text_members_at (tag_at s) s k i) ≡ None
  tags_out h = ap (tagged_of d i) (members_out (tag_at s) s k i h)

  pub tags_bad : None ≡ got_end (tag_at s i) → tagged_of d i (text_members_at (tag_at s) s k i) ≡ None
  tags_bad q = ap (tagged_of d i) (members_bad (tag_at s) s k i (end_bad (tag_at s i) q))

  module _ (n b : ℕ) (h : 0 < k) (q : Some n ≡ got_end (tag_at s i)) (e : b ≡ get_or s n 0) where
    pub tags_wrong : (b ≡ 44 → ⊥) → (b ≡ 93 → ⊥) → tagged_of d i (text_members_at (tag_at s) s k i) ≡ None
    tags_wrong f g = let x = end_got (tag_at s i) n q in ap (tagged_of d i) (members_wrong (tag_at s) s k i n x.it h x.is b e f g)

    module _ (r : Option Found) (look : Looked s i d r) where
      pub tags_more : b ≡ 44 → tagged_of d i (text_members_at (tag_at s) s k i) ≡ tagged_of r (n + 1) (text_members_at (tag_at s) s (k - 1) (n + 1))
      tags_more f =
          let x = end_got (tag_at s i) n q in
          let z = ((tag_exact s).same i x.it n x.is).is.end in
          ap (tagged_of d i) (members_more (tag_at s) s k i n x.it h x.is b e f) ∙ rw (look x.it n x.is) (go x.it z (text_members_at (tag_at s) s (k - 1) (n + 1)))
        where
          go : (t : Tag) → n ≡ i + length (tag_text t) → (g : Got (List Tag)) → tagged_of d i (cons t g) ≡ tagged_of (look_of i d t) (n + 1) g
          go t z none = refl
          go t z (got ts m) = rw (pass i n d t ts z)

      pub tags_done : b ≡ 93 → tagged_of d i (text_members_at (tag_at s) s k i) ≡ ended n r
      unfolding d_span
      tags_done g =
          let x = end_got (tag_at s i) n q in
          let z = ((tag_exact s).same i x.it n x.is).is.end in
          let f : b ≡ 44 → ⊥ = λ y. omega arith in
          ap (tagged_of d i) (members_done (tag_at s) s k i n x.it h x.is b e f g) ∙ rw (look x.it n x.is, pass i n d x.it [] z) (none_left (look_of i d x.it))
        where
          none_left : (r : Option Found) → tagged_of r (n + 1) (got [] (n + 1)) ≡ ended n r
          none_left (Some x) = refl
          none_left None = refl

module _ (s : List ℕ) (at b : ℕ) (e : b ≡ get_or s at 0) where
  pub tags_other : (b ≡ 91 → ⊥) → None ≡ tagged_of None (at + 1) (tags_at s at)
  unfolding tags_at
  tags_other h = rw (← e, ne_eqb b 91 h)

  module _ (h : b ≡ 91) (c : ℕ) (f : c ≡ get_or s (at + 1) 0) where
    pub tags_empty : c ≡ 93 → ended (at + 1) None ≡ tagged_of None (at + 1) (tags_at s at)
    unfolding tags_at d_span
    tags_empty g = let z : at + 1 + 1 ≡ at + 2 = omega arith in rw (← e, h, ← f, g, z)

    pub tags_open : (c ≡ 93 → ⊥) → tagged_of None (at + 1) (text_members_at (tag_at s) s most_tags (at + 1)) ≡ tagged_of None (at + 1) (tags_at s at)
    unfolding tags_at
    tags_open g = rw (← e, h, ← f, ne_eqb c 93 g)
