-- The rest of a filter: kinds, the conditions one by one, and all of them together.
use Rattle.std.specs.Prelude.{◌==◌}
use Rattle.std.specs.List.{list_any}
use mathlib.Core.Path.{◌≡◌, refl, sym, ap, ap₂, ◌∙◌}
use mathlib.Core.Bool.{Bool, true, false, not, ◌&&◌, ◌||◌}
use mathlib.Core.List.{List, [], ◌∷◌, map}
use Prim.Native.Nat.{ℕ, suc, ◌+◌, ◌-◌, ◌≤◌, ◌<◌, min}
use native.Mathlib.Omega.{arith}
use borrow.Author.Tests.{le-ltb, lt-ltb, eq-eqb, ne_eqb}
use lib.IntN.{ℤ, pos}
use lib.ListN.{length, get_or, take, drop, drop_of_length-le}
use lib.Seq.{drop-cons, take-nil}
use mir.Syntax.{w64}
use mir.Val.{to_z, of_z, SFits}
use mir.ValLaws.{to_z-of_z}
use native.Mathlib.Decide.{dec_lt}
use Rattle.wire.specs.Bytes.{part}
use Rattle.text.specs.Event.{Event, all}
use Rattle.spell.specs.Spell.{decode}
use Rattle.message.specs.declared.EventParts.{EventParts}
use Rattle.event.specs.Lent.{natural, said, lent_tags_at, event_of}
use Rattle.law.specs.Lists.{any}
use Rattle.query.specs.Filter.{Filter}
use Rattle.query.specs.Match.{same_number, is_listed, kind_listed, since_holds, until_holds, condition_holds, matches}
use Rattle.matching.specs.Inner.Found.{spelled_by, numbers_by, given, condition_by, filter_by}
use Rattle.matching.specs.Inner.Steps.{asked, fields_hold}
use Rattle.matching.specs.declared.Known.{Known}

-- ---- tests
pub and_no : {r a : Bool} (x : Bool) → r ≡ a → not r ≡ true → false ≡ (a && x)
and_no {r} {a} x e n = go r n ∙ ap (λ (y : Bool). y && x) e
  where
    go : (r : Bool) → not r ≡ true → false ≡ (r && x)
    go true n = absurd (let z : ◌≡◌ {A = ℕ} 0 1 = cc in omega arith)
    go false n = refl

pub and_yes : {r a : Bool} {x y : Bool} → r ≡ a → not r ≡ false → y ≡ x → y ≡ (a && x)
and_yes {r} {a} {x} {y} e n q = go r n ∙ ap (λ (z : Bool). z && x) e
  where
    go : (r : Bool) → not r ≡ false → y ≡ (r && x)
    go true n = q
    go false n = absurd (let z : ◌≡◌ {A = ℕ} 0 1 = cc in omega arith)

-- ---- kinds
alike : (k x : ℕ) → (x == k) ≡ same_number (pos k) (pos x)
alike k x = go (dec_lt k x) (dec_lt x k)
  where
    go : Dec (k < x) → Dec (x < k) → (x == k) ≡ same_number (pos k) (pos x)
    go (yes l) d = let n : x ≡ k → ⊥ = λ e. absurd (omega (arith, l, e)) in rw (ne_eqb x k n, lt-ltb k x l) refl
    go (no l) (yes h) = let n : x ≡ k → ⊥ = λ e. absurd (omega (arith, h, e)) in rw (ne_eqb x k n, le-ltb k x (omega arith), lt-ltb x k h) refl
    go (no l) (no h) = let e : x ≡ k = omega (arith, l, h) in rw (eq-eqb x k e, le-ltb k x (omega arith), le-ltb x k (omega arith)) refl

pub kinds_any : (row : List ℕ) (k : ℕ) → list_any (λ x. x == k) row ≡ any (same_number (pos k)) (numbers_by row)
unfolding numbers_by
kinds_any [] k = refl
kinds_any (x ∷ row) k = ap₂ ◌||◌ (alike k x) (kinds_any row k)

-- ---- the conditions
pub condition_test : (b m : List ℕ) (tags l : ℕ) {r : Bool} {s q : List ℕ} → r ≡ condition_holds (lent_tags_at b tags) (asked l (spelled_by m s)) → s ≡ q
    → condition_holds (lent_tags_at b tags) (asked l (spelled_by m q)) ≡ r
condition_test b m tags l e p = sym (e ∙ ap (λ (y : List ℕ). condition_holds (lent_tags_at b tags) (asked l (spelled_by m y))) p)

module _ {A B : Type 0} (p : B → Bool) (f : A → B) (n : ℕ) (l : List A) where
  abbrev pub Rest : ℕ → Type 0
  Rest i = all p (map f (take n l)) ≡ all p (map f (take (n - i) (drop i l)))

  rest_none : (i : ℕ) → Rest i → n ≤ i → true ≡ all p (map f (take n l))
  unfolding all
  rest_none i r h = let z : n - i ≡ 0 = omega arith in sym (r ∙ ap (λ k. all p (map f (take k (drop i l)))) z)

  rest_end : (i : ℕ) → Rest i → length l ≤ i → true ≡ all p (map f (take n l))
  unfolding all
  rest_end i r h = sym (r ∙ ap (λ k. all p (map f k)) (ap (take (n - i)) (drop_of_length-le l {i = i} h) ∙ take-nil (n - i)))

  pub rest_done : (i : ℕ) → Rest i → min n (length l) ≤ i → true ≡ all p (map f (take n l))
  rest_done i r h = go (dec_lt i n)
    where
      go : Dec (i < n) → true ≡ all p (map f (take n l))
      go (yes m) = rest_end i r (omega arith)
      go (no m) = rest_none i r (omega arith)

  module _ (i : ℕ) (r : Rest i) (h : i < n) (k : i < length l) (z : A) where
    next : all p (map f (take n l)) ≡ (p (f (get_or l i z)) && all p (map f (take (n - (i + 1)) (drop (i + 1) l))))
    unfolding all
    next =
        let e : n - i ≡ suc (n - (i + 1)) = omega arith in
        let d : suc i ≡ i + 1 = omega arith in
        r ∙ ap (λ (m : ℕ). all p (map f (take m (drop i l)))) e ∙ ap (λ m. all p (map f (take (suc (n - (i + 1))) m))) (drop-cons l i z k ∙ ap (λ j. get_or l i z ∷ drop j l) d)

    pub rest_no : p (f (get_or l i z)) ≡ false → false ≡ all p (map f (take n l))
    rest_no e = sym (next ∙ ap (λ y. y && all p (map f (take (n - (i + 1)) (drop (i + 1) l)))) e)

    pub rest_more : p (f (get_or l i z)) ≡ true → Rest (i + 1)
    rest_more e = next ∙ ap (λ y. y && all p (map f (take (n - (i + 1)) (drop (i + 1) l)))) e

-- ---- public key, kind and time, a law for each way out
module _ (m row key : List ℕ) (f : Known) (time : ℤ) (kind : ℕ) where
  again : SFits w64 time → to_z w64 (of_z w64 time) ≡ time
  again ft = to_z-of_z w64 time ft

  abbrev Fields : Bool
  Fields = fields_hold (filter_by m row f) (decode key) time kind

  module _ {r₁ : Bool} (e₁ : r₁ ≡ is_listed (given (spelled_by m) row f.authors) (decode key)) where
    pub authors_no : not r₁ ≡ true → false ≡ Fields
    unfolding fields_hold filter_by
    authors_no n = and_no _ e₁ n

    module _ (n₁ : not r₁ ≡ false) {r₂ : Bool} (e₂ : r₂ ≡ kind_listed (given numbers_by row f.kinds) kind) where
      pub kinds_no : not r₂ ≡ true → false ≡ Fields
      unfolding fields_hold filter_by
      kinds_no n = and_yes e₁ n₁ (and_no _ e₂ n)

      module _ (n₂ : not r₂ ≡ false) (ft : SFits w64 time) {r₃ : Bool} (e₃ : r₃ ≡ since_holds f.since (to_z w64 (of_z w64 time))) where
        said₃ : r₃ ≡ since_holds f.since time
        said₃ = e₃ ∙ ap (since_holds f.since) (again ft)

        pub since_no : not r₃ ≡ true → false ≡ Fields
        unfolding fields_hold filter_by
        since_no n = and_yes e₁ n₁ (and_yes e₂ n₂ (and_no _ said₃ n))

        pub until_is_all : not r₃ ≡ false → {r : Bool} → r ≡ until_holds f.until (to_z w64 (of_z w64 time)) → r ≡ Fields
        unfolding fields_hold filter_by
        until_is_all n e = and_yes e₁ n₁ (and_yes e₂ n₂ (and_yes said₃ n (e ∙ ap (until_holds f.until) (again ft))))

-- ---- all together: id, then public key, kind and time, then the conditions
and_four : (a b c d x : Bool) → ((a && (b && (c && d))) && x) ≡ (a && (b && (c && (d && x))))
and_four true true true d x = refl
and_four true true false d x = refl
and_four true false c d x = refl
and_four false b c d x = refl

module _ (f : Filter) (i : List ℕ) (e : Event) {r₁ : Bool} (e₁ : r₁ ≡ is_listed f.ids i) where
  pub ids_no : not r₁ ≡ true → false ≡ matches f i e
  unfolding matches
  ids_no n = and_no _ e₁ n

  module _ (n₁ : not r₁ ≡ false) {r₂ : Bool} (e₂ : r₂ ≡ fields_hold f e.pubkey e.time e.kind) where
    rest_is : (fields_hold f e.pubkey e.time e.kind && all (condition_holds e.tags) f.conditions) ≡ (is_listed f.authors e.pubkey
        && (kind_listed f.kinds e.kind
        && (since_holds f.since e.time && (until_holds f.until e.time && all (condition_holds e.tags) f.conditions))))
    unfolding fields_hold
    rest_is = and_four (is_listed f.authors e.pubkey) (kind_listed f.kinds e.kind) (since_holds f.since e.time) (until_holds f.until e.time) _

    pub fields_no : not r₂ ≡ true → false ≡ matches f i e
    unfolding matches
    fields_no n = and_yes e₁ n₁ (and_no _ e₂ n ∙ rest_is)

    pub all_are : not r₂ ≡ false → {r : Bool} → r ≡ all (condition_holds e.tags) f.conditions → r ≡ matches f i e
    unfolding matches
    all_are n e₃ = and_yes e₁ n₁ (and_yes e₂ n e₃ ∙ rest_is)

-- over the parts of an event
module _ (m row b : List ℕ) (f : Known) (p : EventParts) where
  pub id_test : {r : Bool} {w : List ℕ} → r ≡ is_listed (given (spelled_by m) row f.ids) (decode w) → w ≡ part b p.id.start p.id.len → r ≡ is_listed (filter_by m row f).ids (said b p.id)
  unfolding filter_by
  id_test e q = e ∙ ap (λ (y : List ℕ). is_listed (given (spelled_by m) row f.ids) (decode y)) q

  pub fields_test : {r : Bool} {w : List ℕ} {k : ℕ} → r ≡ fields_hold (filter_by m row f) (decode w) (to_z w64 (of_z w64 p.body.created_at)) k
      → w ≡ part b p.body.pubkey.start p.body.pubkey.len → k ≡ natural (to_z w64 (of_z w64 p.body.kind)) → SFits w64 p.body.created_at → SFits w64 p.body.kind
      → r ≡ fields_hold (filter_by m row f) (event_of b p.body).pubkey (event_of b p.body).time (event_of b p.body).kind
  unfolding event_of
  fields_test {k = j} e q k ft fk =
      e ∙ ap₂ (λ (y : List ℕ) (t : ℤ). fields_hold (filter_by m row f) (decode y) t j) q (to_z-of_z w64 p.body.created_at ft)
      ∙ ap (fields_hold (filter_by m row f) (said b p.body.pubkey) p.body.created_at) (k ∙ ap natural (to_z-of_z w64 p.body.kind fk))

  pub conditions_test : {r : Bool} → r ≡ all (condition_holds (lent_tags_at b p.body.tags)) (map (condition_by m row) (take f.n f.conditions)) → r ≡ all (condition_holds (event_of b p.body).tags) (filter_by m row f).conditions
  unfolding event_of filter_by
  conditions_test e = e
