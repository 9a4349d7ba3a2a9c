-- What matching means: the claims of specs/Claims, "matching".
use Rattle.std.specs.Prelude.{Some, None, Option}
use mathlib.Core.Path.{◌≡◌, refl, sym, ap}
use mathlib.Core.Bool.{Bool, not, ◌&&◌}
use mathlib.Core.Logic.{◌↔◌, ⊎_elim}
use mathlib.Core.List.Memᴰ
use mathlib.Core.List.{List, [], ◌∷◌, ◌++◌}
use Prim.Native.Nat.{ℕ}
use native.Mathlib.Omega.{arith}
use lib.Dec.{T, T_not, not_T}
use lib.IntN.{ℤ, pos}
use lib.Signed.{◌≤ℤ◌, lt_z_yes, lt_z_no, clash_ℤ, ≤ℤ_refl}
use lib.ListN.{length, length-append}
use Rattle.wire.specs.Bytes.{same_bytes}
use Rattle.text.specs.Event.{Tag, all}
use Rattle.law.specs.Lists.{◌∈◌, any}
use Rattle.law.specs.Event.{earlier}
use Rattle.law.proofs.Lists.{and_both, and_left, and_right, any_yes, any_has}
use Rattle.wire.proofs.Bytes.{same_bytes_lem}
use Rattle.law.proofs.Order.{strict_times}
use Rattle.query.specs.Filter.{Condition, Strings}
use Rattle.query.specs.Match.{is_member, same_number, is_listed, kind_listed, since_holds, until_holds, tag_fits}
use Rattle.query.specs.Match.{condition_holds, matches, matches_some}
use Rattle.query.specs.Claims.{ExactMember, NoPrefix, SameNumber, ExactKind, SinceInclusive, UntilInclusive}
use Rattle.query.specs.Claims.{AtTheBound, Tagged, ConditionMeans, MatchMeans, AnySuffices, LimitAside}
use Rattle.query.specs.Claims.{EmptyMatches}

-- a test that means equality, asked of each entry
exact : {A : Type 0} (same : A → A → Bool) → ((a b : A) → T (same a b) ↔ (a ≡ b)) → (l : List A) (v : A) → T (any (same v) l) ↔ (v ∈ l)
exact same eq l v = (λ t. let (x, m, q) = any_yes (same v) l t in Memᴰ.cast ((eq v x).0 q) m, λ m. any_has (same v) m ((eq v v).1 refl))

pub exact_member : ExactMember
exact_member l v = exact same_bytes same_bytes_lem l v

-- a list is no proper beginning of itself: the lengths differ
pub no_prefix : NoPrefix
no_prefix v w ne = (
  λ t. ne (none w (longer w (Memᴰ.eq_of_singleton ((exact_member (v ∷ []) (v ++ w)).0 t)))),
  λ t. ne (none w (longer w (sym (Memᴰ.eq_of_singleton ((exact_member ((v ++ w) ∷ []) v).0 t))))),
)
  where
    longer : (w : List ℕ) → v ++ w ≡ v → length w ≡ 0
    longer w e = let h = ap length e in omega (arith, h, length-append v w)

    none : (w : List ℕ) → length w ≡ 0 → w ≡ []
    none [] e = refl
    none (x ∷ w) e = absurd (omega arith)

pub same_number_lem : SameNumber
same_number_lem a b = (to, λ e. rw e (and_both (not (earlier b b)) (not (earlier b b)) still still))
  where
    still : T (not (earlier b b))
    still = not_T (earlier b b) (strict_times.irreflexive b)

    to : T (same_number a b) → a ≡ b
    to t =
        ⊎_elim (λ l. absurd (T_not (earlier a b) (and_left (not (earlier a b)) (not (earlier b a)) t) l))
        (λ r. ⊎_elim (λ e. e) (λ l. absurd (T_not (earlier b a) (and_right (not (earlier a b)) (not (earlier b a)) t) l)) r) (strict_times.total a b)

pub exact_kind : ExactKind
exact_kind l k = exact same_number same_number_lem l (pos k)

not_earlier : (a b : ℤ) → T (not (earlier a b)) ↔ (b ≤ℤ a)
not_earlier a b = (lt_z_no, λ h. not_T (earlier a b) (λ t. clash_ℤ (lt_z_yes t) h))

pub since_inclusive : SinceInclusive
since_inclusive s t = not_earlier t s

pub until_inclusive : UntilInclusive
until_inclusive u t = not_earlier u t

pub at_the_bound : AtTheBound
at_the_bound t = ((since_inclusive t t).1 (≤ℤ_refl t), (until_inclusive t t).1 (≤ℤ_refl t))

pub condition_means : ConditionMeans
condition_means ts c = (λ t. let (x, m, q) = any_yes (tag_fits c) ts t in to x m q, from)
  where
    to : (x : Tag) → x ∈ ts → T (tag_fits c x) → Tagged c ts
    to [] m q = absurd q
    to (name ∷ []) m q = absurd q
    to (name ∷ value ∷ rest) m q =
        let e = (same_bytes_lem name (c.letter ∷ [])).0 (and_left (same_bytes name (c.letter ∷ [])) (is_member c.members value) q) in
        record {
          second = value;
          others = rest;
          has_tag = Memᴰ.cast (ap (λ (n : List ℕ). n ∷ value ∷ rest) (sym e)) m;
          is_listed_lem = (exact_member c.members value).0 (and_right (same_bytes name (c.letter ∷ [])) (is_member c.members value) q);
        }

    from : Tagged c ts → T (condition_holds ts c)
    from g =
        any_has (tag_fits c) g.has_tag
        (and_both (same_bytes (c.letter ∷ []) (c.letter ∷ [])) (is_member c.members g.second) ((same_bytes_lem _ _).1 refl) ((exact_member c.members g.second).1 g.is_listed_lem))

-- ---- a filter's conditions, one by one
all_means : {A : Type 0} (p : A → Bool) (l : List A) → T (all p l) ↔ ((x : A) → x ∈ l → T (p x))
unfolding all
all_means {A} p l = (to l, from l)
  where
    to : (l : List A) → T (all p l) → (x : A) → x ∈ l → T (p x)
    to [] t x m = absurd (Memᴰ.not-nil m)
    to (y ∷ l) t x m = ⊎_elim (λ e. rw e (and_left (p y) (all p l) t)) (to l (and_right (p y) (all p l) t) x) (Memᴰ.cases_cons m)

    from : (l : List A) → ((x : A) → x ∈ l → T (p x)) → T (all p l)
    from [] h = tt
    from (y ∷ l) h = and_both (p y) (all p l) (h y (Memᴰ.head refl)) (from l (λ x m. h x (Memᴰ.tail m)))

listed_means : (o : Strings) (v : List ℕ) → T (is_listed o v) ↔ ((l : List (List ℕ)) → o ≡ Some l → v ∈ l)
listed_means None v = (λ t l e. absurd (let z : ◌≡◌ {A = ℕ} 0 1 = cc in omega arith), λ h. tt)
listed_means (Some m) v = (λ t l e. let z : m ≡ l = cc in rw z at ((exact_member m v).0 t), λ h. (exact_member m v).1 (h m refl))

kind_means : (o : Option (List ℤ)) (k : ℕ) → T (kind_listed o k) ↔ ((l : List ℤ) → o ≡ Some l → pos k ∈ l)
kind_means None k = (λ t l e. absurd (let z : ◌≡◌ {A = ℕ} 0 1 = cc in omega arith), λ h. tt)
kind_means (Some m) k = (λ t l e. let z : m ≡ l = cc in rw z at ((exact_kind m k).0 t), λ h. (exact_kind m k).1 (h m refl))

since_means : (o : Option ℤ) (t : ℤ) → T (since_holds o t) ↔ ((s : ℤ) → o ≡ Some s → s ≤ℤ t)
since_means None t = (λ q s e. absurd (let z : ◌≡◌ {A = ℕ} 0 1 = cc in omega arith), λ h. tt)
since_means (Some s) t = (λ q r e. let z : s ≡ r = cc in rw z at ((since_inclusive s t).0 q), λ h. (since_inclusive s t).1 (h s refl))

until_means : (o : Option ℤ) (t : ℤ) → T (until_holds o t) ↔ ((u : ℤ) → o ≡ Some u → t ≤ℤ u)
until_means None t = (λ q s e. absurd (let z : ◌≡◌ {A = ℕ} 0 1 = cc in omega arith), λ h. tt)
until_means (Some u) t = (λ q r e. let z : u ≡ r = cc in rw z at ((until_inclusive u t).0 q), λ h. (until_inclusive u t).1 (h u refl))

conditions_mean : (cs : List Condition) (ts : List Tag) → T (all (condition_holds ts) cs) ↔ ((c : Condition) → c ∈ cs → Tagged c ts)
conditions_mean cs ts = (
  λ t c m. (condition_means ts c).0 ((all_means (condition_holds ts) cs).0 t c m),
  λ h. (all_means (condition_holds ts) cs).1 (λ c m. (condition_means ts c).1 (h c m)),
)

-- the test of two that hold, taken apart and put together
both_mean : (a b : Bool) {A B : Type 0} → T a ↔ A → T b ↔ B → T (a && b) ↔ (A × B)
both_mean a b p q = (λ t. (p.0 (and_left a b t), q.0 (and_right a b t)), λ h. and_both a b (p.1 h.0) (q.1 h.1))

pub match_means : MatchMeans
unfolding matches
match_means f i e =
    let u₅ = both_mean (until_holds f.until e.time) (all (condition_holds e.tags) f.conditions) (until_means f.until e.time) (conditions_mean f.conditions e.tags) in
    let u₄ = both_mean (since_holds f.since e.time) _ (since_means f.since e.time) u₅ in
    let u₃ = both_mean (kind_listed f.kinds e.kind) _ (kind_means f.kinds e.kind) u₄ in
    let u₂ = both_mean (is_listed f.authors e.pubkey) _ (listed_means f.authors e.pubkey) u₃ in
    let u₁ = both_mean (is_listed f.ids i) _ (listed_means f.ids i) u₂ in (
      λ t. let (h₁, (h₂, (h₃, (h₄, (h₅, h₆))))) = u₁.0 t in record { ids = h₁; authors = h₂; kinds = h₃; since = h₄; until = h₅; conditions = h₆ },
      λ h. u₁.1 (h.ids, (h.authors, (h.kinds, (h.since, (h.until, h.conditions))))),
    )

pub any_suffices : AnySuffices
unfolding matches_some
any_suffices fs i e = (any_yes (λ f. matches f i e) fs, λ (f, m, t). any_has (λ f. matches f i e) m t)

pub limit_aside : LimitAside
unfolding matches
limit_aside f l i e = refl

pub empty_matches : EmptyMatches
unfolding matches all
empty_matches i e = tt
