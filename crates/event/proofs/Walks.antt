-- Items are written, or counted, one after the other in step with the tree's items: what is still to be done gives the
-- whole.
use mathlib.Core.Path.{◌≡◌, refl, sym, ap, ◌∙◌}
use mathlib.Core.Bool.{Bool, false}
use mathlib.Core.List.{List, [], ◌∷◌, ◌++◌}
use Prim.Native.Nat.{ℕ, zero, suc, ◌+◌, ◌-◌, ◌≤◌}
use native.Mathlib.Nat.{sub-zero}
use native.Mathlib.Omega.{arith}
use lib.ListN.{length, length-append}
use Rattle.wire.proofs.Laws.{puts_then}
use Rattle.json_tree.specs.Grammar.{next_at}
use Rattle.json_tree.specs.Tree.{Json, Items, nil, item, Got, got, follow, items_at}
use Rattle.json_tree.specs.declared.Next.{Next}
use Rattle.json_tree.specs.declared.Next.TheVariants.{More, Done, Wrong}
use Rattle.message.proofs.Walks.{never, bind_got}
use Rattle.event.specs.Inner.{in_form, PutsOf, Counts, Does, Printer}
use Rattle.event.proofs.Forms.{form_append}

-- an array's items from i on, of at most f, up to n
pub data Walk (value : ℕ → Got Json) (s : List ℕ) : ℕ → ℕ → Items → ℕ → Type 0 where
  last : {f i m n : ℕ} {t : Json} → value i ≡ got t m → next_at s m false ≡ Done n → Walk value s (suc f) i (item i i t nil) n
  more : {f i m j n : ℕ} {t : Json} {ts : Items} → value i ≡ got t m → next_at s m false ≡ More j → Walk value s f j ts n → Walk value s (suc f) i (item i i t ts) n

module _ (value : ℕ → Got Json) (s : List ℕ) where
  walk_same : {f i : ℕ} {us ts : Items} {k n : ℕ} → got us k ≡ got ts n → Walk value s f i us k → Walk value s f i ts n
  walk_same {us = us} {ts = ts} {k = k} {n = n} e w =
      let z : us ≡ ts = cc in
      let y : k ≡ n = cc in
      rw (← z, ← y) w

  pub walk_of : (f i : ℕ) (ts : Items) (n : ℕ) → items_at value s false f i ≡ got ts n → Walk value s f i ts n
  unfolding items_at
  walk_of zero i ts n e = never e
  walk_of (suc f) i ts n e =
      let (t, m, w, e₂) = bind_got (value i) _ e in
      on t m w (next_at s m false) refl e₂ λ j us k q. walk_of f j us k q
    where
      on : (t : Json) (m : ℕ) → value i ≡ got t m → (x : Next) → next_at s m false ≡ x → follow (item i i t) x (items_at value s false f) ≡ got ts n
          → ((j : ℕ) (us : Items) (k : ℕ) → items_at value s false f j ≡ got us k → Walk value s f j us k) → Walk value s (suc f) i ts n
      on t m w (More j) q e ih =
          let (us, k, r, e₃) = bind_got (items_at value s false f j) _ e in
          walk_same e₃ (more w q (ih j us k r))
      on t m w (Done k) q e ih = walk_same e (last w q)
      on t m w Wrong q e ih = never e

-- what is done in a row
pub record Chains {S : Type 0} (does : S → List ℕ → S → Type 0) : Type 0 where
  pub then : {x y z : S} {s t : List ℕ} → does x s y → does y t z → does x (s ++ t) z

pub puts_chain : (json : Bool) → Chains (PutsOf json)
puts_chain json = record { then = λ {x} {y} {z} {s} {t} a b. rw (form_append json s t) (puts_then a b) }

pub counts_chain : (json : Bool) → Chains (Counts json)
counts_chain json =
    record { then = λ {x} {y} {z} {s} {t} a b. record { is = omega (arith, a.is, b.is, ap length (form_append json s t), length-append (in_form json s) (in_form json t)) } }

-- the items from i on, after k of them, are to be done from the state y; then all of them are done from x
pub record Going {S : Type 0} (does : S → List ℕ → S → Type 0) (value : ℕ → Got Json) (s : List ℕ) (all : Items → List ℕ) (x : S) (ts : Items) (n k i : ℕ) (y : S) : Type 0 where
  pub us : Items
  pub walk : Walk value s (length s - k) i us n
  pub gives : (z : S) → does y (all us) z → does x (all ts) z

pub record Left {S : Type 0} (does : S → List ℕ → S → Type 0) (value : ℕ → Got Json) (s : List ℕ) (first : ℕ) (all : Items → List ℕ) (x : S) (k i : ℕ) (y : S) : Type 0 where
  pub left : (ts : Items) (n : ℕ) → items_at value s false (length s) first ≡ got ts n → Going does value s all x ts n k i y

pub left_start : {S : Type 0} (does : S → List ℕ → S → Type 0) (value : ℕ → Got Json) (s : List ℕ) (first : ℕ) (all : Items → List ℕ) (x : S) → Left does value s first all x 0 first x
left_start does value s first all x = record { left = λ ts n e. record { us = ts; walk = rw sub-zero (walk_of value s (length s) first ts n e); gives = λ z p. p } }

module _ {S : Type 0} {does : S → List ℕ → S → Type 0} {value : ℕ → Got Json} {s : List ℕ} {first : ℕ} {all : Items → List ℕ} {x : S} {k i : ℕ} {y : S}
    (inv : Left does value s first all x k i y) where
  -- the fuel is not spent before the items end
  pub left_gone : length s ≤ k → (z : S) (a : ℕ) → Does does (items_at value s false (length s) first) all x z a
  left_gone h z a = record { done = λ ts n e. gone (inv.left ts n e); ends = λ ts n e. gone (inv.left ts n e) }
    where
      none_left : {A : Type 0} {us : Items} {n : ℕ} (f : ℕ) → f ≡ length s - k → Walk value s f i us n → A
      none_left f z (last w q) = absurd (omega arith)
      none_left f z (more w q y) = absurd (omega arith)

      gone : {A : Type 0} {ts : Items} {n : ℕ} → Going does value s all x ts n k i y → A
      gone g = none_left (length s - k) refl g.walk

  module _ (chain : Chains does) {one : Json → List ℕ} (print : Printer one all) {y₁ : S} {next : ℕ} (made : Does does (value i) one y y₁ next) where
    -- what follows the item, by the place that was found after it
    follows : {t : Json} {m : ℕ} {x : Next} → value i ≡ got t m → next_at s next false ≡ x → next_at s m false ≡ x
    follows {t} {m} {x} e q = ap (λ (a : ℕ). next_at s a false) (sym (made.ends t m e)) ∙ q

    pub left_wrong : next_at s next false ≡ Wrong → (z : S) (a : ℕ) → Does does (items_at value s false (length s) first) all x z a
    left_wrong h z a = record { done = λ ts n e. gone (inv.left ts n e); ends = λ ts n e. gone (inv.left ts n e) }
      where
        wrong : {A : Type 0} {us : Items} {n : ℕ} (f : ℕ) → Walk value s f i us n → A
        wrong f (last e q) = let y = follows e h in absurd (let z : ◌≡◌ {A = ℕ} 0 1 = cc in omega arith)
        wrong f (more e q v) = let y = follows e h in absurd (let z : ◌≡◌ {A = ℕ} 0 1 = cc in omega arith)

        gone : {A : Type 0} {ts : Items} {n : ℕ} → Going does value s all x ts n k i y → A
        gone g = wrong (length s - k) g.walk

    pub left_done : {a : ℕ} {z : S} → next_at s next false ≡ Done a → does y₁ (93 ∷ []) z → Does does (items_at value s false (length s) first) all x z a
    left_done {a} {z} h p = record { done = λ ts n q. (end (inv.left ts n q)).0; ends = λ ts n q. (end (inv.left ts n q)).1 }
      where
        final : {ts us : Items} {n : ℕ} (f : ℕ) → ((z : S) → does y (all us) z → does x (all ts) z) → Walk value s f i us n → does x (all ts) z × (a ≡ n)
        final f gives (last {t = t} v q) =
            let c = follows v h in
            (gives z (rw (print.last_is i i t) (chain.then (made.done t _ v) p)), cc)
        final f gives (more v q u) = let c = follows v h in absurd (let z : ◌≡◌ {A = ℕ} 0 1 = cc in omega arith)

        end : {ts : Items} {n : ℕ} → Going does value s all x ts n k i y → does x (all ts) z × (a ≡ n)
        end g = final (length s - k) g.gives g.walk

    pub left_more : {j : ℕ} {y₂ : S} → next_at s next false ≡ More j → does y₁ (44 ∷ []) y₂ → Left does value s first all x (k + 1) j y₂
    left_more {j} {y₂} h p = record { left = λ ts n q. on (inv.left ts n q) }
      where
        comma : {f a n : ℕ} {us : Items} (t : Json) → Walk value s f a us n → all (item i i t us) ≡ one t ++ (44 ∷ all us)
        comma t (last v q) = print.more_is i i t _ _ _ _
        comma t (more v q u) = print.more_is i i t _ _ _ _

        turn : {ts us : Items} {n : ℕ} (f : ℕ) → f ≡ length s - k → ((z : S) → does y (all us) z → does x (all ts) z) → Walk value s f i us n → Going does value s all x ts n (k + 1) j y₂
        turn f z gives (last v q) = let c = follows v h in absurd (let z : ◌≡◌ {A = ℕ} 0 1 = cc in omega arith)
        turn f z gives (more {f = g} {j = j'} {t = t} {ts = us} v q u) =
            let c = follows v h in
            let a : j' ≡ j = cc in
            let b : g ≡ length s - (k + 1) = omega arith in
            record { us = us; walk = rw (a, b) at u; gives = λ e r. gives e (rw (comma t u) (chain.then (made.done t _ v) (chain.then p r))) }

        on : {ts : Items} {n : ℕ} → Going does value s all x ts n k i y → Going does value s all x ts n (k + 1) j y₂
        on g = turn (length s - k) refl g.gives g.walk
