-- The names of events and filters: which name a slot has, and that two names with one slot are the same.
use mathlib.Core.Path.{◌≡◌, refl, sym, ap, subst, ◌∙◌}
use mathlib.Core.List.{List, [], ◌∷◌}
use mathlib.Core.Bool.{Bool, true, false, cond, ◌||◌}
use Prim.Native.Nat.{ℕ, ◌+◌, ◌-◌, ◌≤◌}
use native.Mathlib.Omega.{arith}
use borrow.Author.Tests.{lt-ltb, le-ltb, eq-eqb, eqb-true}
use lib.Dec.{eqb, ltb}
use lib.ListN.{get_or}
use Rattle.json_tree.specs.Grammar.{is_between}
use Rattle.wire.specs.Bytes.{same_bytes}
use Rattle.shape.specs.Shape.{id_name, pubkey_name, created_at_name, kind_name, tags_name, content_name, sig_name}
use Rattle.shape.specs.Shape.{ids_name, authors_name, kinds_name, since_name, until_name, limit_name, is_letter}
use Rattle.shape.specs.Shape.{is_condition}
use Rattle.shape.specs.Inner.{SIG, UNKNOWN, IDS, AUTHORS, KINDS, SINCE, UNTIL, LOWER, UPPER, among, event_slot}
use Rattle.shape.specs.Inner.{letter_slot, condition_slot, filter_slot, bit_of}
use Rattle.wire.proofs.Bytes.{same_equal, same_self}
use Rattle.shape.proofs.Names.{no, both_ways, within_ends, condition_is, condition_letter_lem, among_none}

-- ---- what holds of each of these names, and of a name that is none of them, holds of every name
-- one name more
named : (F : List ℕ → Type 0) (w n : List ℕ) (b : Bool) → same_bytes w n ≡ b → F n → (same_bytes w n ≡ false → F w) → F w
named F w n true e y k = subst F (sym (same_equal w n e)) y
named F w n false e y k = k e

pub event_cases : (F : List ℕ → Type 0) → F id_name → F pubkey_name → F created_at_name → F kind_name → F tags_name → F content_name → F sig_name
    → ((w : List ℕ) → same_bytes w id_name ≡ false → same_bytes w pubkey_name ≡ false → same_bytes w created_at_name ≡ false → same_bytes w kind_name ≡ false
    → same_bytes w tags_name ≡ false → same_bytes w content_name ≡ false → same_bytes w sig_name ≡ false → F w) → (w : List ℕ) → F w
event_cases F f₁ f₂ f₃ f₄ f₅ f₆ f₇ none w =
    named F w id_name _ refl f₁ λ a. named F w pubkey_name _ refl f₂ λ b. named F w created_at_name _ refl f₃ λ c. named F w kind_name _ refl f₄ λ d.
    named F w tags_name _ refl f₅ λ e. named F w content_name _ refl f₆ λ f. named F w sig_name _ refl f₇ λ g. none w a b c d e f g

pub filter_cases : (F : List ℕ → Type 0) → F ids_name → F authors_name → F kinds_name → F since_name → F until_name → F limit_name
    → ((b : ℕ) → is_letter b ≡ true → F (35 ∷ b ∷ []))
    → ((w : List ℕ) → same_bytes w ids_name ≡ false → same_bytes w authors_name ≡ false → same_bytes w kinds_name ≡ false → same_bytes w since_name ≡ false
    → same_bytes w until_name ≡ false → same_bytes w limit_name ≡ false → is_condition w ≡ false → F w) → (w : List ℕ) → F w
filter_cases F f₁ f₂ f₃ f₄ f₅ f₆ condition none w =
    named F w ids_name _ refl f₁ λ a. named F w authors_name _ refl f₂ λ b. named F w kinds_name _ refl f₃ λ c. named F w since_name _ refl f₄ λ d.
    named F w until_name _ refl f₅ λ e. named F w limit_name _ refl f₆ λ f. last (is_condition w) refl (none w a b c d e f)
  where
    last : (x : Bool) → is_condition w ≡ x → (is_condition w ≡ false → F w) → F w
    last true q f = let i = condition_is w q in subst F (sym i.0) (condition (get_or w 1 0) i.1)
    last false q f = f q

-- none of the first six names of an event: the slot is told by the seventh
pub seventh : (w : List ℕ) {k : ℕ} {t : Bool} → k ≡ among w true 6 → k ≡ 6 → t ≡ same_bytes w sig_name → cond t SIG UNKNOWN ≡ event_slot w
unfolding event_slot
seventh w e z q = ap (λ (t : Bool). cond t SIG UNKNOWN) q ∙ among_none w true _ e z

-- ---- the name that has a slot
pub event_back : ℕ → List ℕ
event_back j =
    cond (eqb j 0) id_name (cond (eqb j 1) pubkey_name (cond (eqb j 2) created_at_name (cond (eqb j 3) kind_name (cond (eqb j 4) tags_name (cond (eqb j 5) content_name sig_name)))))

pub filter_back : ℕ → List ℕ
filter_back j =
    cond (ltb j LOWER)
    (cond (eqb j IDS) ids_name (cond (eqb j AUTHORS) authors_name (cond (eqb j KINDS) kinds_name (cond (eqb j SINCE) since_name (cond (eqb j UNTIL) until_name limit_name)))))
    (35 ∷ cond (ltb j UPPER) (j - LOWER + 97) (j - UPPER + 65) ∷ [])

pub event_back_lem : (w : List ℕ) → (event_slot w ≡ UNKNOWN → ⊥) → w ≡ event_back (event_slot w)
unfolding event_back event_slot same_bytes
event_back_lem =
    event_cases (λ w. (event_slot w ≡ UNKNOWN → ⊥) → w ≡ event_back (event_slot w)) (λ n. refl) (λ n. refl) (λ n. refl) (λ n. refl) (λ n. refl) (λ n. refl) (λ n. refl)
    (λ w a b c d e f g n. absurd (n (rw (a, b, c, d, e, f, g))))

-- the letter of a condition comes back
letter_back : (b : ℕ) → is_letter b ≡ true → 35 ∷ b ∷ [] ≡ filter_back (letter_slot b)
unfolding filter_back letter_slot
letter_back b e = go (is_between 97 122 b) refl (is_between 65 90 b) refl e
  where
    lower : 97 ≤ b → b ≤ 122 → 35 ∷ b ∷ [] ≡ filter_back (b - 97 + LOWER)
    lower l h =
        let z : b - 97 + LOWER - LOWER + 97 ≡ b = omega arith in
        rw (le-ltb (b - 97 + LOWER) LOWER (omega arith), lt-ltb (b - 97 + LOWER) UPPER (omega arith), z)

    upper : 65 ≤ b → b ≤ 90 → 35 ∷ b ∷ [] ≡ filter_back (b - 65 + UPPER)
    upper l h =
        let z : b - 65 + UPPER - UPPER + 65 ≡ b = omega arith in
        rw (le-ltb (b - 65 + UPPER) LOWER (omega arith), le-ltb (b - 65 + UPPER) UPPER (omega arith), z)

    go : (x : Bool) → is_between 97 122 b ≡ x → (y : Bool) → is_between 65 90 b ≡ y → (x || y) ≡ true → 35 ∷ b ∷ [] ≡ filter_back (cond x (b - 97 + LOWER) (cond y (b - 65 + UPPER) UNKNOWN))
    go true p y q e = let w = within_ends 97 122 b p in lower w.0 w.1
    go false p true q e = let w = within_ends 65 90 b q in upper w.0 w.1
    go false p false q e = no cc

pub condition_slot_lem : (b : ℕ) → filter_slot (35 ∷ b ∷ []) ≡ letter_slot b
unfolding filter_slot same_bytes
condition_slot_lem b = sym (condition_letter_lem b)

pub filter_back_lem : (w : List ℕ) → (filter_slot w ≡ UNKNOWN → ⊥) → w ≡ filter_back (filter_slot w)
unfolding filter_back filter_slot condition_slot same_bytes
filter_back_lem =
    filter_cases (λ w. (filter_slot w ≡ UNKNOWN → ⊥) → w ≡ filter_back (filter_slot w)) (λ n. refl) (λ n. refl) (λ n. refl) (λ n. refl) (λ n. refl) (λ n. refl)
    (λ b l n. letter_back b l ∙ ap filter_back (sym (condition_slot_lem b))) (λ w a b c d e f g n. absurd (n (rw (a, b, c, d, e, f, g))))

-- ---- the slots of events, and of filters, with that of a name that is none of theirs
either : (P : ℕ → Type 0) (b : Bool) {x y : ℕ} → P x → P y → P (cond b x y)
either P true p q = p
either P false p q = q

event_slots : (w : List ℕ) → event_slot w ≤ UNKNOWN
unfolding event_slot
event_slots w =
    either (λ n. n ≤ UNKNOWN) (same_bytes w id_name) (omega arith)
    (either (λ n. n ≤ UNKNOWN) (same_bytes w pubkey_name) (omega arith)
    (either (λ n. n ≤ UNKNOWN) (same_bytes w created_at_name) (omega arith)
    (either (λ n. n ≤ UNKNOWN) (same_bytes w kind_name) (omega arith)
    (either (λ n. n ≤ UNKNOWN) (same_bytes w tags_name) (omega arith)
    (either (λ n. n ≤ UNKNOWN) (same_bytes w content_name) (omega arith)
    (either (λ n. n ≤ UNKNOWN) (same_bytes w sig_name) (omega arith) (omega arith)))))))

letter_slots : (b : ℕ) → (UNKNOWN ≤ letter_slot b) × (letter_slot b ≤ 65)
unfolding letter_slot
letter_slots b = go (is_between 97 122 b) refl (is_between 65 90 b) refl
  where
    go : (x : Bool) → is_between 97 122 b ≡ x → (y : Bool) → is_between 65 90 b ≡ y
        → (UNKNOWN ≤ cond x (b - 97 + LOWER) (cond y (b - 65 + UPPER) UNKNOWN)) × (cond x (b - 97 + LOWER) (cond y (b - 65 + UPPER) UNKNOWN) ≤ 65)
    go true p y q = let w = within_ends 97 122 b p in (omega arith, omega arith)
    go false p true q = let w = within_ends 65 90 b q in (omega arith, omega arith)
    go false p false q = (omega arith, omega arith)

among_few : (w : List ℕ) (b : Bool) → among w b 6 ≤ 6
among_few w b =
    either (λ n. n ≤ 6) (same_bytes w (cond b id_name ids_name)) (omega arith)
    (either (λ n. n ≤ 6) (same_bytes w (cond b pubkey_name authors_name)) (omega arith)
    (either (λ n. n ≤ 6) (same_bytes w (cond b created_at_name kinds_name)) (omega arith)
    (either (λ n. n ≤ 6) (same_bytes w (cond b kind_name since_name)) (omega arith)
    (either (λ n. n ≤ 6) (same_bytes w (cond b tags_name until_name)) (omega arith)
    (either (λ n. n ≤ 6) (same_bytes w (cond b content_name limit_name)) (omega arith) (omega arith))))))

pub among_told : (w : List ℕ) (b : Bool) {k : ℕ} → k ≡ among w b 6 → k ≤ 6
among_told w b e = let few = among_few w b in omega arith

filter_slots : (w : List ℕ) → (UNKNOWN ≤ filter_slot w) × (filter_slot w ≤ 65)
unfolding filter_slot condition_slot
filter_slots w =
    let few = among_few w false in
    either (λ n. (UNKNOWN ≤ n) × (n ≤ 65)) (eqb (among w false 6) 6)
    (either (λ n. (UNKNOWN ≤ n) × (n ≤ 65)) (is_condition w) (letter_slots (get_or w 1 0)) (omega arith, omega arith)) (omega arith, omega arith)

-- ---- one bit, one slot
pub event_bit : (x y : List ℕ) → (event_slot y ≡ UNKNOWN → ⊥) → bit_of (event_slot x) ≡ bit_of (event_slot y) → event_slot x ≡ event_slot y
event_bit x y n e = let a = event_slots x in let b = event_slots y in omega arith

pub filter_bit : (x y : List ℕ) → (filter_slot y ≡ UNKNOWN → ⊥) → bit_of (filter_slot x) ≡ bit_of (filter_slot y) → filter_slot x ≡ filter_slot y
filter_bit x y n e = let a = filter_slots x in let b = filter_slots y in omega (arith, a.0, a.1, b.0, b.1, n, e)

-- ---- one bit, one name
module _ (slot : List ℕ → ℕ) (back : ℕ → List ℕ) (is : (w : List ℕ) → (slot w ≡ UNKNOWN → ⊥) → w ≡ back (slot w))
    (one : (x y : List ℕ) → (slot y ≡ UNKNOWN → ⊥) → bit_of (slot x) ≡ bit_of (slot y) → slot x ≡ slot y) where
  pub same_bit : (x y : List ℕ) → (slot y ≡ UNKNOWN → ⊥) → eqb (bit_of (slot x)) (bit_of (slot y)) ≡ same_bytes x y
  same_bit x y n =
      both_ways (eqb (bit_of (slot x)) (bit_of (slot y))) (same_bytes x y)
      (λ e. let q = one x y n (eqb-true (bit_of (slot x)) (bit_of (slot y)) e) in ap (λ (z : List ℕ). same_bytes z y) (is x (λ z. n (sym q ∙ z)) ∙ ap back q ∙ sym (is y n)) ∙ same_self y)
      (λ e. eq-eqb (bit_of (slot x)) (bit_of (slot y)) (ap (λ w. bit_of (slot w)) (same_equal x y e)))
