-- An event that is written and read back is the same event; a text that is read and written again is the same text. So
-- 01's sentence on a text read back alone holds word for word: `too_large_lem`, `wrong_shape_lem`, `accepted`.
use mathlib.Core.Path.{◌≡◌, refl, sym, ap, ◌∙◌}
use mathlib.Core.Bool.{Bool, true, false, cond}
use mathlib.Core.List.{List, ◌++◌, append_assoc}
use mathlib.Core.Logic.Iff
use mathlib.Core.Logic.{◌↔◌}
use Prim.Native.Nat.{ℕ, ◌+◌, ◌<◌, ◌≤◌}
use native.Mathlib.Omega.{arith}
use lib.Dec.{eqb, leb}
use lib.ListN.{length, length-append}
use borrow.Author.Tests.{le-leb, lt-leb, eq-eqb, eqb-true, leb-true, leb-false}
use Rattle.wire.specs.Escape.{escape}
use Rattle.numeral.specs.Decimal.{digits, decimal}
use Rattle.wire.specs.Limits.{most_text}
use Rattle.text.specs.Event.{Event, quoted, tags_text, opening, serialise, is_fit}
use Rattle.text.specs.Read.{Got, none, got, stands_at, Fields, fields_at, event_of_fields, opened_text, ending, Read}
use Rattle.text.specs.Read.{too_large, wrong_shape, read, read_text, IsTextOf}
use Rattle.text.specs.Answer.{text_answer_of, text_number}
use Rattle.text.proofs.Pieces.{Spelt, join, left, right, whole, all_of}
use Rattle.text.proofs.Limits.{limits_of}
use Rattle.text.proofs.Rows.{stands_same, stands_back, pubkey_length, fields_text, fields_fit, fields_exact}

fields_text_lem : (x : Fields) → serialise (event_of_fields x) ≡ opening ++ fields_text x
unfolding serialise
fields_text_lem x = simp append_assoc

abbrev fields_of : Event → Fields
fields_of e = (e.pubkey, (e.time, (e.kind, (e.tags, e.content))))

-- the fields of an event that is written are got back
fields_back : (t : List ℕ) (e : Event) → is_fit e ≡ true → t ≡ serialise e → opened_text t ≡ got (fields_of e) (length t)
unfolding is_fit opened_text
fields_back t e h q =
    let x : Fields = fields_of e in
    let a = all_of t (opening ++ fields_text x) (q ∙ fields_text_lem x) in
    rw (stands_back t opening 0 4 (left opening (fields_text x) a)) ((fields_exact t).back 4 x (length t) (record { is = right opening (fields_text x) a; fine = h }))

-- written, then read: the same event
pub read_back : (e : Event) → is_fit e ≡ true → length (serialise e) ≤ most_text → read_text (serialise e) ≡ read e
unfolding read_text
read_back e h l = let t = serialise e in rw (le-leb (length t) most_text l, fields_back t e h refl, eq-eqb (length t) (length t) refl)

-- what was got of the fields stands there
pub opened_same : (t : List ℕ) (x : Fields) (n : ℕ) → opened_text t ≡ got x n → Spelt t 0 (opening ++ fields_text x) n × (fields_fit x ≡ true)
unfolding opened_text
opened_same t x n q = go (stands_at t opening 0) refl q
  where
    go : (a : Bool) → stands_at t opening 0 ≡ a → cond a (fields_at t 4) none ≡ got x n → Spelt t 0 (opening ++ fields_text x) n × (fields_fit x ≡ true)
    go true e r = let a = (fields_exact t).same 4 x n r in (join {p = opening} (stands_same t opening 0 refl e) a.is, a.fine)
    go false e r = absurd (let z : ◌≡◌ {A = ℕ} 0 1 = cc in omega arith)

-- read, then written: the same bytes, of an event within the limits
pub read_same : (t : List ℕ) (e : Event) → read_text t ≡ read e → IsTextOf t e
unfolding read_text is_fit
read_same t e q = go (leb (length t) most_text) refl (opened_text t) refl q
  where
    end : (x : Fields) (n : ℕ) (f : Bool) → leb (length t) most_text ≡ true → opened_text t ≡ got x n → eqb n (length t) ≡ f → cond f (read (event_of_fields x)) wrong_shape ≡ read e → IsTextOf t e
    end x n true ea eo ef r =
        let zx : event_of_fields x ≡ e = cc in
        let a = opened_same t x n eo in
        let w : t ≡ opening ++ fields_text x = whole (rw (eqb-true n (length t) ef) at a.0) in
        rw (← zx) (record { same = fields_text_lem x ∙ sym w; fit = a.1; small = leb-true (length t) most_text ea })
    end x n false ea eo ef r = absurd (let z : ◌≡◌ {A = ℕ} 0 1 = cc in omega arith)

    go : (a : Bool) → leb (length t) most_text ≡ a → (g : Got Fields) → opened_text t ≡ g → cond a (ending t g) too_large ≡ read e → IsTextOf t e
    go false ea g eo r = absurd (let z : ◌≡◌ {A = ℕ} 0 1 = cc in omega arith)
    go true ea none eo r = absurd (let z : ◌≡◌ {A = ℕ} 0 1 = cc in omega arith)
    go true ea (got x n) eo r = end x n (eqb n (length t)) ea eo refl r

-- ---- 01's sentence
-- accepted exactly if it is the serialisation of an event within the limits, of at most 4,096 bytes
pub accepted : (t : List ℕ) (e : Event) → (read_text t ≡ read e) ↔ IsTextOf t e
accepted t e = (read_same t e, λ a. rw (← a.same) (read_back e a.fit (rw a.same a.small)))

-- refused by 9 exactly if over 4,096 bytes
pub too_large_lem : (t : List ℕ) → (read_text t ≡ too_large) ↔ (most_text < length t)
unfolding read_text
too_large_lem t = (go (leb (length t) most_text) refl, λ h. rw (lt-leb (length t) most_text h))
  where
    within : (g : Got Fields) → ending t g ≡ too_large → ⊥
    within none r = let z : ◌≡◌ {A = ℕ} 0 1 = cc in omega arith
    within (got x n) r = end (eqb n (length t)) r
      where
        end : (f : Bool) → cond f (read (event_of_fields x)) wrong_shape ≡ too_large → ⊥
        end true r = let z : ◌≡◌ {A = ℕ} 0 1 = cc in omega arith
        end false r = let z : ◌≡◌ {A = ℕ} 0 1 = cc in omega arith

    go : (a : Bool) → leb (length t) most_text ≡ a → cond a (ending t (opened_text t)) too_large ≡ too_large → most_text < length t
    go true e r = absurd (within (opened_text t) r)
    go false e r = leb-false (length t) most_text e

-- else refused by 5 exactly if no event within the limits has it
pub wrong_shape_lem : (t : List ℕ) → (read_text t ≡ wrong_shape) ↔ ((length t ≤ most_text) × ((e : Event) → is_fit e ≡ true → serialise e ≡ t → ⊥))
unfolding read_text
wrong_shape_lem t = (λ q. (small q, none_has q), λ h. go (read_text t) refl h.0 h.1)
  where
    small : read_text t ≡ wrong_shape → length t ≤ most_text
    small q = le (leb (length t) most_text) refl q
      where
        le : (a : Bool) → leb (length t) most_text ≡ a → cond a (ending t (opened_text t)) too_large ≡ wrong_shape → length t ≤ most_text
        le true e r = leb-true (length t) most_text e
        le false e r = absurd (let z : ◌≡◌ {A = ℕ} 0 1 = cc in omega arith)

    none_has : read_text t ≡ wrong_shape → (e : Event) → is_fit e ≡ true → serialise e ≡ t → ⊥
    none_has q e h s =
        let z : wrong_shape ≡ read e = sym q ∙ ap read_text (sym s) ∙ read_back e h (rw s (small q)) in
        let y : ◌≡◌ {A = ℕ} 0 1 = cc in
        omega arith

    go : (r : Read) → read_text t ≡ r → length t ≤ most_text → ((e : Event) → is_fit e ≡ true → serialise e ≡ t → ⊥) → r ≡ wrong_shape
    go wrong_shape q l n = refl
    go too_large q l n = absurd (let k = (too_large_lem t).0 q in omega arith)
    go (read e) q l n = absurd (let a = read_same t e q in n e a.fit a.same)

-- the same by 01's numbers
nine : (r : Read) → (text_number (text_answer_of r) ≡ 9) ↔ (r ≡ too_large)
nine too_large = (λ _. refl, λ _. refl)
nine wrong_shape = (λ q. absurd (omega arith), λ q. absurd (let z : ◌≡◌ {A = ℕ} 0 1 = cc in omega arith))
nine (read e) = (λ q. absurd (omega arith), λ q. absurd (let z : ◌≡◌ {A = ℕ} 0 1 = cc in omega arith))

five : (r : Read) → (text_number (text_answer_of r) ≡ 5) ↔ (r ≡ wrong_shape)
five too_large = (λ q. absurd (omega arith), λ q. absurd (let z : ◌≡◌ {A = ℕ} 0 1 = cc in omega arith))
five wrong_shape = (λ _. refl, λ _. refl)
five (read e) = (λ q. absurd (omega arith), λ q. absurd (let z : ◌≡◌ {A = ℕ} 0 1 = cc in omega arith))

pub number_9 : (t : List ℕ) → (text_number (text_answer_of (read_text t)) ≡ 9) ↔ (most_text < length t)
number_9 t = Iff.trans (nine (read_text t)) (too_large_lem t)

pub number_5 : (t : List ℕ) → (text_number (text_answer_of (read_text t)) ≡ 5) ↔ ((length t ≤ most_text) × ((e : Event) → is_fit e ≡ true → serialise e ≡ t → ⊥))
number_5 t = Iff.trans (five (read_text t)) (wrong_shape_lem t)

-- two events within the limits with one text are the same
pub serialise_once : (e f : Event) → is_fit e ≡ true → is_fit f ≡ true → serialise e ≡ serialise f → e ≡ f
serialise_once e f h k q =
    let t = serialise e in
    let z : got (fields_of e) (length t) ≡ got (fields_of f) (length t) = sym (fields_back t e h refl) ∙ fields_back t f k q in
    let y : fields_of e ≡ fields_of f = cc in
    ap event_of_fields y

-- ---- its length
pub serialise_length_lem : (e : Event) → length (serialise e)
    ≡ 12 + length e.pubkey + length (decimal e.time) + length (digits e.kind) + length (tags_text e.tags) + length (escape e.content)
unfolding serialise quoted
serialise_length_lem e = simp length-append (omega arith)

pub fit_length : (e : Event) → is_fit e ≡ true → length (serialise e) ≡ 76 + length (decimal e.time) + length (digits e.kind) + length (tags_text e.tags) + length (escape e.content)
fit_length e h = let l = pubkey_length e.pubkey (limits_of e h).pubkey in omega (arith, serialise_length_lem e)
