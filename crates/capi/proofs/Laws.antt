-- A law for each way out of a call that writes into a lent row; the numbers of a REQ.
use Rattle.std.specs.Prelude.{Result, Err}
use mathlib.Core.Path.{◌≡◌, refl, sym, ap, ◌∙◌}
use mathlib.Core.List.{List, [], ◌++◌}
use Prim.Native.Nat.{ℕ, ◌≤◌, ◌<◌}
use native.Mathlib.Omega.{arith}
use borrow.Author.Tests.{le-leb, lt-leb, eq-eqb, ne_eqb}
use lib.ListN.{length, take, drop, length-append, length-take}
use lib.Seq.{take-append_seam}
use Rattle.wire.specs.Put.{Puts}
use Rattle.wire.proofs.Laws.{puts_whole, puts_then}
use Rattle.shape.specs.Rows.{message_row}
use Rattle.shape.specs.Offsets.{refusal_of}
use Rattle.shape.specs.declared.Refusal.{Refusal}
use Rattle.shape.proofs.Offsets.{offset_absent}
use Rattle.message.specs.declared.Body.{Body}
use Rattle.message.specs.declared.EventParts.{EventParts}
use Rattle.message.specs.declared.FilterParts.{FilterParts}
use Rattle.message.specs.declared.Message.{Message}
use Rattle.message.specs.declared.Message.TheVariants as message
use Rattle.message.specs.declared.Filters.{Filters}
use Rattle.message.specs.Parts.{filters_at}
use Rattle.message.specs.Read.{read_of, read_number}
use Rattle.message.proofs.Reading.{row_read}
use Rattle.event.specs.Answer.{written_number, serialised, serialised_out}
use Rattle.event.proofs.Sent.{some_row, refused_own}
use Rattle.numbers.specs.Numbers.{parts_numbers, message_numbers}
use Rattle.numbers.specs.Parts.{event_from}
use Rattle.numbers.proofs.Laws.{length_parts}
use Rattle.capi.specs.Calls.{lent_row, lent_out, offset_in, offset_or, read_row, read_out, length_or}

-- ---- row r, or the list l into a row that has room for k
module _ (r k : ℕ) (l out : List ℕ) where
  pub lent_refused : {x : ℕ} → x ≡ r → (x ≡ 0 → ⊥) → (x ≡ lent_row r k out) × (out ≡ lent_out r k l out)
  unfolding lent_row lent_out
  lent_refused e n = let h = ne_eqb r 0 (λ q. n (e ∙ q)) in (simp (h, e), simp h)

  module _ (z : r ≡ 0) where
    pub lent_short : length out < k → (13 ≡ lent_row r k out) × (out ≡ lent_out r k l out)
    unfolding lent_row lent_out
    lent_short h =
        let a = eq-eqb r 0 z in
        let b = lt-leb k (length out) h in
        (simp (a, b), simp (a, b))

    pub lent_wrote : k ≤ length out → {l' o : List ℕ} {m : ℕ} → l' ≡ l → Puts out 0 l' m o → (0 ≡ lent_row r k out) × (o ≡ lent_out r k l out)
    unfolding lent_row lent_out
    lent_wrote h e p =
        let a = eq-eqb r 0 z in
        let b = le-leb k (length out) h in
        (simp (a, b), rw (a, b, sym e) p.bytes)

-- the row has no room for k
pub short_row : (k : ℕ) (out : List ℕ) → length out < k → 13 ≡ lent_row 0 k out
short_row k out h = (lent_short 0 k [] out refl h).0

pub short_out : (k : ℕ) (l out : List ℕ) → length out < k → out ≡ lent_out 0 k l out
short_out k l out h = (lent_short 0 k l out refl h).1

-- what was put where no row refuses it
pub lent_on : (r k : ℕ) (l m out : List ℕ) {o : List ℕ} {x : ℕ} → r ≡ 0 → l ≡ m → x ≡ lent_row 0 k out → o ≡ lent_out 0 k l out → (x ≡ lent_row r k out) × (o ≡ lent_out r k m out)
lent_on r k l m out z e a b = rw (z, sym e) (a, b)

-- ---- an event of numbers
pub body_of_lem : (e : List ℕ) {p : EventParts} → p ≡ event_from e → p.body ≡ (event_from e).body
body_of_lem e h = ap (λ (y : EventParts). y.body) h

module _ (b : List ℕ) (p : Body) (out : List ℕ) {x : Body} {w : Result ℕ ℕ} {o : List ℕ} (g : x ≡ p) (e : w ≡ serialised b x out) (f : o ≡ serialised_out b x out) where
  written_as : {v : Result ℕ ℕ} → w ≡ v → v ≡ serialised b p out
  written_as h = sym h ∙ e ∙ ap (λ (y : Body). serialised b y out) g

  bytes_as : o ≡ serialised_out b p out
  bytes_as = f ∙ ap (λ (y : Body). serialised_out b y out) g

  -- what is answered and left, with m in the lent number
  pub said_length : {v : Result ℕ ℕ} (m : ℕ) → w ≡ v →
      (written_number v ≡ written_number (serialised b p out)) × ((o ≡ serialised_out b p out) × (length_or v m ≡ length_or (serialised b p out) m))
  said_length m h = (ap written_number (written_as h), (bytes_as, ap (λ z. length_or z m) (written_as h)))

-- the filters of a REQ stand in four places
pub four_parts : (s : List ℕ) (at : ℕ) {f : Filters} → f ≡ filters_at s at → length f.parts ≡ 4
unfolding filters_at
four_parts s at e = ap (λ (x : Filters). length x.parts) e

-- ---- a REQ: its head and its filters are put into 44 numbers, and what they take of these is lent on
module _ (d head : List ℕ) (fs : List FilterParts) (n : ℕ) (long : length d ≡ 44) (four : length head ≡ 4) (most : length fs ≡ 4) where
  abbrev request : List ℕ
  request = head ++ parts_numbers (take n fs)

  small : length request ≤ length d
  small =
      let a = length_parts (take n fs) in
      let b = length-take n fs in
      simp length-append (omega arith)

  module _ {a r : ℕ} {l o : List ℕ} (p : Puts d 0 head a l) (q : Puts l a (parts_numbers (take n fs)) r o) where
    pub request_taken : take r o ≡ request
    request_taken =
        let w = puts_whole small (puts_then p q) in
        rw (w.0, w.1) (take-append_seam request (drop (length request) d))

    pub request_length : r ≡ length (take r o)
    request_length = (puts_whole small (puts_then p q)).0 ∙ sym (ap length request_taken)

pub lent_as : (out : List ℕ) {l m o : List ℕ} {x : ℕ} → l ≡ m → x ≡ lent_row 0 (length l) out → o ≡ lent_out 0 (length l) l out →
    (x ≡ lent_row 0 (length m) out) × (o ≡ lent_out 0 (length m) m out)
lent_as out e a b = rw (sym e) (a, b)

-- ---- a message tested, with k in the lent number
pub row_told_lem : (s : List ℕ) (k : ℕ) {x : Refusal} {o : ℕ} → x ≡ refusal_of s → o ≡ offset_or x k → (x.row ≡ message_row s) × (o ≡ offset_or (refusal_of s) k)
row_told_lem s k e f = (ap (λ (y : Refusal). y.row) e, f ∙ ap (λ (y : Refusal). offset_or y k) e)

-- ---- a message that was read
module _ (s out : List ℕ) {m : Result Message Refusal} (e : m ≡ read_of s) (k : ℕ) where
  abbrev pub ReadSays : ℕ → List ℕ → ℕ → Type 0
  ReadSays x o j = (x ≡ read_row s out) × ((o ≡ read_out s out) × (j ≡ offset_or (refusal_of s) k))

  pub read_lent : {l o : List ℕ} {x : ℕ} → read_number m ≡ 0 → l ≡ message_numbers s m → x ≡ lent_row 0 (length l) out → o ≡ lent_out 0 (length l) l out → ReadSays x o k
  read_lent {o = o} {x = x} z f a b =
      let y : read_number (read_of s) ≡ 0 = ap read_number (sym e) ∙ z in
      let w : message_row s ≡ 0 = sym (row_read s) ∙ y in
      let g = f ∙ ap (message_numbers s) e in
      let h : (x ≡ read_row s out) × (o ≡ read_out s out) = rw (y, sym g) (a, b) in
      (h.0, (h.1, sym (ap (λ t. offset_in t k) (offset_absent s (λ n. omega arith) (λ n. omega arith)))))

  pub read_refused : {z : Refusal} {j : ℕ} → m ≡ Err z → j ≡ offset_or z k → ReadSays z.row out j
  read_refused {z} f g =
      let y : read_of s ≡ Err z = sym e ∙ f in
      let h : (z.row ≡ read_row s out) × (out ≡ read_out s out) = rw y (lent_refused z.row 0 [] out refl (some_row s y)) in
      (h.0, (h.1, g ∙ ap (λ (r : Refusal). offset_or r k) (sym (refused_own s y))))
