-- A message taken, by what was read and what its offer was answered.
use Rattle.std.specs.Prelude.{Result, Ok, Err}
use mathlib.Core.Path.{◌≡◌, refl, sym, ap, ◌∙◌}
use mathlib.Core.List.{List}
use Prim.Native.Nat.{ℕ}
use native.Mathlib.Omega.{arith}
use Rattle.shape.specs.declared.Refusal.{Refusal}
use Rattle.message.specs.Read.{read_of}
use Rattle.message.specs.declared.Span.{Span}
use Rattle.message.specs.declared.EventParts.{EventParts}
use Rattle.message.specs.declared.ReqParts.{ReqParts}
use Rattle.message.specs.declared.Message.{Message}
use Rattle.message.specs.declared.Message.TheVariants as message
use Rattle.table.specs.Offer.{as_message, answer, offer_number, next}
use Rattle.table.specs.declared.Offered.{Offered}
use Rattle.offers.specs.Inner.{New, offered_to, offered_next}
use Rattle.offers.specs.Taken.{taken_as, taken, taken_number, taken_row_as, taken_row, table_as, taken_table, Makes}
use Rattle.offers.specs.declared.Taken.{Taken}
use Rattle.offers.specs.declared.Taken.TheVariants as takes
use Rattle.offers.proofs.From.{made_wrote, made_refused}
use Rattle.offers.proofs.Offers as offers

-- what is promised
abbrev pub Takes : List ℕ → List ℕ → Result Taken Refusal → List ℕ → Type 0
Takes b m r t = (r ≡ taken b m) × ((taken_number r ≡ taken_row b m) × (t ≡ taken_table b m))

number_as : (a : Result Offered Refusal) (x : Result Message Refusal) → taken_number (taken_as a x) ≡ taken_row_as (offer_number a) x
number_as a (Ok (message.Event p)) = refl
number_as a (Ok (message.Req q)) = refl
number_as a (Ok (message.Close s)) = refl
number_as a (Err r) = refl

table_as_lem : (b : List ℕ) (x : Result Message Refusal) → table_as b b x ≡ b
table_as_lem b (Ok (message.Event p)) = refl
table_as_lem b (Ok (message.Req q)) = refl
table_as_lem b (Ok (message.Close s)) = refl
table_as_lem b (Err r) = refl

-- an offer answered a leaves the table t
takes_as : (b m : List ℕ) {a : Result Offered Refusal} {t : List ℕ} → offers.Leaves b (as_message m) a t → {r : Result Taken Refusal} {u : List ℕ}
    → r ≡ taken_as a (read_of m) → u ≡ table_as b t (read_of m) → Takes b m r u
unfolding taken taken_row taken_table
takes_as b m {a} (e, (n, l)) {r} f g = (
  f ∙ ap (λ y. taken_as y (read_of m)) e,
  (
    ap taken_number f ∙ number_as a (read_of m) ∙ ap (λ y. taken_row_as y (read_of m)) n,
    g ∙ ap (λ y. table_as b y (read_of m)) l,
  ),
)

-- s is what was made of the message: the slot o of its event, or what refuses it
module _ (b m : List ℕ) {s : Result (EventParts × ℕ) Refusal} {o : List ℕ} (k : Makes m s o) where
  pub refused_taken : {x : Refusal} {r : Result Taken Refusal} → s ≡ Err x → r ≡ taken_as (Err x) (read_of m) → Takes b m r b
  refused_taken e f =
      let (g, n) = made_refused m k e in
      takes_as b m (offers.refused_stays b (as_message m) refl n g) f (sym (table_as_lem b (read_of m)))

  module _ {p : EventParts} {n : ℕ} (e : s ≡ Ok (p, n)) where
    pub new_event : New o
    new_event = let (f, (z, q)) = made_wrote m k e in offers.is_new b (as_message m) z refl (λ w. q)

    pub event_taken : {a : Result Offered Refusal} {t : List ℕ} → (a ≡ offered_to b o) × (t ≡ offered_next b o) → Takes b m (Ok (takes.Event p.id a)) t
    event_taken {a} {t} g =
        let (f, (z, q)) = made_wrote m k e in
        takes_as b m (offers.taken b (as_message m) z refl (λ w. q) g) (ap (taken_as a) (sym f)) (ap (table_as b t) (sym f))

-- ---- what an answer says of the message
pub record Took (b m : List ℕ) (i : Span) (v : Result Offered Refusal) : Type 0 where
  pub parts : EventParts
  pub is : read_of m ≡ Ok (message.Event parts)
  pub id : i ≡ parts.id
  pub says : v ≡ answer b (as_message m)

module _ (b m : List ℕ) {r : Result Taken Refusal} (a : r ≡ taken b m) where
  pub took_event : {i : Span} {v : Result Offered Refusal} → r ≡ Ok (takes.Event i v) → Took b m i v
  unfolding taken
  took_event {i} {v} e = go (read_of m) refl (sym a ∙ e)
    where
      go : (x : Result Message Refusal) → read_of m ≡ x → taken_as (answer b (as_message m)) x ≡ Ok (takes.Event i v) → Took b m i v
      go (Ok (message.Event p)) f g = record { parts = p; is = f; id = cc; says = cc }
      go (Ok (message.Req q)) f g = absurd (let y : ◌≡◌ {A = ℕ} 0 1 = cc in omega arith)
      go (Ok (message.Close s)) f g = absurd (let y : ◌≡◌ {A = ℕ} 0 1 = cc in omega arith)
      go (Err k) f g = absurd (let y : ◌≡◌ {A = ℕ} 0 1 = cc in omega arith)

  pub took_req : {q : ReqParts} → r ≡ Ok (takes.Req q) → read_of m ≡ Ok (message.Req q)
  unfolding taken
  took_req {q} e = go (read_of m) (sym a ∙ e)
    where
      go : (x : Result Message Refusal) → taken_as (answer b (as_message m)) x ≡ Ok (takes.Req q) → x ≡ Ok (message.Req q)
      go (Ok (message.Event p)) g = absurd (let y : ◌≡◌ {A = ℕ} 0 1 = cc in omega arith)
      go (Ok (message.Req p)) g = let y : p ≡ q = cc in ap (λ z. Ok (message.Req z)) y
      go (Ok (message.Close s)) g = absurd (let y : ◌≡◌ {A = ℕ} 0 1 = cc in omega arith)
      go (Err k) g = absurd (let y : ◌≡◌ {A = ℕ} 0 1 = cc in omega arith)

  pub took_close : {q : Span} → r ≡ Ok (takes.Close q) → read_of m ≡ Ok (message.Close q)
  unfolding taken
  took_close {q} e = go (read_of m) (sym a ∙ e)
    where
      go : (x : Result Message Refusal) → taken_as (answer b (as_message m)) x ≡ Ok (takes.Close q) → x ≡ Ok (message.Close q)
      go (Ok (message.Event p)) g = absurd (let y : ◌≡◌ {A = ℕ} 0 1 = cc in omega arith)
      go (Ok (message.Req p)) g = absurd (let y : ◌≡◌ {A = ℕ} 0 1 = cc in omega arith)
      go (Ok (message.Close s)) g = let y : s ≡ q = cc in ap (λ z. Ok (message.Close z)) y
      go (Err k) g = absurd (let y : ◌≡◌ {A = ℕ} 0 1 = cc in omega arith)

  pub took_refused : {k : Refusal} → r ≡ Err k → read_of m ≡ Err k
  unfolding taken
  took_refused {k} e = go (read_of m) (sym a ∙ e)
    where
      go : (x : Result Message Refusal) → taken_as (answer b (as_message m)) x ≡ Err k → x ≡ Err k
      go (Ok (message.Event p)) g = absurd (let y : ◌≡◌ {A = ℕ} 0 1 = cc in omega arith)
      go (Ok (message.Req p)) g = absurd (let y : ◌≡◌ {A = ℕ} 0 1 = cc in omega arith)
      go (Ok (message.Close s)) g = absurd (let y : ◌≡◌ {A = ℕ} 0 1 = cc in omega arith)
      go (Err i) g = let y : i ≡ k = cc in ap Err y

-- the table afterwards
module _ (b m : List ℕ) where
  pub table_event : {p : EventParts} → read_of m ≡ Ok (message.Event p) → taken_table b m ≡ next b (as_message m)
  unfolding taken_table
  table_event e = ap (table_as b (next b (as_message m))) e

  pub table_req : {q : ReqParts} → read_of m ≡ Ok (message.Req q) → taken_table b m ≡ b
  unfolding taken_table
  table_req e = ap (table_as b (next b (as_message m))) e

  pub table_close : {s : Span} → read_of m ≡ Ok (message.Close s) → taken_table b m ≡ b
  unfolding taken_table
  table_close e = ap (table_as b (next b (as_message m))) e

  pub table_refused : {k : Refusal} → read_of m ≡ Err k → taken_table b m ≡ b
  unfolding taken_table
  table_refused e = ap (table_as b (next b (as_message m))) e
