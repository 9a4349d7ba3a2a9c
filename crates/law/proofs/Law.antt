-- Demand 3 on one list of offers.
use mathlib.Core.Path.{◌≡◌, ap, ◌∙◌}
use mathlib.Core.Logic.{◌↔◌, inr}
use mathlib.Core.List.Memᴰ
use mathlib.Core.List.{List, [], ◌++◌}
use Prim.Native.Nat.{ℕ, ◌≤◌, ◌<◌}
use native.Mathlib.Omega.{arith}
use lib.Dec.{T}
use lib.ListN.{length}
use Rattle.law.specs.Table.{Class, ephemeral, regular, keyed, Events, Laws, Table, Offer}
use Rattle.law.specs.Table.{Valid, IdPremise, WinsAs, Wins, SameValid, SameHeld, Settled, slots_needed}
use Rattle.law.proofs.Run.{run, lacks, NoneLacks}
use Rattle.law.proofs.Lists.{once_weaker, same_length}
use Rattle.law.proofs.Held.{place, beats_trans, Right, covers, PutsOf, right, held_wins, wins_held}
use Rattle.law.proofs.Room.{puts_grow, puts_append, lacks_long, fits_run, short_fits, right_count, puts_count}

module _ (E : Events) (L : Laws E) where
  open E use {Event, Key, class_of}

  settled : (os : List (Offer E)) → IdPremise E os → (t : Table E) → Right E L (λ e. Valid E e os) [] t → Settled E t os
  settled os ids t r = record {
    held = λ e. (held_wins E L os ids t r e, wins_held E L os ids t r e);
    once = once_weaker (place E L) t r.once;
  }

  pub settled_same : (t u : Table E) (os : List (Offer E)) → Settled E t os → Settled E u os → SameHeld E t u
  settled_same t u os s r e = (λ m. (r.held e).1 ((s.held e).0 m), λ m. (s.held e).1 ((r.held e).0 m))

  -- equal sets, each event held once, are held in as many slots
  pub settled_length : (t u : Table E) (os : List (Offer E)) → Settled E t os → Settled E u os → length t ≡ length u
  settled_length t u os s r = same_length t u s.once r.once (settled_same t u os s r)

  -- and these are as many as the valid events need
  pub settled_count : (t : Table E) (os : List (Offer E)) → IdPremise E os → Settled E t os → length t ≡ slots_needed E os
  settled_count t os ids s =
      settled_length t (PutsOf E L [] os) os s (settled os ids (PutsOf E L [] os) (right E L os ids)) ∙ puts_count E L os ids

  -- the id premise holds of some of the events too, and so does what wins
  pub ids_among : {os ps : List (Offer E)} → ((e : Event) → Valid E e os → Valid E e ps) → IdPremise E ps → IdPremise E os
  ids_among sub ids e f ve vf q = ids e f (sub e ve) (sub f vf) q

  pub wins_among : {os ps : List (Offer E)} → ((e : Event) → Valid E e os → Valid E e ps)
      → (e : Event) → Valid E e os → Wins E e ps → Wins E e os
  wins_among {os} {ps} sub e v (_, w) = (v, go (class_of e) w)
    where
      go : (c : Class Key) → WinsAs E c e ps → WinsAs E c e os
      go ephemeral w = w
      go regular w = tt
      go (keyed k) w = λ f vf. w f (sub f vf)

  -- a list that leaves the set of another list ps: its valid events are some of those of ps, among them all that win in
  -- ps
  pub record Enough (os ps : List (Offer E)) : Type 0 where
    pub among : (e : Event) → Valid E e os → Valid E e ps
    pub winners : (e : Event) → Wins E e ps → Valid E e os

  pub enough_right : (os ps : List (Offer E)) → IdPremise E ps → Enough os ps → Right E L (λ e. Valid E e ps) [] (PutsOf E L [] os)
  enough_right os ps ids n =
      let r = right E L os (ids_among n.among ids) in
      let all = right E L ps ids in
      record {
        from = λ e m. (n.among e (r.from e m).0, (r.from e m).1);
        best = λ s vs st.
            let (u, m, b) = covers E L all s vs st in
            let (v, k, c) = covers E L r u (n.winners u (held_wins E L ps ids (PutsOf E L [] ps) all u m)) (all.from u m).1 in
            inr (v, k, beats_trans E L v u s c b);
        once = r.once;
      }

  pub enough_count : (os ps : List (Offer E)) → IdPremise E ps → Enough os ps → length (PutsOf E L [] os) ≡ slots_needed E ps
  enough_count os ps ids n = right_count E L ps (PutsOf E L [] os) (enough_right os ps ids n)

  pub enough_itself : (os : List (Offer E)) → Enough os os
  enough_itself os = record { among = λ e v. v; winners = λ e w. w.0 }

  -- ---- the claims

  pub enough_law : (N : ℕ) (os ps : List (Offer E)) → IdPremise E ps → Enough os ps → NoneLacks E N os → Settled E (run E N [] os) ps
  enough_law N os ps ids n fit = rw (fits_run E L N os fit).0 (settled ps ids (PutsOf E L [] os) (enough_right os ps ids n))

  pub held_set : (N : ℕ) (os : List (Offer E)) → IdPremise E os → NoneLacks E N os → Settled E (run E N [] os) os
  held_set N os ids fit = enough_law N os os ids (enough_itself os) fit

  pub beginning_fits : (N : ℕ) (os ps : List (Offer E)) → NoneLacks E N (os ++ ps) → NoneLacks E N os
  beginning_fits N os ps fit =
      let grown = puts_grow E L ps (PutsOf E L [] os) in
      short_fits E L N os (omega (arith, (fits_run E L N (os ++ ps) fit).1, grown, ap length (puts_append E L os ps [])))

  pub beginnings : (N : ℕ) (os ps : List (Offer E)) → IdPremise E (os ++ ps) → NoneLacks E N (os ++ ps) → Settled E (run E N [] os) os
  beginnings N os ps ids fit = held_set N os (ids_among (λ e v. Memᴰ.append_left ps v) ids) (beginning_fits N os ps fit)

  pub order_free : (N M : ℕ) (os ps : List (Offer E)) → IdPremise E os → NoneLacks E N os → SameValid E os ps → N ≤ M
      → NoneLacks E M ps × SameHeld E (run E M [] ps) (run E N [] os) × (length (run E M [] ps) ≡ length (run E N [] os))
  order_free N M os ps ids fit same le =
      let n : Enough ps os = record { among = λ e v. (same e).1 v; winners = λ e w. (same e).0 w.0 } in
      let q = enough_count ps os ids n in
      let r = held_set N os ids fit in
      let fit' : NoneLacks E M ps = short_fits E L M ps (omega (arith, q, puts_count E L os ids, (fits_run E L N os fit).1)) in
      let s = enough_law M ps os ids n fit' in
      (fit', settled_same (run E M [] ps) (run E N [] os) os s r, settled_length (run E M [] ps) (run E N [] os) os s r)

  pub room_law : (N : ℕ) (os : List (Offer E)) → IdPremise E os → T (lacks E N [] os) ↔ (N < slots_needed E os)
  room_law N os ids = rw (puts_count E L os ids) at (lacks_long E L N os)
