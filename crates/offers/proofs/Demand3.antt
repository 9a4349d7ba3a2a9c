-- Demand 3 of calls: a session of calls is a run of the table's relay, so table/proofs/Demand3 speaks of it.
use Rattle.std.specs.Prelude.{Result, Ok, Err}
use mathlib.Core.Path.{◌≡◌, refl, sym, ap, ap₂, ◌∙◌}
use mathlib.Core.Bool.{Bool, true, false, not, cond, ◌||◌, false≢true}
use mathlib.Core.Logic.{◌≢◌}
use mathlib.Core.List.{List, [], ◌∷◌, ◌++◌, map-append, nil≢cons, head-eq_of_cons-eq, tail-eq_of_cons-eq}
use Prim.Native.Nat.{ℕ}
use native.Mathlib.Omega.{arith}
use lib.Dec.{T, eqb}
use Rattle.law.specs.Table.{is_no_room, no_room, refused, is_stored as isStoredVerdict}
use Rattle.law.specs.Demand3.{run_on, answers_on, lacks_on}
use Rattle.table.specs.Layout.{capacity_of, count_of}
use Rattle.table.specs.Events.{Signature, table_events, view}
use Rattle.table.specs.Offer.{Offering, judge, answer, offer_number, is_stored}
use Rattle.table.specs.Demand3.{relay, verdict_of}
use Rattle.shape.specs.declared.Refusal.{Refusal}
use Rattle.table.specs.declared.Offered.{Offered}
use Rattle.table.specs.declared.Offered.TheVariants.{Ephemeral, Duplicate, Older, Stored}
use Rattle.table.proofs.Demand3.{demand_3}
use Rattle.table.proofs.Formatted.{formatted_capacity}
use Rattle.table.proofs.Stored.{length_view}
use Rattle.table.proofs.Valid.{valid_hashed}
use Rattle.table.proofs.WrongRelays.{stores_something, takes_something, stores_later, counts, answers_differ, two_ids}
use Rattle.offers.specs.Demand3.{Call, InTurn, left, Session, at_end, offers_of, lacks_room}
use Rattle.offers.specs.Demand3.{is_fresh, relay_of, HeldAtEnd, HeldAfterEach, AnyOrder, RoomRunsOut}
use Rattle.offers.specs.Demand3.{RelaysEndAlike, SignatureBrought, SignatureStays, Demand3OfCalls, Keeps}
use Rattle.offers.specs.Demand3.{NoneOfThese}

-- ---- calls in turn are a run
run : (b : List ℕ) (cs : List Call) → InTurn b cs → left b cs ≡ run_on table_events Signature relay b (offers_of cs)
unfolding run_on
run b [] t = refl
run b (c ∷ cs) t = run c.exit cs t.1 ∙ ap (λ x. run_on table_events Signature relay x (offers_of cs)) t.0.leaves

-- row 12 is the verdict that lacks room
twelve : (a : Result Offered Refusal) → eqb (offer_number a) 12 ≡ is_no_room (verdict_of a)
twelve (Ok Ephemeral) = refl
twelve (Ok Duplicate) = refl
twelve (Ok Older) = refl
twelve (Ok Stored) = refl
twelve (Err r) = go (eqb r.row 12)
  where
    go : (t : Bool) → t ≡ is_no_room (cond t no_room refused)
    go true = refl
    go false = refl

lacks : (b : List ℕ) (cs : List Call) → InTurn b cs → lacks_room cs ≡ lacks_on table_events Signature relay b (offers_of cs)
unfolding answers_on
lacks b [] t = refl
lacks b (c ∷ cs) t =
    ap₂ ◌||◌ (twelve c.answer ∙ ap (λ a. is_no_room (verdict_of a)) t.0.answers)
    (lacks c.exit cs t.1 ∙ ap (λ x. lacks_on table_events Signature relay x (offers_of cs)) t.0.leaves)

-- ---- tests
holds : (x : Bool) → x ≡ true → T x
holds true e = tt
holds false e = absurd (false≢true e)

held_true : (x : Bool) → T x → x ≡ true
held_true true t = refl
held_true false t = absurd t

none : {x y : Bool} → x ≡ y → x ≡ false → T (not y)
none {x} {y} q e = holds (not y) (ap not (sym q ∙ e))

no_more : (y : Bool) → T (not y) → y ≡ false
no_more true t = absurd t
no_more false t = refl

-- ---- a session
module _ {cs : List Call} (s : Session cs) where
  ends : at_end s ≡ run_on table_events Signature relay s.table (offers_of cs)
  ends = run s.table cs s.calls

  room : lacks_room cs ≡ lacks_on table_events Signature relay s.table (offers_of cs)
  room = lacks s.table cs s.calls

  size : capacity_of s.table ≡ s.capacity
  size = ap capacity_of s.leaves ∙ formatted_capacity s.capacity s.buffer (sym s.answers ∙ s.passes)

at_end_lem : HeldAtEnd
at_end_lem cs s ids fits = rw (ends s) (demand_3.held_set s.table (offers_of cs) (is_fresh s) ids (none (room s) fits))

-- the calls of a beginning
beginning : (b : List ℕ) (cs ds : List Call) → InTurn b (cs ++ ds) → InTurn b cs
beginning b [] ds t = tt
beginning b (c ∷ cs) ds t = (t.0, beginning c.exit cs ds t.1)

split : (cs ds : List Call) → offers_of (cs ++ ds) ≡ offers_of cs ++ offers_of ds
split cs ds = map-append (λ (c : Call). c.offer) cs ds

after_each : HeldAfterEach
after_each cs ds s ids fits =
    let q = split cs ds in
    rw (run s.table cs (beginning s.table cs ds s.calls))
    (demand_3.beginnings s.table (offers_of cs) (offers_of ds) (is_fresh s) (rw q at ids) (none (room s ∙ ap (lacks_on table_events Signature relay s.table) q) fits))

any_order : AnyOrder
any_order cs ds s t ids fits same le =
    let (n, h, l) = demand_3.order_free s.table t.table (offers_of cs) (offers_of ds) (is_fresh s) (is_fresh t) ids (none (room s) fits) same (omega (arith, size s, size t)) in (
      room t ∙ no_more _ n,
      rw (ends s, ends t) h,
      ap count_of (ends t) ∙ sym (length_view (run_on table_events Signature relay t.table (offers_of ds))) ∙ l
          ∙ length_view (run_on table_events Signature relay s.table (offers_of cs)) ∙ sym (ap count_of (ends s)),
    )

runs_out : RoomRunsOut
runs_out cs s ids =
    let (f, g) = demand_3.room_law s.table (offers_of cs) (is_fresh s) ids in
    (λ e. rw (size s) at (f (holds _ (sym (room s) ∙ e))), λ h. room s ∙ held_true _ (g (rw (sym (size s)) at h)))

-- ---- two relays
thrice : (hs es ls : List Call) → offers_of (hs ++ (es ++ ls)) ≡ offers_of hs ++ (offers_of es ++ offers_of ls)
thrice hs es ls = split hs (es ++ ls) ∙ ap (offers_of hs ++◌) (split es ls)

end_alike : RelaysEndAlike
end_alike hs es ls ks fs ms s t x ids r u =
    let p = thrice hs es ls in
    let q = thrice ks fs ms in
    let e = ends s ∙ ap (run_on table_events Signature relay s.table) p in
    let f = ends t ∙ ap (run_on table_events Signature relay t.table) q in
    rw (e, f)
    (demand_3.relays_agree (relay_of hs es ls s) (relay_of ks fs ms t) x ids (none (room s ∙ ap (lacks_on table_events Signature relay s.table) p) r)
    (none (room t ∙ ap (lacks_on table_events Signature relay t.table) q) u))

-- ---- signatures
-- a part of the offers is a part of the calls
pub record Parted (cs : List Call) (bs : List Offering) (o : Offering) : Type 0 where
  pub before : List Call
  pub call : Call
  pub later : List Call
  pub splits : cs ≡ before ++ (call ∷ later)
  pub offers : offers_of before ≡ bs
  pub offer : call.offer ≡ o

parted : (cs : List Call) (bs : List Offering) (o : Offering) (ls : List Offering) → offers_of cs ≡ bs ++ (o ∷ ls) → Parted cs bs o
parted [] [] o ls q = absurd (nil≢cons q)
parted [] (b ∷ bs) o ls q = absurd (nil≢cons q)
parted (c ∷ cs) [] o ls q = record { before = []; call = c; later = cs; splits = refl; offers = refl; offer = head-eq_of_cons-eq q }
parted (c ∷ cs) (b ∷ bs) o ls q =
    let r = parted cs bs o ls (tail-eq_of_cons-eq q) in
    record {
      before = c ∷ r.before;
      call = r.call;
      later = r.later;
      splits = ap (c ∷◌) r.splits;
      offers = ap₂ ◌∷◌ (head-eq_of_cons-eq q) r.offers;
      offer = r.offer;
    }

-- what a call promises that stands behind others
behind : (b : List ℕ) (cs : List Call) (c : Call) (ds : List Call) → InTurn b (cs ++ (c ∷ ds)) → c.answer ≡ answer (left b cs) c.offer
behind b [] c ds t = t.0.answers
behind b (d ∷ cs) c ds t = behind d.exit cs c ds t.1

was_stored : (a : Result Offered Refusal) → isStoredVerdict (verdict_of a) ≡ true → a ≡ Ok Stored
was_stored (Ok Ephemeral) e = absurd (false≢true e)
was_stored (Ok Duplicate) e = absurd (false≢true e)
was_stored (Ok Older) e = absurd (false≢true e)
was_stored (Ok Stored) e = refl
was_stored (Err r) e = absurd (go (eqb r.row 12) e)
  where
    go : (t : Bool) → isStoredVerdict (cond t no_room refused) ≡ true → ⊥
    go true q = false≢true q
    go false q = false≢true q

brought : SignatureBrought
brought cs s x h =
    let w = demand_3.signature_stored s.table (offers_of cs) x (is_fresh s) (rw (ends s) at h) in
    let r = parted cs w.before w.offer w.later w.splits in
    let t = rw r.splits at s.calls in
    let l : left s.table r.before ≡ run_on table_events Signature relay s.table w.before =
    run s.table r.before (beginning s.table r.before (r.call ∷ r.later) t)
    ∙ ap (run_on table_events Signature relay s.table) r.offers in
    let a : r.call.answer ≡ answer (run_on table_events Signature relay s.table w.before) w.offer =
    behind s.table r.before r.call r.later t ∙ ap₂ answer l r.offer in
    record {
      before = r.before;
      call = r.call;
      later = r.later;
      splits = r.splits;
      brings = ap judge r.offer ∙ w.brings;
      says = was_stored r.call.answer (ap (λ v. isStoredVerdict (verdict_of v)) a ∙ ap isStoredVerdict w.says);
    }

stays : SignatureStays
stays cs ds s e first last h k =
    demand_3.signature_stays s.table (offers_of cs) (offers_of ds) e first last (is_fresh s)
    (rw (run s.table cs (beginning s.table cs ds s.calls)) at h)
    (rw (ends s ∙ ap (run_on table_events Signature relay s.table) (split cs ds)) at k)

pub demand_3_of_calls : Demand3OfCalls
demand_3_of_calls = record {
  held_at_end = at_end_lem;
  held_after_each = after_each;
  any_order = any_order;
  relays_end_alike = end_alike;
  room_runs_out = runs_out;
  signature_brought = brought;
  signature_stays = stays;
}

-- ---- the wrong relays
not_stored : (a : Result Offered Refusal) → offer_number a ≢ 0 → is_stored a ≡ false
not_stored (Ok Ephemeral) n = refl
not_stored (Ok Duplicate) n = refl
not_stored (Ok Older) n = refl
not_stored (Ok Stored) n = absurd (n refl)
not_stored (Err r) n = refl

pub none_of_these : (says : List ℕ → Offering → Result Offered Refusal) (exit : List ℕ → Offering → List ℕ) → Keeps says exit → NoneOfThese says exit
none_of_these says exit k = record {
  takes = λ r. takes_something (λ b o. not_stored (answer b o) (λ z. r b o (ap offer_number (k.answers b o) ∙ z)));
  stores = λ i. stores_something (λ b o. ap view (sym (k.leaves b o)) ∙ i b o);
  verdicts = λ e. answers_differ (λ b c o p. sym (k.answers b o) ∙ e b c o p ∙ k.answers c p);
  own_id = valid_hashed;
  ids = two_ids;
  later = λ i. stores_later (λ b o n. ap view (sym (k.leaves b o)) ∙ i b o n);
  count = λ b o. sym (length_view (exit b o));
  counts = λ i. counts (λ b o. ap count_of (sym (k.leaves b o)) ∙ i b o);
}
