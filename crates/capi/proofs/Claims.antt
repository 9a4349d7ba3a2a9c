-- A row that was read begins with the message's numbers, whatever stands behind them; a state lent as bytes is the
-- state of what was fed.
use Rattle.std.specs.Prelude.{Result}
use mathlib.Core.Path.{◌≡◌, refl, ap, ◌∙◌}
use mathlib.Core.Bool.{Bool, true, false, cond}
use mathlib.Core.List.{List, [], ◌∷◌, ◌++◌, append_assoc, append-nil}
use Prim.Native.Nat.{ℕ, ◌+◌, ◌≤◌}
use native.Mathlib.Omega.{arith}
use borrow.Author.Tests.{le-leb, leb-true}
use lib.Dec.{leb}
use lib.ListN.{length, drop, length-append}
use lib.Seq.{take_at, drop_at}
use Rattle.wire.specs.Put.{put}
use Rattle.wire.proofs.Laws.{put_over}
use Rattle.digest.specs.declared.Sha256.{Sha256}
use Rattle.digest.specs.declared.Updated.{Updated}
use Rattle.digest.specs.declared.Finished.{Finished}
use Rattle.digest.specs.Digest.{rest, digest, digest_bytes}
use Rattle.digest.specs.State.{most, count_row, state_after, state_of, updated, finished}
use Rattle.digest.specs.Parts.{length_first}
use Rattle.digest.specs.Claims.{joined, update_stands, finish_stands}
use Rattle.digest.specs.Bytes.{state_bytes, state_lent, update_row, update_out}
use Rattle.digest.specs.Back.{length_state, fed_back}
use Rattle.message.specs.Read.{read_of, read_number}
use Rattle.shape.specs.declared.Refusal.{Refusal}
use Rattle.message.specs.declared.Message.{Message}
use Rattle.message.proofs.Taken.{filters_taken}
use Rattle.numbers.specs.Numbers.{message_numbers}
use Rattle.numbers.specs.Parts.{filters_from, filter_count}
use Rattle.numbers.specs.Claims.{SameFilters}
use Rattle.numbers.proofs.Rows.{event_back_lem, filters_back}
use Rattle.query.proofs.ReadFilters.{read_listing}
use Rattle.capi.specs.Calls.{lent_row, lent_out, read_row, read_out}
use Rattle.capi.specs.Digest.{start_out, end_out}
use Rattle.capi.specs.Claims.{ReadOffered, ReadListed, fed_all, PiecesWhole}

-- ---- what was written stands at the row's start
written : (l out : List ℕ) → lent_row 0 (length l) out ≡ 0 → lent_out 0 (length l) l out ≡ l ++ drop (length l) out
unfolding lent_row lent_out
written l out e = go (leb (length l) (length out)) refl e
  where
    go : (b : Bool) → leb (length l) (length out) ≡ b → ◌≡◌ {A = ℕ} (cond b 0 13) 0 → cond b (put out 0 l) out ≡ l ++ drop (length l) out
    go true q z = put_over out l (leb-true (length l) (length out) q)
    go false q z = absurd (omega arith)

row_written : (s out : List ℕ) {m : Result Message Refusal} → read_of s ≡ m → read_number m ≡ 0 → read_row s out ≡ 0 → read_out s out ≡ message_numbers s m ++ drop (length (message_numbers s m)) out
row_written s out {m} e z h =
    rw (e, z) (written (message_numbers s m) out (rw (e, z) at h))

pub read_offered : ReadOffered
read_offered s out p e h = rw (row_written s out e refl h) (event_back_lem s p e _)

four_filters : (l : List ℕ) → length (filters_from l) ≡ 4
unfolding filters_from
four_filters l = refl

pub read_listed : ReadListed
read_listed t s out row r e h =
    let f : SameFilters s r (read_out s out) = rw (row_written s out e refl h) (filters_back s r e _) in
    let k = filters_taken s r e in
    let n : filter_count (read_out s out) ≤ length (filters_from (read_out s out)) = rw (f.count, four_filters (read_out s out)) k.few in
    let q = read_listing t s r e (filters_from (read_out s out)) (filter_count (read_out s out)) n (f.parts ∙ k.all) row in
    record { slots = q.0; number = q.1 }

-- ---- a state lent as bytes, with x behind it
module _ (l x : List ℕ) (h : length l ≤ most) where
  abbrev bytes : List ℕ
  bytes = state_bytes (state_of l)

  pub length_bytes : length bytes ≡ 104
  unfolding state_after
  length_bytes = length_state (state_of l) (length_first (rest l) 64)

  long : 104 ≤ length (bytes ++ x)
  long = simp length-append (omega (arith, length_bytes))

  lent_is : state_lent (bytes ++ x) ≡ state_of l
  unfolding state_lent
  lent_is = rw (take_at bytes x 104 length_bytes) (fed_back l (omega arith))

  total_is : (state_lent (bytes ++ x)).total ≡ length l
  unfolding state_after
  total_is = ap (λ (s : Sha256). s.total) lent_is

module _ (l d x : List ℕ) (h : length l + length d ≤ most) where
  before : length l ≤ most
  before = omega arith

  taken : update_row (state_bytes (state_of l) ++ x) d ≡ 0
  unfolding update_row
  taken =
      rw (le-leb 104 (length (state_bytes (state_of l) ++ x)) (long l x before))
      (ap (λ (n : ℕ). count_row (n + length d)) (total_is l x before) ∙ rw (le-leb (length l + length d) most h) refl)

  state_is : (updated (state_lent (state_bytes (state_of l) ++ x)) d).state ≡ state_of (l ++ d)
  state_is = ap (λ (s : Sha256). (updated s d).state) (lent_is l x before) ∙ ap (λ (u : Updated). u.state) (update_stands l d h)

  fed_on : update_out (state_bytes (state_of l) ++ x) d ≡ state_bytes (state_of (l ++ d)) ++ x
  unfolding update_out
  fed_on =
      let b : List ℕ = state_bytes (state_of l) in
      let c : List ℕ = state_bytes (state_of (l ++ d)) in
      rw (taken, state_is) (ap (λ (y : List ℕ). c ++ y) (drop_at b x 104 (length_bytes l x before)))

all_fed : (l x : List ℕ) (ds : List (List ℕ)) → length l + length (joined ds) ≤ most → fed_all (state_bytes (state_of l) ++ x) ds ≡ state_bytes (state_of (l ++ joined ds)) ++ x
unfolding fed_all joined
all_fed l x [] h = rw (append-nil l) refl
all_fed l x (d ∷ ds) h =
    let e = length-append d (joined ds) in
    rw (fed_on l d x (omega arith), ← append_assoc) (all_fed (l ++ d) x ds (simp length-append (omega arith)))

length_digest : (l : List ℕ) → length (digest l) ≡ 32
unfolding digest digest_bytes
length_digest l = refl

lent_digest : (l out : List ℕ) → length l ≤ most → 32 ≤ length out → lent_out (count_row (length l)) 32 (digest l) out ≡ digest l ++ drop 32 out
unfolding lent_out
lent_digest l out h k =
    rw (le-leb (length l) most h, le-leb 32 (length out) k)
    (put_over out (digest l) (omega (arith, length_digest l)) ∙ ap (λ (n : ℕ). digest l ++ drop n out) (length_digest l))

ended : (l x out : List ℕ) → length l ≤ most → 32 ≤ length out → end_out (state_bytes (state_of l) ++ x) out ≡ digest l ++ drop 32 out
unfolding end_out
ended l x out h k =
    let st : List ℕ = state_bytes (state_of l) ++ x in
    rw (le-leb 104 (length st) (long l x h))
    (ap (λ (n : ℕ). lent_out (count_row n) 32 (finished (state_lent st)).bytes out) (total_is l x h)
    ∙ ap (λ (s : Sha256). lent_out (count_row (length l)) 32 (finished s).bytes out) (lent_is l x h)
    ∙ ap (λ (f : Finished). lent_out (count_row (length l)) 32 f.bytes out) (finish_stands l h)
    ∙ lent_digest l out h k)

started : (st : List ℕ) → 104 ≤ length st → start_out st ≡ state_bytes (state_of []) ++ drop 104 st
unfolding lent_out
started st h =
    let n = length_bytes [] [] (omega arith) in
    rw (le-leb 104 (length st) h) (put_over st (state_bytes (state_of [])) (omega (arith, n)) ∙ rw n refl)

pub pieces_whole : PiecesWhole
pieces_whole st out ds h k m = rw (started st h, all_fed [] (drop 104 st) ds (omega arith)) (ended (joined ds) (drop 104 st) out m k)
