-- A message fed piece by piece has the state, and the digest, of the whole. Assumes nothing.
use Rattle.std.specs.Prelude.{◌≡◌, ℕ, ◌+◌, ◌<◌, ◌≤◌, Bool, true, false, List, [], ◌∷◌, ◌++◌, length, replicate, nat_le, refl}
use Rattle.std.proofs.Common.{◌∙◌, append_assoc, append-nil, arith, le-leb, length-append}
use Rattle.std.proofs.Math.Decide.{dec_le}
use Rattle.std.proofs.lemmas.Bool.{lt-leb}
use Rattle.digest.specs.declared.Answer.{Answer}
use Rattle.digest.specs.declared.Answer.TheVariants.{Done, TooLong}
use Rattle.digest.specs.declared.Sha256.{Sha256}
use Rattle.digest.specs.declared.Updated.{Updated}
use Rattle.digest.specs.declared.Finished.{Finished}
use Rattle.digest.specs.declared.Digest.{Digest}
use Rattle.digest.specs.Block.{H0}
use Rattle.digest.specs.Digest.{padding, padded, hashed, rest, digest_bytes, digest}
use Rattle.digest.specs.State.{answer_number, most, pick, count_row, waiting, state_after, state_of, updated}
use Rattle.digest.specs.State.{finished, digested}
use Rattle.digest.specs.Parts.{waits, hashed_more, state_more}

-- what the calls answer within the limit, for any state
pub update_done : (s : Sha256) (d : List ℕ) → s.total + length d ≤ most
    → updated s d ≡ record { answer = Done; state = state_after s.words (waiting s ++ d) (s.total + length d) }
unfolding updated
update_done s d h = rw (le-leb (s.total + length d) most h)

pub finish_done : (s : Sha256) → s.total ≤ most
    → finished s ≡ record {
      answer = Done;
      state = s;
      bytes =
          digest_bytes (hashed s.words (waiting s ++ padding s.total)) 32;
    }
unfolding finished
finish_done s h = rw (le-leb s.total most h)

pub digest_done : (l : List ℕ) → length l ≤ most → digested l ≡ record { answer = Done; bytes = digest l }
unfolding digested
digest_done l h = rw (le-leb (length l) most h)

-- and over it: the state is the one given
pub update_refused : (s : Sha256) (d : List ℕ) → most < s.total + length d →
    updated s d ≡ record { answer = TooLong; state = s }
unfolding updated
update_refused s d h = rw (lt-leb (s.total + length d) most h)

pub finish_refused : (s : Sha256) → most < s.total →
    finished s ≡ record { answer = TooLong; state = s; bytes = replicate 32 0 }
unfolding finished
finish_refused s h = rw (lt-leb s.total most h)

pub digest_refused : (l : List ℕ) → most < length l → digested l ≡ record { answer = TooLong; bytes = replicate 32 0 }
unfolding digested
digest_refused l h = rw (lt-leb (length l) most h)

-- the state of l fed: a piece d more, and the digest
still : (l : List ℕ) → waiting (state_of l) ≡ rest l
unfolding waiting state_after
still l = waits l

pub update_stands : (l d : List ℕ) → length l + length d ≤ most →
    updated (state_of l) d ≡ record { answer = Done; state = state_of (l ++ d) }
unfolding state_after
update_stands l d h =
    update_done (state_of l) d h ∙ rw (still l, state_more H0 l d (length l + length d), length-append l d)

pub finish_stands : (l : List ℕ) → length l ≤ most →
    finished (state_of l) ≡ record { answer = Done; state = state_of l; bytes = digest l }
unfolding state_after digest padded
finish_stands l h = finish_done (state_of l) h ∙ rw (still l, hashed_more H0 l (padding (length l)))

-- the number of 01: 8 over the most bytes, else 0
pub update_number : (s : Sha256) (d : List ℕ) → answer_number (updated s d).answer ≡ count_row (s.total + length d)
unfolding updated
update_number s d = go (nat_le (s.total + length d) most)
  where
    go : (t : Bool) →
        answer_number (pick {A = Updated} t
        (record { answer = Done; state = state_after s.words (waiting s ++ d) (s.total + length d) })
        (record { answer = TooLong; state = s })).answer
        ≡ pick t 0 8
    go true = refl
    go false = refl

pub finish_number : (s : Sha256) → answer_number (finished s).answer ≡ count_row s.total
unfolding finished
finish_number s = go (nat_le s.total most)
  where
    go : (t : Bool) →
        answer_number
        (pick {A = Finished} t (record {
          answer = Done;
          state = s;
          bytes =
              digest_bytes (hashed s.words (waiting s ++ padding s.total)) 32;
        })
        (record { answer = TooLong; state = s; bytes = replicate 32 0 })).answer
        ≡ pick t 0 8
    go true = refl
    go false = refl

pub digest_number : (l : List ℕ) → answer_number (digested l).answer ≡ count_row (length l)
unfolding digested
digest_number l = go (nat_le (length l) most)
  where
    go : (t : Bool) → answer_number (pick {A = Digest} t (record { answer = Done; bytes = digest l })
        (record { answer = TooLong; bytes = replicate 32 0 })).answer ≡ pick t 0 8
    go true = refl
    go false = refl

-- the pieces joined, and fed one after the other up to the first that is refused
unfoldable pub joined : List (List ℕ) → List ℕ
joined [] = []
joined (d ∷ ds) = d ++ joined ds

abbrev pub on_done : (u : Updated) (x : Answer) (v : Updated) → Updated
on_done u Done v = v
on_done u TooLong v = u

unfoldable pub fed_all : Sha256 → List (List ℕ) → Updated
fed_all s [] = record { answer = Done; state = s }
fed_all s (d ∷ ds) = on_done (updated s d) (updated s d).answer (fed_all (updated s d).state ds)

fed_stands : (l : List ℕ) (ds : List (List ℕ)) → length l + length (joined ds) ≤ most
    → fed_all (state_of l) ds ≡ record { answer = Done; state = state_of (l ++ joined ds) }
unfolding joined fed_all
fed_stands l [] h = rw append-nil
fed_stands l (d ∷ ds) h =
    let e = length-append d (joined ds) in
    rw (update_stands l d (omega arith), ← append_assoc) (fed_stands (l ++ d) ds (simp length-append (omega arith)))

abbrev Refused : List ℕ → List (List ℕ) → Type 0
Refused l ds = length l ≤ most → most < length l + length (joined ds) → (fed_all (state_of l) ds).answer ≡ TooLong

one_refused : (l d : List ℕ) (ds : List (List ℕ)) → Refused (l ++ d) ds → Dec (length l + length d ≤ most) →
    Refused l (d ∷ ds)
unfolding joined fed_all state_after
one_refused l d ds f (yes e) h k =
    let n = length-append d (joined ds) in
    rw (update_stands l d e) (f (simp length-append e) (simp length-append (omega arith)))
one_refused l d ds f (no e) h k = rw (update_refused (state_of l) d (omega arith))

fed_refused : (l : List ℕ) (ds : List (List ℕ)) → Refused l ds
unfolding joined
fed_refused l [] = λ h k. absurd (omega arith)
fed_refused l (d ∷ ds) = one_refused l d ds (fed_refused (l ++ d) ds) (dec_le (length l + length d) most)

-- any pieces within the limit: the state of the whole, and its digest
pub pieces : (ds : List (List ℕ)) → length (joined ds) ≤ most
    → fed_all (state_of []) ds ≡ record { answer = Done; state = state_of (joined ds) }
pieces ds h = fed_stands [] ds (omega arith)

pub pieces_digest : (ds : List (List ℕ)) → length (joined ds) ≤ most
    → finished (fed_all (state_of []) ds).state ≡ record
    { answer = Done; state = state_of (joined ds); bytes = digest (joined ds) }
pieces_digest ds h = rw (pieces ds h) (finish_stands (joined ds) h)

pub pieces_whole : (ds : List (List ℕ)) → length (joined ds) ≤ most
    → (finished (fed_all (state_of []) ds).state).bytes ≡ (digested (joined ds)).bytes
pieces_whole ds h = rw (pieces_digest ds h, digest_done (joined ds) h)

-- and pieces over it are refused
pub pieces_refused : (ds : List (List ℕ)) → most < length (joined ds) → (fed_all (state_of []) ds).answer ≡ TooLong
pieces_refused ds h = fed_refused [] ds (omega arith) (omega arith)
