-- What the rows that one call writes are to another, and what pieces come to.
use Rattle.std.specs.Prelude.{◌≡◌, cond, List, [], ◌∷◌, ◌++◌, ℕ, ◌≤◌, ltb, length, drop, Ok}
use Rattle.digest.specs.Digest.{digest}
use Rattle.digest.specs.State.{most}
use Rattle.digest.specs.Bytes.{update_out}
use Rattle.digest.specs.Claims.{joined}
use Rattle.message.specs.Read.{read_of}
use Rattle.message.specs.declared.EventParts.{EventParts}
use Rattle.message.specs.declared.ReqParts.{ReqParts}
use Rattle.message.specs.declared.Message.TheVariants.{Event, Req}
use Rattle.numbers.specs.Parts.{event_from, filters_from, filter_count}
use Rattle.table.specs.Sound.{sound}
use Rattle.query.specs.Answer.{filters_meant, answer_list, answer_to, listing_row}
use Rattle.capi.specs.Calls.{read_row, read_out}
use Rattle.capi.specs.Digest.{start_out, end_out}

-- ---- a message is read into the row `out`, and the row handed on unchanged
-- an EVENT: serialising, identifying, offering and matching take the parts that were read
abbrev pub ReadOffered : Type 0
ReadOffered = (s out : List ℕ) (p : EventParts) → read_of s ≡ Ok (Event p) → read_row s out ≡ 0 → event_from (read_out s out) ≡ p

-- a REQ: what is listed is the message's own answer, and no row but 11 and 13 refuses it
pub record Answered (t s : List ℕ) (r : ReqParts) (l row : List ℕ) : Type 0 where
  pub slots : answer_to t s (filters_from l) (filter_count l) ≡ answer_list t (filters_meant s r.filters)
  pub number : listing_row t s (filters_from l) (filter_count l) row
      ≡ cond (sound t) (cond (ltb (length row) (length (answer_list t (filters_meant s r.filters)))) 13 0) 11

abbrev pub ReadListed : Type 0
ReadListed =
    (t s out row : List ℕ) (r : ReqParts) → read_of s ≡ Ok (Req r) → read_row s out ≡ 0 → Answered t s r (read_out s out) row

-- ---- 01: "A digest can be fed piece by piece and finished, and equals the digest of the whole", with the state lent
-- as bytes
unfoldable pub fed_all : List ℕ → List (List ℕ) → List ℕ
fed_all st [] = st
fed_all st (d ∷ ds) = fed_all (update_out st d) ds

abbrev pub PiecesWhole : Type 0
PiecesWhole = (st out : List ℕ) (ds : List (List ℕ)) → 104 ≤ length st → 32 ≤ length out → length (joined ds) ≤ most →
    end_out (fed_all (start_out st) ds) out ≡ digest (joined ds) ++ drop 32 out
