-- Laws of the calls on filters: an answer of the call below, with the parts that the numbers give, says what is
-- answered and left.
use Rattle.std.specs.Prelude.{Result, Bool}
use mathlib.Core.Path.{◌≡◌, sym, ap, ◌∙◌}
use mathlib.Core.List.{List}
use Prim.Native.Nat.{ℕ}
use Rattle.message.specs.declared.EventParts.{EventParts}
use Rattle.message.specs.declared.FilterParts.{FilterParts}
use Rattle.numbers.specs.Parts.{event_from, filters_from, filter_count}
use Rattle.query.specs.Answer.{matched, listed, listed_row, listing_number}
use Rattle.capi.specs.Query.{match_of, matched_number, list_of, list_out, count_or}

pub said_match : (b e m l : List ℕ) {p : EventParts} {fs : List FilterParts} {n : ℕ} {x v : Result Bool ℕ} → p ≡ event_from e → fs ≡ filters_from l →
    n ≡ filter_count l → x ≡ matched b p m fs n → x ≡ v → matched_number v ≡ matched_number (match_of b e m l)
said_match b e m l f g h a q = ap matched_number (sym q ∙ (rw (f, g, h) at a))

-- with k in the lent number
pub said_list : (t m l row : List ℕ) {fs : List FilterParts} {n : ℕ} {x v : Result ℕ ℕ} {o : List ℕ} (k : ℕ) → fs ≡ filters_from l → n ≡ filter_count l →
    x ≡ listed t m fs n row → o ≡ listed_row t m fs n row → x ≡ v →
    (listing_number v ≡ listing_number (list_of t m l row)) × ((o ≡ list_out t m l row) × (count_or v k ≡ count_or (list_of t m l row) k))
said_list t m l row {v = v} k f g a b q =
    let z : v ≡ list_of t m l row = sym q ∙ (rw (f, g) at a) in
    (ap listing_number z, (rw (f, g) at b, ap (λ (y : Result ℕ ℕ). count_or y k) z))
