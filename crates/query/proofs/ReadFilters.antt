-- The filters that were read from an accepted REQ: they are all the elements of its array after the subscription id,
-- and lent as parts they pass the test of lent filters (message/proofs/Passes has each filter and their number).
use Rattle.std.specs.Prelude.{Ok}
use mathlib.Core.Path.{◌≡◌, refl, sym, ap, ap₂, ◌∙◌}
use mathlib.Core.Bool.{Bool, true, false, cond, false≢true}
use mathlib.Core.List.Memᴰ
use mathlib.Core.List.{List, ◌∷◌, map}
use Prim.Native.Nat.{ℕ, suc, ◌≤◌, ◌<◌}
use native.Mathlib.Omega.{arith}
use lib.ListN.{length, take, length-take, length-map}
use Rattle.json_tree.specs.Grammar.{ws_at}
use Rattle.json_tree.specs.Tree.{Json, word, num, str, arr, obj, Items, nil, item, got, tree_at, root}
use Rattle.rows.specs.Rows.{row1, row2, row3}
use Rattle.shape.specs.Shape.{Word, event, req, close, other, opened, count_items, count}
use Rattle.shape.specs.Rows.{row4, row5, row6, row7, row8, tree_row, root_row, message_row, wrong_request}
use Rattle.shape.specs.Rows.{wrong_subscription}
use Rattle.message.specs.declared.FilterParts.{FilterParts}
use Rattle.message.specs.declared.Element.TheVariants.{At}
use Rattle.message.specs.declared.ReqParts.{ReqParts}
use Rattle.message.specs.declared.Message.TheVariants as message
use Rattle.message.specs.Parts as parts
use Rattle.message.specs.Parts.{members_got, members_at, filter_at}
use Rattle.message.specs.Lent.{filter_row}
use Rattle.message.specs.Lists.{open_within, elements_from, places_of}
use Rattle.message.specs.Read.{message_parts, in_root, read_of, read_number}
use Rattle.message.proofs.Walks.{Walk, more, deeper}
use Rattle.message.proofs.Elements.{Group, filled, group_of, walk_first, walk_places, Listing, end, one, array_listing}
use Rattle.message.proofs.Reading.{row_read}
use Rattle.message.proofs.Passes as passes
use Rattle.law.specs.Lists.{◌∈◌}
use Rattle.query.specs.Filter.{filter_of}
use Rattle.query.specs.Answer.{answer_list, filter_places, filter_parts_at, filters_meant, meant, listing_row}
use Rattle.query.specs.Claims.{filters_of_items, AllFilters, TextFilters, ReadPasses, ReadListing}
use Rattle.wire.proofs.Cases.{no_left, no_right}
use Rattle.query.proofs.Lent.{filters_pass}

-- ---- the elements of an array from its third on are the items there
module _ {s : List ℕ} {n : ℕ} where
  first_places : {f i q w : ℕ} {u : Json} {us : Items} → f ≤ length s → Walk (tree_at s open_within) s false f i (item q w u us) n
      → elements_from s (At w) ≡ places_of (item q w u us)
  unfolding elements_from
  first_places {i = i} {w = w} l r =
      let z = walk_first r in
      let e : i ≡ w = cc in
      rw e at (walk_places (length s) l r)

  second_places : {f i p v q w : ℕ} {t u : Json} {us : Items} → f ≤ length s → Walk (tree_at s open_within) s false f i (item p v t (item q w u us)) n
      → elements_from s (At w) ≡ places_of (item q w u us)
  second_places l (more h w q r) = first_places (omega arith) r

  third_walk : {f i p v q w k x : ℕ} {t u y : Json} {us : Items} → f ≤ length s → Walk (tree_at s open_within) s false f i (item p v t (item q w u (item k x y us))) n
      → elements_from s (At x) ≡ places_of (item k x y us)
  third_walk l (more h w q r) = second_places (omega arith) r

  third_places : {at p v q w k x : ℕ} {t u y : Json} {us : Items} → Group s at false (item p v t (item q w u (item k x y us))) n
      → elements_from s (At x) ≡ places_of (item k x y us)
  third_places (filled h w) = third_walk (omega arith) w

-- an element's parts, found at its place, are those of its object in the tree
listing_filters : (s : List ℕ) {ts : Items} → Listing s ts → map (filter_of s) (map (filter_at s) (places_of ts)) ≡ filters_of_items s ts
unfolding filters_of_items filter_at members_at
listing_filters s end = refl
listing_filters s (one {v = v} {m = m} {t = t} e q l) =
    ap₂ ◌∷◌ (ap (λ g. filter_of s (parts.filter_parts_of s v (members_got g))) (deeper s open_within v t m e)) (listing_filters s l)

rest_listing : {s : List ℕ} {p v q w : ℕ} {t u : Json} {ts : Items} → Listing s (item p v t (item q w u ts)) → Listing s ts
rest_listing (one e f (one g h l)) = l

filters_count : (s : List ℕ) (ts : Items) → length (filters_of_items s ts) ≡ count ts
unfolding filters_of_items count_items
filters_count s nil = refl
filters_count s (item p v t ts) = ap suc (filters_count s ts)

-- ---- the message
zero_row : (b : Bool) (k x : ℕ) → 0 < k → cond b k x ≡ 0 → (b ≡ false) × (x ≡ 0)
zero_row true k x h e = absurd (omega arith)
zero_row false k x h e = (refl, e)

-- row 8 does not hold of an accepted message
counts_pass : (s : List ℕ) (t : Json) (n : ℕ) → root s ≡ got t n → message_row s ≡ 0 → row8 s t ≡ false
unfolding message_row tree_row
counts_pass s t n r e =
    let (z₁, e₁) = zero_row (row1 s) 1 _ (omega arith) e in
    let (z₂, e₂) = zero_row (row2 s) 2 _ (omega arith) e₁ in
    let (z₃, e₃) = zero_row (row3 s) 3 _ (omega arith) e₂ in
    let q : root_row s (got t n) ≡ 0 = sym (ap (root_row s) r) ∙ e₃ in
    let (z₄, q₄) = zero_row (row4 s t) 4 _ (omega arith) q in
    let (z₅, q₅) = zero_row (row5 s t) 5 _ (omega arith) q₄ in
    let (z₆, q₆) = zero_row (row6 s t) 6 _ (omega arith) q₅ in
    let (z₇, q₇) = zero_row (row7 s t) 7 _ (omega arith) q₆ in
    (zero_row (row8 s t) 8 _ (omega arith) q₇).0

opened_rest : (s : List ℕ) (p v : ℕ) (t : Json) (ts : Items) → (opened s (arr (item p v t ts))).rest ≡ ts
opened_rest s p v (word a n) ts = refl
opened_rest s p v (num a n) ts = refl
opened_rest s p v (str a n) ts = refl
opened_rest s p v (arr us) ts = refl
opened_rest s p v (obj us) ts = refl

module _ (s : List ℕ) (r : ReqParts) where
  -- a REQ has a third element, and it is the first filter
  on_word : (x : Word) {at p v q w n : ℕ} {t u : Json} (us : Items) → Group s at false (item p v t (item q w u us)) n → message_parts s x (item q w u us) ≡ Ok (message.Req r)
      → wrong_request s x (item q w u us) ≡ false → filter_places s r.filters ≡ places_of us
  unfolding count_items
  on_word req {u = u} nil g e c = absurd (false≢true (sym (no_right (wrong_subscription s u) true c)))
  on_word req (item k x y us) g e c = let z : r.filters ≡ x = cc in rw z (third_places g)
  on_word event us g e c = absurd (let z : ◌≡◌ {A = ℕ} 0 1 = cc in omega arith)
  on_word close us g e c = absurd (let z : ◌≡◌ {A = ℕ} 0 1 = cc in omega arith)
  on_word other us g e c = absurd (let z : ◌≡◌ {A = ℕ} 0 1 = cc in omega arith)

  module _ (e : read_of s ≡ Ok (message.Req r)) {p v q w n : ℕ} {t u : Json} {ts : Items} (tree : root s ≡ got (arr (item p v t (item q w u ts))) n) where
    row_0 : message_row s ≡ 0
    row_0 = sym (row_read s) ∙ ap read_number e

    group : Group s (ws_at s 0) false (item p v t (item q w u ts)) n
    group = group_of s (ws_at s 0) false (item p v t (item q w u ts)) n tree

    all_places : filter_places s r.filters ≡ places_of ts
    unfolding read_of row8
    all_places =
        let rest = opened_rest s p v t (item q w u ts) in
        let is : in_root s (root s) ≡ Ok (message.Req r) = rw row_0 at e in
        let x = (opened s (arr (item p v t (item q w u ts)))).first in
        let y = (opened s (arr (item p v t (item q w u ts)))).rest in
        let c : wrong_request s x y ≡ false = no_left (wrong_request s x y) _ (counts_pass s (arr (item p v t (item q w u ts))) n tree row_0) in
        on_word x ts group (rw (tree, rest) at is) (rw rest at c)

    all_meant : filters_meant s r.filters ≡ filters_of_items s ts
    unfolding filters_meant
    all_meant = ap (λ l. map (filter_of s) (map (filter_at s) l)) all_places ∙ listing_filters s (rest_listing (array_listing group).1)

pub all_filters : AllFilters
all_filters m r e p v q w n t u ts tree = let z = all_meant m r e tree in (z, ap length z ∙ filters_count m ts)

-- ---- lent as parts
pub text_filters : TextFilters
unfolding meant filters_meant
text_filters m v fs n e = ap (map (filter_of m)) e

-- n parts are lent
parts_counted : (m : List ℕ) (v : ℕ) (fs : List FilterParts) (n : ℕ) → n ≤ length fs → take n fs ≡ filter_parts_at m v → n ≡ length (filter_places m v)
parts_counted m v fs n l e = omega (arith, length-take n fs, ap length e, length-map (filter_places m v) (filter_at m))

pub read_passes : ReadPasses
read_passes m r e fs n l q =
    let (a, b) = passes.filters_counted m r e in
    let z = parts_counted m r.filters fs n l q in
    (filters_pass m fs n).1 (record { each = each; some = omega arith; few = omega arith })
  where
    each : (p : FilterParts) → p ∈ take n fs → filter_row m p ≡ 0
    each p i = let (v, j, f) = Memᴰ.of_map (filter_at m) (filter_places m r.filters) (rw q at i) in rw (← f) (passes.filters_pass m r e v j)

pub read_listing : ReadListing
unfolding listing_row
read_listing b m r e fs n l q row =
    let z = ap (answer_list b) (text_filters m r.filters fs n q) in
    (z, rw (read_passes m r e fs n l q, text_filters m r.filters fs n q))
