-- The filters of a REQ stand behind the place 0, so each of them is read back; so is an EVENT.
use Rattle.std.specs.Prelude.{Option, Some, None, Ok, Err}
use mathlib.Core.Path.{◌≡◌, refl, sym, ap, ap₂, ◌∙◌}
use mathlib.Core.List.{List, [], ◌∷◌, ◌++◌, map, Memᴰ}
use mathlib.Core.Bool.{Bool, true, false, cond, false≢true}
use lib.Dec.{eqb}
use Prim.Native.Nat.{ℕ, zero, suc, ◌≤◌, ◌<◌}
use native.Mathlib.Decide.{dec_lt}
use native.Mathlib.Omega.{arith}
use borrow.Author.Tests.{not-false}
use lib.ListN.{length, take, get_or}
use Rattle.json_tree.specs.Grammar.{case, in_class, close_of, ws_at, one_at, token_at, next_at, start_at, opened_at}
use Rattle.json_tree.specs.Tree.{Json, word, num, str, arr, obj, Items, Got, none, got, end_of, depth, tree_at}
use Rattle.json_tree.specs.Tree.{root}
use Rattle.json_tree.specs.declared.Class.TheVariants.{Space, Byte}
use Rattle.json_tree.specs.declared.Next.TheVariants.{More, Done, Wrong}
use Rattle.json_tree.specs.declared.Start.{Start}
use Rattle.json_tree.specs.declared.Start.TheVariants.{Leaf, Empty, Many}
use Rattle.json_tree.proofs.Ends.{then_end, byte_is}
use Rattle.json_tree.proofs.Bytes.{past_none}
use Rattle.shape.specs.Shape.{Word, event, req, close, other, opened, is_filter, created_at_name, kind_name}
use Rattle.shape.specs.Rows.{message_row}
use Rattle.shape.specs.Offsets.{refusal_of}
use Rattle.message.specs.declared.Element.{Element}
use Rattle.message.specs.declared.Element.TheVariants.{At, Ended, Broken}
use Rattle.message.specs.declared.EventParts.{EventParts}
use Rattle.message.specs.declared.FilterParts.{FilterParts}
use Rattle.message.specs.declared.ReqParts.{ReqParts}
use Rattle.message.specs.declared.Message.TheVariants.{Event, Req}
use Rattle.message.specs.Lists.{more_of, open_within, next_of, up_to, elements_from}
use Rattle.message.specs.Parts.{member_of, members_of, body_of, event_parts_of, filter_at, no_filter, filters_at, filter_parts_of}
use Rattle.message.specs.Lent.{on_value, value_at, value5}
use Rattle.message.specs.Claims.{request_filters}
use Rattle.message.specs.Read.{first_item, message_parts, in_root, read_of, read_number, is_early}
use Rattle.message.proofs.Elements.{Group, hollow, filled, group_of}
use Rattle.message.proofs.Reading.{Shaped, shaped, late_shaped, Begun, begun, begun_of, row_read}
use Rattle.message.proofs.Passes.{filters_pass, filters_counted}
use Rattle.message.proofs.Checked.{conditions_are}
use Rattle.numbers.specs.Numbers.{place_of, flag_of, bits_of, event_numbers, parts_numbers}
use Rattle.numbers.specs.Parts.{listed_from, bound_from, event_from, filter_from, filters_from}
use Rattle.numbers.specs.Claims.{EventBack, FiltersBack}
use Rattle.numbers.proofs.Back.{Kept, token_positive, number_back, filter_kept, none_kept}

-- ---- an element behind a comma does not stand at 0
more_positive : (s : List ℕ) (n j : ℕ) → more_of (next_at s n false) ≡ At j → 0 < j
more_positive s n j e = go (token_at s 0x2C n) refl e
  where
    closes : (o : Option ℕ) → more_of (case o Done Wrong) ≡ At j → 0 < j
    closes (Some m) q = absurd (let z : ◌≡◌ {A = ℕ} 0 1 = cc in omega arith)
    closes None q = absurd (let z : ◌≡◌ {A = ℕ} 0 1 = cc in omega arith)

    go : (o : Option ℕ) → token_at s 0x2C n ≡ o → more_of (case o More (case (token_at s (close_of false) n) Done Wrong)) ≡ At j → 0 < j
    go (Some m) q f = let k : m ≡ j = cc in rw (sym k) (token_positive s 0x2C n m q)
    go None q f = closes (token_at s (close_of false) n) f

next_positive : (s : List ℕ) (v j : ℕ) → next_of s v ≡ At j → 0 < j
unfolding next_of
next_positive s v j e = go (end_of (tree_at s open_within v)) e
  where
    go : (o : Option ℕ) → case o (λ n. more_of (next_at s n false)) Broken ≡ At j → 0 < j
    go (Some n) q = more_positive s n j q
    go None q = absurd (let z : ◌≡◌ {A = ℕ} 0 1 = cc in omega arith)

all_kept : (f : ℕ) (s : List ℕ) (x : Element) → ((v : ℕ) → x ≡ At v → 0 < v) → (i : ℕ) → Kept (get_or (map (filter_at s) (up_to f s x)) i no_filter)
unfolding up_to
all_kept zero s x h i = none_kept
all_kept (suc f) s Ended h i = none_kept
all_kept (suc f) s Broken h i = none_kept
all_kept (suc f) s (At v) h zero = filter_kept s v (h v refl)
all_kept (suc f) s (At v) h (suc i) = all_kept f s (next_of s v) (λ j e. next_positive s v j e) i

-- ---- an object at 0 is the text's root, and no message
abbrev braced : Start → Bool
braced Leaf = false
braced (Empty n b) = b
braced (Many i b) = b

brace_first : (s : List ℕ) (at n : ℕ) → token_at s 0x7B at ≡ Some n → ws_at s at ≡ at
unfolding token_at in_class
brace_first s at n f =
    let (m, g, h) = then_end (one_at s (Byte 0x7B) at) _ f in
    past_none Space s at (rw (byte_is s 0x7B at g) refl)

brace_start : (s : List ℕ) (at : ℕ) → braced (start_at s at) ≡ true → ws_at s at ≡ at
brace_start s at e = go (token_at s 0x5B at) (token_at s 0x7B at) refl e
  where
    opens : (n : ℕ) (o : Option ℕ) → braced (case o (λ m. Empty m false) (Many n false)) ≡ true → ws_at s at ≡ at
    opens n (Some m) q = absurd (false≢true q)
    opens n None q = absurd (false≢true q)

    go : (a b : Option ℕ) → token_at s 0x7B at ≡ b → braced (case a (λ n. opened_at s n false) (case b (λ n. opened_at s n true) Leaf)) ≡ true → ws_at s at ≡ at
    go (Some n) b f q = opens n (token_at s (close_of false) n) q
    go None (Some n) f q = brace_first s at n f
    go None None f q = absurd (false≢true q)

group_braced : {s : List ℕ} {at n : ℕ} {ts : Items} → Group s at true ts n → braced (start_at s at) ≡ true
group_braced (hollow e) = ap braced e
group_braced (filled e w) = ap braced e

-- the object at 0, where a lent filter stands there
object_at : (s : List ℕ) (v : ℕ) → value5 (is_filter s) s v ≡ false → (ts : Items) × (n : ℕ) × (tree_at s depth v ≡ got (obj ts) n)
unfolding value5 is_filter
object_at s v e = go (tree_at s depth v) refl (not-false (on_value (is_filter s) (value_at s v)) e)
  where
    go : (g : Got Json) → tree_at s depth v ≡ g → on_value (is_filter s) g ≡ true → (ts : Items) × (n : ℕ) × (tree_at s depth v ≡ got (obj ts) n)
    go none q h = absurd (false≢true h)
    go (got (word a m) n) q h = absurd (false≢true h)
    go (got (num a m) n) q h = absurd (false≢true h)
    go (got (str a m) n) q h = absurd (false≢true h)
    go (got (arr ts) n) q h = absurd (false≢true h)
    go (got (obj ts) n) q h = (ts, n, q)

no_message : (s : List ℕ) (ts : Items) (n : ℕ) → tree_at s depth 0 ≡ got (obj ts) n → message_row s ≡ 0 → ⊥
no_message s ts n e z = go (late_shaped s (ap is_early z))
  where
    at_root : root s ≡ got (obj ts) n
    at_root = ap (tree_at s depth) (brace_start s 0 (group_braced (group_of s 0 true ts n e))) ∙ e

    on : {t : Json} {m : ℕ} → root s ≡ got t m → Begun t → ⊥
    on r begun = let q = sym at_root ∙ r in absurd (let y : ◌≡◌ {A = ℕ} 0 1 = cc in omega arith)

    go : Shaped s → ⊥
    go (shaped {t = t} r h) = on r (begun_of s t h)

-- ---- so the filters of a message do not begin at 0
module _ (s : List ℕ) (r : ReqParts) (e : read_of s ≡ Ok (Req r)) where
  first_in_lem : r.filters ≡ 0 → Memᴰ 0 (request_filters s r)
  unfolding elements_from up_to
  first_in_lem z = go (length s) refl
    where
      go : (k : ℕ) → length s ≡ k → Memᴰ 0 (request_filters s r)
      go zero q = let c = (filters_counted s r e).0 in absurd (let l : length (request_filters s r) ≡ 0 = rw q refl in omega arith)
      go (suc k) q = rw (z, q) (Memᴰ.head refl)

  at_zero : (filter_at s 0).conditions ≡ Some 0
  unfolding filter_at filter_parts_of
  at_zero = refl

  pub filters_behind : 0 < r.filters
  filters_behind = elim (dec_lt 0 r.filters) [
    | yes h ↦ h
    | no h ↦
        let z : r.filters ≡ 0 = omega arith in
        let (ts, n, q) = object_at s 0 (conditions_are s (filter_at s 0) (filters_pass s r e 0 (first_in_lem z)) at_zero).o5 in
        absurd (no_message s ts n q (sym (row_read s) ∙ ap read_number e))
  ]

-- ---- the rows
kept_is : {p : FilterParts} → Kept p → record {
  ids = listed_from (place_of p.ids);
  authors = listed_from (place_of p.authors);
  kinds = listed_from (place_of p.kinds);
  since = bound_from (flag_of p.since) (bits_of p.since);
  until = bound_from (flag_of p.until) (bits_of p.until);
  limit = bound_from (flag_of p.limit) (bits_of p.limit);
  conditions = listed_from (place_of p.conditions);
} ≡ p
kept_is k = rw (k.ids, k.authors, k.kinds, k.since, k.until, k.limit, k.conditions) refl

module _ (h i j : ℕ) (a b c d : FilterParts) (ka : Kept a) (kb : Kept b) (kc : Kept c) (kd : Kept d) where
  rows_back : (n : ℕ) → n ≤ 4 → (x : List ℕ) →
      take n (filters_from (((h ∷ i ∷ j ∷ n ∷ []) ++ parts_numbers (take n (a ∷ b ∷ c ∷ d ∷ []))) ++ x)) ≡ take n (a ∷ b ∷ c ∷ d ∷ [])
  unfolding filters_from filter_from
  rows_back zero m x = refl
  rows_back (suc zero) m x = ap₂ ◌∷◌ (kept_is ka) refl
  rows_back (suc (suc zero)) m x = ap₂ ◌∷◌ (kept_is ka) (ap₂ ◌∷◌ (kept_is kb) refl)
  rows_back (suc (suc (suc zero))) m x = ap₂ ◌∷◌ (kept_is ka) (ap₂ ◌∷◌ (kept_is kb) (ap₂ ◌∷◌ (kept_is kc) refl))
  rows_back (suc (suc (suc (suc zero)))) m x = ap₂ ◌∷◌ (kept_is ka) (ap₂ ◌∷◌ (kept_is kb) (ap₂ ◌∷◌ (kept_is kc) (ap₂ ◌∷◌ (kept_is kd) refl)))
  rows_back (suc (suc (suc (suc (suc n))))) m x = absurd (omega arith)

pub filters_back : FiltersBack
unfolding filters_at elements_from
filters_back s r e x =
    let k = all_kept (length s) s (At r.filters) (λ v q. (let w : r.filters ≡ v = cc in rw (sym w) (filters_behind s r e))) in
    record {
      count = refl;
      parts = rows_back _ _ _ _ _ _ _ (k 0) (k 1) (k 2) (k 3) (filters_at s r.filters).n (filters_counted s r e).1 x;
    }

-- ---- an EVENT
pub data Members (s : List ℕ) (p : EventParts) : Type 0 where
  members : (ts : Items) → event_parts_of s ts ≡ p → Members s p

read_event : (s : List ℕ) (p : EventParts) → read_of s ≡ Ok (Event p) → Members s p
unfolding read_of
read_event s p e = accepted (eqb (message_row s) 0) e
  where
    by_word : (w : Word) (ts : Items) → message_parts s w ts ≡ Ok (Event p) → Members s p
    by_word event ts q = members (members_of (first_item ts)) cc
    by_word req ts q = absurd (let z : ◌≡◌ {A = ℕ} 0 1 = cc in omega arith)
    by_word close ts q = absurd (let z : ◌≡◌ {A = ℕ} 0 1 = cc in omega arith)
    by_word other ts q = absurd (let z : ◌≡◌ {A = ℕ} 0 1 = cc in omega arith)

    in_root_lem : (g : Got Json) → in_root s g ≡ Ok (Event p) → Members s p
    in_root_lem none q = absurd (let z : ◌≡◌ {A = ℕ} 0 1 = cc in omega arith)
    in_root_lem (got t n) q = by_word (opened s t).first (opened s t).rest q

    accepted : (b : Bool) → cond b (in_root s (root s)) (Err (refusal_of s)) ≡ Ok (Event p) → Members s p
    accepted true q = in_root_lem (root s) q
    accepted false q = absurd (let z : ◌≡◌ {A = ℕ} 0 1 = cc in omega arith)

members_back : (s : List ℕ) (ts : Items) (x : List ℕ) → event_from (event_numbers (event_parts_of s ts) ++ x) ≡ event_parts_of s ts
unfolding event_from event_parts_of body_of
members_back s ts x = rw (number_back s (member_of s created_at_name ts), number_back s (member_of s kind_name ts)) refl

pub event_back_lem : EventBack
event_back_lem s p e x = go (read_event s p e)
  where
    go : Members s p → event_from (event_numbers p ++ x) ≡ p
    go (members ts q) = rw (sym q) (members_back s ts x)
