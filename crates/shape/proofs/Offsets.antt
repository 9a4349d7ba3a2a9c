-- What a refusal carries: nothing with rows other than 6 and 7; with these the place of a number, or of a string, of
-- the message.
use Rattle.std.specs.Prelude.{Some, None}
use mathlib.Core.Path.{◌≡◌, refl, ◌∙◌}
use mathlib.Core.List.{List, [], ◌∷◌}
use mathlib.Core.Bool.{Bool, true, false, cond}
use mathlib.Core.Logic.{◌⊎◌, inl, inr}
use Prim.Native.Nat.{ℕ, ◌≤◌, ◌<◌, min}
use native.Mathlib.Omega.{arith}
use borrow.Author.Tests.{eq-eqb, ne_eqb, eqb-true, ltb-true, ltb-false}
use lib.Dec.{eqb, ltb}
use lib.ListN.{length}
use Rattle.json_tree.specs.Grammar.{ws_at, scalar_at}
use Rattle.json_tree.specs.Tree.{Json, word, num, str, arr, obj, nil, item, Got, none, got, depth, root, on_array}
use Rattle.json_tree.specs.Tree.{of_array}
use Rattle.json_tree.specs.declared.Kind.TheVariants.{Str, Num}
use Rattle.wire.specs.Limits.{most_message, hex_length, sig_length}
use Rattle.shape.specs.Shape.{any_item, named, is_number, is_string, id_name, pubkey_name, created_at_name, kind_name}
use Rattle.shape.specs.Shape.{sig_name, ids_name, authors_name, kinds_name, since_name, until_name, limit_name}
use Rattle.shape.specs.Shape.{e_condition_name, p_condition_name, opened}
use Rattle.shape.specs.Rows.{wrong_time, wrong_small, event_number, filter_number, wrong_hex}
use Rattle.shape.specs.Rows.{event_hex, filter_hex, message_row}
use Rattle.shape.specs.Lowest.{holds}
use Rattle.shape.specs.Offsets.{least_of, earliest, number_places, hex_places, root_offset, offset_of}
use Rattle.shape.specs.Offsets.{offset_for, refusal_of, refusal_for, plain_refusal}
use Rattle.shape.proofs.Names.{no}
use Rattle.shape.proofs.Standing.{Stands, a_number, a_string, an_array, AllStand, no_more, one_more, tree_stands}
use Rattle.shape.proofs.Standing.{scalar_within, Each, each_object, each_message}
use Rattle.shape.proofs.Exact.{row_given}

-- ---- the places are those of numbers, of strings
abbrev pub NumberStands : List ℕ → ℕ → Type 0
NumberStands s v = (k : ℕ) × (scalar_at s v ≡ Some (Num k))

abbrev pub StringStands : List ℕ → ℕ → Type 0
StringStands s v = (k : ℕ) × (scalar_at s v ≡ Some (Str k))

-- x, a test of t, holds of a leaf or a list only
record Only (leaf : Json → Bool) (t : Json) (x : Bool) : Type 0 where
  is : x ≡ true → of_array (leaf t) (λ ts. true) t ≡ true

module _ {leaf : Json → Bool} {t : Json} where
  only_no : Only leaf t false
  only_no = record { is = λ e. no cc }

  only_if : (b : Bool) {x y : Bool} → Only leaf t x → Only leaf t y → Only leaf t (cond b x y)
  only_if true p q = p
  only_if false p q = q

list_only : (leaf g : Json → Bool) (t : Json) → on_array (any_item (λ q u. g u)) t ≡ true → of_array (leaf t) (λ ts. true) t ≡ true
list_only leaf g (word a n) e = no cc
list_only leaf g (num a n) e = no cc
list_only leaf g (str a n) e = no cc
list_only leaf g (arr ts) e = refl
list_only leaf g (obj ts) e = no cc

only_list : (leaf g : Json → Bool) (t : Json) → Only leaf t (on_array (any_item (λ q u. g u)) t)
only_list leaf g t = record { is = list_only leaf g t }

-- a leaf is a leaf or a list
wider : (leaf : Json → Bool) (t : Json) → leaf t ≡ true → of_array (leaf t) (λ ts. true) t ≡ true
wider leaf (word a n) e = e
wider leaf (num a n) e = e
wider leaf (str a n) e = e
wider leaf (arr ts) e = refl
wider leaf (obj ts) e = e

only_leaf : (leaf : Json → Bool) (t : Json) {x : Bool} → (x ≡ true → leaf t ≡ true) → Only leaf t x
only_leaf leaf t f = record { is = λ e. wider leaf t (f e) }

module _ (s : List ℕ) where
  time_only : (t : Json) → wrong_time s t ≡ true → is_number t ≡ true
  unfolding wrong_time
  time_only (word a n) e = no cc
  time_only (num a n) e = refl
  time_only (str a n) e = no cc
  time_only (arr ts) e = no cc
  time_only (obj ts) e = no cc

  small_only : (t : Json) → wrong_small s t ≡ true → is_number t ≡ true
  unfolding wrong_small
  small_only (word a n) e = no cc
  small_only (num a n) e = refl
  small_only (str a n) e = no cc
  small_only (arr ts) e = no cc
  small_only (obj ts) e = no cc

  hex_only : (k : ℕ) (t : Json) → wrong_hex k s t ≡ true → is_string t ≡ true
  unfolding wrong_hex
  hex_only k (word a n) e = no cc
  hex_only k (num a n) e = no cc
  hex_only k (str a n) e = refl
  hex_only k (arr ts) e = no cc
  hex_only k (obj ts) e = no cc

  at_number : (v : ℕ) (t : Json) → is_number t ≡ true → Stands s v t → NumberStands s v
  at_number v (word a n) e w = no cc
  at_number v (num a n) e (a_number q) = (_, q)
  at_number v (str a n) e w = no cc
  at_number v (arr ts) e w = no cc
  at_number v (obj ts) e w = no cc

  at_string : (v : ℕ) (t : Json) → is_string t ≡ true → Stands s v t → StringStands s v
  at_string v (word a n) e w = no cc
  at_string v (num a n) e w = no cc
  at_string v (str a n) e (a_string q) = (_, q)
  at_string v (arr ts) e w = no cc
  at_string v (obj ts) e w = no cc

  rest_stands : (at : ℕ) (t : Json) → Stands s at t → AllStand s (opened s t).rest
  rest_stands at (word a n) w = no_more
  rest_stands at (num a n) w = no_more
  rest_stands at (str a n) w = no_more
  rest_stands at (obj ts) w = no_more
  rest_stands at (arr nil) w = no_more
  rest_stands at (arr (item p v (word a n) ts)) (an_array (one_more x w)) = w
  rest_stands at (arr (item p v (num a n) ts)) (an_array (one_more x w)) = w
  rest_stands at (arr (item p v (str a n) ts)) (an_array (one_more x w)) = w
  rest_stands at (arr (item p v (arr us) ts)) (an_array (one_more x w)) = w
  rest_stands at (arr (item p v (obj us) ts)) (an_array (one_more x w)) = w

  event_number_only : (p : ℕ) (t : Json) → Only is_number t (event_number s p t)
  unfolding event_number
  event_number_only p t = only_if (named s created_at_name p) (only_leaf is_number t (time_only t)) (only_if (named s kind_name p) (only_leaf is_number t (small_only t)) only_no)

  filter_number_only : (p : ℕ) (t : Json) → Only is_number t (filter_number s p t)
  unfolding filter_number
  filter_number_only p t =
      only_if (named s kinds_name p) (only_list is_number (wrong_small s) t)
      (only_if (named s since_name p) (only_leaf is_number t (time_only t))
      (only_if (named s until_name p) (only_leaf is_number t (time_only t)) (only_if (named s limit_name p) (only_leaf is_number t (small_only t)) only_no)))

  event_hex_only : (p : ℕ) (t : Json) → Only is_string t (event_hex s p t)
  unfolding event_hex
  event_hex_only p t =
      only_if (named s id_name p) (only_leaf is_string t (hex_only hex_length t))
      (only_if (named s pubkey_name p) (only_leaf is_string t (hex_only hex_length t)) (only_if (named s sig_name p) (only_leaf is_string t (hex_only sig_length t)) only_no))

  filter_hex_only : (p : ℕ) (t : Json) → Only is_string t (filter_hex s p t)
  unfolding filter_hex
  filter_hex_only p t =
      only_if (named s ids_name p) (only_list is_string (wrong_hex hex_length s) t)
      (only_if (named s authors_name p) (only_list is_string (wrong_hex hex_length s) t)
      (only_if (named s e_condition_name p) (only_list is_string (wrong_hex hex_length s) t) (only_if (named s p_condition_name p) (only_list is_string (wrong_hex hex_length s) t) only_no)))

  pub numbers_stand : {t : Json} {n : ℕ} → root s ≡ got t n → Each (NumberStands s) (number_places s t)
  unfolding number_places
  numbers_stand {t} {n} e =
      each_message s (NumberStands s) is_number at_number _ _
      (each_object s (NumberStands s) is_number at_number (event_number s) (wrong_small s) (λ p t. (event_number_only p t).is) small_only)
      (each_object s (NumberStands s) is_number at_number (filter_number s) (wrong_small s) (λ p t. (filter_number_only p t).is) small_only) (opened s t).first (opened s t).rest
      (rest_stands (ws_at s 0) t (tree_stands s depth (ws_at s 0) e))

  pub hexes_stand : {t : Json} {n : ℕ} → root s ≡ got t n → Each (StringStands s) (hex_places s t)
  unfolding hex_places
  hexes_stand {t} {n} e =
      each_message s (StringStands s) is_string at_string _ _
      (each_object s (StringStands s) is_string at_string (event_hex s) (wrong_hex hex_length s) (λ p t. (event_hex_only p t).is) (hex_only hex_length))
      (each_object s (StringStands s) is_string at_string (filter_hex s) (wrong_hex hex_length s) (λ p t. (filter_hex_only p t).is) (hex_only hex_length)) (opened s t).first (opened s t).rest
      (rest_stands (ws_at s 0) t (tree_stands s depth (ws_at s 0) e))

  pub number_within : (v : ℕ) → NumberStands s v → v < length s
  number_within v (k, e) = scalar_within s v e (λ z. no cc)

  pub string_within : (v : ℕ) → StringStands s v → v < length s
  string_within v (k, e) = scalar_within s v e (λ z. no cc)

-- what holds of each place holds of the earliest
lesser_holds : (P : ℕ → Type 0) (x y : ℕ) → P x → P y → P (min x y)
lesser_holds P x y a b = go (ltb x y) refl
  where
    go : (t : Bool) → ltb x y ≡ t → P (min x y)
    go true w = let l = ltb-true x y w in let m : min x y ≡ x = omega arith in rw m a
    go false w = let l = ltb-false x y w in let m : min x y ≡ y = omega arith in rw m b

least_holds : (P : ℕ → Type 0) (q : ℕ) (qs : List ℕ) → Each P (q ∷ qs) → P (least_of q qs)
unfolding least_of
least_holds P q [] (a, z) = a
least_holds P q (r ∷ rs) (a, z) = lesser_holds P q (least_of r rs) a (least_holds P r rs z)

pub earliest_holds : (P : ℕ → Type 0) (c : List ℕ) {p : ℕ} → Each P c → earliest c ≡ Some p → P p
earliest_holds P [] h e = no cc
earliest_holds P (q ∷ qs) {p} h e = let z : least_of q qs ≡ p = cc in rw z at (least_holds P q qs h)

module _ (s : List ℕ) where
  -- ---- rows other than 6 and 7
  pub offset_absent : (message_row s ≡ 6 → ⊥) → (message_row s ≡ 7 → ⊥) → offset_of s ≡ None
  unfolding offset_of
  offset_absent a b = go (root s)
    where
      go : (g : Got Json) → root_offset (message_row s) s g ≡ None
      go none = refl
      go (got t n) = rw (ne_eqb (message_row s) 6 a, ne_eqb (message_row s) 7 b)

  -- ---- rows 6 and 7: a number stands there, or a string
  module _ {p : ℕ} (e : offset_of s ≡ Some p) where
    pub offset_stands : ((message_row s ≡ 6) × NumberStands s p) ⊎ ((message_row s ≡ 7) × StringStands s p)
    unfolding offset_of
    offset_stands = go (root s) refl e
      where
        go : (g : Got Json) → root s ≡ g → root_offset (message_row s) s g ≡ Some p → ((message_row s ≡ 6) × NumberStands s p) ⊎ ((message_row s ≡ 7) × StringStands s p)
        go none q w = no cc
        go (got t n) q w = six (eqb (message_row s) 6) refl (eqb (message_row s) 7) refl w
          where
            six : (x : Bool) → eqb (message_row s) 6 ≡ x → (y : Bool) → eqb (message_row s) 7 ≡ y
                → cond x (earliest (number_places s t)) (cond y (earliest (hex_places s t)) None) ≡ Some p → ((message_row s ≡ 6) × NumberStands s p) ⊎ ((message_row s ≡ 7) × StringStands s p)
            six true a y b w = inl (eqb-true (message_row s) 6 a, earliest_holds (NumberStands s) (number_places s t) (numbers_stand s q) w)
            six false a true b w = inr (eqb-true (message_row s) 7 b, earliest_holds (StringStands s) (hex_places s t) (hexes_stand s q) w)
            six false a false b w = no cc

    -- a message that another row than 1 refuses is short enough
    short : (r : ℕ) → 2 ≤ r → message_row s ≡ r → length s ≤ most_message
    unfolding holds
    short r h q = ltb-false most_message (length s) (((row_given s r (omega arith)).0 q).none_lower 1 (omega arith))

    -- so an offset is a place in a message that is no longer than a message may be
    pub offset_within : (p < length s) × (length s ≤ most_message)
    offset_within = go offset_stands
      where
        go : ((message_row s ≡ 6) × NumberStands s p) ⊎ ((message_row s ≡ 7) × StringStands s p) → (p < length s) × (length s ≤ most_message)
        go (inl (q, w)) = (number_within s p w, short 6 (omega arith) q)
        go (inr (q, w)) = (string_within s p w, short 7 (omega arith) q)

  -- ---- the message's own row, and any other
  pub refusal_own : refusal_for s (message_row s) ≡ refusal_of s
  unfolding offset_for
  refusal_own = rw (eq-eqb (message_row s) (message_row s) refl)

  pub offset_other : (row : ℕ) → (row ≡ message_row s → ⊥) → offset_for s row ≡ None
  unfolding offset_for
  offset_other row n = rw (ne_eqb row (message_row s) n)

  pub offset_plain : (row : ℕ) → (row ≡ 6 → ⊥) → (row ≡ 7 → ⊥) → offset_for s row ≡ None
  unfolding offset_for
  offset_plain row a b = go (eqb row (message_row s)) refl
    where
      go : (x : Bool) → eqb row (message_row s) ≡ x → cond x (offset_of s) None ≡ None
      go true q = let e = eqb-true row (message_row s) q in offset_absent (λ z. a (e ∙ z)) (λ z. b (e ∙ z))
      go false q = refl

  pub offset_for_within : (row : ℕ) {p : ℕ} → offset_for s row ≡ Some p → (p < length s) × (length s ≤ most_message)
  unfolding offset_for
  offset_for_within row e = go (eqb row (message_row s)) e
    where
      go : (x : Bool) {p : ℕ} → cond x (offset_of s) None ≡ Some p → (p < length s) × (length s ≤ most_message)
      go true e = offset_within e
      go false e = no cc

  -- a row below 6 is all that a refusal carries
  pub plain_refusal_lem : (row : ℕ) → row < 6 → row ≡ message_row s → plain_refusal row ≡ refusal_of s
  plain_refusal_lem row h e = rw (e, offset_absent (λ z. omega arith) (λ z. omega arith))
