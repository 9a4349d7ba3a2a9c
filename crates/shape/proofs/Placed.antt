-- The places that the walk has of a member's value are those that Offsets gives for the member; and a row holds where it
-- has some place.
use mathlib.Core.Path.{◌≡◌, refl, sym, ap, ◌∙◌}
use mathlib.Core.List.{List, [], ◌∷◌, ◌++◌}
use mathlib.Core.Bool.{Bool, true, false, cond, ◌||◌}
use Prim.Native.Nat.{ℕ}
use Rattle.json_tree.specs.Tree.{Json, word, num, str, arr, obj, Items, nil, item, on_array, of_object, on_object}
use Rattle.wire.specs.Limits.{hex_length}
use Rattle.shape.specs.Shape.{any_item, named, id_name, pubkey_name, created_at_name, kind_name, sig_name, ids_name}
use Rattle.shape.specs.Shape.{authors_name, kinds_name, since_name, until_name, limit_name, e_condition_name}
use Rattle.shape.specs.Shape.{p_condition_name, Word, event, req, close, other, opened}
use Rattle.shape.specs.Rows.{wrong_time, wrong_small, wrong_smalls, event_number, filter_number, wrong_hex, wrong_hexes}
use Rattle.shape.specs.Rows.{event_hex, filter_hex, in_message, row6, row7}
use Rattle.shape.specs.Offsets.{collect, value_places, member_places, message_places, number_places, hex_places}
use Rattle.shape.proofs.Names.{no}
use Rattle.shape.proofs.Leaves.{place_if}
use Rattle.shape.proofs.Lists.{list_places}

-- ---- whether there is a place
abbrev pub some : List ℕ → Bool
some [] = false
some (p ∷ ps) = true

some_both : (c d : List ℕ) → some (c ++ d) ≡ (some c || some d)
some_both [] d = refl
some_both (p ∷ c) d = refl

pub some_collect : (f : ℕ → Json → Bool) (h : ℕ → ℕ → Json → List ℕ) → ((p v : ℕ) (t : Json) → f p t ≡ some (h p v t)) → (ts : Items) → any_item f ts ≡ some (collect h ts)
unfolding any_item collect
some_collect f h e nil = refl
some_collect f h e (item p v t ts) =
    ap (λ (x : Bool). x || any_item f ts) (e p v t) ∙ ap (λ (x : Bool). some (h p v t) || x) (some_collect f h e ts) ∙ sym (some_both (h p v t) (collect h ts))

place_some : (x : Bool) (v : ℕ) → x ≡ some (place_if x v)
place_some true v = refl
place_some false v = refl

-- ---- the places of the members of a list
none_some : (c : List ℕ) → false ≡ some c → c ≡ []
none_some [] e = refl
none_some (p ∷ c) e = no cc

list_some : (g : Json → Bool) (ts : Items) → any_item (λ q u. g u) ts ≡ some (collect (λ p v u. place_if (g u) v) ts)
list_some g ts = some_collect (λ q u. g u) (λ p v u. place_if (g u) v) (λ p v u. place_some (g u) v) ts

list_all : (g : Json → Bool) (ts : Items) → collect (λ p v u. place_if (g u) v) ts ≡ cond (any_item (λ q u. g u) ts) (collect (λ p v u. place_if (g u) v) ts) []
list_all g ts = go (any_item (λ q u. g u) ts) (list_some g ts)
  where
    go : (x : Bool) → x ≡ some (collect (λ p v u. place_if (g u) v) ts) → collect (λ p v u. place_if (g u) v) ts ≡ cond x (collect (λ p v u. place_if (g u) v) ts) []
    go true e = refl
    go false e = none_some _ e

pub lists : (g : Json → Bool) (v : ℕ) (t : Json) → list_places g t ≡ cond (on_array (any_item (λ q u. g u)) t) (value_places g v t) []
lists g v (word a n) = refl
lists g v (num a n) = refl
lists g v (str a n) = refl
lists g v (arr ts) = list_all g ts
lists g v (obj ts) = refl

-- ---- a number or a string has its own place
module _ (s : List ℕ) (g : Json → Bool) (v : ℕ) where
  pub own_time : (t : Json) → place_if (wrong_time s t) v ≡ cond (wrong_time s t) (value_places g v t) []
  unfolding wrong_time
  own_time (word a n) = refl
  own_time (num a n) = refl
  own_time (str a n) = refl
  own_time (arr ts) = refl
  own_time (obj ts) = refl

  pub own_small : (t : Json) → place_if (wrong_small s t) v ≡ cond (wrong_small s t) (value_places g v t) []
  unfolding wrong_small
  own_small (word a n) = refl
  own_small (num a n) = refl
  own_small (str a n) = refl
  own_small (arr ts) = refl
  own_small (obj ts) = refl

  pub own_hex : (k : ℕ) (t : Json) → place_if (wrong_hex k s t) v ≡ cond (wrong_hex k s t) (value_places g v t) []
  unfolding wrong_hex
  own_hex k (word a n) = refl
  own_hex k (num a n) = refl
  own_hex k (str a n) = refl
  own_hex k (arr ts) = refl
  own_hex k (obj ts) = refl

-- ---- where a row holds of a member, it has a place there
-- x tells of the value t, at v, that some place of it, by g, breaks a row
pub record Tells (g : Json → Bool) (v : ℕ) (t : Json) (x : Bool) : Type 0 where
  pub is : x ≡ some (cond x (value_places g v t) [])

module _ {g : Json → Bool} {v : ℕ} {t : Json} where
  tells_no : Tells g v t false
  tells_no = record { is = refl }

  tells_if : (b : Bool) {x y : Bool} → Tells g v t x → Tells g v t y → Tells g v t (cond b x y)
  tells_if true p q = p
  tells_if false p q = q

  tells_own : {x : Bool} → place_if x v ≡ cond x (value_places g v t) [] → Tells g v t x
  tells_own {x} e = record { is = place_some x v ∙ ap some e }

listed : (g : Json → Bool) (t : Json) → on_array (any_item (λ q u. g u)) t ≡ some (list_places g t)
listed g (word a n) = refl
listed g (num a n) = refl
listed g (str a n) = refl
listed g (arr ts) = list_some g ts
listed g (obj ts) = refl

tells_list : (g : Json → Bool) (v : ℕ) (t : Json) → Tells g v t (on_array (any_item (λ q u. g u)) t)
tells_list g v t = record { is = listed g t ∙ ap some (lists g v t) }

module _ (s : List ℕ) (p v : ℕ) (t : Json) where
  event_number_lem : Tells (wrong_small s) v t (event_number s p t)
  unfolding event_number
  event_number_lem = tells_if (named s created_at_name p) (tells_own (own_time s (wrong_small s) v t)) (tells_if (named s kind_name p) (tells_own (own_small s (wrong_small s) v t)) tells_no)

  filter_number_lem : Tells (wrong_small s) v t (filter_number s p t)
  unfolding filter_number
  filter_number_lem =
      tells_if (named s kinds_name p) (tells_list _ v t) (tells_if (named s since_name p) (tells_own (own_time s (wrong_small s) v t)) (tells_if (named s until_name p) (tells_own (own_time s (wrong_small s) v t)) (tells_if (named s limit_name p) (tells_own (own_small s (wrong_small s) v t)) tells_no)))

  event_hex_lem : Tells (wrong_hex hex_length s) v t (event_hex s p t)
  unfolding event_hex
  event_hex_lem = tells_if (named s id_name p) (tells_own (own_hex s (wrong_hex hex_length s) v _ t)) (tells_if (named s pubkey_name p) (tells_own (own_hex s (wrong_hex hex_length s) v _ t)) (tells_if (named s sig_name p) (tells_own (own_hex s (wrong_hex hex_length s) v _ t)) tells_no))

  filter_hex_lem : Tells (wrong_hex hex_length s) v t (filter_hex s p t)
  unfolding filter_hex
  filter_hex_lem = tells_if (named s ids_name p) (tells_list _ v t) (tells_if (named s authors_name p) (tells_list _ v t) (tells_if (named s e_condition_name p) (tells_list _ v t) (tells_if (named s p_condition_name p) (tells_list _ v t) tells_no)))

-- ---- of an object, of a message
module _ (f : ℕ → Json → Bool) (g : Json → Bool) (tells : (p v : ℕ) (t : Json) → Tells g v t (f p t)) where
  pub object_some : (t : Json) → on_object (any_item f) t ≡ some (of_object [] (member_places f g) t)
  object_some (word a n) = refl
  object_some (num a n) = refl
  object_some (str a n) = refl
  object_some (arr ts) = refl
  object_some (obj ts) = some_collect f (λ p v t. cond (f p t) (value_places g v t) []) (λ p v t. (tells p v t).is) ts

message_some : (e f : Json → Bool) (e' f' : Items → List ℕ) → ((t : Json) → e t ≡ some (of_object [] e' t)) → ((t : Json) → f t ≡ some (of_object [] f' t)) → (w : Word) (ts : Items)
    → in_message e f w ts ≡ some (message_places e' f' w ts)
message_some e f e' f' x y event ts = some_collect (λ p t. e t) (λ p v t. of_object [] e' t) (λ p v t. x t) ts
message_some e f e' f' x y req nil = refl
message_some e f e' f' x y req (item p v t ts) = some_collect (λ q u. f u) (λ q w u. of_object [] f' u) (λ q w u. y u) ts
message_some e f e' f' x y close ts = refl
message_some e f e' f' x y other ts = refl

module _ (s : List ℕ) where
  pub filter_numbers_lem : (t : Json) → on_object (any_item (filter_number s)) t ≡ some (of_object [] (member_places (filter_number s) (wrong_small s)) t)
  filter_numbers_lem = object_some (filter_number s) (wrong_small s) (filter_number_lem s)

  pub filter_hexes : (t : Json) → on_object (any_item (filter_hex s)) t ≡ some (of_object [] (member_places (filter_hex s) (wrong_hex hex_length s)) t)
  filter_hexes = object_some (filter_hex s) (wrong_hex hex_length s) (filter_hex_lem s)

  -- row 6 holds where some number breaks it, row 7 where some string does
  pub number_some : (t : Json) → row6 s t ≡ some (number_places s t)
  unfolding row6 number_places
  number_some t = message_some _ _ _ _ (object_some (event_number s) (wrong_small s) (event_number_lem s)) filter_numbers_lem (opened s t).first (opened s t).rest

  pub hex_some : (t : Json) → row7 s t ≡ some (hex_places s t)
  unfolding row7 hex_places
  hex_some t = message_some _ _ _ _ (object_some (event_hex s) (wrong_hex hex_length s) (event_hex_lem s)) filter_hexes (opened s t).first (opened s t).rest

  -- a list by itself
  pub smalls_some : (t : Json) → wrong_smalls s t ≡ some (list_places (wrong_small s) t)
  smalls_some = listed (wrong_small s)

  pub hexes_some : (t : Json) → wrong_hexes s t ≡ some (list_places (wrong_hex hex_length s) t)
  hexes_some = listed (wrong_hex hex_length s)
