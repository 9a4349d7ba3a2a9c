-- A number that was read fits 64 bits, and no list of a message stands at 0: so both are read back from the row as they
-- are.
use Rattle.std.specs.Prelude.{Some}
use mathlib.Core.Path.{◌≡◌, refl, ap}
use mathlib.Core.List.{List}
use mathlib.Core.Bool.{true, not}
use Prim.Native.Nat.{ℕ, ◌^◌, ◌<◌}
use native.Mathlib.Omega.{arith}
use borrow.Author.Tests.{ne_eqb, ltb-false, not-true}
use lib.Dec.{ltb}
use lib.IntN.{ℤ, pos, negsuc}
use lib.Signed.{mag}
use Rattle.wire.specs.Field.{signed, unsigned}
use Rattle.wire.specs.Limits.{widest}
use Rattle.wire.proofs.Fields.{signed_unsigned}
use Rattle.numeral.specs.Whole.{Spelled, whole_of, is_within, whole_answer}
use Rattle.numeral.specs.declared.Whole.{Whole}
use Rattle.numeral.specs.declared.Whole.TheVariants.{Value, Large, Malformed}
use Rattle.numeral.proofs.Wholes.{in_range, answer_value}
use Rattle.json_tree.specs.Grammar.{ws_at, past, one_at, token_at, string_at, head_at}
use Rattle.json_tree.specs.Tree.{Json, word, num, str, arr, obj, Items, nil, Got, none, got, depth, tree_at}
use Rattle.json_tree.proofs.Ends.{then_end, one_is}
use Rattle.rows.specs.Strings.{part}
use Rattle.shape.specs.Shape.{since_name, until_name, limit_name}
use Rattle.message.specs.declared.FilterParts.{FilterParts}
use Rattle.message.specs.Parts.{Member, missing, member, member_of, whole_value, number_spelled, number_in, bound_in}
use Rattle.message.specs.Parts.{listed_in, members_got, members_at, filter_parts_of, filter_at, no_filter}
use Rattle.message.proofs.Walks.{Walk, last, more}
use Rattle.message.proofs.Elements.{Group, hollow, filled, group_of}
use Rattle.message.proofs.Facts.{and_true, In, here, later, Holds, absent, present, member_holds}
use Rattle.numbers.specs.Numbers.{place_of, flag_of, bits_of}
use Rattle.numbers.specs.Parts.{listed_from, bound_from}

-- ---- numbers
range_mag : (z : ℤ) → in_range z ≡ true → mag z < 2 ^ 63
unfolding is_within
range_mag (pos n) h = let k = ltb-false widest n (not-true (ltb widest n) h) in omega arith
range_mag (negsuc n) h = let k = ltb-false 9007199254740990 n (not-true (ltb 9007199254740990 n) (and_true (not (ltb 9007199254740990 n)) true h).0) in omega arith

value_mag : (r : Spelled) → mag (whole_value (whole_answer r)) < 2 ^ 63
value_mag r = go (whole_answer r) refl
  where
    go : (w : Whole) → whole_answer r ≡ w → mag (whole_value w) < 2 ^ 63
    go (Value z) e = range_mag z (answer_value r z e).1
    go Large e = omega arith
    go Malformed e = omega arith

number_mag : (s : List ℕ) (t : Json) → mag (number_spelled s t) < 2 ^ 63
number_mag s (word a n) = omega arith
number_mag s (num a n) = value_mag (whole_of (part s a n))
number_mag s (str a n) = omega arith
number_mag s (arr ts) = omega arith
number_mag s (obj ts) = omega arith

pub number_back : (s : List ℕ) (m : Member) → signed (unsigned (number_in s m)) ≡ number_in s m
number_back s missing = signed_unsigned (pos 0) (omega arith)
number_back s (member v t) = signed_unsigned (number_spelled s t) (number_mag s t)

bound_back : (s : List ℕ) (m : Member) → bound_from (flag_of (bound_in s m)) (bits_of (bound_in s m)) ≡ bound_in s m
bound_back s missing = refl
bound_back s (member v t) = ap Some (signed_unsigned (number_spelled s t) (number_mag s t))

-- ---- places
pub token_positive : (s : List ℕ) (b at n : ℕ) → token_at s b at ≡ Some n → 0 < n
unfolding token_at past
token_positive s b at n e =
    let (m, f, g) = then_end (one_at s _ at) _ e in
    let k = (one_is s _ at f).1 in
    let q : ws_at s m ≡ n = cc in
    omega arith

head_positive : (s : List ℕ) (i v : ℕ) → head_at s i true ≡ Some v → 0 < v
head_positive s i v e = let (m, f, g) = then_end (string_at s i) _ e in token_positive s 0x3A (ws_at s m) v g

walk_positive : {value : ℕ → Got Json} {s : List ℕ} {f i n p v : ℕ} {t : Json} {ts : Items} → Walk value s true f i ts n → In p v t ts → 0 < v
walk_positive {s = s} (last {i = i} {v = v} h w d) here = head_positive s i v h
walk_positive {s = s} (more {i = i} {v = v} h w d r) here = head_positive s i v h
walk_positive (last h w d) (later k) = elim k [ ]
walk_positive (more h w d r) (later k) = walk_positive r k

group_positive : {s : List ℕ} {at n p v : ℕ} {t : Json} {ts : Items} → Group s at true ts n → In p v t ts → 0 < v
group_positive (filled e w) i = walk_positive w i
group_positive (hollow e) i = elim i [ ]

no_item : {A : Type 0} {p v : ℕ} {t : Json} → In p v t nil → A
no_item i = elim i [ ]

members_positive : (s : List ℕ) (at : ℕ) {p v : ℕ} {t : Json} → In p v t (members_at s at) → 0 < v
unfolding members_at
members_positive s at {p} {v} {t} i = go (tree_at s depth at) refl i
  where
    go : (g : Got Json) → tree_at s depth at ≡ g → In p v t (members_got g) → 0 < v
    go none e k = no_item k
    go (got (word a m) n) e k = no_item k
    go (got (num a m) n) e k = no_item k
    go (got (str a m) n) e k = no_item k
    go (got (arr ts) n) e k = no_item k
    go (got (obj ts) n) e k = group_positive (group_of s at true ts n e) k

place_back : (v : ℕ) → 0 < v → listed_from v ≡ Some v
place_back v h = rw (ne_eqb v 0 (λ e. omega arith)) refl

list_back : (s w : List ℕ) (at : ℕ) → listed_from (place_of (listed_in (member_of s w (members_at s at)))) ≡ listed_in (member_of s w (members_at s at))
list_back s w at = go (member_holds s w (members_at s at))
  where
    go : {m : Member} → Holds s w (members_at s at) m → listed_from (place_of (listed_in m)) ≡ listed_in m
    go absent = refl
    go (present {v = v} i e) = place_back v (members_positive s at i)

-- ---- a filter whose parts are read back as they are
pub record Kept (p : FilterParts) : Type 0 where
  pub ids : listed_from (place_of p.ids) ≡ p.ids
  pub authors : listed_from (place_of p.authors) ≡ p.authors
  pub kinds : listed_from (place_of p.kinds) ≡ p.kinds
  pub since : bound_from (flag_of p.since) (bits_of p.since) ≡ p.since
  pub until : bound_from (flag_of p.until) (bits_of p.until) ≡ p.until
  pub limit : bound_from (flag_of p.limit) (bits_of p.limit) ≡ p.limit
  pub conditions : listed_from (place_of p.conditions) ≡ p.conditions

pub filter_kept : (s : List ℕ) (v : ℕ) → 0 < v → Kept (filter_at s v)
unfolding filter_at filter_parts_of
filter_kept s v h = record {
  ids = list_back s _ v;
  authors = list_back s _ v;
  kinds = list_back s _ v;
  since = bound_back s (member_of s since_name (members_at s v));
  until = bound_back s (member_of s until_name (members_at s v));
  limit = bound_back s (member_of s limit_name (members_at s v));
  conditions = place_back v h;
}

pub none_kept : Kept no_filter
none_kept = record { ids = refl; authors = refl; kinds = refl; since = refl; until = refl; limit = refl; conditions = refl }
