-- The members of a filter's object that are left while its # conditions are written.
use Rattle.std.specs.Prelude.{Option, Some, None}
use mathlib.Core.Path.{◌≡◌, refl, sym, ap, ap₂, ◌∙◌}
use mathlib.Core.Bool.{Bool, true, false, cond, not, ◌&&◌, ◌||◌, false≢true}
use mathlib.Core.List.{List, [], ◌∷◌, ◌++◌, map, append_assoc, append-nil}
use Prim.Native.Nat.{ℕ, zero, suc, ◌+◌, ◌*◌, ◌≤◌, ◌<◌}
use native.Mathlib.Omega.{arith}
use borrow.Author.Tests.{le-ltb, leb-true, ltb-false, not-false}
use lib.Dec.{eqb, leb, ltb}
use lib.ListN.{length, get_or, set, take, length-set}
use lib.Seq.{take-suc-set}
use Rattle.wire.specs.Bytes.{part}
use Rattle.spell.specs.Spell.{decode}
use Rattle.json_tree.specs.Grammar.{case, start_at, head_at}
use Rattle.json_tree.specs.Tree.{Json, word, num, str, arr, obj, Items, nil, item, Got, none, got, depth, tree_at}
use Rattle.json_tree.specs.Tree.{on_object}
use Rattle.rows.specs.Strings.{spelled_at}
use Rattle.shape.specs.Shape.{any_item, all_items, count_items, count, name_at, is_string, is_array_of, is_letter, is_condition}
use Rattle.shape.specs.Shape.{filter_member, is_filter}
use Rattle.shape.specs.Rows.{wrong_list, wrong_filter, filter_counts}
use Rattle.message.specs.Lists.{open_within}
use Rattle.message.specs.Parts.{members_at}
use Rattle.message.specs.Lent.{value5, on_value, value_at}
use Rattle.message.proofs.Walks.{Walk, last, more, deeper}
use Rattle.message.proofs.Elements.{Group, hollow, filled, group_of, items_few}
use Rattle.message.proofs.Facts.{and_true, or_not, In, here, later}
use Rattle.message.proofs.Checked.{ListOf, condition_is}
use Rattle.event.specs.Lent.{tag_of}
use Rattle.query.specs.Filter.{Condition, strings_in, conditions_of, conditions_in}
use Rattle.matching.specs.declared.Needed.{Needed}
use Rattle.matching.specs.Inner.Found.{spelled_by, condition_by}
use Rattle.matching.specs.Inner.Finds.{Finds, FindsConditions, first_named, next_named, value_place}
use Rattle.matching.specs.Inner.Finds.{condition_letter}

-- ---- the place of the first name that is left; each name is followed by its value and then by the next name
abbrev pub first_name : Items → Option ℕ
first_name nil = None
first_name (item p v t ts) = Some p

pub data Named (s : List ℕ) : Items → Type 0 where
  end : Named s nil
  one : {p v m : ℕ} {t : Json} {ts : Items} → head_at s p true ≡ Some v → tree_at s open_within v ≡ got t m → next_named s v ≡ first_name ts → Named s ts → Named s (item p v t ts)

walk_name : {value : ℕ → Got Json} {s : List ℕ} {f i : ℕ} {ts : Items} {n : ℕ} → Walk value s true f i ts n → Some i ≡ first_name ts
walk_name (last h w q) = refl
walk_name (more h w q r) = refl

walk_named : {s : List ℕ} {f i : ℕ} {ts : Items} {n : ℕ} → Walk (tree_at s open_within) s true f i ts n → Named s ts
unfolding next_named
walk_named {s} (last {v = v} h w q) = let e : next_named s v ≡ None = rw (w, q) refl in one h w e end
walk_named {s} (more {v = v} {ts = ts} h w q r) = let e : next_named s v ≡ first_name ts = rw (w, q) (walk_name r) in one h w e (walk_named r)

object_named : {s : List ℕ} {at : ℕ} {ts : Items} {n : ℕ} → Group s at true ts n → (first_named (start_at s at) ≡ first_name ts) × Named s ts
object_named (hollow p) = (rw p refl, end)
object_named (filled p w) = (rw p (walk_name w), walk_named w)

-- ---- conditions that stand in the row below a place stay when the row changes from there on
abbrev pub Below : ℕ → List Needed → Type 0
Below k [] = Unit {0}
Below k (c ∷ cs) = (c.from + c.len ≤ k) × Below k cs

below_more : (k j : ℕ) → k ≤ j → (cs : List Needed) → Below k cs → Below j cs
below_more k j h [] b = tt
below_more k j h (c ∷ cs) (x, b) = (omega arith, below_more k j h cs b)

below_last : (k : ℕ) (cs : List Needed) (c : Needed) → Below k cs → c.from + c.len ≤ k → Below k (cs ++ (c ∷ []))
below_last k [] c b h = (h, tt)
below_last k (d ∷ cs) c (x, b) h = (x, below_last k cs c b h)

-- a part within what is the same
pub part_same : (k : ℕ) (row row' : List ℕ) → take k row' ≡ take k row → (a n : ℕ) → a + n ≤ k → part row' a n ≡ part row a n
part_same k row row' e a n h = sym (inside a n k row' h) ∙ ap (λ (l : List ℕ). part l a n) e ∙ inside a n k row h
  where
    take_in : (n k : ℕ) (l : List ℕ) → n ≤ k → take n (take k l) ≡ take n l
    take_in zero k l h = refl
    take_in (suc n) zero l h = absurd (omega arith)
    take_in (suc n) (suc k) [] h = refl
    take_in (suc n) (suc k) (x ∷ l) h = ap (λ (r : List ℕ). x ∷ r) (take_in n k l (omega arith))

    inside : (a n k : ℕ) (l : List ℕ) → a + n ≤ k → part (take k l) a n ≡ part l a n
    inside zero n k l h = take_in n k l (omega arith)
    inside (suc a) n zero l h = absurd (omega arith)
    inside (suc a) n (suc k) [] h = refl
    inside (suc a) n (suc k) (x ∷ l) h = inside a n k l (omega arith)

below_same : (m : List ℕ) (k : ℕ) (row row' : List ℕ) → take k row' ≡ take k row → (cs : List Needed) → Below k cs → map (condition_by m row') cs ≡ map (condition_by m row) cs
below_same m k row row' e [] b = refl
below_same m k row row' e (c ∷ cs) (x, b) =
    ap₂ (λ (p : List ℕ) (l : List Condition). record { letter = c.letter; members = spelled_by m p } ∷ l) (part_same k row row' e c.from c.len x) (below_same m k row row' e cs b)

map_last : {A B : Type 0} (f : A → B) (l : List A) (x : A) → map f (l ++ (x ∷ [])) ≡ map f l ++ (f x ∷ [])
map_last f [] x = refl
map_last {B = B} f (y ∷ l) x = ap (λ (r : List B). f y ∷ r) (map_last f l x)

pub take_shorter : {A : Type 0} (j k : ℕ) (l r : List A) → j ≤ k → take k l ≡ take k r → take j l ≡ take j r
take_shorter {A} j k l r h e = sym (go j k l h) ∙ ap (take j) e ∙ go j k r h
  where
    go : (j k : ℕ) (l : List A) → j ≤ k → take j (take k l) ≡ take j l
    go zero k l h = refl
    go (suc j) zero l h = absurd (omega arith)
    go (suc j) (suc k) [] h = refl
    go (suc j) (suc k) (x ∷ l) h = ap (λ (r : List A). x ∷ r) (go j k l (omega arith))

-- ---- a filter's object
pub record Object (m : List ℕ) (v : ℕ) : Type 0 where
  pub items : Items
  pub end : ℕ
  pub tree : tree_at m depth v ≡ got (obj items) end
  pub members : all_items (filter_member m) items ≡ true
  pub counts : filter_counts m items ≡ false

pub object_of_lem : (m : List ℕ) (v : ℕ) → value5 (is_filter m) m v ≡ false → on_value (on_object (filter_counts m)) (value_at m v) ≡ false → Object m v
unfolding value5 is_filter
object_of_lem m v a c = go (tree_at m depth v) refl a c
  where
    go : (r : Got Json) → tree_at m depth v ≡ r → not (on_value (is_filter m) r) ≡ false → on_value (on_object (filter_counts m)) r ≡ false → Object m v
    go none e a c = absurd (false≢true (sym a))
    go (got (word x n) k) e a c = absurd (false≢true (sym a))
    go (got (num x n) k) e a c = absurd (false≢true (sym a))
    go (got (str x n) k) e a c = absurd (false≢true (sym a))
    go (got (arr ts) k) e a c = absurd (false≢true (sym a))
    go (got (obj ts) k) e a c = record { items = ts; end = k; tree = e; members = (and_true (all_items (filter_member m) ts) _ (not-false _ a)).0; counts = c }

-- a letter is not 0
letter_some : (w : List ℕ) → is_condition w ≡ true → 65 ≤ get_or w 1 0
unfolding is_condition
letter_some w e = letter (get_or w 1 0) (and_true (eqb (get_or w 0 0) 35) _ (and_true (eqb (length w) 2) _ e).1).1
  where
    either : (a b : Bool) → (a || b) ≡ true → (a ≡ false → b ≡ true)
    either true b q z = absurd (false≢true (sym z))
    either false b q z = q

    letter : (b : ℕ) → is_letter b ≡ true → 65 ≤ b
    letter b q = go (leb 97 b && leb b 122) refl
      where
        go : (r : Bool) → (leb 97 b && leb b 122) ≡ r → 65 ≤ b
        go true s = let h = leb-true 97 b (and_true (leb 97 b) _ s).0 in omega arith
        go false s = leb-true 65 b (and_true (leb 65 b) _ (either (leb 97 b && leb b 122) _ q s)).0

-- what a condition's name says
no_condition : (w : List ℕ) → condition_letter w ≡ 0 → is_condition w ≡ false
unfolding condition_letter
no_condition w l = go (is_condition w) refl l
  where
    go : (b : Bool) → is_condition w ≡ b → cond b (get_or w 1 0) 0 ≡ 0 → b ≡ false
    go true q r = absurd (let h = letter_some w q in omega (arith, h, r))
    go false q r = refl

is_condition_lem : (w : List ℕ) {c : ℕ} → condition_letter w ≡ c → (c ≡ 0 → ⊥) → (is_condition w ≡ true) × (get_or w 1 0 ≡ c)
unfolding condition_letter
is_condition_lem w {c} l z = go (is_condition w) refl l
  where
    go : (b : Bool) → is_condition w ≡ b → cond b (get_or w 1 0) 0 ≡ c → (b ≡ true) × (get_or w 1 0 ≡ c)
    go true q r = (refl, r)
    go false q r = absurd (z (sym r))

-- an array of 1 to 16 strings at a place
listed : (m : List ℕ) (w j : ℕ) (t : Json) → tree_at m depth w ≡ got t j → ListOf is_string (λ u. false) t → (value5 (is_array_of is_string) m w ≡ false) × (on_value wrong_list (value_at m w) ≡ false)
unfolding value5 wrong_list
listed m w j t e l = (rw (e, l.is, l.each) refl, rw (e, l.is, le-ltb (count l.items) 1 l.some, le-ltb 16 (count l.items) l.few) refl)

-- ---- what is left, when n conditions were written and k members passed
pub record Passing (m : List ℕ) (v : ℕ) (before : List ℕ) (row : List ℕ) (list : List Needed) (n : ℕ) (x : Option ℕ) (k : ℕ) : Type 0 where
  pub object : Object m v
  pub us : Items
  pub named : Named m us
  pub first : x ≡ first_name us
  pub few : count us + k ≤ length m
  pub inside : (q w : ℕ) (t : Json) → In q w t us → In q w t object.items
  pub room : count_items (λ p t. is_condition (name_at m p)) us + n ≤ 4
  pub size : length list ≡ 4
  pub below : Below (80 + n * 32) (take n list)
  pub is : map (condition_by m row) (take n list) ++ conditions_of m us ≡ conditions_in m (Some v)
  pub same : take 80 row ≡ take 80 before
  pub long : length row ≡ length before

pub passing_start : (m : List ℕ) (v : ℕ) (row : List ℕ) (list : List Needed) → length list ≡ 4 → {x : Option ℕ} → Object m v → x ≡ first_named (start_at m v) → Passing m v row row list 0 x 0
unfolding members_at filter_counts
passing_start m v row list s o q =
    let g = group_of m v true o.items o.end o.tree in
    let (f, l) = object_named g in
    record {
      object = o;
      us = o.items;
      named = l;
      first = q ∙ f;
      few = omega (arith, items_few g);
      inside = λ q w t i. i;
      room = omega (arith, ltb-false 4 (count_items (λ p t. is_condition (name_at m p)) o.items) (or_not (ltb (count_items (λ p t. is_condition (name_at m p)) o.items) 0) _ (or_not (any_item (wrong_filter m) o.items) _ o.counts).1).1);
      size = s;
      below = tt;
      is = sym (rw o.tree refl);
      same = refl;
      long = refl;
    }

module _ {m : List ℕ} {v : ℕ} {before row : List ℕ} {list : List Needed} {n : ℕ} {x : Option ℕ} {k : ℕ} (g : Passing m v before row list n x k) where
  ended : g.us ≡ nil → FindsConditions m (Some v) before list n row
  ended e = record {
    is = sym (append-nil (map (condition_by m row) (take n list))) ∙ ap (λ (u : Items). map (condition_by m row) (take n list) ++ conditions_of m u) (sym e) ∙ g.is;
    same = g.same;
    long = g.long;
  }

  pub passing_none : x ≡ None → FindsConditions m (Some v) before list n row
  passing_none e = ended (go g.us (sym g.first ∙ e))
    where
      go : (us : Items) → first_name us ≡ None → us ≡ nil
      go nil q = refl
      go (item p w t ts) q = absurd (let y : ◌≡◌ {A = ℕ} 0 1 = cc in omega arith)

  pub passing_spent : length m ≤ k → FindsConditions m (Some v) before list n row
  unfolding count_items
  passing_spent h = ended (go g.us g.few)
    where
      go : (us : Items) → count us + k ≤ length m → us ≡ nil
      go nil q = refl
      go (item p w t ts) q = absurd (omega (arith, h))

  -- the member at p, whose value stands at w
  module _ {p w : ℕ} (e : x ≡ Some p) (ew : w ≡ value_place m p) where
    -- no condition
    pub passing_other : {y : Option ℕ} → y ≡ next_named m w → condition_letter (name_at m p) ≡ 0 → Passing m v before row list n y (k + 1)
    unfolding count_items
    passing_other {y} nx l = go g.us g.named (sym g.first ∙ e) g.few g.inside g.room g.is
      where
        go : (us : Items) → Named m us → first_name us ≡ Some p → count us + k ≤ length m → ((q w : ℕ) (t : Json) → In q w t us → In q w t g.object.items)
            → count_items (λ p t. is_condition (name_at m p)) us + n ≤ 4 → map (condition_by m row) (take n list) ++ conditions_of m us ≡ conditions_in m (Some v) → Passing m v before row list n y (k + 1)
        go nil d q f i r s = absurd (let z : ◌≡◌ {A = ℕ} 0 1 = cc in omega arith)
        go (item p' w' t ts) (one h tr nt d) q f i r s =
            let u : p' ≡ p = cc in
            let c : is_condition (name_at m p') ≡ false = ap (λ z. is_condition (name_at m z)) u ∙ no_condition (name_at m p) l in
            let ww : w ≡ w' = ew ∙ ap (value_place m) (sym u) ∙ ap (λ (o : Option ℕ). case o (λ z. z) 0) h in
            record {
              object = g.object;
              us = ts;
              named = d;
              first = nx ∙ ap (next_named m) ww ∙ nt;
              few = omega arith;
              inside = λ a b y z. i a b y (later z);
              room = rw c at r;
              size = g.size;
              below = g.below;
              is = rw c at s;
              same = g.same;
              long = g.long;
            }

    -- a condition
    module _ {c : ℕ} (lt : condition_letter (name_at m p) ≡ c) (nz : c ≡ 0 → ⊥) where
      pub passing_list : (n < 4) × (value5 (is_array_of is_string) m w ≡ false) × (on_value wrong_list (value_at m w) ≡ false)
      unfolding count_items
      passing_list = go g.us g.named (sym g.first ∙ e) g.inside g.room
        where
          go : (us : Items) → Named m us → first_name us ≡ Some p → ((q w : ℕ) (t : Json) → In q w t us → In q w t g.object.items)
              → count_items (λ p t. is_condition (name_at m p)) us + n ≤ 4 → (n < 4) × (value5 (is_array_of is_string) m w ≡ false) × (on_value wrong_list (value_at m w) ≡ false)
          go nil d q i r = absurd (let z : ◌≡◌ {A = ℕ} 0 1 = cc in omega arith)
          go (item p' w' t ts) (one {m = j} h tr nt d) q i r =
              let u : p' ≡ p = cc in
              let yes : is_condition (name_at m p') ≡ true = ap (λ z. is_condition (name_at m z)) u ∙ (is_condition_lem (name_at m p) lt nz).0 in
              let ww : w' ≡ w = sym (ew ∙ ap (value_place m) (sym u) ∙ ap (λ (o : Option ℕ). case o (λ z. z) 0) h) in
              let tr' : tree_at m depth w ≡ got t j = ap (tree_at m depth) (sym ww) ∙ deeper m 7 w' t j tr in
              let (a, b) = listed m w j t tr' (condition_is m g.object.members g.object.counts (i p' w' t here) yes) in
              let r' = rw yes at r in
              (omega (arith, r'), a, b)

      pub passing_more : {y : Option ℕ} {row' : List ℕ} {l : ℕ} → y ≡ next_named m w → Finds (spelled_by m) (strings_in m (tree_at m depth w)) 32 row (80 + n * 32) l row'
          → Passing m v before row' (set list n (record { letter = c; from = 80 + n * 32; len = l })) (n + 1) y (k + 1)
      unfolding count_items
      passing_more {y} {row'} {l} nx fd = go g.us g.named (sym g.first ∙ e) g.few g.inside g.room g.is
        where
          new : Needed
          new = record { letter = c; from = 80 + n * 32; len = l }

          go : (us : Items) → Named m us → first_name us ≡ Some p → count us + k ≤ length m → ((q w : ℕ) (t : Json) → In q w t us → In q w t g.object.items)
              → count_items (λ p t. is_condition (name_at m p)) us + n ≤ 4 → map (condition_by m row) (take n list) ++ conditions_of m us ≡ conditions_in m (Some v) → Passing m v before row' (set list n new) (n + 1) y (k + 1)
          go nil d q f i r s = absurd (let z : ◌≡◌ {A = ℕ} 0 1 = cc in omega arith)
          go (item p' w' t ts) (one {m = j} h tr nt d) q f i r s =
              let u : p' ≡ p = cc in
              let ic = is_condition_lem (name_at m p) lt nz in
              let yes : is_condition (name_at m p') ≡ true = ap (λ z. is_condition (name_at m z)) u ∙ ic.0 in
              let lc : get_or (name_at m p') 1 0 ≡ c = ap (λ z. get_or (name_at m z) 1 0) u ∙ ic.1 in
              let ww : w' ≡ w = sym (ew ∙ ap (value_place m) (sym u) ∙ ap (λ (o : Option ℕ). case o (λ z. z) 0) h) in
              let tr' : tree_at m depth w ≡ got t j = ap (tree_at m depth) (sym ww) ∙ deeper m 7 w' t j tr in
              let r' = rw yes at r in
              let s' = rw yes at s in
              let sz = g.size in
              let fl = fd.few in
              let n1 : n + 1 ≡ suc n = omega arith in
              let tk : take (n + 1) (set list n new) ≡ take n list ++ (new ∷ []) = ap (λ (z : ℕ). take z (set list n new)) n1 ∙ take-suc-set list n new (omega (arith, r')) in
              let says : condition_by m row' new ≡ record { letter = get_or (name_at m p') 1 0; members = tag_of m t } =
              ap₂ (λ (a : ℕ) (b : List (List ℕ)). record { letter = a; members = b }) (sym lc) (fd.is ∙ ap (strings_in m) tr') in
              let old = below_same m (80 + n * 32) row row' fd.same (take n list) g.below in
              record {
                object = g.object;
                us = ts;
                named = d;
                first = nx ∙ ap (next_named m) (sym ww) ∙ nt;
                few = omega arith;
                inside = λ a b y z. i a b y (later z);
                room = omega (arith, r');
                size = length-set list n new ∙ g.size;
                below = rw tk (below_last (80 + (n + 1) * 32) (take n list) new (below_more (80 + n * 32) (80 + (n + 1) * 32) (omega arith) (take n list) g.below) (omega arith));
                is =
                    ap (λ (z : List Needed). map (condition_by m row') z ++ conditions_of m ts) tk
                    ∙ ap (λ (z : List Condition). z ++ conditions_of m ts) (map_last (condition_by m row') (take n list) new)
                    ∙ ap₂ (λ (z : List Condition) (q : Condition). (z ++ (q ∷ [])) ++ conditions_of m ts) old says
                    ∙ append_assoc (map (condition_by m row) (take n list)) (record { letter = get_or (name_at m p') 1 0; members = tag_of m t } ∷ []) (conditions_of m ts)
                    ∙ s';
                same = take_shorter 80 (80 + n * 32) row' row (omega arith) fd.same ∙ g.same;
                long = fd.long ∙ g.long;
              }

pub letter_says : (m : List ℕ) (p : ℕ) {s : List ℕ} {c : ℕ} → c ≡ condition_letter (decode s) → s ≡ spelled_at m p → c ≡ condition_letter (name_at m p)
unfolding name_at
letter_says m p e q = e ∙ ap (λ (y : List ℕ). condition_letter (decode y)) q
