-- A walk over an object's members finds the first of each name; what stands at its place is the member's tree.
use Rattle.std.specs.Prelude.{Option, Some, None}
use mathlib.Core.Path.{◌≡◌, refl, ap, ◌∙◌}
use mathlib.Core.List.{List}
use mathlib.Core.Bool.{Bool, true, false, cond}
use Prim.Native.Nat.{ℕ, suc}
use lib.ListN.{length}
use lib.IntN.{pos}
use Rattle.json_tree.specs.Grammar.{scalar_at, start_at}
use Rattle.json_tree.specs.Tree.{Json, arr, obj, Items, nil, item, fold_items, Got, none, got, bind, on_leaf, node, items_at}
use Rattle.json_tree.specs.Tree.{group_at, tree_at}
use Rattle.json_tree.specs.declared.Kind.{Kind}
use Rattle.json_tree.specs.declared.Kind.TheVariants.{Str, Num, Word}
use Rattle.json_tree.specs.declared.Start.{Start}
use Rattle.json_tree.specs.declared.Start.TheVariants.{Leaf, Empty, Many}
use Rattle.json_tree.proofs.Trees.{tree_open, fold_got}
use Rattle.rows.specs.Strings.{spelled_at}
use Rattle.shape.specs.Shape.{name_at, named, id_name, pubkey_name, created_at_name, kind_name, tags_name, content_name}
use Rattle.shape.specs.Shape.{sig_name, ids_name, authors_name, kinds_name, since_name, until_name, limit_name}
use Rattle.message.specs.declared.Members.{Members}
use Rattle.message.specs.Lists.{open_within}
use Rattle.message.specs.Parts.{Member, missing, member, member_of, nowhere, span_of, number_spelled, span_in}
use Rattle.message.specs.Parts.{number_in, place_in, bound_in, listed_in, body_of, event_parts_of, filter_parts_of}
use Rattle.message.specs.Parts.{members_got, members_at, event_at, filter_at}
use Rattle.message.specs.Inner.{kept_place, step_of, no_members, found_in, on_start, leaf_at, got_or, span_at, number_leaf}
use Rattle.message.specs.Inner.{span_found, number_found, bound_found, filter_found, place_found, body_found}
use Rattle.message.proofs.Walks.{Walk, last, more, walk_of}

-- ---- a fold over the members of the object at a place, where a value begins
module _ {A : Type 0} (f : A → ℕ → ℕ → Json → A) (z : A) (s : List ℕ) where
  abbrev pub fold_start : Start → A
  fold_start Leaf = z
  fold_start (Empty n named) = z
  fold_start (Many i true) = fold_got f z z (items_at (tree_at s open_within) s true (length s) i)
  fold_start (Many i false) = z

  pub fold_open : (at : ℕ) (r : Start) → r ≡ start_at s at → fold_start r ≡ fold_items f z (members_at s at)
  unfolding members_at
  fold_open at r e = rw (tree_open s open_within at r e) (on r)
    where
      leaf : (k : Option Kind) → z ≡ fold_items f z (members_got (on_leaf s at k))
      leaf (Some (Str n)) = refl
      leaf (Some (Num n)) = refl
      leaf (Some (Word n)) = refl
      leaf None = refl

      array : (g : Got Items) → z ≡ fold_items f z (members_got (bind g λ ts n. got (node false ts) n))
      array none = refl
      array (got ts n) = refl

      object : (g : Got Items) → fold_got f z z g ≡ fold_items f z (members_got (bind g λ ts n. got (node true ts) n))
      object none = refl
      object (got ts n) = refl

      on : (r : Start) → fold_start r ≡ fold_items f z (members_got (group_at (tree_at s open_within) s at r))
      on Leaf = leaf (scalar_at s at)
      on (Empty n true) = refl
      on (Empty n false) = refl
      on (Many i true) = object (items_at (tree_at s open_within) s true (length s) i)
      on (Many i false) = array (items_at (tree_at s open_within) s false (length s) i)

-- ---- the first of a name
abbrev pub by : List ℕ → Bool → Members → ℕ → ℕ → Json → Members
by s event a p v t = step_of s event a p v

abbrev or_else : Option ℕ → Member → Option ℕ
or_else (Some u) m = Some u
or_else None m = listed_in m

or_missing : (x : Option ℕ) → x ≡ or_else x missing
or_missing (Some u) = refl
or_missing None = refl

module _ (s w : List ℕ) where
  or_kept : (x : Option ℕ) (p v : ℕ) (t : Json) (ts : Items) → or_else (kept_place (spelled_at s p) w x v) (member_of s w ts) ≡ or_else x (member_of s w (item p v t ts))
  unfolding kept_place member_of name_at
  or_kept (Some u) p v t ts = refl
  or_kept None p v t ts = go (named s w p)
    where
      go : (b : Bool) → or_else (cond b (Some v) None) (member_of s w ts) ≡ listed_in (cond b (member v t) (member_of s w ts))
      go true = refl
      go false = refl

  fold_first : (f : Members → ℕ → ℕ → Json → Members) (part : Members → Option ℕ)
      → ((a : Members) (p v : ℕ) (t : Json) → part (f a p v t) ≡ kept_place (spelled_at s p) w (part a) v)
      → (a : Members) (ts : Items) → part (fold_items f a ts) ≡ or_else (part a) (member_of s w ts)
  unfolding member_of
  fold_first f part step a nil = or_missing (part a)
  fold_first f part step a (item p v t ts) =
      fold_first f part step (f a p v t) ts ∙ ap (λ x. or_else x (member_of s w ts)) (step a p v t) ∙ or_kept (part a) p v t ts

-- ---- what stands at a member's place
module _ (s : List ℕ) (v : ℕ) {A : Type 0} (f : Json → A) (z : A) (onArr : (ts : Items) → z ≡ f (arr ts)) (onObj : (ts : Items) → z ≡ f (obj ts)) where
  leaf_is : (d : ℕ) → got_or f z (on_leaf s v (leaf_at s v)) ≡ got_or f z (tree_at s (suc d) v)
  unfolding leaf_at
  leaf_is d = rw (tree_open s d v (start_at s v) refl) (on (start_at s v))
    where
      group : (named : Bool) (ts : Items) → z ≡ f (node named ts)
      group true ts = onObj ts
      group false ts = onArr ts

      many : (named : Bool) (g : Got Items) → z ≡ got_or f z (bind g λ ts n. got (node named ts) n)
      many named none = refl
      many named (got ts n) = group named ts

      on : (r : Start) → got_or f z (on_leaf s v (on_start (scalar_at s v) r)) ≡ got_or f z (group_at (tree_at s d) s v r)
      on Leaf = refl
      on (Empty n named) = group named nil
      on (Many i named) = many named (items_at (tree_at s d) s named (length s) i)

module _ (s : List ℕ) (v : ℕ) {n : ℕ} {t : Json} (e : tree_at s open_within v ≡ got t n) where
  pub span_is : span_at s v ≡ span_of t
  unfolding span_at
  span_is = leaf_is s v span_of nowhere (λ ts. refl) (λ ts. refl) 6 ∙ ap (got_or span_of nowhere) e

  pub number_is : number_leaf s v ≡ number_spelled s t
  unfolding number_leaf
  number_is = leaf_is s v (number_spelled s) (pos 0) (λ ts. refl) (λ ts. refl) 6 ∙ ap (got_or (number_spelled s) (pos 0)) e

-- ---- the members of the object at a place are read there
pub data Reads (value : ℕ → Got Json) : Items → Type 0 where
  end : Reads value nil
  one : {p v n : ℕ} {t : Json} {ts : Items} → value v ≡ got t n → Reads value ts → Reads value (item p v t ts)

pub walk_reads : {value : ℕ → Got Json} {s : List ℕ} {named : Bool} {f i : ℕ} {ts : Items} {n : ℕ} → Walk value s named f i ts n → Reads value ts
walk_reads (last h w q) = one w end
walk_reads (more h w q r) = one w (walk_reads r)

-- a member that is there is read at its place
pub data Seen (value : ℕ → Got Json) : Member → Type 0 where
  gone : Seen value missing
  there : {v n : ℕ} {t : Json} → value v ≡ got t n → Seen value (member v t)

pub member_seen : {value : ℕ → Got Json} (s w : List ℕ) {ts : Items} → Reads value ts → Seen value (member_of s w ts)
unfolding member_of
member_seen s w end = gone
member_seen {value} s w (one {p = p} {v = v} {t = t} {ts = ts} e r) = go (named s w p) (member_seen s w r)
  where
    go : (b : Bool) → Seen value (member_of s w ts) → Seen value (cond b (member v t) (member_of s w ts))
    go true h = there e
    go false h = h

module _ (s : List ℕ) where
  span_in_lem : {m : Member} → Seen (tree_at s open_within) m → span_found s (listed_in m) ≡ span_in m
  span_in_lem gone = refl
  span_in_lem (there {v = v} e) = span_is s v e

  number_in_lem : {m : Member} → Seen (tree_at s open_within) m → number_found s (listed_in m) ≡ number_in s m
  number_in_lem gone = refl
  number_in_lem (there {v = v} e) = number_is s v e

  bound_in_lem : {m : Member} → Seen (tree_at s open_within) m → bound_found s (listed_in m) ≡ bound_in s m
  bound_in_lem gone = refl
  bound_in_lem (there {v = v} e) = rw (number_is s v e)

place_in_lem : (m : Member) → place_found (listed_in m) ≡ place_in m
place_in_lem missing = refl
place_in_lem (member v t) = refl

-- ---- the members of the object at a place are read there
pub members_read : (s : List ℕ) (at : ℕ) → Reads (tree_at s open_within) (members_at s at)
unfolding members_at
members_read s at = rw (tree_open s open_within at (start_at s at) refl) (on (start_at s at))
  where
    leaf : (k : Option Kind) → Reads (tree_at s open_within) (members_got (on_leaf s at k))
    leaf (Some (Str n)) = end
    leaf (Some (Num n)) = end
    leaf (Some (Word n)) = end
    leaf None = end

    many : (named : Bool) (i : ℕ) (g : Got Items) → items_at (tree_at s open_within) s named (length s) i ≡ g → Reads (tree_at s open_within) (members_got (bind g λ ts n. got (node named ts) n))
    many named i none q = end
    many true i (got ts n) q = walk_reads (walk_of (tree_at s open_within) s true (length s) i ts n q)
    many false i (got ts n) q = end

    on : (r : Start) → Reads (tree_at s open_within) (members_got (group_at (tree_at s open_within) s at r))
    on Leaf = leaf (scalar_at s at)
    on (Empty n true) = end
    on (Empty n false) = end
    on (Many i named) = many named i (items_at (tree_at s open_within) s named (length s) i) refl

-- ---- the parts from the places that were found
module _ (s : List ℕ) (at : ℕ) (m : Members) where
  seen : (w : List ℕ) → Seen (tree_at s open_within) (member_of s w (members_at s at))
  seen w = member_seen s w (members_read s at)

  module _ (event : Bool) (e : m ≡ found_in s event (members_at s at)) where
    found : (w : List ℕ) (part : Members → Option ℕ) → ((a : Members) (p v : ℕ) (t : Json) → part (step_of s event a p v) ≡ kept_place (spelled_at s p) w (part a) v)
        → part no_members ≡ None → part m ≡ listed_in (member_of s w (members_at s at))
    found w part step z = ap part e ∙ fold_first s w (by s event) part step no_members (members_at s at) ∙ ap (λ x. or_else x (member_of s w (members_at s at))) z

  pub event_is : m ≡ found_in s true (members_at s at) → record { id = span_found s m.first; body = body_found s m; sig = span_found s m.seventh } ≡ event_at s at
  unfolding event_at event_parts_of body_of body_found step_of
  event_is e =
      simp (
        found true e id_name (λ a. a.first) (λ a p v t. refl) refl,
        found true e pubkey_name (λ a. a.second) (λ a p v t. refl) refl,
        found true e created_at_name (λ a. a.third) (λ a p v t. refl) refl,
        found true e kind_name (λ a. a.fourth) (λ a p v t. refl) refl,
        found true e tags_name (λ a. a.fifth) (λ a p v t. refl) refl,
        found true e content_name (λ a. a.sixth) (λ a p v t. refl) refl,
        found true e sig_name (λ a. a.seventh) (λ a p v t. refl) refl,
        span_in_lem s (seen id_name),
        span_in_lem s (seen pubkey_name),
        number_in_lem s (seen created_at_name),
        number_in_lem s (seen kind_name),
        place_in_lem (member_of s tags_name (members_at s at)),
        span_in_lem s (seen content_name),
        span_in_lem s (seen sig_name),
      )

  pub filter_is : m ≡ found_in s false (members_at s at) → filter_found s m (Some at) ≡ filter_at s at
  unfolding filter_at filter_parts_of step_of
  filter_is e =
      let ids = found false e ids_name (λ a. a.first) (λ a p v t. refl) refl in
      let authors = found false e authors_name (λ a. a.second) (λ a p v t. refl) refl in
      let kinds = found false e kinds_name (λ a. a.third) (λ a p v t. refl) refl in
      let since = found false e since_name (λ a. a.fourth) (λ a p v t. refl) refl in
      let until = found false e until_name (λ a. a.fifth) (λ a p v t. refl) refl in
      let limit = found false e limit_name (λ a. a.sixth) (λ a p v t. refl) refl in
      simp (ids, authors, kinds, since, until, limit, bound_in_lem s (seen since_name), bound_in_lem s (seen until_name), bound_in_lem s (seen limit_name))
