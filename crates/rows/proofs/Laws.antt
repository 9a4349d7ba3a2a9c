-- A walk's answer a step at a time: what stands between a string's quotes, what a name says of its item, and what a
-- turn of the walk does.
use Rattle.std.specs.Prelude.{Some, None, Option}
use mathlib.Core.Path.{◌≡◌, refl, sym, ap, ◌∙◌}
use mathlib.Core.List.{List}
use mathlib.Core.Logic.{◌⊎◌, inl, inr}
use mathlib.Core.Bool.{Bool, true, false, cond, not, ◌&&◌, ◌||◌, or-false}
use Prim.Native.Nat.{ℕ, ◌+◌, ◌-◌, ◌<◌, ◌≤◌}
use native.Mathlib.Nat.{sub-zero}
use lib.ListN.{length}
use lib.Dec.{eqb}
use borrow.Author.Tests.{lt-ltb, le-ltb}
use Rattle.json_tree.specs.Grammar.{case, ws_at, string_at, number_at, literal_at, scalar_at, start_at, head_at, next_at}
use Rattle.json_tree.specs.Tree.{Json, Items, nil, item, fold_items, Got, none, got, end_of, bind, node, on_leaf, items_at, tree_at}
use Rattle.json_tree.specs.Tree.{ends_at, root}
use Rattle.json_tree.specs.declared.Kind.{Kind}
use Rattle.json_tree.specs.declared.Kind.TheVariants.{Str, Num, Word}
use Rattle.json_tree.specs.declared.Start.TheVariants.{Empty, Many}
use Rattle.json_tree.specs.declared.Next.{Next}
use Rattle.json_tree.proofs.Spelled.{string_parts}
use Rattle.json_tree.proofs.Trees.{value_open, fold_to, turned, fold_gone, fold_unnamed, fold_bad, fold_next}
use Rattle.utf8.specs.Utf8.{is_utf8}
use Rattle.spell.specs.Spell.{refuses}
use Rattle.rows.specs.declared.Seen.{Seen}
use Rattle.rows.specs.Strings.{spelled_at, refused_in, refused_items}
use Rattle.wire.specs.Limits.{most_message}
use Rattle.wire.specs.Bytes.{has_control}
use Rattle.rows.specs.Rows.{on_root, row4, text_row}
use Rattle.rows.specs.Inner.{made, seen_of, seen_at, seen_after, name_seen, seen_told}

-- ---- strings
module _ (s : List ℕ) where
  -- a string has two quotes, and lies within the text
  pub string_within : (at n : ℕ) → string_at s at ≡ Some n → (at + 2 ≤ n) × (n ≤ length s)
  string_within at n e = let r = string_parts s at n e in (r.3, r.4)

  pub scalar_string : (at n : ℕ) → scalar_at s at ≡ Some (Str n) → string_at s at ≡ Some n
  unfolding scalar_at
  scalar_string at n e = go (string_at s at) (number_at s at) (literal_at s at) e
    where
      go : (o p q : Option ℕ) → case o (λ n. Some (Str n)) (case p (λ n. Some (Num n)) (case q (λ n. Some (Word n)) None)) ≡ Some (Str n) → o ≡ Some n
      go (Some m) p q e = cc
      go None (Some m) q e = cc
      go None None (Some m) e = cc
      go None None None e = cc

-- ---- answers
-- a leaf that is no string
pub leaf_other : (s : List ℕ) (at n : ℕ) (k : Kind) → (k ≡ Num n) ⊎ (k ≡ Word n) → seen_of s (on_leaf s at (Some k)) ≡ made (ws_at s n) false
unfolding refused_in
leaf_other s at n k (inl e) = rw e
leaf_other s at n k (inr e) = rw e

-- a name, by the place of its value
module _ (s : List ℕ) (at : ℕ) (named : Bool) where
  pub name_bad : None ≡ name_seen s at named → head_at s at named ≡ None
  name_bad e = go (head_at s at named) e
    where
      go : (o : Option ℕ) → None ≡ case o (λ v. made v (named && refuses (spelled_at s at))) None → o ≡ None
      go (Some v) q = cc
      go None q = refl

  pub name_end : (x : Seen) → Some x ≡ name_seen s at named → (head_at s at named ≡ Some x.end) × (x.refused ≡ (named && refuses (spelled_at s at)))
  name_end x e = go (head_at s at named) e
    where
      go : (o : Option ℕ) → Some x ≡ case o (λ v. made v (named && refuses (spelled_at s at))) None → (o ≡ Some x.end) × (x.refused ≡ (named && refuses (spelled_at s at)))
      go (Some v) q = let z : x ≡ record { end = v; refused = named && refuses (spelled_at s at) } = cc in (ap (λ y. Some y.end) (sym z), ap (λ y. y.refused) z)
      go None q = cc

-- a value, by its end
module _ (s : List ℕ) where
  pub seen_bad : (g : Got Json) → None ≡ seen_of s g → end_of g ≡ None
  seen_bad none e = refl
  seen_bad (got t n) e = cc

  pub seen_end : (g : Got Json) (x : Seen) → Some x ≡ seen_of s g → end_of g ≡ Some x.end
  seen_end none x e = cc
  seen_end (got t n) x e = let z : x ≡ record { end = n; refused = refused_in s t } = cc in ap (λ y. Some y.end) (sym z)

  pub seen_refused : (g : Got Json) (x : Seen) (t : Json) (n : ℕ) → Some x ≡ seen_of s g → g ≡ got t n → x.refused ≡ refused_in s t
  seen_refused g x t n e q = let z : x ≡ record { end = n; refused = refused_in s t } = cc in ap (λ y. y.refused) z

-- what an end and a mark say of a value, where something may have been refused before
module _ (a r : Bool) where
  pub after_none : (o : Option Seen) → seen_at None r ≡ seen_after a o → None ≡ o
  after_none None e = refl
  after_none (Some x) e = cc

  pub after_some : (n : ℕ) (o : Option Seen) → seen_at (Some n) r ≡ seen_after a o → (x : Seen) × (Some x ≡ o) × (n ≡ x.end) × (r ≡ (a || x.refused))
  after_some n None e = cc
  after_some n (Some x) e = let z : ◌≡◌ {A = Seen} (record { end = n; refused = r }) (record { end = x.end; refused = a || x.refused }) = cc in (x, refl, ap (λ y. y.end) z, ap (λ y. y.refused) z)

-- ---- items
-- an item more: its name, where it has one, and its value
abbrev pub joined : List ℕ → Bool → Bool → ℕ → ℕ → Json → Bool
joined s named a p v t = a || ((named && refuses (spelled_at s p)) || refused_in s t)

-- the items from a place on, after what was found before
abbrev pub seen_items : List ℕ → Bool → Bool → Got Items → Option Seen
seen_items s named a g = fold_to (joined s named) None (λ b n. made n b) a g

or_four : (a x y z : Bool) → ((a || (x || y)) || z) ≡ (a || (x || (y || z)))
or_four true x y z = refl
or_four false true y z = refl
or_four false false y z = refl

or_three : (a x y : Bool) → ((a || x) || y) ≡ (a || (x || y))
or_three true x y = refl
or_three false x y = refl

fold_refused : (s : List ℕ) (named a : Bool) (ts : Items) → fold_items (joined s named) a ts ≡ (a || refused_items s named ts)
unfolding refused_in
fold_refused s named a nil = sym (or-false a)
fold_refused s named a (item p v t ts) =
    fold_refused s named (joined s named a p v t) ts ∙ or_four a (named && refuses (spelled_at s p)) (refused_in s t) (refused_items s named ts)

seen_items_lem : (s : List ℕ) (named a : Bool) (g : Got Items) → seen_items s named a g ≡ seen_after a (seen_of s (bind g λ ts n. got (node named ts) n))
unfolding refused_in
seen_items_lem s named a none = refl
seen_items_lem s true a (got ts n) = ap (made n) (fold_refused s true a ts)
seen_items_lem s false a (got ts n) = ap (made n) (fold_refused s false a ts)

pub seen_empty : (s : List ℕ) (d at n : ℕ) (named a : Bool) → (d ≡ 0 → ⊥) → Empty n named ≡ start_at s at → made n a ≡ seen_after a (seen_of s (tree_at s d at))
seen_empty s d at n named a ne e = seen_items_lem s named a (got nil n) ∙ ap (λ g. seen_after a (seen_of s g)) (value_open s d at (Empty n named) ne e)

pub seen_many : (s : List ℕ) (d at first : ℕ) (named a : Bool) → (d ≡ 0 → ⊥) → Many first named ≡ start_at s at
    → seen_items s named a (items_at (tree_at s (d - 1)) s named (length s - 0) first) ≡ seen_after a (seen_of s (tree_at s d at))
seen_many s d at first named a ne e =
    rw sub-zero (seen_items_lem s named a (items_at (tree_at s (d - 1)) s named (length s) first) ∙ ap (λ g. seen_after a (seen_of s g)) (value_open s d at (Many first named) ne e))

module _ (value : ℕ → Got Json) (s : List ℕ) (named : Bool) (k i : ℕ) (a : Bool) where
  pub seen_gone : length s ≤ k → seen_items s named a (items_at value s named (length s - k) i) ≡ None
  seen_gone h = fold_gone (joined s named) None (λ b n. made n b) a value s named k i h

  module _ (h : k < length s) where
    unnamed : None ≡ name_seen s i named → seen_items s named a (items_at value s named (length s - k) i) ≡ None
    unnamed e = fold_unnamed (joined s named) None (λ b n. made n b) a value s named k i h (name_bad s i named e)

    pub seen_unnamed : (r : Bool) → seen_at None r ≡ seen_after a (name_seen s i named) → seen_items s named a (items_at value s named (length s - k) i) ≡ None
    seen_unnamed r e = unnamed (after_none a r (name_seen s i named) e)

    module _ (x : Seen) (ex : Some x ≡ name_seen s i named) where
      no_value : None ≡ seen_of s (value x.end) → seen_items s named a (items_at value s named (length s - k) i) ≡ None
      no_value e = fold_bad (joined s named) None (λ b n. made n b) a value s named k i x.end h (name_end s i named x ex).0 (seen_bad s (value x.end) e)

      next : (y : Seen) (z : Next) (b : Bool) → Some y ≡ seen_of s (value x.end) → next_at s y.end named ≡ z
          → b ≡ (a || (x.refused || y.refused))
          → seen_items s named a (items_at value s named (length s - k) i)
          ≡ turned z None (λ e. made e b) (λ j. seen_items s named b (items_at value s named (length s - (k + 1)) j))
      next y z b ey w eb =
          let d = name_end s i named x ex in
          fold_next (joined s named) None (λ b n. made n b) a value s named k i x.end y.end z b h d.0 (seen_end s (value x.end) y ey) w
          λ t r. eb ∙ rw (d.1, seen_refused s (value x.end) y t y.end ey r)

    module _ (v : ℕ) (r : Bool) (ex : seen_at (Some v) r ≡ seen_after a (name_seen s i named)) where
      pub seen_no_value : (q : Bool) → seen_at None q ≡ seen_after r (seen_of s (value v)) → seen_items s named a (items_at value s named (length s - k) i) ≡ None
      seen_no_value q e =
          let x = after_some a r v (name_seen s i named) ex in
          no_value x.0 x.1 (after_none r q (seen_of s (value x.0.end)) (rw x.2 at e))

      pub seen_next : (n : ℕ) (z : Next) (q : Bool) → seen_at (Some n) q ≡ seen_after r (seen_of s (value v)) → next_at s n named ≡ z
          → seen_items s named a (items_at value s named (length s - k) i)
          ≡ turned z None (λ e. made e q) (λ j. seen_items s named q (items_at value s named (length s - (k + 1)) j))
      seen_next n z q e w =
          let x = after_some a r v (name_seen s i named) ex in
          let y = after_some r q n (seen_of s (value x.0.end)) (rw x.2 at e) in
          next x.0 x.1 y.0 z q y.1 (rw y.2 at w) (y.3 ∙ ap (λ b. b || y.0.refused) x.3 ∙ or_three a x.0.refused y.0.refused)

-- ---- the text
module _ (s : List ℕ) where
  -- rows 3 and 4, by the answer at the root
  told_root : (k : ℕ) (g : Got Json) → seen_told (seen_of s g) k ≡ cond (not (ends_at k (end_of g))) 3 (cond (on_root (refused_in s) g) 4 0)
  told_root k none = refl
  told_root k (got t n) = go (eqb n k)
    where
      go : (e : Bool) → ◌≡◌ {A = ℕ} (cond e (cond (refused_in s t) 4 0) 3) (cond (not e) 3 (cond (refused_in s t) 4 0))
      go true = refl
      go false = refl

  -- the ways out of text_row
  pub row_long : most_message < length s → 1 ≡ text_row s
  unfolding text_row
  row_long h = rw (lt-ltb most_message (length s) h)

  module _ (h : length s ≤ most_message) where
    pub row_bytes : is_utf8 s ≡ false → 2 ≡ text_row s
    unfolding text_row
    row_bytes e = rw (le-ltb most_message (length s) h, e)

    pub row_raw : is_utf8 s ≡ true → has_control s ≡ true → 3 ≡ text_row s
    unfolding text_row
    row_raw e f = rw (le-ltb most_message (length s) h, e, f)

    pub row_told_lem : (x : Option Seen) (r : ℕ) → is_utf8 s ≡ true → has_control s ≡ false → x ≡ seen_of s (root s) → r ≡ seen_told x (length s) → r ≡ text_row s
    unfolding text_row row4
    row_told_lem x r e f ex er = er ∙ rw (ex, le-ltb most_message (length s) h, e, f) (told_root (length s) (root s))
