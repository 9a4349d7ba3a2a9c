-- RFC 8259, sections 2 to 5: a text read into a tree, whose leaves are places in the text, each a start and a length.
-- Every later rule is defined on the tree.
use Rattle.std.specs.Prelude.{ℕ, zero, suc, ◌+◌, ◌-◌, Bool, true, false, not, ◌&&◌, length, eqb, Option, Some, None}
use Rattle.json_tree.specs.declared.Kind.{Kind}
use Rattle.json_tree.specs.declared.Kind.TheVariants.{Str, Num, Word}
use Rattle.json_tree.specs.declared.Start.{Start}
use Rattle.json_tree.specs.declared.Start.TheVariants.{Leaf, Empty, Many}
use Rattle.json_tree.specs.declared.Next.{Next}
use Rattle.json_tree.specs.declared.Next.TheVariants.{More, Done, Wrong}
use Rattle.json_tree.specs.Grammar.{case, ws_at, scalar_at, start_at, head_at, next_at}
use Rattle.wire.specs.Bytes.{Bytes, Place, has_control}

-- 01, row 3: the most brackets and braces that may be open at once
abbrev pub depth : ℕ
depth = 8

mutual
  pub data Json : Type 0 where
    -- false, null or true
    word : ℕ → ℕ → Json
    num : ℕ → ℕ → Json
    -- what stands between the quotation marks, as spelled
    str : ℕ → ℕ → Json
    arr : Items → Json
    obj : Items → Json

  -- `item p v t ts`: the item that begins at p, in an object with its name's quotation mark, has the value t, which
  -- begins at v; then ts
  pub data Items : Type 0 where
    nil : Items
    item : ℕ → ℕ → Json → Items → Items

-- `got t n`: t stands there, and the text goes on at n
pub data Got (A : Type 0) : Type 0 where
  none : Got A
  got : A → ℕ → Got A

abbrev pub end_of : {A : Type 0} → Got A → Option ℕ
end_of none = None
end_of (got t n) = Some n

abbrev pub bind : {A B : Type 0} → Got A → (A → ℕ → Got B) → Got B
bind none k = none
bind (got t n) k = k t n

-- a value that holds no value, and the ws after it
abbrev pub on_leaf : (s : Bytes) (at : Place) (x : Option Kind) → Got Json
on_leaf s at (Some (Str n)) = got (str (at + 1) (n - at - 2)) (ws_at s n)
on_leaf s at (Some (Num n)) = got (num at (n - at)) (ws_at s n)
on_leaf s at (Some (Word n)) = got (word at (n - at)) (ws_at s n)
on_leaf s at None = none

abbrev pub follow : (f : Items → Items) (x : Next) (rest : ℕ → Got Items) → Got Items
follow f (More n) rest = bind (rest n) λ ts m. got (f ts) m
follow f (Done n) rest = got (f nil) n
follow f Wrong rest = none

-- item *( value-separator item ), and what closes; of at most f items
unfoldable pub items_at : (value : ℕ → Got Json) (s : Bytes) (named : Bool) (f : ℕ) (at : Place) → Got Items
items_at value s named zero at = none
items_at value s named (suc f) at =
    case (head_at s at named) (λ v. bind (value v) λ t n. follow (item at v t) (next_at s n named)
    (items_at value s named f)) none

abbrev pub node : Bool → Items → Json
node true ts = obj ts
node false ts = arr ts

-- a text has no more items than bytes
abbrev pub group_at : (value : ℕ → Got Json) (s : Bytes) (at : Place) (x : Start) → Got Json
group_at value s at Leaf = on_leaf s at (scalar_at s at)
group_at value s at (Empty n named) = got (node named nil) n
group_at value s at (Many first named) = bind (items_at value s named (length s) first) λ ts n. got (node named ts) n

-- value, with at most d brackets and braces open at once, and the ws after it
unfoldable pub tree_at : (s : Bytes) (d : ℕ) (at : Place) → Got Json
tree_at s zero at = on_leaf s at (scalar_at s at)
tree_at s (suc d) at = group_at (tree_at s d) s at (start_at s at)

abbrev pub ends_at : ℕ → Option ℕ → Bool
ends_at k (Some n) = eqb n k
ends_at k None = false

-- the value of a text
abbrev pub root : Bytes → Got Json
root s = tree_at s depth (ws_at s 0)

-- JSON-text = ws value ws. In a text of the RFC no control character stands raw: crate grammar proves that this is just
-- the RFC's text
abbrev pub is_text : Bytes → Bool
is_text s = not (has_control s) && ends_at (length s) (end_of (root s))

-- f over the items, from the first on
abbrev pub fold_items : {A : Type 0} (f : A → ℕ → ℕ → Json → A) (a : A) (ts : Items) → A
fold_items f a nil = a
fold_items f a (item p v t ts) = fold_items f (f a p v t) ts

-- what f makes of a string, of a number, of the items of an array or of an object; z of any other value
abbrev pub of_string : {A : Type 0} (z : A) (f : ℕ → ℕ → A) (x : Json) → A
of_string z f (word a n) = z
of_string z f (num a n) = z
of_string z f (str a n) = f a n
of_string z f (arr ts) = z
of_string z f (obj ts) = z

abbrev pub of_number : {A : Type 0} (z : A) (f : ℕ → ℕ → A) (x : Json) → A
of_number z f (word a n) = z
of_number z f (num a n) = f a n
of_number z f (str a n) = z
of_number z f (arr ts) = z
of_number z f (obj ts) = z

abbrev pub of_array : {A : Type 0} (z : A) (f : Items → A) (x : Json) → A
of_array z f (word a n) = z
of_array z f (num a n) = z
of_array z f (str a n) = z
of_array z f (arr ts) = f ts
of_array z f (obj ts) = z

abbrev pub of_object : {A : Type 0} (z : A) (f : Items → A) (x : Json) → A
of_object z f (word a n) = z
of_object z f (num a n) = z
of_object z f (str a n) = z
of_object z f (arr ts) = z
of_object z f (obj ts) = f ts

-- whether f holds of a string, of a number, of the items of an array or of an object; of any other value it does not
abbrev pub on_string : (ℕ → ℕ → Bool) → Json → Bool
on_string f = of_string false f

abbrev pub on_number : (ℕ → ℕ → Bool) → Json → Bool
on_number f = of_number false f

abbrev pub on_array : (Items → Bool) → Json → Bool
on_array f = of_array false f

abbrev pub on_object : (Items → Bool) → Json → Bool
on_object f = of_object false f
