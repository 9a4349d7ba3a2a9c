-- 01, "The right form for each place": "lists kept beside it". A list is the place of its array; its meaning is the
-- list of the places of its elements, which are the items of the tree there (proofs/Elements.antt).
use Rattle.std.specs.Prelude.{ℕ, zero, suc, List, [], ◌∷◌, length, true, false}
use Rattle.json_tree.specs.Grammar.{case, start_at, next_at}
use Rattle.json_tree.specs.Tree.{Items, nil, item, end_of, tree_at}
use Rattle.json_tree.specs.declared.Start.{Start}
use Rattle.json_tree.specs.declared.Start.TheVariants.{Leaf, Empty, Many}
use Rattle.json_tree.specs.declared.Next.{Next}
use Rattle.json_tree.specs.declared.Next.TheVariants.{More, Done, Wrong}
use Rattle.message.specs.declared.Element.{Element}
use Rattle.message.specs.declared.Element.TheVariants.{At, Ended, Broken}
use Rattle.wire.specs.Bytes.{Bytes, Place}

-- the first element of the array that begins so; Broken where no array begins
abbrev pub start_element : Start → Element
start_element Leaf = Broken
start_element (Empty n true) = Broken
start_element (Empty n false) = Ended
start_element (Many i true) = Broken
start_element (Many i false) = At i

-- what stands after an element: a comma, the closing bracket, neither
abbrev pub more_of : Next → Element
more_of (More j) = At j
more_of (Done n) = Ended
more_of Wrong = Broken

-- the brackets and braces that may be open at once within an element
abbrev pub open_within : ℕ
open_within = 7

-- the element after the one at v; Broken where no value stands there
unfoldable pub next_of : Bytes → ℕ → Element
next_of s v = case (end_of (tree_at s open_within v)) (λ n. more_of (next_at s n false)) Broken

-- an element and those after it, of at most f
unfoldable pub up_to : (f : ℕ) (s : Bytes) (x : Element) → List ℕ
up_to zero s x = []
up_to (suc f) s Ended = []
up_to (suc f) s Broken = []
up_to (suc f) s (At v) = v ∷ up_to f s (next_of s v)

-- an element and those after it: a text has no more elements than bytes
unfoldable pub elements_from : Bytes → Element → List ℕ
elements_from s x = up_to (length s) s x

-- the elements of the array at a place
unfoldable pub elements : Bytes → Place → List ℕ
elements s at = elements_from s (start_element (start_at s at))

-- the places of a tree's items
abbrev pub places_of : Items → List ℕ
places_of nil = []
places_of (item p v t ts) = v ∷ places_of ts
