-- Lists: entries, a test on some entry, an entry put over another or behind the last, and how many entries differ.
use Rattle.std.specs.Prelude.{Bool, false, cond, ◌||◌, ◌≢◌, ℕ, zero, suc}
use mathlib.Core.List.{List, [], ◌∷◌, Memᴰ}

-- x stands in xs; a derivation is a place where it stands
infix 45 ◌∈◌
abbrev pub ◌∈◌ : {A : Type 0} → A → List A → Type 0
x ∈ xs = Memᴰ x xs

-- some entry passes the test
abbrev pub any : {A : Type 0} → (A → Bool) → List A → Bool
any p [] = false
any p (x ∷ xs) = p x || any p xs

-- the first place whose entry passes the test, or the length if none does
abbrev pub find : {A : Type 0} → (A → Bool) → List A → ℕ
find p [] = zero
find p (x ∷ xs) = cond (p x) zero (suc (find p xs))

-- a put over the first entry that passes the test, else behind the last
abbrev pub store : {A : Type 0} (p : A → Bool) (a : A) (xs : List A) → List A
store p a [] = a ∷ []
store p a (x ∷ xs) = cond (p x) (a ∷ xs) (x ∷ store p a xs)

-- how many different entries there are: one that stands again later is not counted
abbrev pub different : {A : Type 0} → (A → A → Bool) → List A → ℕ
different same [] = zero
different same (x ∷ xs) = cond (any (same x) xs) (different same xs) (suc (different same xs))

-- any two entries, at two places, are related
abbrev pub Pairwise : {A : Type 0} → (A → A → Type 0) → List A → Type 0
Pairwise R [] = Unit {0}
Pairwise {A} R (x ∷ xs) = ((y : A) → y ∈ xs → R x y) × Pairwise R xs

-- f takes no two entries, at two places, to one value
abbrev pub Once : {A B : Type 0} → (A → B) → List A → Type 0
Once f xs = Pairwise (λ x y. f x ≢ f y) xs
