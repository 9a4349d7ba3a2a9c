-- Events at bytes. The class, the key and the time of a text are left open: the laws hold whatever they are.
use Rattle.std.specs.Prelude.{Bool, true, false, not, ◌&&◌, ◌||◌, List, [], ◌∷◌, ℕ, ltb, ℤ}
use Rattle.std.specs.Int.Signed.{lt_z}
use Rattle.wire.specs.Bytes.{Bytes, same_bytes}
use Rattle.law.specs.Table.{Class, Events}

-- 01: "The set held is the pairs of id and text"
pub record Event : Type 0 where
  pub id : List ℕ
  pub text : List ℕ

-- by the first byte that differs; of two where one begins the other, the shorter
abbrev pub lower : List ℕ → Bytes → Bool
lower [] [] = false
lower [] (y ∷ ys) = true
lower (x ∷ xs) [] = false
lower (x ∷ xs) (y ∷ ys) = ltb x y || (not (ltb y x) && lower xs ys)

-- 01: "created_at compares as a signed number"
abbrev pub earlier : ℤ → ℤ → Bool
earlier a b = lt_z a b

-- 01: "between equal times the lower id is newer"; "We apply that tie rule to addressable kinds too."
abbrev pub newer : (time : List ℕ → ℤ) (e f : Event) → Bool
newer time e f =
    earlier (time f.text) (time e.text) ||
    (not (earlier (time e.text) (time f.text)) && lower e.id f.id)

abbrev pub events : (Key : Type 0) (same_key : Key → Key → Bool) (class : List ℕ → Class Key) (time : List ℕ → ℤ) →
    Events
events Key same_key class time = record {
  Event = Event;
  Id = List ℕ;
  Key = Key;
  id_of = λ e. e.id;
  class_of = λ e. class e.text;
  same_id = same_bytes;
  same_key = same_key;
  newer = newer time;
}
