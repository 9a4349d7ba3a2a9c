-- What the private functions of the matcher hand on.
use Rattle.std.specs.Prelude.{Bool, false, cond, ◌&&◌, List, [], ◌∷◌, ℕ, ◌+◌, ◌-◌, ℤ, Option, Some, None}
use Rattle.wire.specs.Bytes.{Bytes, part, same_bytes}
use Rattle.spell.specs.Spell.{decode}
use Rattle.json_tree.specs.Grammar.{case, string_at, start_at}
use Rattle.rows.specs.Strings.{spelled_at}
use Rattle.message.specs.declared.Element.{Element}
use Rattle.message.specs.declared.Element.TheVariants as element
use Rattle.message.specs.Lists.{start_element, next_of}
use Rattle.query.specs.Filter.{Filter, Condition}
use Rattle.query.specs.Match.{is_member, is_listed, kind_listed, since_holds, until_holds}

-- an element's place, if there is one
abbrev pub placed : Element → Option ℕ
placed (element.At v) = Some v
placed element.Ended = None
placed element.Broken = None

-- the condition #x, x being a letter, with these members
abbrev pub asked : ℕ → List (List ℕ) → Condition
asked x ms = record { letter = x; members = ms }

-- the second string of the tag at a place, if its first is the letter
abbrev pub second_span : Bytes → Option ℕ → Option (ℕ × ℕ)
second_span b None = None
second_span b (Some j) = case (string_at b j) (λ n. Some ((j + 1), (n - j - 2))) (Some (0, 0))

abbrev pub second_from : (b : Bytes) (k : ℕ) (l : Option ℕ) → Option (ℕ × ℕ)
second_from b x None = None
second_from b x (Some i) = cond (same_bytes (decode (spelled_at b i)) (x ∷ [])) (second_span b (placed (next_of b i))) None

unfoldable pub second_of : (b : Bytes) (v x : ℕ) → Option (ℕ × ℕ)
second_of b v x = second_from b x (placed (start_element (start_at b v)))

-- it is in the list
abbrev pub fits_by : (b : Bytes) (ms : List (List ℕ)) (x : Option (ℕ × ℕ)) → Bool
fits_by b ms None = false
fits_by b ms (Some (a, n)) = is_member ms (decode (part b a n))

-- the conditions on an event's public key, kind and time
unfoldable pub fields_hold : (f : Filter) (key : Bytes) (time : ℤ) (kind : ℕ) → Bool
fields_hold f key time kind =
    is_listed f.authors key && (kind_listed f.kinds kind &&
    (since_holds f.since time && until_holds f.until time))
