-- One pass over slots that stand newest first: each filter has a number of matches that it still takes, to begin with
-- its limit.
use Rattle.std.specs.Prelude.{Bool, true, false, cond, List, [], ◌∷◌, ◌++◌, map, ℕ, suc, ◌+◌, ◌-◌, min, ltb, take}
use Rattle.std.specs.Prelude.{replicate, Option, Some, None, ℤ}
use Rattle.message.specs.declared.FilterParts.{FilterParts}
use Rattle.event.specs.Lent.{natural}
use Rattle.table.specs.Layout.{count_of}
use Rattle.query.specs.Answer.{numbers_from, newest_first, newer_slot}
use Rattle.matching.specs.Inner.Hits.{hit_at}

-- how many more matches a filter takes, once it has met a slot
abbrev pub after : Bool → ℕ → ℕ
after true k = k - 1
after false k = k

-- `hit f s`: filter number f matches slot s. What is left to each filter from f on, and how many of them take s
unfoldable pub lefts : (hit : ℕ → ℕ → Bool) (s f : ℕ) (ks : List ℕ) → List ℕ
lefts hit s f [] = []
lefts hit s f (k ∷ ks) = after (hit f s) k ∷ lefts hit s (suc f) ks

unfoldable pub takers : (hit : ℕ → ℕ → Bool) (s f : ℕ) (ks : List ℕ) → ℕ
takers hit s f [] = 0
takers hit s f (k ∷ ks) = (k - after (hit f s) k) + takers hit s (suc f) ks

-- the slots that some filter takes
unfoldable pub pass : (hit : ℕ → ℕ → Bool) (ks l : List ℕ) → List ℕ
pass hit ks [] = []
pass hit ks (s ∷ l) =
    cond (ltb 0 (takers hit s 0 ks)) (s ∷ pass hit (lefts hit s 0 ks) l) (pass hit (lefts hit s 0 ks) l)

-- some filter takes s where each has its number to begin with
unfoldable pub may_take : (hit : ℕ → ℕ → Bool) (ks : List ℕ) (s : ℕ) → Bool
may_take hit ks s = ltb 0 (takers hit s 0 ks)

-- a number to begin with: c where there is no limit, c being at least as many as there are slots
abbrev pub room : ℕ → Option ℤ → ℕ
room c None = c
room c (Some z) = min (natural z) c

abbrev pub room_for : ℕ → FilterParts → ℕ
room_for c p = room c p.limit

-- four numbers, of which those past the first n filters are 0
unfoldable pub rooms : (c n : ℕ) (fs : List FilterParts) → List ℕ
rooms c n fs = map (room_for c) (take n fs) ++ replicate (4 - n) 0

-- the slots of the table b that the first n filters take, where the bytes h say what matches
unfoldable pub pass_taken : (b h : List ℕ) (fs : List FilterParts) (n : ℕ) → List ℕ
pass_taken b h fs n = pass (hit_at h) (rooms (count_of b) n fs) (newest_first (newer_slot b) (numbers_from 0 (count_of b)))
