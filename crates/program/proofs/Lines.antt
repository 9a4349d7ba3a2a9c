-- The program: lines, and what it writes for them.
use mathlib.Core.Path.{◌≡◌, refl, sym, ap, ◌∙◌}
use mathlib.Core.Bool.{Bool, true, false, cond, ◌||◌, false≢true}
use mathlib.Core.List.{List, [], ◌∷◌, ◌++◌, map, append_assoc}
use Prim.Native.Nat.{ℕ}
use lib.ListN.{replicate, length-replicate}
use Rattle.law.specs.Lists.{any}
use Rattle.table.specs.Layout.{table_size}
use Rattle.table.proofs.Formatted.{formatted_capacity, formatted_view, formatted_length}
use Rattle.reply.specs.Replies.{Reply, reply_text}
use Rattle.program.specs.Program.{push_byte, replies_to, table_after, lines, reply_line, written, output_from}
use Rattle.program.specs.Program.{program_slots, fresh_table, output}
use Rattle.program.specs.Claims.Program.{LineEnds, LastLine, NoLine, FreshTable, table_from, replies_from, GoesOn}
use Rattle.program.specs.Claims.Program.{OutputGoesOn, OutputIs, OutputLines}
use Rattle.reply.specs.Claims.{is_newline, Plain}
use Rattle.program.proofs.Example.{row_0, fresh_sound}
use Rattle.reply.proofs.Plain.{reply_plain}

-- ---- lines
pub line_ends : LineEnds
unfolding lines
line_ends [] rest p = refl
line_ends (x ∷ l) rest p = go (is_newline x) p (line_ends l rest)
  where
    go : (b : Bool) → (b || any is_newline l) ≡ false → (Plain l → lines (l ++ (0x0a ∷ rest)) ≡ l ∷ lines rest)
        → cond b ([] ∷ lines (l ++ (0x0a ∷ rest))) (push_byte x (lines (l ++ (0x0a ∷ rest)))) ≡ (x ∷ l) ∷ lines rest
    go true h ih = absurd (false≢true (sym h))
    go false h ih = ap (push_byte x) (ih h)

pub no_line_lem : NoLine
unfolding lines
no_line_lem = refl

pub last_line_lem : LastLine
unfolding lines
last_line_lem x [] p = go (is_newline x) p
  where
    go : (b : Bool) → (b || false) ≡ false → cond b ([] ∷ []) ((x ∷ []) ∷ []) ≡ (x ∷ []) ∷ []
    go true h = absurd (false≢true (sym h))
    go false h = refl
last_line_lem x (y ∷ l) p = go (is_newline x) p (last_line_lem y l)
  where
    go : (b : Bool) → (b || any is_newline (y ∷ l)) ≡ false → (Plain (y ∷ l) → lines (y ∷ l) ≡ (y ∷ l) ∷ [])
        → cond b ([] ∷ lines (y ∷ l)) (push_byte x (lines (y ∷ l))) ≡ (x ∷ y ∷ l) ∷ []
    go true h ih = absurd (false≢true (sym h))
    go false h ih = ap (push_byte x) (ih h)

-- a line's end parts the lines before it from those after it
data Some : List (List ℕ) → Type 0 where
  some : {l : List ℕ} {ls : List (List ℕ)} → Some (l ∷ ls)

push_append : (x : ℕ) (ls ms : List (List ℕ)) → Some ls → push_byte x (ls ++ ms) ≡ push_byte x ls ++ ms
push_append x (l ∷ ls) ms some = refl
push_append x [] ms none = elim none [ ]

some_line : (s : List ℕ) → Some (lines (s ++ (0x0a ∷ [])))
unfolding lines
some_line [] = some
some_line (x ∷ s) = go (is_newline x) (lines (s ++ (0x0a ∷ [])))
  where
    go : (b : Bool) (ls : List (List ℕ)) → Some (cond b ([] ∷ ls) (push_byte x ls))
    go true ls = some
    go false [] = some
    go false (l ∷ ls) = some

lines_part : (s rest : List ℕ) → lines (s ++ (0x0a ∷ rest)) ≡ lines (s ++ (0x0a ∷ [])) ++ lines rest
unfolding lines
lines_part [] rest = refl
lines_part (x ∷ s) rest = go (is_newline x) (lines_part s rest)
  where
    go : (b : Bool) → lines (s ++ (0x0a ∷ rest)) ≡ lines (s ++ (0x0a ∷ [])) ++ lines rest
        → cond b ([] ∷ lines (s ++ (0x0a ∷ rest))) (push_byte x (lines (s ++ (0x0a ∷ rest)))) ≡ cond b ([] ∷ lines (s ++ (0x0a ∷ []))) (push_byte x (lines (s ++ (0x0a ∷ [])))) ++ lines rest
    go true e = ap ([] ∷◌) e
    go false e = ap (push_byte x) e ∙ push_append x (lines (s ++ (0x0a ∷ []))) (lines rest) (some_line s)

-- ---- the table
pub fresh : FreshTable
fresh = let z : List ℕ = replicate (table_size program_slots) 0 in (fresh_sound, formatted_capacity 8 z row_0, formatted_view 8 z row_0, formatted_length 8 z row_0 ∙ length-replicate {A = ℕ} (table_size 8) 0)

-- ---- the output
output_part : (b : List ℕ) (ms ns : List (List ℕ)) → output_from b (ms ++ ns) ≡ output_from b ms ++ output_from (table_from b ms) ns
unfolding output_from
output_part b [] ns = refl
output_part b (m ∷ ms) ns =
    ap (written (replies_to b m) ++◌) (output_part (table_after b m) ms ns)
    ∙ sym (append_assoc (written (replies_to b m)) (output_from (table_after b m) ms) _)

pub goes_on : GoesOn
goes_on b s rest = ap (output_from b) (lines_part s rest) ∙ output_part b (lines (s ++ (0x0a ∷ []))) (lines rest)

pub output_goes_on : OutputGoesOn
unfolding output
output_goes_on s rest = goes_on fresh_table s rest

-- ---- the replies
pub written_append : (rs qs : List Reply) → written (rs ++ qs) ≡ written rs ++ written qs
unfolding written
written_append [] qs = refl
written_append (r ∷ rs) qs =
    ap (reply_line r ++◌) (written_append rs qs) ∙ sym (append_assoc (reply_line r) (written rs) (written qs))

replies_written : (b : List ℕ) (ms : List (List ℕ)) → output_from b ms ≡ written (replies_from b ms)
unfolding output_from written
replies_written b [] = refl
replies_written b (m ∷ ms) =
    ap (written (replies_to b m) ++◌) (replies_written (table_after b m) ms) ∙ sym (written_append (replies_to b m) (replies_from (table_after b m) ms))

pub output_is : OutputIs
unfolding output
output_is input = replies_written fresh_table (lines input)

lines_written : (rs : List Reply) → lines (written rs) ≡ map reply_text rs
unfolding written
lines_written [] = no_line_lem
lines_written (r ∷ rs) =
    ap lines (append_assoc (reply_text r) (0x0a ∷ []) (written rs)) ∙ line_ends (reply_text r) (written rs) (reply_plain r) ∙ ap (reply_text r ∷◌) (lines_written rs)

pub output_lines : OutputLines
output_lines input = ap lines (output_is input) ∙ lines_written (replies_from fresh_table (lines input))
