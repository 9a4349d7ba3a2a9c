-- 01, "Numbers the relay answers with": the lowest of rows 1 to 4 that holds of a text, or 0.
use Rattle.std.specs.Prelude.{Bool, false, cond, not, length, ltb}
use Rattle.wire.specs.Limits.{most_message}
use Rattle.utf8.specs.Utf8.{is_utf8}
use Rattle.json_tree.specs.Tree.{Json, Got, none, got, root, is_text}
use Rattle.rows.specs.Strings.{refused_in}
use Rattle.wire.specs.Bytes.{Bytes, Row}

-- what holds of the value of a text; false where there is none
abbrev pub on_root : (Json → Bool) → Got Json → Bool
on_root f none = false
on_root f (got t n) = f t

-- rows 1 to 4, each by itself
abbrev pub row1 : Bytes → Bool
row1 s = ltb most_message (length s)

abbrev pub row2 : Bytes → Bool
row2 s = not (is_utf8 s)

abbrev pub row3 : Bytes → Bool
row3 s = not (is_text s)

unfoldable pub row4 : Bytes → Bool
row4 s = on_root (refused_in s) (root s)

-- row 1, where the text is told to be too long, then the others
abbrev pub text_row_if : (isLong : Bool) (s : Bytes) → Row
text_row_if isLong s = cond isLong 1 (cond (row2 s) 2 (cond (row3 s) 3 (cond (row4 s) 4 0)))

unfoldable pub text_row : Bytes → Row
text_row s = text_row_if (row1 s) s
