-- The values of an answer as lent numbers, which stay on a refusal: `length_or` of capi/specs/Calls for one count of
-- bytes, and these for more.
use Rattle.std.specs.Prelude.{ℕ, Result, Ok, Err}
use Rattle.text.specs.declared.Class.{Class}
use Rattle.text.specs.declared.Class.TheVariants as class
use Rattle.program.specs.declared.Fed.{Fed}

-- ---- a piece of the input: how many of its bytes are used up, how many the line has then, how many are written
abbrev pub used_or : Result Fed ℕ → ℕ → ℕ
used_or (Ok f) m = f.used
used_or (Err r) m = m

abbrev pub kept_or : Result Fed ℕ → ℕ → ℕ
kept_or (Ok f) m = f.kept
kept_or (Err r) m = m

abbrev pub written_or : Result Fed ℕ → ℕ → ℕ
written_or (Ok f) m = f.written
written_or (Err r) m = m

-- ---- the EVENTs of some slots: how many bytes, and of how many slots
abbrev pub bytes_or : Result (ℕ × ℕ) ℕ → ℕ → ℕ
bytes_or (Ok (n, k)) m = n
bytes_or (Err r) m = m

abbrev pub slots_or : Result (ℕ × ℕ) ℕ → ℕ → ℕ
slots_or (Ok (n, k)) m = k
slots_or (Err r) m = m

-- ---- the class of a kind
abbrev pub class_number : Class → ℕ
class_number class.Regular = 0
class_number class.Replaceable = 1
class_number class.Ephemeral = 2
class_number class.Addressable = 3
