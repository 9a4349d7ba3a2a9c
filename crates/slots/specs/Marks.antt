-- Numbers of two bytes that slots with one id, or with one key, have alike: slots whose marks differ need not be
-- compared.
use Rattle.std.specs.Prelude.{◌≡◌, cond, List, ℕ, ◌-◌, ◌*◌, ◌/◌, ◌%◌, ◌≤◌, ◌<◌, length, get_or}
use Rattle.std.specs.Int.Bits.{bit_xor}
use Rattle.wire.specs.Limits.{most_slots}
use Rattle.wire.specs.Field.{field_at}
use Rattle.text.specs.Kinds.{class_of}
use Rattle.table.specs.Layout.{slot_at, id_in, kind_in}
use Rattle.slots.specs.Slots.{has_key_in, pubkey_bytes, d_bytes_in}
use Rattle.wire.specs.Bytes.{Bytes}

-- the id's first bytes
unfoldable pub id_mark : Bytes → ℕ
id_mark s = field_at (id_in s) 0 2

-- four of the bytes d, from k before their end on, or from the first on if there are fewer
unfoldable pub word_from : ℕ → Bytes → ℕ
word_from k d = field_at d (length d - k) 4

-- of the last sixteen bytes of d, and of the first, each four times an odd number
unfoldable pub last_words : Bytes → ℕ
last_words d =
    bit_xor (bit_xor (word_from 4 d * 2654435761) (word_from 8 d * 2246822519))
    (bit_xor (word_from 12 d * 3266489917) (word_from 16 d * 668265263))

unfoldable pub first_words : Bytes → ℕ
first_words d =
    bit_xor (bit_xor (field_at d 0 4 * 3432918353) (field_at d 4 4 * 461845907))
    (bit_xor (field_at d 8 4 * 2246822507) (field_at d 12 4 * 3266489909))

-- of both and the last four bytes of a pubkey, bits 20 to 35
unfoldable pub key_number : Bytes → Bytes → ℕ
key_number d pubkey =
    bit_xor (bit_xor (last_words d) (first_words d)) (word_from 4 pubkey * 374761393) / 1048576 % 65536

-- of a slot with a key: the last bytes of d and of the pubkey, and the kind; of any other its id's, which tells it from
-- the others
unfoldable pub key_mark : Bytes → ℕ
key_mark s =
    cond (has_key_in (class_of (kind_in s)))
    (bit_xor (key_number (d_bytes_in s) (pubkey_bytes s)) (kind_in s))
    (id_mark s)

-- the rows hold the marks of slots 0 to c-1 of the table b
pub record Marked (b : List ℕ) (c : ℕ) (ids keys : List ℕ) : Type 0 where
  pub ids_long : length ids ≡ most_slots
  pub keys_long : length keys ≡ most_slots
  pub ids_are : (k : ℕ) → k < c → get_or ids k 0 ≡ id_mark (slot_at b k)
  pub keys_are : (k : ℕ) → k < c → get_or keys k 0 ≡ key_mark (slot_at b k)

-- marks fall into buckets, so that one that meets no other is told at once
abbrev pub bucket_count : ℕ
bucket_count = 2048

unfoldable pub bucket_of : ℕ → ℕ
bucket_of mark = mark % bucket_count

-- the marks of slots i to c - 1 have fallen into their buckets
pub record Noted (ids keys : List ℕ) (i c : ℕ) (seen : List ℕ) : Type 0 where
  pub seen_long : length seen ≡ bucket_count
  pub ids_noted : (j : ℕ) → i ≤ j → j < c → get_or seen (bucket_of (get_or ids j 0)) 0 ≡ 1
  pub keys_noted : (j : ℕ) → i ≤ j → j < c → get_or seen (bucket_of (get_or keys j 0)) 0 ≡ 1

-- no mark of slots i + 1 to n - 1 equals that of slot i
pub record Unlike (ids keys : List ℕ) (i n : ℕ) : Type 0 where
  pub ids_differ : (j : ℕ) → i < j → j < n → get_or ids i 0 ≡ get_or ids j 0 → ⊥
  pub keys_differ : (j : ℕ) → i < j → j < n → get_or keys i 0 ≡ get_or keys j 0 → ⊥
