-- A full table of two slots at work, by computation. 01: "Full table: a held id is duplicate, a newer event of a held
-- key is stored, any other regular event gives 12."
use Rattle.std.specs.Prelude.{◌≡◌, refl, true, false, List, [], ◌∷◌, ℕ, ◌+◌, ℤ, pos, negsuc, length, replicate, Some}
use Rattle.wire.specs.Limits.{most_slots}
use Rattle.wire.specs.Bytes.{same_bytes, is_hex}
use Rattle.wire.specs.Escape.{letter_of, esc_one, escape}
use Rattle.numeral.specs.Decimal.{digits_in, digits, decimal}
use Rattle.numeral.specs.Whole.{is_digit, all_digits, value_from, is_natural, natural_of, negative_of, whole_of, is_within}
use Rattle.numeral.specs.Whole.{whole_answer}
use Rattle.utf8.specs.Utf8.{lead_of, utf8_from, is_utf8}
use Rattle.text.specs.Event.{Event, quoted, members_text, tag_text, tags_text, serialise, all, is_pubkey, is_time}
use Rattle.text.specs.Read.{stands_at, closed_at, pair_at, escaped_byte, is_raw, body_from, string_at, text_members_at, tag_at}
use Rattle.text.specs.Read.{tags_at, run_of, time_at, kind_at, pubkey_at, fields_at, opened_text, read_text}
use Rattle.text.specs.Kinds.{class_of, d_of, key_of}
use Rattle.law.specs.Table.{was_ephemeral, duplicate, older, stored, no_room, verdict, after}
use Rattle.table.specs.Layout.{id_size, sig_size, id_place, sig_place, time_place, kind_place, length_place}
use Rattle.table.specs.Layout.{d_offset_place, d_length_place, text_place, slot_size}
use Rattle.table.specs.Sound.{is_capacity}
use Rattle.table.specs.Format.{format_row}
use Rattle.table.specs.Events.{SignedEvent, signed_events, class_of_event, class_of_text, time_of_text}

-- each field of a slot begins where the one before it ends
fields :
    (sig_place ≡ id_place + id_size)
    × (time_place ≡ sig_place + sig_size)
    × (kind_place ≡ time_place + 8)
    × (length_place ≡ kind_place + 2)
    × (d_offset_place ≡ length_place + 2)
    × (d_length_place ≡ d_offset_place + 2)
    × (text_place ≡ d_length_place + 2)
    × (slot_size ≡ 4208)
fields = (refl, refl, refl, refl, refl, refl, refl, refl)

-- the event of a kind and a time, with d in its tags
abbrev made : (kind : ℕ) (time : ℤ) (d : ℕ) → Event
made kind time d =
    record {
      pubkey = replicate 64 97;
      time = time;
      kind = kind;
      tags = ((100 ∷ []) ∷ (d ∷ []) ∷ []) ∷ [];
      content =
          [];
    }

-- with an id of one byte, and a signature
abbrev entry : (i s : ℕ) (e : Event) → SignedEvent
entry i s e = (record { id = i ∷ []; text = serialise e }, s ∷ [])

-- a regular event, and a tile dated -7200
abbrev held : List SignedEvent
held = entry 5 1 (made 1 (pos 9) 65) ∷ entry 7 1 (made 30000 (negsuc 7199) 66) ∷ []

-- the same event with another signature; a newer tile of the held key; an older one; another regular event; another
-- key; an ephemeral one
verdicts :
    (verdict signed_events 2 held (Some (entry 5 2 (made 1 (pos 9) 65))) ≡ duplicate)
    × (verdict signed_events 2 held (Some (entry 8 1 (made 30000 (negsuc 0) 66))) ≡ stored)
    × (verdict signed_events 2 held (Some (entry 8 1 (made 30000 (negsuc 7200) 66))) ≡ older)
    × (verdict signed_events 2 held (Some (entry 8 1 (made 1 (pos 9) 66))) ≡ no_room)
    × (verdict signed_events 2 held (Some (entry 8 1 (made 30000 (pos 9) 67))) ≡ no_room)
    × (verdict signed_events 2 held (Some (entry 8 1 (made 20000 (pos 9) 66))) ≡ was_ephemeral)
unfolding verdict same_bytes letter_of esc_one escape digits_in digits decimal quoted members_text tag_text tags_text serialise
    all is_pubkey is_time class_of_event class_of_text time_of_text stands_at closed_at pair_at escaped_byte is_raw
    body_from string_at text_members_at tag_at tags_at run_of time_at kind_at pubkey_at fields_at opened_text read_text class_of d_of
    key_of is_digit all_digits value_from is_natural natural_of negative_of whole_of is_within whole_answer lead_of utf8_from is_utf8
    is_hex
verdicts = (refl, refl, refl, refl, refl, refl)

-- the newer tile takes the slot with its key
replaced :
    after signed_events 2 held (Some (entry 8 1 (made 30000 (negsuc 0) 66)))
    ≡ entry 5 1 (made 1 (pos 9) 65) ∷ entry 8 1 (made 30000 (negsuc 0) 66) ∷ []
unfolding after verdict same_bytes letter_of esc_one escape digits_in digits decimal quoted members_text tag_text tags_text
    serialise all is_pubkey is_time class_of_event class_of_text time_of_text stands_at closed_at pair_at escaped_byte
    is_raw body_from string_at text_members_at tag_at tags_at run_of time_at kind_at pubkey_at fields_at opened_text read_text class_of
    d_of key_of is_digit all_digits value_from is_natural natural_of negative_of whole_of is_within whole_answer lead_of utf8_from
    is_utf8 is_hex
replaced = refl

-- of two tiles of one time the lower id is newer, in three slots with room for one more event
ties :
    (verdict signed_events 3 held (Some (entry 6 1 (made 30000 (negsuc 7199) 66))) ≡ stored)
    × (verdict signed_events 3 held (Some (entry 8 1 (made 30000 (negsuc 7199) 66))) ≡ older)
    × (verdict signed_events 3 held (Some (entry 8 1 (made 1 (pos 9) 66))) ≡ stored)
unfolding verdict same_bytes letter_of esc_one escape digits_in digits decimal quoted members_text tag_text tags_text serialise
    all is_pubkey is_time class_of_event class_of_text time_of_text stands_at closed_at pair_at escaped_byte is_raw
    body_from string_at text_members_at tag_at tags_at run_of time_at kind_at pubkey_at fields_at opened_text read_text class_of d_of
    key_of is_digit all_digits value_from is_natural natural_of negative_of whole_of is_within whole_answer lead_of utf8_from is_utf8
    is_hex
ties = (refl, refl, refl)

-- ---- the bounds of formatting: "capacity outside 1..64" (02, Wish 6: 1,024); "formatting tests 14 before 13"; one
-- slot is 4,224 bytes with the header, 1,024 are 4,309,008
capacities :
    (is_capacity most_slots 0 ≡ false)
    × (is_capacity most_slots 1 ≡ true)
    × (is_capacity most_slots 1024 ≡ true)
    × (is_capacity most_slots 1025 ≡ false)
capacities = (refl, refl, refl, refl)

refused_first : (format_row 0 [] ≡ 14) × (format_row 1025 [] ≡ 14) × (format_row 1024 [] ≡ 13)
unfolding format_row
refused_first = (refl, refl, refl)

enough : (b : List ℕ) →
    (length b ≡ 4223 → format_row 1 b ≡ 13)
    × (length b ≡ 4224 → format_row 1 b ≡ 0)
    × (length b ≡ 4309007 → format_row 1024 b ≡ 13)
    × (length b ≡ 4309008 → format_row 1024 b ≡ 0)
unfolding format_row
enough b = (λ l. rw l, λ l. rw l, λ l. rw l, λ l. rw l)
