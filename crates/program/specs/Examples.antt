-- 01, "Shape": the names and first words that the reader compares, spelled out, those of 02, Wish 1, too, and the
-- borders of "# with one letter a-z or A-Z", by computation.
use Rattle.std.specs.Prelude.{◌≡◌, refl, true, false}
use Rattle.shape.specs.Shape.{id_name, pubkey_name, created_at_name, kind_name, tags_name, content_name, sig_name, ids_name}
use Rattle.shape.specs.Shape.{authors_name, kinds_name, since_name, until_name, limit_name, event_word, req_word, close_word}
use Rattle.shape.specs.Shape.{is_condition, e_condition_name, p_condition_name}
use Rattle.wire.specs.Ascii.{ascii}

pub names :
    (id_name ≡ ascii "id")
    × (pubkey_name ≡ ascii "pubkey")
    × (created_at_name ≡ ascii "created_at")
    × (kind_name ≡ ascii "kind")
    × (tags_name ≡ ascii "tags")
    × (content_name ≡ ascii "content")
    × (sig_name ≡ ascii "sig")
    × (ids_name ≡ ascii "ids")
    × (authors_name ≡ ascii "authors")
    × (kinds_name ≡ ascii "kinds")
    × (since_name ≡ ascii "since")
    × (until_name ≡ ascii "until")
    × (limit_name ≡ ascii "limit")
    × (e_condition_name ≡ ascii "#e")
    × (p_condition_name ≡ ascii "#p")
    × (event_word ≡ ascii "EVENT")
    × (req_word ≡ ascii "REQ")
    × (close_word ≡ ascii "CLOSE")
names = (refl, refl, refl, refl, refl, refl, refl, refl, refl, refl, refl, refl, refl, refl, refl, refl, refl, refl)

pub conditions :
    (is_condition (ascii "#a") ≡ true)
    × (is_condition (ascii "#z") ≡ true)
    × (is_condition (ascii "#A") ≡ true)
    × (is_condition (ascii "#Z") ≡ true)
    × (is_condition (ascii "#`") ≡ false)
    × (is_condition (ascii "#{") ≡ false)
    × (is_condition (ascii "#@") ≡ false)
    × (is_condition (ascii "#[") ≡ false)
    × (is_condition (ascii "#ab") ≡ false)
    × (is_condition (ascii "#") ≡ false)
    × (is_condition (ascii "a") ≡ false)
unfolding is_condition
conditions = (refl, refl, refl, refl, refl, refl, refl, refl, refl, refl, refl)
