-- What the law takes from the text of an event: TextSays of specs/Claims. The text is read back as the event.
use Rattle.text.specs.Kinds.{key_of}
use Rattle.text.proofs.RoundTrip.{read_back}
use Rattle.table.specs.Events.{class_of_event, class_of_text, time_of_text}
use Rattle.table.specs.Claims.{TextSays}

pub text_says : TextSays
unfolding class_of_text time_of_text class_of_event key_of
text_says e f l =
    let r = read_back e f l in
    record {
      is_regular = λ c. rw (r, c);
      is_ephemeral_lem = λ c. rw (r, c);
      is_replaceable_lem = λ c. rw (r, c);
      is_addressable_lem = λ c. rw (r, c);
      time = rw r;
    }
