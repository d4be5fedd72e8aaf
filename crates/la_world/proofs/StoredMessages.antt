-- Stored messages and those of the trace that they carry, one by one.
use Rattle.std.proofs.Common.{◌≡◌, ℕ, List, length, slice_get, Option, Some, None, option_map, ap, sym, ◌∙◌}
use Rattle.std.proofs.lemmas.List.{length-map}
use Rattle.std.proofs.lemmas.Option.{same_Some, none-some, slice_get-map}
use Rattle.la_replica.specs.declared.message.Message as code
use Rattle.la_replica.specs.Whole.{Message, whole_of, CarryAll}
use Rattle.la_world.specs.Calls.{StandsForMessage}

pub messages_length : (stored : List code.Message) (ms : List Message) → CarryAll stored ms → length stored ≡ length ms
messages_length stored ms h = sym (length-map stored whole_of) ∙ ap length h

pub message_at : (stored : List code.Message) (ms : List Message) (k : ℕ) → CarryAll stored ms
    → option_map whole_of (slice_get stored k) ≡ slice_get ms k
message_at stored ms k h = sym (slice_get-map whole_of stored k) ∙ ap (λ xs. slice_get xs k) h

pub stands_for : (stored : Option code.Message) (sent : Option Message) → option_map whole_of stored ≡ sent
    → StandsForMessage stored sent
stands_for None None e = tt
stands_for None (Some w) e = none-some w e
stands_for (Some m) None e = none-some (whole_of m) (sym e)
stands_for (Some m) (Some w) e = same_Some (whole_of m) w e
