-- What one read finds.
use Rattle.std.specs.Prelude.{ℕ, ◌≤◌, ◌<◌, List, length, take, Option}
use Rattle.std.specs.Io.KnownBytes.{Consumes, IsAtEnd, Keeps}
use Rattle.la_tick.specs.declared.feed.Ending.TheVariants.{Over, Failed}
use Rattle.la_tick.specs.declared.reading.Found.{Found}
use Rattle.la_tick.specs.declared.reading.Found.TheVariants.{Bytes, Last}

-- the first bytes of the room were read, at least one; or none, at the end; or none, since a read failed
abbrev pub IsRead : (before after : Option (List ℕ)) → (room : List ℕ) → Found → Type 0
IsRead before after room (Bytes count) = (0 < count) × (count ≤ length room) × Consumes before after (take count room)
IsRead before after room (Last Over) = Keeps before after × IsAtEnd after
IsRead before after room (Last (Failed kind)) = Keeps before after
