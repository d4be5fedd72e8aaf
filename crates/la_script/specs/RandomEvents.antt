-- Events that a generator of random words draws from a seed: two words for each event.
use Rattle.std.specs.Prelude.{ℕ, ◌+◌, ◌*◌, ◌/◌, ◌%◌, ◌==◌, List, map, if◌then◌else◌}
use Rattle.std.specs.List.{range_with_len}
use Rattle.rand_pcg.specs.Lcg.{Lcg, started, increment_of, advance}
use Rattle.rand_pcg.specs.Pcg.{multiplier_64, pcg32}
use Rattle.la_set.specs.declared.update.Op.TheVariants.{Inc, Put}
use Rattle.la_object.specs.declared.query.Query.TheVariants.{Total}
use Rattle.la_world.specs.declared.event.Event.{Event}
use Rattle.la_world.specs.declared.event.Event.TheVariants.{Submit, Deliver, Decide, Ask}

-- the generator of a seed, before its first word
abbrev pub generator : (seed : ℕ) → Lcg
generator seed = started 64 multiplier_64 seed (increment_of 64 1)

-- the word that a seed's generator draws after k others
abbrev pub word : (seed k : ℕ) → ℕ
word seed k = (pcg32 (advance 64 multiplier_64 k (generator seed))).0

-- the event with the number i, from 0, in a group of n replicas: a kind, by the words q and b
abbrev pub event_of_kind : (n i kind q b : ℕ) → Event
event_of_kind n i kind q b =
    if kind == 0 then Submit (b % n) 1 (Inc (1 + q % 100)) else
    if kind == 1 then Submit (b % n) 3 (Put (q % 10)) else
    if kind == 2 then Decide (b % n) 0 (q % 3) else
    if kind == 3 then Ask (b % n) 1 Total else
    Deliver (b % (2 * i + 1))

-- the same, by the two words that are drawn for it, of which a is the first
abbrev pub event_by : (n i a b : ℕ) → Event
event_by n i a b = event_of_kind n i (a % 8) (a / 8) b

-- the event with the number i of a seed
abbrev pub random_event : (seed n i : ℕ) → Event
random_event seed n i = event_by n i (word seed (2 * i)) (word seed (2 * i + 1))

-- the first events of a seed
abbrev pub random_events : (seed replicas count : ℕ) → List Event
random_events seed n count = map (random_event seed n) (range_with_len 0 count)
