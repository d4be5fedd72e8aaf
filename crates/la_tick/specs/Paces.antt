-- How long it takes to the next tick, in milliseconds.
use Rattle.std.specs.Prelude.{ℕ, ◌*◌, ◌^◌, min, max}

-- the interval behind so many ticks that count: it doubles up to a minute; a first one that is longer stays
abbrev pub interval : (first ticks : ℕ) → ℕ
interval first ticks = min (first * 2 ^ ticks) (max first 60000)
