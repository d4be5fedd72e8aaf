-- When ticks begin anew.
use Rattle.std.specs.Prelude.{◌≡◌, ℕ, Bool, true, false, List, slice_get, slice_set, Some}
use Rattle.la_serve.specs.declared.arrivals.Arrivals.{Arrivals}

-- a replica that was not heard since the last tick, and not in the two intervals before it
pub record IsSilent (a : Arrivals) (replica : ℕ) : Type 0 where
  pub heard : slice_get a.heard replica ≡ Some false
  pub before : slice_get a.before replica ≡ Some false
  pub earlier : slice_get a.earlier replica ≡ Some false

-- of each replica it is so
abbrev pub AreAll : Bool → List Bool → Type 0
AreAll is of = (replica : ℕ) (was : Bool) → slice_get of replica ≡ Some was → was ≡ is

-- nothing has come yet, and nobody is silent
pub record IsBegin (a : Arrivals) : Type 0 where
  pub heard : AreAll false a.heard
  pub before : AreAll true a.before
  pub earlier : AreAll true a.earlier
  pub matters : a.matters ≡ false

-- a tick ends the interval
pub record EndsInterval (old new : Arrivals) : Type 0 where
  pub heard : AreAll false new.heard
  pub before : new.before ≡ old.heard
  pub earlier : new.earlier ≡ old.before
  pub matters : new.matters ≡ old.matters

-- nothing else has changed than whether something matters
pub record IsSameHeard (old new : Arrivals) : Type 0 where
  pub heard : new.heard ≡ old.heard
  pub before : new.before ≡ old.before
  pub earlier : new.earlier ≡ old.earlier

-- a line of a replica came: it matters where that was silent
pub record HearsReplica (replica : ℕ) (old new : Arrivals) : Type 0 where
  pub heard : new.heard ≡ slice_set old.heard replica true
  pub before : new.before ≡ old.before
  pub earlier : new.earlier ≡ old.earlier
  pub silent : IsSilent old replica → new.matters ≡ true
  pub known : ¬ IsSilent old replica → new.matters ≡ old.matters
