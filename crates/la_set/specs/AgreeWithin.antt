-- Two sets that are the same as far as some counts go.
use Rattle.std.specs.Prelude.{◌≡◌, ◌≢◌, ℕ, ◌≤◌, take, Some}
use Rattle.std.specs.List.{slice_get}
use Rattle.la_set.specs.declared.counts.Counts.{Counts}
use Rattle.la_set.specs.declared.update.Update.{Update}
use Rattle.la_set.specs.Counts.{count_in, HasCounts, within}
use Rattle.la_set.specs.Histories.{Histories, count, updates_of}

-- of each replica both have so many updates, or more, and the first so many are the same
pub record AgreeWithin (base : Counts) (one other : Histories) : Type 0 where
  pub first : HasCounts one base
  pub second : HasCounts other base
  pub same : within one base ≡ within other base

-- not both have this update as the next one behind so many of a replica
abbrev pub NotBothNext : (one other : Histories) → (r n : ℕ) → Type 0
NotBothNext one other r n =
    (u : Update) → slice_get (updates_of one r) n ≡ Some u → slice_get (updates_of other r) n ≢ Some u

-- of each replica the two agree so far, and no further
pub record IsAgreement (one other : Histories) (c : Counts) : Type 0 where
  pub agree : AgreeWithin c one other
  pub most : (r : ℕ) → NotBothNext one other r (count_in c r)

-- the same of one replica
pub record AgreeTo (one other : Histories) (r n : ℕ) : Type 0 where
  pub first : n ≤ count one r
  pub second : n ≤ count other r
  pub same : take n (updates_of one r) ≡ take n (updates_of other r)
  pub most : NotBothNext one other r n
