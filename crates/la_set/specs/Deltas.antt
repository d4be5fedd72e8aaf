-- A set, told to one who has a part of it: what that one is known to have, and what comes beyond.
use Rattle.std.specs.Prelude.{◌≡◌, nat_lt, max, min, Bool, List, [], ◌∷◌, filter, Option, Some, None}
use Rattle.la_set.specs.declared.update.Update.{Update}
use Rattle.la_set.specs.declared.counts.Counts.{Counts}
use Rattle.la_set.specs.declared.delta.More.{More}
use Rattle.la_set.specs.declared.delta.More.TheVariants.{Whole, Listed}
use Rattle.la_set.specs.declared.delta.Delta.TheInside.{Inside}
use Rattle.la_set.specs.declared.error.SetError.{SetError}
use Rattle.la_set.specs.declared.error.SetError.TheVariants.{TooManyTags, Gap, Clash, NoBase, Memory}
use Rattle.la_set.specs.Histories.{Histories, updates, count, push, IsNext}
use Rattle.la_set.specs.Counts.{count_in, from_counts, HasCounts, within}

pub record DeltaState : Type 0 where
  -- how many updates of each replica its receiver is known to have
  pub base : Counts
  -- what comes beyond, in order
  pub more : List Update
  -- the set that it was made of, where it was made of one
  pub made_of : Option Histories

-- an update's number is over the count of its replica
abbrev pub is_over : Counts → Update → Bool
is_over base u = nat_lt (count_in base u.id.replica) u.id.number

-- the updates of a set whose numbers are over these counts, in the order of their ids
unfoldable pub over : Histories → Counts → List Update
over s base = filter (is_over base) (updates s)

-- the delta of a set
abbrev pub delta_over : Histories → Counts → DeltaState
delta_over s base = record { base = base; more = over s base; made_of = Some s }

-- over the larger, of each replica, of a base and of as much of these counts as the set has
abbrev pub further_base : Histories → (base counts : Counts) → Counts
further_base s base c = from_counts (λ r. max (count_in base r) (min (count_in c r) (count s r)))

-- a delta that was made of a set is told further so; one that was made from a list stays
abbrev pub further_of : Option Histories → Counts → DeltaState → DeltaState
further_of None c d = d
further_of (Some s) c d = delta_over s (further_base s d.base c)

abbrev pub further : Counts → DeltaState → DeltaState
further c d = further_of d.made_of c d

-- these updates are each the next one, where they are pushed one after another
abbrev pub AreNext : Histories → List Update → Type 0
AreNext s [] = Unit {0}
AreNext s (u ∷ us) = IsNext s u.id × AreNext (push s u) us

-- what they lead to
abbrev pub pushed : Histories → List Update → Histories
pushed s [] = s
pushed s (u ∷ us) = pushed (push s u) us

-- what a delta stands for over a set: what that has within the base, and then what comes beyond
abbrev pub rebuilt : Histories → DeltaState → Histories
rebuilt s d = pushed (within s d.base) d.more

-- and when it stands for something there
pub record IsOver (s : Histories) (d : DeltaState) : Type 0 where
  pub base : HasCounts s d.base
  pub next : AreNext (within s d.base) d.more

-- the set that a delta was made of has within the base what this one has
abbrev pub AgreesWithin : Histories → DeltaState → Type 0
AgreesWithin s d = (whole : Histories) → d.made_of ≡ Some whole → within s d.base ≡ within whole d.base

-- a delta that is not taken over a set: less is there than its base, an update beyond does not come
-- next, and else memory may run out
abbrev pub IsRebuildRefusal : Histories → DeltaState → SetError → Type 0
IsRebuildRefusal s d NoBase = ¬ HasCounts s d.base
IsRebuildRefusal s d Gap = HasCounts s d.base × ¬ AreNext (within s d.base) d.more
IsRebuildRefusal s d Memory = IsOver s d
IsRebuildRefusal s d TooManyTags = ⊥
IsRebuildRefusal s d (Clash id) = ⊥

-- ## What a delta's fields stand for

abbrev pub delta_of : Counts → More → DeltaState
delta_of base (Whole s) = delta_over s base
delta_of base (Listed us) = record { base = base; more = us; made_of = None }

abbrev pub stands_for : Inside → DeltaState
stands_for d = delta_of d.base d.more

-- the set that it was made of has what is within the base
abbrev pub HasBase : Counts → More → Type 0
HasBase base (Whole s) = HasCounts s base
HasBase base (Listed us) = Unit {0}

abbrev pub HoldsInvariant : Inside → Type 0
HoldsInvariant d = HasBase d.base d.more
