-- What is told of an update that was learnt.
use Rattle.std.specs.Prelude.{◌≡◌, ◌⊎◌, ◌<◌, ℕ, Bool, true, false, List, [], ◌∷◌, length, Option, Some, None}
use Rattle.la_set.specs.declared.counts.Counts.{Counts}
use Rattle.la_set.specs.Counts.{count_in}
use Rattle.la_set.specs.declared.update.Op.{Op}
use Rattle.la_set.specs.declared.update.Op.TheVariants as op
use Rattle.la_set.specs.declared.update.Update.{Update}
use Rattle.la_own.specs.Own.{own_bytes_of}
use Rattle.la_embed.specs.Hosts.{HostState, with_handed}
use Rattle.la_embed.specs.Learnt.{IsNextLearnt, handed_noting}
use Rattle.lattice_c.specs.declared.learning.Learnt.{Learnt}
use Rattle.lattice_c.specs.Calls.{WhereKept, filled}

-- what an operation does, as a number
abbrev pub kind_told : Op → ℕ
kind_told (op.Inc by) = 1
kind_told (op.Dec by) = 2
kind_told (op.Raise to) = 3
kind_told (op.Put element) = 4
kind_told (op.Remove tags) = 5
kind_told op.Mark = 6
kind_told (op.Vote value sole) = 7

-- and its amount or value; of a removal how many puts it takes out
abbrev pub value_told : Op → ℕ
value_told (op.Inc by) = by
value_told (op.Dec by) = by
value_told (op.Raise to) = to
value_told (op.Put element) = element
value_told (op.Remove tags) = length tags
value_told op.Mark = 0
value_told (op.Vote value sole) = value

abbrev pub learnt_told : Update → (kind value : ℕ) → Learnt
learnt_told u kind value =
    record { value = value; number = u.id.number; object = u.object; replica = u.id.replica; kind = kind }

-- an update, and where it is one of one's own its bytes in a buffer; or these found no room
abbrev pub IsTold : Update → Option (List ℕ) → (buffer : List ℕ) → (fits : Bool) → Learnt → (len : ℕ)
    → (given : List ℕ) → Type 0
IsTold u None buffer fits out len given =
    (fits ≡ true) × (out ≡ learnt_told u (kind_told u.op) (value_told u.op)) × (len ≡ 0) × (given ≡ buffer)
IsTold u (Some bytes) buffer fits out len given =
    (len ≡ length bytes) × (((fits ≡ true) × (out ≡ learnt_told u 8 0) × (given ≡ filled bytes buffer))
    ⊎ ((fits ≡ false) × (length buffer < length bytes) × (given ≡ buffer)))

-- the update that comes next is told, and handed on where it fits; 2 says that there is none
abbrev pub TellsNext : HostState → Option Update → (buffer : List ℕ) → (status : ℕ) → Learnt → (len : ℕ)
    → (given : List ℕ)
    → HostState → Type 0
TellsNext before None buffer status out len given after = (status ≡ 2) × (given ≡ buffer) × (after ≡ before)
TellsNext before (Some u) buffer status out len given after =
    ((status ≡ 0) × IsTold u (own_bytes_of u.op) buffer true out len given
    × (after ≡ with_handed before (handed_noting before.handed u.id)))
    ⊎ ((status ≡ 3) × IsTold u (own_bytes_of u.op) buffer false out len given × (after ≡ before))

abbrev pub TellsLearnt : HostState → (buffer : List ℕ) → (status : ℕ) → Learnt → (len : ℕ) → (given : List ℕ)
    → HostState
    → Type 0
TellsLearnt before buffer status out len given after =
    WhereKept before status ((given ≡ buffer) × (after ≡ before))
    ((next : Option Update) × IsNextLearnt before.handed before.kept.view next
    × TellsNext before next buffer status out len given after)

-- a thing is told, where the node may tell it, and else stays as it was
abbrev pub IsToldWhereKept : {V : Type 0} → HostState → (told before : V) → (status : ℕ) → V → Type 0
IsToldWhereKept node told before status after =
    WhereKept node status (after ≡ before) ((status ≡ 0) × (after ≡ told))

-- how many updates there are of each of eight replicas
abbrev pub eight : Counts → List ℕ
eight c =
    count_in c 0 ∷ count_in c 1 ∷ count_in c 2 ∷ count_in c 3 ∷ count_in c 4 ∷ count_in c 5 ∷ count_in c 6
    ∷ count_in c 7 ∷ []
