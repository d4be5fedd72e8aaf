-- When what is said of a message shows that nothing changed: a receipt that leaves the replica as it was
-- is one of which that is said.
use Rattle.std.specs.Prelude.{◌≡◌, ◌≢◌, ℕ, nat_lt, Bool, true, false, not, length, Some, option_map, unwrap_or}
use Rattle.la_set.specs.Histories.{updates}
use Rattle.la_replica.specs.declared.out.Said.{Said}
use Rattle.la_replica.specs.declared.out.Said.TheVariants.{Opened, Held, Answered, Counted, Ignored}
use Rattle.la_replica.specs.declared.out.Said.TheVariants.{Refined, Learnt, Took, Kept}
use Rattle.la_replica.specs.Whole.{Message, Out}
use Rattle.la_replica.specs.ReplicaState.{ReplicaState, accepted_in, receives}

-- how many updates it has accepted in an instance: none, where there is no such instance
abbrev pub accepted_count : ReplicaState → (instance : ℕ) → ℕ
accepted_count r i = unwrap_or (option_map (λ s. length (updates s)) (accepted_in r i)) 0

-- whether it has accepted more there than before
abbrev pub has_grown : (before after : ReplicaState) → (instance : ℕ) → Bool
has_grown before after i = nat_lt (accepted_count before i) (accepted_count after i)

-- that this was said of a message shows that nothing changed, where it is told whether more is accepted
-- than before
abbrev pub is_still : (grew : Bool) → Said → Bool
is_still grew Ignored = true
is_still grew Kept = true
is_still grew (Answered reply) = not grew
is_still grew (Opened b) = false
is_still grew (Held id) = false
is_still grew Counted = false
is_still grew (Refined b) = false
is_still grew (Learnt learnt next) = false
is_still grew (Took s) = false

-- where that is so, the replica is as it was
abbrev pub StillReceiptsChangeNothing : Type 0
StillReceiptsChangeNothing = (r after : ReplicaState) (m : Message) (out : Out) →
    receives r m ≡ Some (out, after) →
    is_still (has_grown r after m.instance) out.said ≡ true → after ≡ r

-- and where it is not, it is another one
abbrev pub OtherReceiptsChangeIt : Type 0
OtherReceiptsChangeIt = (r after : ReplicaState) (m : Message) (out : Out) →
    receives r m ≡ Some (out, after) →
    is_still (has_grown r after m.instance) out.said ≡ false → after ≢ r
