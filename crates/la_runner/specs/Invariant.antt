-- What is true of every member.
use Rattle.std.specs.Prelude.{◌≡◌, ℕ, ◌≤◌, ◌+◌, ◌*◌, length, slice_get, Some}
use Rattle.la_commit.specs.declared.instance.TheConstants.{MAX_COMMITS}
use Rattle.la_runner.specs.Instances.{InstanceState, IsInstance}
use Rattle.la_runner.specs.Members.{MemberState}
use Rattle.la_runner.specs.Participants.{IsMemberParticipant}

abbrev pub IsIn : MemberState → InstanceState → Type 0
IsIn m x = IsInstance x × (x.proposer.votes ≡ m.votes) × (x.proposer.own ≡ m.replica)

pub record IsMember (m : MemberState) : Type 0 where
  pub some : 1 ≤ length m.instances
  pub most : length m.instances ≤ 2 * MAX_COMMITS + 1
  pub few : m.replica ≤ 255
  pub each : (i : ℕ) (x : InstanceState) → slice_get m.instances i ≡ Some x → IsIn m x
  pub participant : (commit : ℕ) → IsMemberParticipant m commit
