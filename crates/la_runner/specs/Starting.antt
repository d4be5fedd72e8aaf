-- Groups and members in which nothing has happened.
use Rattle.std.specs.Prelude.{◌≡◌, ℕ, ◌+◌, ◌*◌, ◌≤◌, List, [], ◌∷◌, All, map, length, reverse, slice_get, Some, None, ◌==◌, if◌then◌else◌}
use Rattle.la_set.specs.Histories.{empty}
use Rattle.la_commit.specs.declared.instance.TheConstants.{MAX_COMMITS}
use Rattle.la_proposer.specs.declared.proposer.TheConstants.{MAX_CAP}
use Rattle.la_proposer.specs.Groups.{IsGroupOf}
use Rattle.la_proposer.specs.ProposerState.{start}
use Rattle.la_shared.specs.Passes.{Known, AcceptorName}
use Rattle.la_runner.specs.declared.error.RunnerError.{RunnerError}
use Rattle.la_runner.specs.declared.error.RunnerError.TheVariants.{BadConfig, NoSuchCommit, AlreadyProposed, Clash, Full, BallotsSpent, NoMajority, TryAgain, Memory}
use Rattle.la_runner.specs.declared.group.Row.{Row}
use Rattle.la_runner.specs.declared.starting.Firsts.{Firsts}
use Rattle.la_runner.specs.Instances.{InstanceState}
use Rattle.la_runner.specs.Members.{MemberState, GroupState, IsOfGroup}

-- a pass that has seen nothing, and made no offer
abbrev pub newcomer : AcceptorName → Known
newcomer acceptor = record { acceptor = acceptor; number = None; seen = []; mine = [] }

-- a member in an instance with these acceptors, in which it may submit so many updates
pub record IsNewInstance (votes : List ℕ) (own cap : ℕ) (row : List AcceptorName) (x : InstanceState) : Type 0 where
  pub proposer : x.proposer ≡ start votes own cap empty
  pub passes : x.passes ≡ map newcomer row
  pub learnt : x.learnt ≡ None
  pub view : x.view ≡ empty

-- how many updates a member may submit in an instance
abbrev pub member_cap : (cap instance : ℕ) → ℕ
member_cap cap i = if i == 0 then cap else 1

-- a member that has done nothing
pub record IsNewMember (group : GroupState) (cap number : ℕ) (m : MemberState) : Type 0 where
  pub replica : m.replica ≡ number
  pub of : IsOfGroup group m
  pub each :
      (i : ℕ) (row : List AcceptorName) (x : InstanceState) → slice_get group.acceptors i ≡ Some row
      → slice_get m.instances i ≡ Some x → IsNewInstance group.votes number (member_cap cap i) row x

-- the members from this replica on, in order
abbrev pub AreMembersFrom : GroupState → (cap replica : ℕ) → List MemberState → Type 0
AreMembersFrom group cap r [] = Unit {0}
AreMembersFrom group cap r (m ∷ ms) =
    IsNewMember group cap r m × AreMembersFrom group cap (r + 1) ms

-- a group of these rows of acceptors
abbrev pub group_of_rows : (votes : List ℕ) → List Row → GroupState
group_of_rows votes rows = record { votes = votes; acceptors = map (λ r. r.acceptors.items) rows }

-- first passes of all acceptors, in rows, which have seen nothing and made no offer
abbrev pub AreFirsts : List Firsts → List Row → Type 0
AreFirsts firsts rows = map (λ f. f.passes.items) firsts ≡ map (λ r. map newcomer r.acceptors.items) rows

-- members with these votes and this cap may be made over these rows, by these first passes
pub record MayMakeMembers (votes : List ℕ) (cap : ℕ) (rows : List Row) (firsts : List Firsts) : Type 0 where
  pub few : length votes ≤ 8
  pub some : 1 ≤ cap
  pub most : cap ≤ MAX_CAP
  pub one : 1 ≤ length rows
  pub instances : length rows ≤ 2 * MAX_COMMITS + 1
  pub sizes : All (λ r. length r.acceptors.items ≡ length votes) rows
  pub firsts_are : AreFirsts firsts rows

-- the members of the group of these rows, the last one first
abbrev pub AreMembersOf : (votes : List ℕ) → (cap : ℕ) → List Row → List MemberState → Type 0
AreMembersOf votes cap rows made = AreMembersFrom (group_of_rows votes rows) cap 0 (reverse made)

-- the values of a group are in their ranges
abbrev pub IsRunnerConfig : (replicas commits cap : ℕ) → (votes : List ℕ) → Type 0
IsRunnerConfig n commits cap votes = IsGroupOf n cap votes × (commits ≤ MAX_COMMITS)

-- one acceptor a replica in each instance, of which an adopt-commit object has two
pub record IsAcceptorGroup (replicas commits : ℕ) (of_all : List ℕ) (group : GroupState) : Type 0 where
  pub votes : group.votes ≡ of_all
  pub instances : length group.acceptors ≡ 2 * commits + 1
  pub acceptors : All (λ row. length row ≡ replicas) group.acceptors

abbrev pub IsNewRefusal : (replicas commits cap : ℕ) → (votes : List ℕ) → RunnerError → Type 0
IsNewRefusal n commits cap votes BadConfig = ¬ IsRunnerConfig n commits cap votes
IsNewRefusal n commits cap votes Memory = IsRunnerConfig n commits cap votes
IsNewRefusal n commits cap votes NoSuchCommit = ⊥
IsNewRefusal n commits cap votes AlreadyProposed = ⊥
IsNewRefusal n commits cap votes (Clash id) = ⊥
IsNewRefusal n commits cap votes Full = ⊥
IsNewRefusal n commits cap votes BallotsSpent = ⊥
IsNewRefusal n commits cap votes NoMajority = ⊥
IsNewRefusal n commits cap votes TryAgain = ⊥
