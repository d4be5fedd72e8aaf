-- How a node is made: of which votes, and with which status a call for it ends.
use Rattle.std.specs.Prelude.{◌≡◌, ◌⊎◌, ℕ, List, [], ◌∷◌, replicate, Option, Some, None}
use Rattle.la_proposer.specs.declared.votes.Votes.{Votes}
use Rattle.la_proposer.specs.Majority.{votes_of, IsGroup}
use Rattle.la_node.specs.declared.config.Config.{Config}
use Rattle.la_node.specs.Configs.{IsConfig}
use Rattle.la_node.specs.Nodes.{node_at_start, IsStartRefusal}
use Rattle.la_durable.specs.Nodes.{empty_shelf}
use Rattle.la_replica.specs.ReplicaState.{ReplicaState}
use Rattle.la_embed.specs.declared.embedded.Embedded.{Embedded}
use Rattle.la_embed.specs.declared.error.Unrecovered.{Unrecovered}
use Rattle.la_embed.specs.Hosts.{HostState, host_of, host_over}
use Rattle.la_embed.specs.Journals.{JournalState, IsRecovered, IsNotRecovered}
use Rattle.lattice_c.specs.declared.handle.Place.{Place}
use Rattle.lattice_c.specs.Statuses.{EndsSo, status_of_world, status_of_unrecovered, line_of_unrecovered}

-- these votes, or one for each replica where there are none
abbrev pub given_votes : (replicas : ℕ) → List ℕ → List ℕ
given_votes replicas [] = replicate replicas 1
given_votes replicas (vote ∷ votes) = vote ∷ votes

abbrev pub AreGivenVotes : (replicas : ℕ) → List ℕ → Option Votes → Type 0
AreGivenVotes replicas votes (Some group) = votes_of group ≡ given_votes replicas votes
AreGivenVotes replicas votes None = ¬ IsGroup (given_votes replicas votes)

-- what a caller says of a group
pub record IsGroupTold (c : Config) (replicas commits cap : ℕ) (votes : List ℕ) : Type 0 where
  pub of_replicas : c.replicas ≡ replicas
  pub of_commits : c.commits ≡ commits
  pub of_cap : c.cap ≡ cap
  pub of_votes : votes_of c.votes ≡ given_votes replicas votes

-- a place is a handle of a node that stands so
abbrev pub Holds : Place → HostState → Type 0
Holds place host = (e : Embedded) × (place.held ≡ Some e) × (e.host ≡ host)

-- A new node is made of this group, and the place is its handle; or the place is as before.
abbrev pub MakesNodeOf : Config → (own status : ℕ) → (before place : Place) → Type 0
MakesNodeOf c own status before place =
    EndsSo (IsConfig c × Holds place (host_of (node_at_start c own empty_shelf).replica))
    (λ refused. IsStartRefusal c own empty_shelf refused × (place ≡ before)) status_of_world status

-- 10 says that these are no votes of a group, and 1 that there was no memory
abbrev pub MakesNode : (replicas own commits cap : ℕ) → List ℕ → (status : ℕ) → (before place : Place) → Type 0
MakesNode replicas own commits cap votes status before place =
    ((c : Config) × IsGroupTold c replicas commits cap votes × MakesNodeOf c own status before place)
    ⊎ ((((status ≡ 10) × (¬ IsGroup (given_votes replicas votes))) ⊎ (status ≡ 1)) × (place ≡ before))

-- The journal was played, so many bytes of it are to be kept, and the place is a handle of the node to which it leads;
-- or it was not, the line is told that is damaged, and the place is as before.
abbrev pub IsRecoveredOrNot : Config → (own : ℕ) → (found : List ℕ) → (line_before status keep line : ℕ)
    → (before place : Place) → Type 0
IsRecoveredOrNot c own found line_before status keep line before place =
    ((status ≡ 0) × ((kept : ReplicaState) × (j : JournalState) × IsRecovered c own found keep kept j
    × Holds place (host_over (Some j) kept)))
    ⊎ ((e : Unrecovered) × IsNotRecovered c own found e × (status ≡ status_of_unrecovered e)
    × (line ≡ line_of_unrecovered e line_before) × (place ≡ before))

abbrev pub RecoversNode : (replicas own commits cap : ℕ) → (votes found : List ℕ) → (line_before status keep line : ℕ)
    → (before place : Place) → Type 0
RecoversNode replicas own commits cap votes found line_before status keep line before place =
    ((c : Config) × IsGroupTold c replicas commits cap votes
    × IsRecoveredOrNot c own found line_before status keep line before place)
    ⊎ ((((status ≡ 10) × (¬ IsGroup (given_votes replicas votes))) ⊎ (status ≡ 1)) × (place ≡ before))
