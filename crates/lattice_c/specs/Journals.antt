-- The journal that a node begins with, and with which status a call for it ends.
use Rattle.std.specs.Prelude.{◌≡◌, ◌⊎◌, ℕ, List, [], Some}
use Rattle.la_journal.specs.Durable.{EndsInGroups}
use Rattle.la_journal.specs.Journal.{lines}
use Rattle.la_proposer.specs.Majority.{IsGroup}
use Rattle.la_node.specs.declared.config.Config.{Config}
use Rattle.la_node.specs.declared.error.WorldError.{WorldError}
use Rattle.la_node.specs.Configs.{IsConfig}
use Rattle.la_node.specs.Nodes.{node_at_start, IsStartRefusal}
use Rattle.la_durable.specs.Nodes.{empty_shelf}
use Rattle.la_durable.specs.Restarts.{leads_from}
use Rattle.lattice_c.specs.Statuses.{status_of_world}
use Rattle.lattice_c.specs.Calls.{IsHandedOut}
use Rattle.lattice_c.specs.Starting.{IsGroupTold, given_votes}

-- it leads the node to its start, says no call, and ends in groups
pub record IsFirstJournal (c : Config) (own : ℕ) (file : List ℕ) : Type 0 where
  pub group : IsConfig c
  pub leads : leads_from (node_at_start c own empty_shelf).replica file
      ≡ Some (node_at_start c own empty_shelf).replica
  pub none : lines file ≡ []
  pub whole : EndsInGroups file

-- it stands at the front of the buffer, or is longer than that; or there is none, for its group
abbrev pub MakesJournalOf : Config → (own : ℕ) → (room : List ℕ) → (status len : ℕ) → (now : List ℕ) → Type 0
MakesJournalOf c own room status len now =
    ((file : List ℕ) × IsFirstJournal c own file × IsHandedOut file room status len now)
    ⊎ ((e : WorldError) × IsStartRefusal c own empty_shelf e × (status ≡ status_of_world e) × (now ≡ room))

-- 10 says that these are no votes of a group
abbrev pub MakesJournal : (replicas own commits cap : ℕ) → (votes room : List ℕ) → (status len : ℕ) → (now : List ℕ)
    → Type 0
MakesJournal replicas own commits cap votes room status len now =
    ((c : Config) × IsGroupTold c replicas commits cap votes × MakesJournalOf c own room status len now)
    ⊎ ((status ≡ 10) × (¬ IsGroup (given_votes replicas votes)) × (now ≡ room))
