-- What a node is configured with: its group.
use Rattle.std.specs.Prelude.{◌≤◌}
use Rattle.la_proposer.specs.Majority.{votes_of}
use Rattle.la_proposer.specs.Groups.{IsGroupOf}
use Rattle.la_commit.specs.declared.instance.TheConstants.{MAX_COMMITS}
use Rattle.la_node.specs.declared.config.Config.{Config}

-- every value in its range, and votes for so many replicas
pub record IsConfig (c : Config) : Type 0 where
  pub group : IsGroupOf c.replicas c.cap (votes_of c.votes)
  pub commits : c.commits ≤ MAX_COMMITS
