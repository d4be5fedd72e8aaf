-- The ranges of a group: how many replicas it has, and how many updates each of them may submit.
use Rattle.std.specs.Prelude.{◌≡◌, ℕ, ◌≤◌, List, length}
use Rattle.la_proposer.specs.declared.proposer.TheConstants.{MAX_CAP}

-- a group of n replicas, each with this cap on what it submits; these are their votes
pub record IsGroupOf (n cap : ℕ) (votes : List ℕ) : Type 0 where
  pub replicas : n ≡ length votes
  pub some : 1 ≤ n
  pub few : n ≤ 8
  pub cap_some : 1 ≤ cap
  pub cap_most : cap ≤ MAX_CAP
