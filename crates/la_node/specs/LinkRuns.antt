-- What a node believes of others over a run: whatever it was told, wrote and asked, in any order.
use Rattle.std.specs.Prelude.{◌≡◌, ◌<◌, ◌≤◌, ℕ, true, Contains, fold, length, List}
use Rattle.la_set.specs.declared.counts.Counts.{Counts}
use Rattle.la_set.specs.Counts.{count_in}
use Rattle.la_replica.specs.declared.parcel.Content.{Content}
use Rattle.la_replica.specs.declared.parcel.Content.TheVariants as content
use Rattle.la_replica.specs.declared.progress.Progress.{Progress}
use Rattle.la_node.specs.declared.link.Letter.{Letter}
use Rattle.la_node.specs.declared.link.Links.{Links}
use Rattle.la_node.specs.declared.link.Standing.{Standing}
use Rattle.la_node.specs.Links.{links_over, link_of, known_with, answered_with, noted_with, asked_with, believed_of}
use Rattle.la_node.specs.Links.{reach_of, is_lacking}

-- ## A run

pub data LinkCall : Type 0 where
  -- a letter of a replica came, which says how far that is
  Said : (replica : ℕ) → Progress → LinkCall
  -- a replica answered a letter by how far it is
  Answered : Standing → LinkCall
  -- a letter went out
  Wrote : Letter → LinkCall
  -- the timer ran out at a node that was so far
  Asked : Progress → LinkCall

abbrev pub after_link : Links → LinkCall → Links
after_link links (Said r progress) = known_with links r progress
after_link links (Answered s) = answered_with links s
after_link links (Wrote letter) = noted_with links letter
after_link links (Asked here) = asked_with links here

-- what a node that began here believes after these
abbrev pub links_after : (here : Progress) → List LinkCall → Links
links_after here calls = fold after_link (links_over here) calls

-- ## What is believed

-- of each replica no more than others
abbrev pub AreCountsWithin : Counts → Counts → Type 0
AreCountsWithin c most = (q : ℕ) → count_in c q ≤ count_in most q

pub record IsFarWithin (p most : Progress) : Type 0 where
  pub accepted : AreCountsWithin p.accepted most.accepted
  pub view : AreCountsWithin p.view most.view

-- what a letter tells reaches no further
abbrev pub ReachesWithin : Content → Progress → Type 0
ReachesWithin (content.Offer d) most = AreCountsWithin (reach_of d) most.accepted
ReachesWithin content.Yes most = Unit {0}
ReachesWithin (content.No d) most = Unit {0}
ReachesWithin (content.Tell d) most = AreCountsWithin (reach_of d) most.view

-- what a call tells of this replica, or to it, reaches no further
abbrev pub IsCallWithin : (replica : ℕ) → (most : Progress) → LinkCall → Type 0
IsCallWithin r most (Said s progress) = s ≡ r → IsFarWithin progress most
IsCallWithin r most (Answered s) = s.from ≡ r → IsFarWithin s.progress most
IsCallWithin r most (Wrote letter) = letter.parcel.to ≡ r → ReachesWithin letter.parcel.content most
IsCallWithin r most (Asked here) = IsFarWithin here most

-- A letter's base is never more than was sent: whatever bounds where the node began, what letters told a replica, what
-- that one said of itself, and where the node was when its timer ran out, bounds what it is believed to have.
abbrev pub BeliefsAreBounded : Type 0
BeliefsAreBounded =
    (here : Progress) (calls : List LinkCall) (replica : ℕ) (most : Progress) → IsFarWithin here most →
    ((call : LinkCall) → Contains calls call → IsCallWithin replica most call) →
    IsFarWithin (believed_of (links_after here calls) replica) most

-- Once a replica answered that it lacks what a letter was told over, it is believed to have no more than it says.
abbrev pub LackingIsBelieved : Type 0
LackingIsBelieved =
    (links : Links) (s : Standing) → s.from < length links.of →
    (is_lacking (link_of links s.from).accepted s.progress.accepted s.over.accepted ≡ true →
    AreCountsWithin (believed_of (answered_with links s) s.from).accepted s.progress.accepted)
    × (is_lacking (link_of links s.from).view s.progress.view s.over.view ≡ true →
    AreCountsWithin (believed_of (answered_with links s) s.from).view s.progress.view)
