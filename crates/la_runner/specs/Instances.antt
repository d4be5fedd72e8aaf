-- What holds of a member in one instance, and how it goes on there.
use Rattle.std.specs.Prelude.{◌≡◌, ◌⊎◌, ℕ, ◌≤◌, true, List, [], ◌∷◌, length, Option, None, IfSome, IsSome, if◌then◌else◌}
use mathlib.Core.List.{IsPrefix}
use Rattle.la_set.specs.ObjectOps.{ObjectOp}
use Rattle.la_set.specs.Histories.{Histories, history, count}
use Rattle.la_set.specs.Inclusion.{IsSubset}
use Rattle.la_commit.specs.declared.vote.Vote.{Vote}
use Rattle.la_commit.specs.Votes.{casts}
use Rattle.la_proposer.specs.ProposerState.{ProposerState, is_nothing, after_submission}
use Rattle.la_proposer.specs.Inputs.{all_submitted}
use Rattle.la_shared.specs.Passes.{Known}
use Rattle.la_runner.specs.declared.instance.Instance.{Instance}
use Rattle.la_runner.specs.Certificates.{HasCertificate, HasOwnCertificate}
use Rattle.la_runner.specs.Sound.{IsSound, IsView}
use Rattle.la_runner.specs.Following.{FollowsProposer}

pub record InstanceState : Type 0 where
  pub proposer : ProposerState
  -- what is known of each acceptor
  pub passes : List Known
  -- the set that was learnt last, and the view
  pub learnt : Option Histories
  pub view : Histories

abbrev pub state_of : Instance → InstanceState
state_of x = record { proposer = x.proposer; passes = x.passes.items; learnt = x.learnt; view = x.view }

-- with an update submitted
abbrev pub with_update : ObjectOp → InstanceState → InstanceState
with_update d x = record x { proposer = after_submission x.proposer d }

-- a set that was learnt: certified by own offers, with the first of the own submissions
pub record IsLearntSet (p : ProposerState) (passes : List Known) (s : Histories) : Type 0 where
  pub own : HasOwnCertificate p.votes passes s
  pub taken : IsPrefix (history s p.own) (all_submitted p)
  pub some : 1 ≤ count s p.own

pub record IsInstance (x : InstanceState) : Type 0 where
  pub sound : IsSound x.proposer x.passes
  pub view : IsView x.proposer.votes x.passes x.view
  pub learnt : IfSome x.learnt (IsLearntSet x.proposer x.passes)
  pub cap : 1 ≤ x.proposer.cap
  -- what was submitted is under way, until something is learnt
  pub under_way : x.learnt ≡ None → 1 ≤ length (all_submitted x.proposer) → x.proposer.is_asking ≡ true

-- a step, whatever it answers
pub record InstanceSteps (old new : InstanceState) : Type 0 where
  pub is : IsInstance new
  pub follows : FollowsProposer old.proposer new.proposer old.passes new.passes
  pub submitted : IsPrefix (all_submitted old.proposer) (all_submitted new.proposer)
  pub grows : IsSubset old.view new.view

-- a learnt set, by what was known before and is known now: certified by own offers, it has all that
-- was submitted, and contains each set that had an own certificate
pub record IsComplete (old new : InstanceState) (s : Histories) : Type 0 where
  pub own : HasOwnCertificate old.proposer.votes new.passes s
  pub holds : history s old.proposer.own ≡ all_submitted new.proposer
  pub contains_own : (t : Histories) → HasOwnCertificate old.proposer.votes old.passes t → IsSubset t s

-- an update's: it contains each set that had a certificate
pub record IsUpdated (old new : InstanceState) (s : Histories) : Type 0 where
  pub complete : IsComplete old new s
  pub contains : (t : Histories) → HasCertificate old.proposer.votes old.passes t → IsSubset t s

-- ## Votes

-- the vote is the one update that may be submitted there, and was or was not
abbrev pub MayCast : (commit : ℕ) → Vote → InstanceState → Type 0
MayCast k v x =
    (all_submitted x.proposer ≡ []) ⊎ (all_submitted x.proposer ≡ casts k v ∷ [])

-- with the vote submitted, unless something was
abbrev pub vote_submitted : (commit : ℕ) → Vote → InstanceState → InstanceState
vote_submitted k v x = if is_nothing (all_submitted x.proposer) then with_update (casts k v) x else x

-- it was, and a set was learnt since
pub record HasCast (commit : ℕ) (v : Vote) (x : InstanceState) : Type 0 where
  pub submitted : all_submitted x.proposer ≡ casts commit v ∷ []
  pub learnt : IsSome x.learnt
