-- The refusals of proposals, and the limits of a group in numbers.
use Rattle.std.proofs.Common.{◌≡◌, ℕ, ◌<◌, ◌≤◌, cond, List, [], ◌∷◌, ◌++◌, length, Option, Some, None, refl, ap, ◌∙◌, arith}
use Rattle.std.specs.Prelude.{nat_le}
use Rattle.std.proofs.lemmas.Bool.{cond-true, cond-false, le-leb, lt-leb}
use Rattle.std.proofs.lemmas.List.{length_push}
use Rattle.la_set.proofs.lemmas.Prefixes.{IsPrefix-length}
use Rattle.la_commit.specs.Instances.{first_instance}
use Rattle.la_commit.specs.Votes.{first_vote}
use Rattle.la_world.specs.declared.error.Refusal.{Refusal}
use Rattle.la_world.specs.declared.error.Refusal.TheVariants.{NoSuchReplica, NoSuchCommit, AlreadyProposed}
use Rattle.la_world.specs.Groups.{Group, replicas}
use Rattle.la_world.specs.Events.{Event, Decide}
use Rattle.la_world.specs.Trace.{Trace}
use Rattle.la_node.specs.SecondVotes.{Submission}
use Rattle.la_world.specs.Submissions.{submitted_ops}
use Rattle.la_world.specs.Playing.{event_entry, trace}
use Rattle.la_world.specs.Report.{refused}
use Rattle.la_world.specs.Laws.{SecondProposalsAreRefused, AreTestedInOrder, ProposalsAreTestedInOrder, LimitsAre}
use Rattle.la_world.proofs.EventCases.{submitted_with}
use Rattle.la_world.proofs.SubmittedBound.{submitted_prefix}
use Rattle.la_world.proofs.Allowing.{proposer_known, object_known}

-- ## One proposal

module _ (g : Group) (t : Trace) (r k value : ℕ) where
  abbrev proposals : ℕ
  proposals = length (submitted_ops t (first_instance k) r)

  -- the tests after the first, and after the second
  abbrev by_proposals : Option Refusal
  by_proposals = cond (nat_le 1 proposals) (Some AlreadyProposed) None

  abbrev by_commit : Option Refusal
  by_commit = cond (nat_le g.commits k) (Some NoSuchCommit) by_proposals

  known_replica : r < replicas g → refused g t (Decide r k value) ≡ by_commit
  known_replica lt = cond-false (nat_le (replicas g) r) (Some NoSuchReplica) by_commit (lt-leb (replicas g) r lt)

  known_commit : r < replicas g → k < g.commits → refused g t (Decide r k value) ≡ by_proposals
  known_commit lt lk =
      known_replica lt ∙ cond-false (nat_le g.commits k) (Some NoSuchCommit) by_proposals (lt-leb g.commits k lk)

  has_proposed : r < replicas g → k < g.commits → 1 ≤ proposals → refused g t (Decide r k value) ≡ Some AlreadyProposed
  has_proposed lt lk some =
      known_commit lt lk ∙ cond-true (nat_le 1 proposals) (Some AlreadyProposed) None (le-leb 1 proposals some)

  in_order : AreTestedInOrder g t r k value
  in_order = record {
    replica = λ le. cond-true (nat_le (replicas g) r) (Some NoSuchReplica) by_commit (le-leb (replicas g) r le);
    commit =
        λ lt le.
        known_replica lt ∙ cond-true (nat_le g.commits k) (Some NoSuchCommit) by_proposals (le-leb g.commits k le);
    proposed = has_proposed;
    first =
        λ lt lk none.
        known_commit lt lk ∙ cond-false (nat_le 1 proposals) (Some AlreadyProposed) None (lt-leb 1 proposals none);
  }

pub tested_in_order : ProposalsAreTestedInOrder
tested_in_order g events r k value = in_order g (trace g events) r k value

-- ## Another one later

-- a proposal is submitted
is_submitted : (g : Group) (events : List Event) (r k value : ℕ)
    → 1 ≤ length (submitted_ops (trace g (Decide r k value ∷ events)) (first_instance k) r)
unfolding trace
is_submitted g events r k value =
    let t = trace g events in
    let vote : Submission = record { instance = first_instance k; replica = r; object_op = first_vote k value } in
    omega (
      arith,
      ap length (submitted_with (event_entry g t (Decide r k value)) t (first_instance k) r vote refl refl refl)
          ∙ length_push (submitted_ops t (first_instance k) r) (first_vote k value),
    )

-- what is submitted stays so
pub stays_submitted : (g : Group) (more events : List Event) (i r : ℕ)
    → length (submitted_ops (trace g events) i r) ≤ length (submitted_ops (trace g (more ++ events)) i r)
unfolding trace
stays_submitted g [] events i r = omega arith
stays_submitted g (e ∷ more) events i r =
    let t = trace g (more ++ events) in
    omega (
      arith,
      stays_submitted g more events i r,
      IsPrefix-length (submitted_ops t i r) (submitted_ops (event_entry g t e ∷ t) i r)
          (submitted_prefix (event_entry g t e) t i r),
    )

pub second_refused : SecondProposalsAreRefused
second_refused g events more r k value other e =
    let t = trace g events in
    has_proposed g (trace g (more ++ Decide r k value ∷ events)) r k other (proposer_known g t r k value e)
    (object_known g t r k value e)
    (omega
    (arith, is_submitted g events r k value, stays_submitted g more (Decide r k value ∷ events) (first_instance k) r))

-- ## Limits

pub limits_are : LimitsAre
limits_are c = (
  λ h. record { replicas = h.group.replicas; some = h.group.some; few = h.group.few; commits = h.commits; cap_some = h.group.cap_some; cap_most = h.group.cap_most },
  λ h. record { group = record { replicas = h.replicas; some = h.some; few = h.few; cap_some = h.cap_some; cap_most = h.cap_most }; commits = h.commits },
)
