-- When a proposer may be taken up again from what it keeps: tests that compute.
use Rattle.std.specs.Prelude.{ℕ, ◌==◌, nat_lt, nat_le, Bool, true, ◌&&◌, ◌||◌, List, [], ◌∷◌, length, Option, Some, None, if◌then◌else◌}
use Rattle.std.specs.List.{list_all}
use Rattle.la_set.specs.declared.set.TheConstants.{REPLICAS}
use Rattle.la_set.specs.Histories.{Histories, count}
use Rattle.la_set.specs.Inclusion.{is_subset}
use Rattle.la_set.specs.Join.{join}
use Rattle.la_acceptor.specs.declared.reply.Reply.{Reply}
use Rattle.la_acceptor.specs.declared.reply.Reply.TheVariants.{Yes, No}
use Rattle.la_proposer.specs.declared.parts.ProposerParts.{ProposerParts}
use Rattle.la_proposer.specs.declared.proposer.TheConstants.{MAX_BALLOTS, MAX_CAP}
use Rattle.la_proposer.specs.declared.tally.Counted.{Counted}
use Rattle.la_proposer.specs.Majority.{votes_of, how_many}
use Rattle.la_proposer.specs.Tally.{has_counted}
use Rattle.la_proposer.specs.ProposerState.{ProposerState, WaitsOnlyAsking, submitted}
use Rattle.la_proposer.specs.Inputs.{all_submitted}
use Rattle.la_proposer.specs.Fields.{alone, proposer_state_of}
use Rattle.la_proposer.specs.Invariant.{IsProposerState}

-- ## Sets that agree

-- no id has two updates, in two sets: their join has all of the second, too
abbrev pub are_compatible : Histories → Histories → Bool
are_compatible a b = is_subset b (join a b)

-- nor in a set and in a reply's
abbrev pub reply_agrees : Histories → Reply → Bool
reply_agrees s Yes = true
reply_agrees s (No refused) = are_compatible s refused

-- nor in two replies'
abbrev pub replies_agree : Reply → Reply → Bool
replies_agree Yes reply = true
replies_agree (No other) reply = reply_agrees other reply

-- nor in any two of the counted replies'
abbrev pub agree_in_pairs : List Counted → Bool
agree_in_pairs [] = true
agree_in_pairs (c ∷ cs) = list_all (λ d. replies_agree c.reply d.reply) cs && agree_in_pairs cs

-- ## The test

-- of the proposer's own updates a reply has no more than the ballot's set
abbrev pub has_no_more_own : Histories → ℕ → Reply → Bool
has_no_more_own s own Yes = true
has_no_more_own s own (No refused) = nat_le (count refused own) (count s own)

-- a reply may have counted in the last ballot: it is of an acceptor of the group, and its set agrees
-- with the ballot's
abbrev pub may_have_counted : ProposerState → Counted → Bool
may_have_counted p c =
    nat_lt c.from (length p.votes)
    && (reply_agrees p.updates c.reply && has_no_more_own p.updates p.own c.reply)

-- each counted reply may have counted, they are of as many acceptors as there are replies, and their
-- sets agree
abbrev pub have_counted_rightly : ProposerState → Bool
have_counted_rightly p =
    list_all (may_have_counted p) p.tally
    && (nat_le (length p.tally) (how_many (length p.votes) (has_counted p.tally))
    && agree_in_pairs p.tally)

-- a replica of its group, within its limits
abbrev pub is_within_limits : ProposerState → Bool
is_within_limits p =
    nat_lt p.own (length p.votes)
    && (nat_le (length p.votes) 8
    && (nat_le p.cap MAX_CAP
    && (nat_le p.number MAX_BALLOTS
    && (nat_le (submitted p) p.cap && (length p.reported == REPLICAS)))))

-- while no ballot is open, no submission waits, and no reply has counted
abbrev pub keeps_only_asking : ProposerState → Bool
keeps_only_asking p = p.is_asking || ((length p.waiting == 0) && (length p.tally == 0))

-- a state in which a proposer may be taken up again
unfoldable pub may_resume : ProposerState → Bool
may_resume p = is_within_limits p && (keeps_only_asking p && have_counted_rightly p)

-- what the test decides: the state is a proposer's, and submissions wait only while it asks
pub record IsResumable (p : ProposerState) : Type 0 where
  pub is_proposer : IsProposerState p
  pub waits : WaitsOnlyAsking p

-- ## Its parts

-- all that it has submitted, as one set
abbrev pub submissions_of : ProposerState → Histories
submissions_of p = alone p.own (all_submitted p)

-- the set is this one
unfoldable pub is_all_submitted : ProposerState → Histories → Bool
is_all_submitted p s = is_subset s (submissions_of p) && is_subset (submissions_of p) s

-- what the parts are those of: what waits is what the last ballot's set lacks of the own submissions
abbrev pub state_from : ProposerParts → ProposerState
state_from x =
    proposer_state_of (votes_of x.votes) x.own x.cap x.last x.is_asking x.tally.items x.submissions
    x.reported

-- the parts are those of a proposer that may be taken up again
abbrev pub parts_may_resume : ProposerParts → Bool
parts_may_resume x = may_resume (state_from x) && is_all_submitted (state_from x) x.submissions

-- which is then this one
abbrev pub resumed_from : ProposerParts → Option ProposerState
resumed_from x = if parts_may_resume x then Some (state_from x) else None
