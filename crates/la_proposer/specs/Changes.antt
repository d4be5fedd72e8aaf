-- What a prepared change is to a proposer: what stands once it is committed, and when it was
-- prepared from this very proposer.
use Rattle.std.specs.Prelude.{◌≡◌, ℕ, ◌<◌, Bool, true, false, List, [], ◌∷◌, ◌++◌, length, slice_set}
use Rattle.std.specs.Prelude.{Option, Some, None}
use Rattle.la_set.specs.declared.counts.Counts as numbers
use Rattle.la_acceptor.specs.declared.reply.Reply.{Reply}
use Rattle.la_set.specs.ObjectOps.{ObjectOp}
use Rattle.la_set.specs.Histories.{Histories}
use Rattle.la_proposer.specs.declared.ballot.Ballot.{Ballot}
use Rattle.la_proposer.specs.declared.change.Change.{Change}
use Rattle.la_proposer.specs.declared.change.Change.TheVariants.{Nothing, Holds, Submits, Counts, Opens, Closes}
use Rattle.la_proposer.specs.declared.change.Told.{Told}
use Rattle.la_proposer.specs.declared.heard.Heard.{Heard}
use Rattle.la_proposer.specs.declared.tally.Counted.{Counted}
use Rattle.la_proposer.specs.ProposerState.{ProposerState, WaitsOnlyAsking, told_by, submission_opens, after_submission}
use Rattle.la_proposer.specs.ProposerState.{heard_of, after_reply}
use Rattle.la_proposer.specs.Inputs.{all_submitted}
use Rattle.la_proposer.specs.Fields.{alone, proposer_state_of, IsRepresented}

-- the last ballot
abbrev pub last_of : ProposerState → Ballot
last_of p = record { number = p.number; updates = p.updates }

-- ## What the fields become

abbrev pub last_after : ProposerState → Change → Ballot
last_after p (Submits b s) = b
last_after p (Opens b told) = b
last_after p Nothing = last_of p
last_after p (Holds s) = last_of p
last_after p (Counts c) = last_of p
last_after p (Closes told) = last_of p

abbrev pub asking_after : ProposerState → Change → Bool
asking_after p (Submits b s) = true
asking_after p (Opens b told) = true
asking_after p (Closes told) = false
asking_after p Nothing = p.is_asking
asking_after p (Holds s) = p.is_asking
asking_after p (Counts c) = p.is_asking

abbrev pub tally_after : ProposerState → Change → List Counted
tally_after p (Submits b s) = []
tally_after p (Opens b told) = []
tally_after p (Closes told) = []
tally_after p (Counts c) = p.tally ++ c ∷ []
tally_after p Nothing = p.tally
tally_after p (Holds s) = p.tally

-- all that it has submitted, as one set
abbrev pub submissions_after : ProposerState → Change → Histories
submissions_after p (Holds s) = s
submissions_after p (Submits b s) = s
submissions_after p Nothing = alone p.own (all_submitted p)
submissions_after p (Counts c) = alone p.own (all_submitted p)
submissions_after p (Opens b told) = alone p.own (all_submitted p)
submissions_after p (Closes told) = alone p.own (all_submitted p)

-- what the reply tells that is counted by it, to a ballot with these updates
abbrev pub told_in : (updates : Histories) → Change → Option Told
told_in updates (Counts c) = Some (record { from = c.from; counts = told_by updates c.reply })
told_in updates (Opens b told) = Some told
told_in updates (Closes told) = Some told
told_in updates Nothing = None
told_in updates (Holds s) = None
told_in updates (Submits b s) = None

abbrev pub with_told : List numbers.Counts → Option Told → List numbers.Counts
with_told reported None = reported
with_told reported (Some told) = slice_set reported told.from told.counts

-- how many updates each acceptor has told that it has
abbrev pub reported_after : ProposerState → Change → List numbers.Counts
reported_after p c = with_told p.reported (told_in p.updates c)

-- what the proposer is once the change is committed
unfoldable pub after_commit : ProposerState → Change → ProposerState
after_commit p c =
    proposer_state_of p.votes p.own p.cap (last_after p c) (asking_after p c) (tally_after p c)
    (submissions_after p c) (reported_after p c)

-- ## Where it comes from

-- whom the reply is from by which a ballot ends, is of the group
abbrev pub EndsByOneOf : ProposerState → Change → Type 0
EndsByOneOf p (Opens b told) = told.from < length p.votes
EndsByOneOf p (Closes told) = told.from < length p.votes
EndsByOneOf p Nothing = Unit {0}
EndsByOneOf p (Holds s) = Unit {0}
EndsByOneOf p (Submits b s) = Unit {0}
EndsByOneOf p (Counts c) = Unit {0}

-- it was prepared from this proposer: the fields that it leads to are a proposer's, in which
-- submissions wait only while a ballot is open
unfoldable pub IsPreparedFrom : ProposerState → Change → Type 0
IsPreparedFrom p c =
    IsRepresented (after_commit p c) (submissions_after p c) × EndsByOneOf p c
    × WaitsOnlyAsking (after_commit p c)

-- it was prepared from this proposer, and leads there once it is committed
pub record Leads (p : ProposerState) (c : Change) (after : ProposerState) : Type 0 where
  pub to : after_commit p c ≡ after
  pub from : IsPreparedFrom p c

-- what is prepared of a submission: the ballot that is to open, if one is, and the change
pub record PreparesSubmission (p : ProposerState) (d : ObjectOp) (prepared : Option Ballot × Change) : Type 0 where
  pub opened : prepared.0 ≡ submission_opens p d
  pub leads : Leads p prepared.1 (after_submission p d)

-- what is prepared of a reply: what is heard of it, which is this, and the change, which leads there
pub record PreparesHearing (p : ProposerState) (this : Heard) (after : ProposerState) (prepared : Heard × Change)
    : Type 0 where
  pub heard : prepared.0 ≡ this
  pub leads : Leads p prepared.1 after

-- the same of a reply to a ballot: as it comes to
abbrev pub PreparesReply : ProposerState → (from ballot : ℕ) → Reply → Heard × Change → Type 0
PreparesReply p from ballot reply prepared =
    PreparesHearing p (heard_of p from ballot reply) (after_reply p from ballot reply) prepared
