-- What the members of a run know together, once all have come back.
use Rattle.std.specs.Prelude.{◌≡◌, ◌⊎◌, ℕ, ◌+◌, true, List, [], All, map, length, slice_get, Some, None, IsSome}
use Rattle.std.specs.List.{AllZip}
use mathlib.Core.List.{IsPrefix}
use Rattle.la_commit.specs.declared.outcome.Outcome.{Outcome}
use Rattle.la_commit.specs.declared.outcome.Outcome.TheVariants.{Commit}
use Rattle.la_commit.specs.Outcomes.{is_commit, value_of}
use Rattle.la_commit.specs.declared.vote.Vote.{Vote}
use Rattle.la_commit.specs.Instances.{second_instance}
use Rattle.la_commit.specs.Votes.{vote_of}
use Rattle.la_object.specs.declared.query.Query.{Query}
use Rattle.la_object.specs.Shelves.{ShelfState, kind_at, answer_at}
use Rattle.la_set.specs.declared.update.Update.{Update}
use Rattle.la_set.specs.Histories.{Histories, ContainsUpdate}
use Rattle.la_set.specs.Inclusion.{IsSubset, AreComparable}
use Rattle.la_runner.specs.declared.jobs.Entry.{Entry}
use Rattle.la_runner.specs.declared.jobs.Entry.TheVariants.{Decided}
use Rattle.la_runner.specs.declared.jobs.Job.TheVariants.{Decide}
use Rattle.la_runner.specs.declared.log.Log.{Log}
use Rattle.la_runner.specs.Certificates.{passes_seen_at}
use Rattle.la_runner.specs.Counted.{log_taker, NotesCount}
use Rattle.la_runner.specs.Entries.{entry_set, IsKnownTo}
use Rattle.la_runner.specs.Invariant.{IsMember}
use Rattle.la_runner.specs.Laws.{InventsNothing}
use Rattle.la_runner.specs.Members.{MemberState, MemberGoesOn, passes_in, member_submitted, member_view}
use Rattle.la_runner.specs.Notes.{doings}
use Rattle.la_runner.specs.Participants.{HasProposed}
use Rattle.la_runner.specs.Runs.{Back, Place, IsBackOf, log_back}
use Rattle.la_runner.specs.Sound.{IsMemberSubmission}

-- the second is of the first's group, and has seen what the first has
pub record HasSeen (m n : MemberState) : Type 0 where
  pub votes : n.votes ≡ m.votes
  pub sees : (i a : ℕ) → IsPrefix (passes_seen_at (passes_in m i) a) (passes_seen_at (passes_in n i) a)

-- the member has seen what it had, and perhaps more; what it did is as before, and its view
pub record SeesMore (old new : MemberState) : Type 0 where
  pub is : IsMember new
  pub goes : MemberGoesOn old new
  pub same : doings new ≡ doings old
  pub kept : member_view new ≡ member_view old

-- a log that is as before, but for what its member has seen
pub record IsSameLog (b c : Back) : Type 0 where
  pub same_replica : c.replica ≡ b.replica
  pub sees : SeesMore b.member c.member
  pub same_shelf : c.shelf ≡ b.shelf
  pub same_entries : c.entries ≡ b.entries
  pub same_stopped : c.stopped ≡ b.stopped

-- some member has seen what the members of all these logs have
pub record IsSeenBy (logs : List Back) : Type 0 where
  pub witness : MemberState
  pub is : IsMember witness
  pub sees : All (λ b. HasSeen b.member witness) logs

-- one has, where there are logs at all
abbrev pub AreSeen : List Back → Type 0
AreSeen logs = (logs ≡ []) ⊎ IsSeenBy logs

-- the view of a member that comes back is empty or certified, and it has invented nothing
abbrev pub IsHonest : MemberState → Type 0
IsHonest m = IsKnownTo m (member_view m) × InventsNothing m

-- ## Sets of a log

-- a set that the log names: its final view, a learnt set or the view of an answer
abbrev pub NamesSet : Back → Histories → Type 0
NamesSet b s =
    (s ≡ member_view b.member)
    ⊎ ((k : ℕ) × (e : Entry) × (slice_get b.entries k ≡ Some e) × (entry_set e ≡ Some s))

-- over all logs any two are comparable
abbrev pub AllComparable : List Back → Type 0
AllComparable logs =
    (i j : ℕ) (b c : Back) (s t : Histories)
    → slice_get logs i ≡ Some b → slice_get logs j ≡ Some c
    → NamesSet b s → NamesSet c t → AreComparable s t

-- ## Notes

-- the final view of a log with a note of each peer contains every set that a log names
abbrev pub NotesHold : (notes : List ℕ) → List Back → Type 0
NotesHold notes logs =
    (at n : ℕ) (b : Back) → slice_get notes at ≡ Some n → n + 1 ≡ length logs
    → slice_get logs at ≡ Some b
    → (to : ℕ) (c : Back) (s : Histories) → slice_get logs to ≡ Some c
    → NamesSet c s → IsSubset s (member_view b.member)

-- two shelves give the same answers for objects of one kind
abbrev pub AnswerAlike : ShelfState → ShelfState → Type 0
AnswerAlike a b =
    (object : ℕ) (query : Query) → kind_at a.objects object ≡ kind_at b.objects object
    → answer_at a object query ≡ answer_at b object query

-- two logs with a note of each peer have one view; where nothing stopped them, their shelves answer
-- alike
abbrev pub NotesAgree : (notes : List ℕ) → List Back → Type 0
NotesAgree notes logs =
    (i j n m : ℕ) (b c : Back) → slice_get notes i ≡ Some n → slice_get notes j ≡ Some m
    → n + 1 ≡ length logs → m + 1 ≡ length logs
    → slice_get logs i ≡ Some b → slice_get logs j ≡ Some c
    → (member_view b.member ≡ member_view c.member)
    × (b.stopped ≡ None → c.stopped ≡ None → AnswerAlike b.shelf c.shelf)

-- ## Decisions

-- a decision of a run: at which adopt-commit object, of which replica and for which value, by which
-- sets, and what it came to
pub record Decision : Type 0 where
  pub commit : ℕ
  pub replica : ℕ
  pub value : ℕ
  pub first : Histories
  pub second : Histories
  pub reached : Outcome

-- a job that proposes the value is answered by it, in the replica's log
pub record IsDecisionMade (given : List Place) (logs : List Back) (d : Decision) : Type 0 where
  pub at : ℕ
  pub place : Place
  pub log : Back
  pub nth : ℕ
  pub is_given : slice_get given at ≡ Some place
  pub is_log : slice_get logs at ≡ Some log
  pub is_of : d.replica ≡ log.replica
  pub is_job : slice_get place.jobs nth ≡ Some (Decide d.commit d.value)
  pub is_entry : slice_get log.entries nth ≡ Some (Decided d.first d.second d.reached)

-- at one object
abbrev pub IsMadeAt : List Place → List Back → (commit : ℕ) → Decision → Type 0
IsMadeAt given logs k d = IsDecisionMade given logs d × (d.commit ≡ k)

-- of an object's decisions the first sets are pairwise comparable, and so are the second
abbrev pub DecisionsCompare : List Place → List Back → Type 0
DecisionsCompare given logs =
    (k : ℕ) (d e : Decision) → IsMadeAt given logs k d → IsMadeAt given logs k e
    → AreComparable d.first e.first × AreComparable d.second e.second

-- the update is the first one of a replica that decided at the object
abbrev pub IsFirstOfDecided : List Place → List Back → (commit : ℕ) → Update → Type 0
IsFirstOfDecided given logs k u =
    (d : Decision) × IsMadeAt given logs k d × (u.id ≡ record { replica = d.replica; number = 1 })

-- some member of the run has submitted the update in the instance
abbrev pub WasSubmitted : List Back → (instance : ℕ) → Update → Type 0
WasSubmitted logs i u =
    (at : ℕ) × (b : Back) × (slice_get logs at ≡ Some b)
    × IsMemberSubmission b.member.replica (member_submitted b.member i) u

-- some member of the run has proposed the value at the object
abbrev pub WasProposed : List Back → (commit value : ℕ) → Type 0
WasProposed logs k value =
    (at : ℕ) × (b : Back) × (slice_get logs at ≡ Some b) × HasProposed b.member k value

-- nobody outside the run cast a sole vote of this second set: each was submitted by a member, also
-- by one that stopped before it decided, or is the first update of one that decided
abbrev pub HasTheRunsSoleVotes : List Place → List Back → (commit : ℕ) → Histories → Type 0
HasTheRunsSoleVotes given logs k s =
    (u : Update) (v : Vote) → ContainsUpdate s u → vote_of u.op ≡ Some v → v.sole ≡ true
    → WasSubmitted logs (second_instance k) u ⊎ IsFirstOfDecided given logs k u

-- nobody but those that decided voted in the set
abbrev pub HasTheirVotes : List Place → List Back → (commit : ℕ) → Histories → Type 0
HasTheirVotes given logs k s =
    (u : Update) → ContainsUpdate s u → IsSome (vote_of u.op) → IsFirstOfDecided given logs k u

-- what those that decided at an object came to is one another's, whoever else stopped
pub record IsAgreed (given : List Place) (logs : List Back) (k : ℕ) : Type 0 where
  -- where one commits a value, each has it
  pub agree :
      (d e : Decision) → IsMadeAt given logs k d → IsMadeAt given logs k e
      → is_commit d.reached ≡ true → value_of e.reached ≡ value_of d.reached
  -- what one returns, a member of the run proposed
  pub proposed :
      (d : Decision) → IsMadeAt given logs k d → WasProposed logs k (value_of d.reached)

-- at each object in whose second sets nobody outside the run cast a sole vote
abbrev pub DecisionsAgree : List Place → List Back → Type 0
DecisionsAgree given logs =
    (k : ℕ) → ((d : Decision) → IsMadeAt given logs k d → HasTheRunsSoleVotes given logs k d.second)
    → IsAgreed given logs k

-- those that decided have what one of them proposed, and commit it where all proposed it
pub record IsTheirs (given : List Place) (logs : List Back) (k : ℕ) : Type 0 where
  -- what one returns, one of them proposed
  pub proposed :
      (d : Decision) → IsMadeAt given logs k d
      → (e : Decision) × IsMadeAt given logs k e × (e.value ≡ value_of d.reached)
  -- where all proposed one value, and nobody else voted in the first sets either, each commits it
  pub unanimous :
      (value : ℕ) → ((d : Decision) → IsMadeAt given logs k d
      → HasTheirVotes given logs k d.first × (d.value ≡ value))
      → (d : Decision) → IsMadeAt given logs k d → d.reached ≡ Commit value

-- at each object in whose second sets nobody else voted
abbrev pub DecisionsAreTheirs : List Place → List Back → Type 0
DecisionsAreTheirs given logs =
    (k : ℕ) → ((d : Decision) → IsMadeAt given logs k d → HasTheirVotes given logs k d.second)
    → IsTheirs given logs k

-- ## All of it

-- what the logs of a run keep, whatever the threads did: of members, shelves and jobs that were given place by place
pub record KeepsRun {B : Type 0} (given : List Place) (logs : List (Log B)) : Type 0 where
  pub each : AllZip IsBackOf given (map log_back logs)
  pub comparable : AllComparable (map log_back logs)
  pub honest : All (λ l. IsHonest l.member) logs
  pub decisions : DecisionsCompare given (map log_back logs)
  pub agreed : DecisionsAgree given (map log_back logs)
  pub theirs : DecisionsAreTheirs given (map log_back logs)
  pub counted : NotesCount (map (λ l. l.notes) logs) (map log_taker logs)
  pub notes : NotesHold (map (λ l. l.notes) logs) (map log_back logs)
  pub alike : NotesAgree (map (λ l. l.notes) logs) (map log_back logs)
