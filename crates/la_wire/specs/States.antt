-- A replica's state as one text: a head, and behind it, each with `|` before it, the instances from 0 on. An instance
-- is a head, and behind it, each with `;` before it, the updates of the union of all its sets. Each of these sets is
-- written as its counts: its updates are the first so many of each replica in the union.
use Rattle.std.specs.Prelude.{ℕ, nat_le, Bool, true, false, ◌&&◌, List, [], ◌∷◌, ◌++◌, map, length, codes}
use Rattle.std.specs.Prelude.{Option, Some, None, Result, Ok, Err, if◌then◌else◌}
use Rattle.std.specs.List.{list_all}
use Rattle.std.specs.Fmt.{decimal}
use Rattle.std.specs.Str.{bytes_eq}
use Rattle.la_set.specs.declared.counts.Counts.{Counts}
use Rattle.la_set.specs.declared.update.Update.{Update}
use Rattle.la_set.specs.Counts.{counts_of, within}
use Rattle.la_set.specs.Deltas.{pushed}
use Rattle.la_set.specs.Histories.{Histories, empty, updates}
use Rattle.la_set.specs.Join.{join}
use Rattle.la_acceptor.specs.declared.reply.Reply.{Reply}
use Rattle.la_acceptor.specs.declared.reply.Reply.TheVariants as replied
use Rattle.la_proposer.specs.declared.ballot.Ballot.{Ballot}
use Rattle.la_proposer.specs.declared.tally.Counted.{Counted}
use Rattle.la_proposer.specs.declared.votes.TheConstants.{MAX_VOTES}
use Rattle.la_proposer.specs.Fields.{proposer_state_of}
use Rattle.la_proposer.specs.ProposerState.{ProposerState}
use Rattle.la_proposer.specs.Resuming.{may_resume, is_all_submitted, submissions_of}
use Rattle.la_proposer.specs.Tally.{joined_with_refusals}
use Rattle.la_replica.specs.declared.instance.Instance.{Instance}
use Rattle.la_replica.specs.ReplicaState.{ReplicaState}
use Rattle.la_replica.specs.Resuming.{resumed_replica}
use Rattle.la_node.specs.Accepting.{has_counts, are_next}
use Rattle.la_script.specs.Numbers.{u8_max, u16_max, u32_max}
use Rattle.la_wire.specs.declared.error.LineFault.{LineFault}
use Rattle.la_wire.specs.declared.error.LineFault.TheVariants.{BadLine, BadNumber}
use Rattle.la_wire.specs.declared.states.heads.BallotHead.{BallotHead}
use Rattle.la_wire.specs.declared.states.heads.InstanceHead.{InstanceHead}
use Rattle.la_wire.specs.declared.states.heads.GroupHead as code
use Rattle.la_wire.specs.declared.states.reading.Section.{Section}
use Rattle.la_proposer.specs.Majority.{votes_of}
use Rattle.la_wire.specs.Joined.{joined_by, parted}
use Rattle.la_wire.specs.Readings.{◌>>=◌, or_line_fault, with_rest, number_on, first_number}
use Rattle.la_wire.specs.Updates.{update_text, made, updates_in}
use Rattle.la_wire.specs.MessageLines.{has_word, view_word, counts_text, counts_on, first_counts, counts_behind}
use Rattle.la_wire.specs.CallLines.{said_ok}

-- ## Heads

-- what the head of a state says: whose it is, its view's counts, and the votes of its group
pub record GroupSaid : Type 0 where
  pub own : ℕ
  pub view : Counts
  pub votes : List ℕ

abbrev pub said_group : code.GroupHead → GroupSaid
said_group g = record { own = g.own; view = g.view; votes = votes_of g.votes }

abbrev pub group_said_of : ReplicaState → GroupSaid
group_said_of r = record { own = r.own; view = counts_of r.view; votes = r.votes }

abbrev pub ballot_head : Ballot → BallotHead
ballot_head b = record { number = b.number; of = counts_of b.updates }

abbrev pub learnt_head : Option Ballot → Option BallotHead
learnt_head None = None
learnt_head (Some b) = Some (ballot_head b)

-- what the head of an instance says, but for the replies that have counted
abbrev pub instance_head_of : Instance → InstanceHead
instance_head_of x = record {
  cap = x.proposer.cap;
  accepted = counts_of x.acceptor;
  last = record { number = x.proposer.number; of = counts_of x.proposer.updates };
  is_asking = x.proposer.is_asking;
  submissions = counts_of (submissions_of x.proposer);
  reported = x.proposer.reported;
  learnt = learnt_head x.learnt;
}

-- ## As it is written

abbrev pub asking_word : (is_asking : Bool) → List ℕ
asking_word true = codes "open"
asking_word false = codes "shut"

abbrev pub ballot_words : BallotHead → List (List ℕ)
ballot_words b = decimal b.number ∷ counts_text b.of ∷ []

abbrev pub learnt_words : Option BallotHead → List (List ℕ)
learnt_words None = codes "none" ∷ []
learnt_words (Some b) = ballot_words b

abbrev pub group_words : GroupSaid → List (List ℕ)
group_words g = codes "state" ∷ decimal g.own ∷ view_word ∷ counts_text g.view ∷ codes "votes" ∷ map decimal g.votes

abbrev pub asking_words : InstanceHead → List (List ℕ)
asking_words h =
    codes "cap" ∷ decimal h.cap ∷ has_word ∷ counts_text h.accepted ∷ codes "ballot" ∷ ballot_words h.last
    ++ asking_word h.is_asking ∷ codes "mine" ∷ counts_text h.submissions ∷ []

abbrev pub told_words : InstanceHead → List (List ℕ)
told_words h = codes "reported" ∷ map counts_text h.reported ++ codes "learnt" ∷ learnt_words h.learnt

abbrev pub instance_words : InstanceHead → List (List ℕ)
instance_words h = asking_words h ++ told_words h

-- an acknowledgement, or the counts of a refusal's set
abbrev pub reply_word : Reply → List ℕ
reply_word replied.Yes = codes "yes"
reply_word (replied.No refused) = counts_text (counts_of refused)

-- of each reply whose it is, and what it says
abbrev pub tally_words : List Counted → List (List ℕ)
tally_words [] = []
tally_words (c ∷ cs) = decimal c.from ∷ reply_word c.reply ∷ tally_words cs

abbrev pub with_learnt : Histories → Option Ballot → Histories
with_learnt s None = s
with_learnt s (Some b) = join s b.updates

-- the union of all sets of an instance, where no id has two updates in them
abbrev pub union_in : Instance → Histories
union_in x =
    joined_with_refusals
    (with_learnt (join (join x.acceptor x.proposer.updates) (submissions_of x.proposer)) x.learnt)
    x.proposer.tally

abbrev pub section_text : Instance → (union : Histories) → List ℕ
section_text x union =
    joined_by 59
    (joined_by 32 (instance_words (instance_head_of x) ++ tally_words x.proposer.tally)
    ∷ map update_text (updates union))

-- the union of instance 0 has the view, too
abbrev pub section_texts : (view : Histories) → List Instance → List (List ℕ)
section_texts view [] = []
section_texts view (x ∷ xs) = section_text x (join (union_in x) view) ∷ map (λ y. section_text y (union_in y)) xs

unfoldable pub state_text : ReplicaState → List ℕ
state_text r = joined_by 124 (joined_by 32 (group_words (group_said_of r)) ∷ section_texts r.view r.instances)

-- ## As it is read: words

-- the first of the words behind this one, as a number, and the words behind it
abbrev pub number_behind : (label : List ℕ) → (high : ℕ) → List (List ℕ) → Result (ℕ × List (List ℕ)) LineFault
number_behind label high [] = Err BadLine
number_behind label high (word ∷ words) = if bytes_eq word label then first_number 0 high words else Err BadLine

abbrev pub asking_of : List ℕ → Option Bool
asking_of word =
    if bytes_eq word (asking_word true) then Some true else
    if bytes_eq word (asking_word false) then Some false else None

abbrev pub first_asking : List (List ℕ) → Result (Bool × List (List ℕ)) LineFault
first_asking [] = Err BadLine
first_asking (word ∷ words) = with_rest words (or_line_fault BadLine (asking_of word))

unfoldable pub first_ballot : List (List ℕ) → Result (BallotHead × List (List ℕ)) LineFault
first_ballot words = do
  number ← first_number 0 u32_max words
  of ← first_counts number.1
  Ok (record { number = number.0; of = of.0 }, of.1)

abbrev pub ballot_behind : (label : List ℕ) → List (List ℕ) → Result (BallotHead × List (List ℕ)) LineFault
ballot_behind label [] = Err BadLine
ballot_behind label (word ∷ words) = if bytes_eq word label then first_ballot words else Err BadLine

abbrev pub first_learnt : List (List ℕ) → Result (Option BallotHead × List (List ℕ)) LineFault
first_learnt [] = Err BadLine
first_learnt (word ∷ words) =
    if bytes_eq word (codes "none") then Ok (None, words) else
    made (λ b. (Some b.0, b.1)) (first_ballot (word ∷ words))

abbrev pub learnt_behind : (label : List ℕ) → List (List ℕ) → Result (Option BallotHead × List (List ℕ)) LineFault
learnt_behind label [] = Err BadLine
learnt_behind label (word ∷ words) = if bytes_eq word label then first_learnt words else Err BadLine

-- counts of each replica that there may be
unfoldable pub eight_counts : List (List ℕ) → Result (List Counts × List (List ℕ)) LineFault
eight_counts words = do
  a ← first_counts words
  b ← first_counts a.1
  c ← first_counts b.1
  d ← first_counts c.1
  e ← first_counts d.1
  f ← first_counts e.1
  g ← first_counts f.1
  h ← first_counts g.1
  Ok (a.0 ∷ b.0 ∷ c.0 ∷ d.0 ∷ e.0 ∷ f.0 ∷ g.0 ∷ h.0 ∷ [], h.1)

abbrev pub eight_behind : (label : List ℕ) → List (List ℕ) → Result (List Counts × List (List ℕ)) LineFault
eight_behind label [] = Err BadLine
eight_behind label (word ∷ words) = if bytes_eq word label then eight_counts words else Err BadLine

-- an instance's head, and the words behind it
unfoldable pub instance_head : List (List ℕ) → Result (InstanceHead × List (List ℕ)) LineFault
instance_head words = do
  cap ← number_behind (codes "cap") u32_max words
  accepted ← counts_behind has_word cap.1
  last ← ballot_behind (codes "ballot") accepted.1
  is_asking ← first_asking last.1
  submissions ← counts_behind (codes "mine") is_asking.1
  reported ← eight_behind (codes "reported") submissions.1
  learnt ← learnt_behind (codes "learnt") reported.1
  Ok (
    record {
      cap = cap.0;
      accepted = accepted.0;
      last = last.0;
      is_asking = is_asking.0;
      submissions = submissions.0;
      reported = reported.0;
      learnt = learnt.0;
    },
    learnt.1,
  )

abbrev pub vote_numbers : List (List ℕ) → Result (List ℕ) LineFault
vote_numbers [] = Ok []
vote_numbers (word ∷ words) = do
  n ← number_on 0 u16_max word
  ns ← vote_numbers words
  Ok (n ∷ ns)

-- the votes of a group: of 1 to 8 replicas, with 1 to 1,000 each
abbrev pub is_group : List ℕ → Bool
is_group votes =
    nat_le 1 (length votes)
    && (nat_le (length votes) 8
    && list_all (λ v. nat_le 1 v && nat_le v MAX_VOTES) votes)

abbrev pub group_with : List ℕ → Result (List ℕ) LineFault
group_with votes = if is_group votes then Ok votes else Err BadNumber

abbrev pub votes_behind : (label : List ℕ) → List (List ℕ) → Result (List ℕ) LineFault
votes_behind label [] = Err BadLine
votes_behind label (word ∷ words) = if bytes_eq word label then vote_numbers words >>= group_with else Err BadLine

unfoldable pub group_head : List (List ℕ) → Result GroupSaid LineFault
group_head words = do
  own ← number_behind (codes "state") u8_max words
  view ← counts_behind view_word own.1
  votes ← votes_behind (codes "votes") view.1
  Ok (record { own = own.0; view = view.0; votes = votes })

-- ## As it is read: sets

-- the set that updates make, where each is the next of its replica
abbrev pub set_made : List Update → Result Histories LineFault
set_made us = if are_next empty us then Ok (pushed empty us) else Err BadLine

abbrev pub union_on : List (List ℕ) → Result Histories LineFault
union_on parts = updates_in parts >>= set_made

-- of a union the first so many updates of each replica, where it has them
abbrev pub set_taken : Histories → Counts → Result Histories LineFault
set_taken union c = if has_counts union c then Ok (within union c) else Err BadNumber

unfoldable pub ballot_taken : Histories → BallotHead → Result Ballot LineFault
ballot_taken union b = made (λ s. record { number = b.number; updates = s }) (set_taken union b.of)

abbrev pub learnt_from : Histories → Option BallotHead → Result (Option Ballot) LineFault
learnt_from union None = Ok None
learnt_from union (Some b) = made Some (ballot_taken union b)

abbrev pub reply_on : Histories → List ℕ → Result Reply LineFault
reply_on union word =
    if bytes_eq word (codes "yes") then Ok replied.Yes else made replied.No (counts_on word >>= set_taken union)

abbrev pub tally_on : Histories → List (List ℕ) → Result (List Counted) LineFault
tally_on union [] = Ok []
tally_on union (from ∷ []) = Err BadLine
tally_on union (from ∷ says ∷ words) = do
  n ← number_on 0 u8_max from
  reply ← reply_on union says
  more ← tally_on union words
  Ok (record { from = n; reply = reply } ∷ more)

-- ## As it is read: instances

-- the proposer with these parts, where there is one
abbrev pub resumed_proposer : ProposerState → (submissions : Histories) → Result ProposerState LineFault
resumed_proposer p submissions =
    if may_resume p && is_all_submitted p submissions then Ok p else Err BadLine

unfoldable pub proposer_made :
    (votes : List ℕ) → (own : ℕ) → (union : Histories) → InstanceHead → List Counted → Result ProposerState LineFault
proposer_made votes own union h tally = do
  last ← ballot_taken union h.last
  submissions ← set_taken union h.submissions
  resumed_proposer (proposer_state_of votes own h.cap last h.is_asking tally submissions h.reported) submissions

unfoldable pub instance_made :
    (votes : List ℕ) → (own : ℕ) → (union : Histories) → InstanceHead → List Counted → Result Instance LineFault
instance_made votes own union h tally = do
  accepted ← set_taken union h.accepted
  proposer ← proposer_made votes own union h tally
  learnt ← learnt_from union h.learnt
  Ok (record { acceptor = accepted; proposer = proposer; learnt = learnt })

unfoldable pub instance_on :
    (votes : List ℕ) → (own : ℕ) → (union : Histories) → List (List ℕ) → Result Instance LineFault
instance_on votes own union words = do
  head ← instance_head words
  tally ← tally_on union head.1
  instance_made votes own union head.0 tally

-- an instance, and the union of its sets, by its parts
abbrev pub section_by : (votes : List ℕ) → (own : ℕ) → List (List ℕ) → Result Section LineFault
section_by votes own [] = Err BadLine
section_by votes own (head ∷ updates) = do
  union ← union_on updates
  instance ← instance_on votes own union (parted 32 head)
  Ok (record { union = union; instance = instance })

unfoldable pub section_on : (votes : List ℕ) → (own : ℕ) → List ℕ → Result Section LineFault
section_on votes own section = section_by votes own (parted 59 section)

abbrev pub instances_on : (votes : List ℕ) → (own : ℕ) → List (List ℕ) → Result (List Instance) LineFault
instances_on votes own [] = Ok []
instances_on votes own (section ∷ sections) = do
  x ← section_on votes own section
  xs ← instances_on votes own sections
  Ok (x.instance ∷ xs)

-- ## As it is read

unfoldable pub replica_on : GroupSaid → List (List ℕ) → Result ReplicaState LineFault
replica_on g [] = Err BadLine
replica_on g (first ∷ sections) = do
  x ← section_on g.votes g.own first
  view ← set_taken x.union g.view
  xs ← made (λ others. x.instance ∷ others) (instances_on g.votes g.own sections)
  or_line_fault BadLine (resumed_replica (record { votes = g.votes; own = g.own; instances = xs; view = view }))

abbrev pub state_parted : List (List ℕ) → Result ReplicaState LineFault
state_parted [] = Err BadLine
state_parted (head ∷ sections) = group_head (parted 32 head) >>= (λ g. replica_on g sections)

-- the state that a text says, if it says one
unfoldable pub said_state : List ℕ → Option ReplicaState
said_state text = said_ok (state_parted (parted 124 text))
