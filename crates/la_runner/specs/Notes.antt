-- What a member tells another one, and what it takes in.
use Rattle.std.specs.Prelude.{◌≡◌, ◌⊎◌, ℕ, List, [], map, length, slice_get, Option, Some, None}
use mathlib.Core.List.{IsPrefix}
use Rattle.la_set.specs.Histories.{Histories, empty}
use Rattle.la_proposer.specs.ProposerState.{ProposerState}
use Rattle.la_shared.specs.declared.entry.Entry.{Entry}
use Rattle.la_shared.specs.History.{HasYes}
use Rattle.la_shared.specs.Passes.{Known, ToldPass, AcceptorName}
use Rattle.la_runner.specs.Certificates.{passes_seen_at, mine_at, OfMajority}
use Rattle.la_runner.specs.Following.{GoOn}
use Rattle.la_runner.specs.Instances.{InstanceState}
use Rattle.la_runner.specs.Members.{MemberState, GroupState, passes_in, member_view}
use Rattle.la_runner.specs.Rounds.{IsLarger}
use Rattle.la_runner.specs.Sound.{IsSound}

-- ## Of one instance

-- what a pass tells
abbrev pub pass_told : Known → ToldPass
pass_told k = record { acceptor = k.acceptor; seen = k.seen }

-- what is told of the acceptor with this number
abbrev pub told_seen : Option ToldPass → List Entry
told_seen None = []
told_seen (Some t) = t.seen

unfoldable pub notes_told_at : List ToldPass → ℕ → List Entry
notes_told_at told a = told_seen (slice_get told a)

-- of which acceptors something is told
abbrev pub told_names : List ToldPass → List AcceptorName
told_names told = map (λ t. t.acceptor) told

-- each pass has then seen what is told of its acceptor; nothing else changes
pub record Meets (heard : List ToldPass) (x y : InstanceState) : Type 0 where
  pub sound : IsSound y.proposer y.passes
  pub goes : GoOn x.passes y.passes
  pub mine : (a : ℕ) → mine_at y.passes a ≡ mine_at x.passes a
  pub told : (a : ℕ) → IsPrefix (notes_told_at heard a) (passes_seen_at y.passes a)
  pub proposer : y.proposer ≡ x.proposer
  pub learnt : y.learnt ≡ x.learnt
  pub view : y.view ≡ x.view

-- ## Of all of them

-- the same in each instance
pub record AllMeet (told : List (List ToldPass)) (xs ys : List InstanceState) : Type 0 where
  pub sizes : length ys ≡ length xs
  pub each :
      (i : ℕ) (t : List ToldPass) (x y : InstanceState) → slice_get told i ≡ Some t
      → slice_get xs i ≡ Some x → slice_get ys i ≡ Some y → Meets t x y

pub record NoteState : Type 0 where
  -- the votes of its giver's group, and which replica gave it
  pub votes : List ℕ
  pub giver : ℕ
  -- of each instance, from 0 on, what the giver's passes had seen; and its view
  pub told : List (List ToldPass)
  pub view : Histories

abbrev pub told_of : Option (List ToldPass) → List ToldPass
told_of None = []
told_of (Some told) = told

-- what is told of an instance's acceptors
abbrev pub note_told_in : NoteState → (instance : ℕ) → List ToldPass
note_told_in n i = told_of (slice_get n.told i)

-- what is true of every note: its view is empty, or has a certificate in what is told
abbrev pub IsNote : NoteState → Type 0
IsNote n = (n.view ≡ empty) ⊎ OfMajority n.votes (λ a. HasYes (notes_told_at (note_told_in n 0) a) n.view)

-- it is of this group
pub record IsNoteOf (group : GroupState) (n : NoteState) : Type 0 where
  pub votes : n.votes ≡ group.votes
  pub acceptors : map told_names n.told ≡ group.acceptors

-- it tells what a member's passes have seen, and its view
pub record TellsNote (m : MemberState) (n : NoteState) : Type 0 where
  pub votes : n.votes ≡ m.votes
  pub giver : n.giver ≡ m.replica
  pub told : n.told ≡ map (λ x. map pass_told x.passes) m.instances
  pub view : n.view ≡ member_view m

-- what was submitted, asked and learnt, by instance
abbrev pub doings : MemberState → List (ProposerState × Option Histories)
doings m = map (λ x. (x.proposer, x.learnt)) m.instances

-- a member has met a note: its passes have seen what the giver's had, its view is the larger of the
-- two, and it has made no offer
pub record HasMetNote (n : NoteState) (old new : MemberState) : Type 0 where
  pub told : (i a : ℕ) → IsPrefix (notes_told_at (note_told_in n i) a) (passes_seen_at (passes_in new i) a)
  pub mine : (i a : ℕ) → mine_at (passes_in new i) a ≡ mine_at (passes_in old i) a
  pub same : doings new ≡ doings old
  pub view : IsLarger n.view (member_view old) (member_view new)
