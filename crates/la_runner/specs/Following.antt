-- How a member goes on in one instance.
use Rattle.std.specs.Prelude.{◌≡◌, ◌⊎◌, ℕ, ◌≤◌, ◌<◌, true, List, ◌++◌, map}
use mathlib.Core.List.{IsPrefix}
use Rattle.la_set.specs.Histories.{Histories, history, count}
use Rattle.la_set.specs.Inclusion.{IsSubset}
use Rattle.la_acceptor.specs.declared.reply.Reply.TheVariants.{Yes}
use Rattle.la_proposer.specs.declared.heard.Heard.{Heard}
use Rattle.la_proposer.specs.declared.heard.Heard.TheVariants as said
use Rattle.la_proposer.specs.ProposerState.{ProposerState, submitted}
use Rattle.la_proposer.specs.Inputs.{all_submitted}
use Rattle.la_shared.specs.declared.entry.Entry.{Entry}
use Rattle.la_shared.specs.History.{HasYes}
use Rattle.la_shared.specs.Passes.{Known, AcceptorName}
use Rattle.la_runner.specs.Certificates.{passes_seen_at, mine_at, OfMajority, HasOwnCertificate}
use Rattle.la_runner.specs.Sound.{HasReply, IsSound}

-- of which acceptors the passes are
abbrev pub acceptors_of : List Known → List AcceptorName
acceptors_of passes = map (λ k. k.acceptor) passes

-- the acceptor acknowledged the set after what the earlier passes had seen
abbrev pub Beyond : (earlier later : List Known) → (a : ℕ) → Histories → Type 0
Beyond earlier later a s =
    (rest : List Entry) × (passes_seen_at later a ≡ passes_seen_at earlier a ++ rest) × HasYes rest s

-- each pass goes on: it has seen what it had, and has the entries that it had
pub record GoOn (ps qs : List Known) : Type 0 where
  pub acceptors : acceptors_of qs ≡ acceptors_of ps
  pub seen : (a : ℕ) → IsPrefix (passes_seen_at ps a) (passes_seen_at qs a)
  pub mine : (a : ℕ) → IsPrefix (mine_at ps a) (mine_at qs a)

-- the passes, too, go on, and the ballots grow; what has counted in the open ballot had counted
-- when it stood open before, or was acknowledged since
pub record FollowsProposer (p q : ProposerState) (ps qs : List Known) : Type 0 where
  pub votes : q.votes ≡ p.votes
  pub own : q.own ≡ p.own
  pub cap : q.cap ≡ p.cap
  pub passes : GoOn ps qs
  pub number : p.number ≤ q.number
  pub grows : IsSubset p.updates q.updates
  pub same : q.number ≡ p.number → q.updates ≡ p.updates
  pub fresh :
      (a : ℕ) → HasReply q.tally a Yes
      → ((q.number ≡ p.number) × HasReply p.tally a Yes) ⊎ Beyond ps qs a q.updates

-- nothing was submitted
abbrev pub SubmitsNothing : ProposerState → ProposerState → Type 0
SubmitsNothing p q = all_submitted q ≡ all_submitted p

-- a set was learnt in the ballot with this number
pub record IsLearnt (p : ProposerState) (ps qs : List Known) (n : ℕ) (s : Histories) : Type 0 where
  pub own : HasOwnCertificate p.votes qs s
  pub number : p.number ≤ n
  pub grown : IsSubset p.updates s
  pub same : n ≡ p.number → s ≡ p.updates
  pub since :
      OfMajority p.votes
      (λ a. ((n ≡ p.number) × HasReply p.tally a Yes) ⊎ Beyond ps qs a s)
  pub taken : IsPrefix (history s p.own) (all_submitted p)
  pub some : 1 ≤ count s p.own

-- what a reply came to
abbrev pub IfLearnt : Heard → (Histories → Type 0) → Type 0
IfLearnt (said.Counted) P = Unit {0}
IfLearnt (said.Ignored) P = Unit {0}
IfLearnt (said.Refined b) P = Unit {0}
IfLearnt (said.Learnt s next) P = P s

-- a step without a submission
pub record Goes (p : ProposerState) (ps : List Known) (q : ProposerState) (qs : List Known) : Type 0 where
  pub sound : IsSound q qs
  pub follows : FollowsProposer p q ps qs
  pub nothing : SubmitsNothing p q

-- a ballot is open, or the set has all that was submitted
abbrev pub IsOpenOrWhole : ProposerState → Histories → Type 0
IsOpenOrWhole q s = (q.is_asking ≡ true) ⊎ (submitted q ≤ count s q.own)

-- what a reply to an open ballot leaves open: that ballot, where it only counts or is ignored; the
-- next one
abbrev pub StaysOpen : Heard → ProposerState → ProposerState → Type 0
StaysOpen (said.Counted) p q = (q.is_asking ≡ true) × (q.number ≡ p.number)
StaysOpen (said.Ignored) p q = (q.is_asking ≡ true) × (q.number ≡ p.number)
StaysOpen (said.Refined b) p q = (q.is_asking ≡ true) × (p.number < q.number)
StaysOpen (said.Learnt s next) p q = IsOpenOrWhole q s
