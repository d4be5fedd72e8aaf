-- What holds of a member in one instance: of its proposer and its passes, one for each acceptor.
use Rattle.std.specs.Prelude.{◌≡◌, ◌≢◌, ◌⊎◌, ℕ, ◌≤◌, true, List, [], ◌∷◌, length, Option, Some, None}
use Rattle.std.specs.List.{slice_get}
use Rattle.la_set.specs.declared.update.Update.{Update}
use Rattle.la_set.specs.ObjectOps.{ObjectOp, object_op_of}
use Rattle.la_set.specs.Histories.{Histories, ContainsUpdate, object_op_number, count, empty}
use Rattle.la_set.specs.Inclusion.{IsSubset}
use Rattle.la_acceptor.specs.declared.reply.Reply.{Reply}
use Rattle.la_acceptor.specs.declared.reply.Reply.TheVariants.{No}
use Rattle.la_proposer.specs.declared.tally.Counted.{Counted}
use Rattle.la_proposer.specs.ProposerState.{ProposerState, WaitsOnlyAsking}
use Rattle.la_proposer.specs.Invariant.{IsProposerState}
use Rattle.la_shared.specs.History.{HasEntry}
use Rattle.la_shared.specs.Passes.{Known, IsPass}
use Rattle.la_runner.specs.Certificates.{mine_at, HasCertificate}

-- this acceptor's reply has counted
abbrev pub HasReply : List Counted → (a : ℕ) → Reply → Type 0
HasReply [] a r = ⊥
HasReply (c ∷ cs) a r = ((c.from ≡ a) × (c.reply ≡ r)) ⊎ HasReply cs a r

abbrev pub IsPassAt : Option Known → Type 0
IsPassAt None = Unit {0}
IsPassAt (Some k) = IsPass k

-- an update is one of these submissions of the member's
abbrev pub IsMemberSubmission : (own : ℕ) → List ObjectOp → Update → Type 0
IsMemberSubmission own ds u = (u.id.replica ≡ own) × (object_op_number ds u.id.number ≡ Some (object_op_of u))

-- an own offer whose set lacks the update was refused with a set that has it
abbrev pub WasTold : List Known → Update → Type 0
WasTold passes u =
    (b : ℕ) × (s w : Histories)
    × HasEntry (mine_at passes b) s (No w) × ContainsUpdate w u × ¬ ContainsUpdate s u

pub record IsSound (p : ProposerState) (passes : List Known) : Type 0 where
  pub proposer : IsProposerState p
  pub rests : WaitsOnlyAsking p
  -- an open ballot offers some own update
  pub asks_own : p.is_asking ≡ true → 1 ≤ count p.updates p.own
  pub sizes : length passes ≡ length p.votes
  pub are : (a : ℕ) → IsPassAt (slice_get passes a)
  -- each own offer lies in the last ballot's set
  pub within :
      (a : ℕ) (s : Histories) (r : Reply) → HasEntry (mine_at passes a) s r → IsSubset s p.updates
  -- each counted reply is that of an own entry
  pub counted :
      (a : ℕ) (r : Reply) → HasReply p.tally a r → HasEntry (mine_at passes a) p.updates r
  -- what another replica submitted is there since a refusal told it
  pub told : (u : Update) → ContainsUpdate p.updates u → u.id.replica ≢ p.own → WasTold passes u

-- a view is empty, or has a certificate
abbrev pub IsView : (votes : List ℕ) → List Known → Histories → Type 0
IsView votes passes v = (v ≡ empty) ⊎ HasCertificate votes passes v
