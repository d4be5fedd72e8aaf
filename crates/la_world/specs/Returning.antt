-- What steps show of outcomes and votes, and a world answers.
use Rattle.std.specs.Prelude.{◌≡◌, ℕ, Option, Some, None, IsSome, Contains, IsSomeAnd, Result, IfOk, OnOk}
use Rattle.la_node.specs.declared.error.WorldError.{WorldError}
use Rattle.la_world.specs.declared.step.Step.{Step}
use Rattle.la_world.specs.Headline.{NoViewShrinks, OutcomesStayThere}
use Rattle.la_world.specs.declared.step.Did.{Did}
use Rattle.la_world.specs.declared.step.Learnt.{Learnt}
use Rattle.la_world.specs.StandsFor.{World}
use Rattle.la_commit.specs.Instances.{first_instance, second_instance}
use Rattle.la_world.specs.declared.step.Opening.{Opening}
use Rattle.la_commit.specs.declared.outcome.Outcome.{Outcome}
use Rattle.la_world.specs.Outcomes.{decision_of}
use Rattle.la_world.specs.Calls.{returned_in, decisions_in}
use Rattle.la_world.specs.Reading.{learnt_by_did, outcome_told}
use Rattle.la_world.specs.declared.step.Did.TheVariants as shown

-- the ballot that opens with a learning, if one does
abbrev pub opened_with : Did → Option Opening
opened_with (shown.Learnt learnt told outcome next) = next
opened_with _ = None

-- a step that learns a set in the second instance of an object shows an outcome, and this is what
-- the world after it answers
abbrev pub ShowsOutcome : Did → (after : World) → Type 0
ShowsOutcome did after = (x : Learnt) (k : ℕ) →
    learnt_by_did did ≡ Some x → x.instance ≡ second_instance k →
    IsSome (outcome_told did) × (returned_in after k x.replica ≡ outcome_told did)

-- one that learns a set in the first instance casts the second vote: with it the replica's ballot
-- opens in the second instance
abbrev pub ShowsVote : Did → Type 0
ShowsVote did = (x : Learnt) (k : ℕ) →
    learnt_by_did did ≡ Some x → x.instance ≡ first_instance k →
    IsSomeAnd (opened_with did) (λ b. (b.instance ≡ second_instance k) × (b.replica ≡ x.replica))

-- what a world answers of an outcome is listed
abbrev pub AnswersAreListed : World → Type 0
AnswersAreListed w = (k r : ℕ) (o : Outcome) →
    returned_in w k r ≡ Some o → Contains (decisions_in w) (decision_of k r o)

-- what a call of `play` shows and keeps, whatever it answers
pub record PlayShows (before : World) (answer : Result Step WorldError) (after : World) : Type 0 where
  -- no view is smaller
  pub views : OnOk answer (NoViewShrinks before after)
  -- a learning shows what is returned by it, and the vote to which it leads
  pub outcome : IfOk answer (λ step. ShowsOutcome step.did after)
  pub vote : IfOk answer (λ step. ShowsVote step.did)
  -- outcomes stay, and are among those that are listed
  pub stays : OutcomesStayThere before after
  pub listed : AnswersAreListed after
