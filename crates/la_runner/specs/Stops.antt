-- Why a member's jobs end before the last one.
use Rattle.std.specs.Prelude.{◌≡◌, ℕ, ◌≤◌, List, None}
use Rattle.la_object.specs.declared.kind.Kind.{Kind}
use Rattle.la_object.specs.Shelves.{kind_at}
use Rattle.la_proposer.specs.ProposerState.{submitted}
use Rattle.la_runner.specs.declared.error.RunnerError.{RunnerError}
use Rattle.la_runner.specs.declared.error.RunnerError.TheVariants as error
use Rattle.la_runner.specs.declared.jobs.Job.{Job}
use Rattle.la_runner.specs.declared.jobs.Job.TheVariants.{Update, Decide, Ask}
use Rattle.la_runner.specs.declared.jobs.Stopped.{Stopped}
use Rattle.la_runner.specs.declared.jobs.Stopped.TheVariants.{Full, NoSuchObject, NoSuchCommit, AlreadyProposed, Clash, BallotsSpent, NoMajority, TryAgain, Memory}
use Rattle.la_runner.specs.Members.{MemberState, InMemberInstance}
use Rattle.la_runner.specs.Participants.{HasCommit, HasOther}

-- a refusal that a job may meet
abbrev pub IsJobError : RunnerError → Type 0
IsJobError error.BadConfig = ⊥
IsJobError error.NoSuchCommit = Unit {0}
IsJobError error.AlreadyProposed = Unit {0}
IsJobError (error.Clash id) = Unit {0}
IsJobError error.Full = Unit {0}
IsJobError error.BallotsSpent = Unit {0}
IsJobError error.NoMajority = Unit {0}
IsJobError error.TryAgain = Unit {0}
IsJobError error.Memory = Unit {0}

-- how a log names it
abbrev pub stop_by : RunnerError → Stopped
stop_by error.BadConfig = Memory
stop_by error.NoSuchCommit = NoSuchCommit
stop_by error.AlreadyProposed = AlreadyProposed
stop_by (error.Clash id) = Clash id
stop_by error.Full = Full
stop_by error.BallotsSpent = BallotsSpent
stop_by error.NoMajority = NoMajority
stop_by error.TryAgain = TryAgain
stop_by error.Memory = Memory

-- the member has submitted as many updates as it may
abbrev pub HasSubmittedCap : MemberState → Type 0
HasSubmittedCap m = InMemberInstance m 0 (λ x. x.proposer.cap ≤ submitted x.proposer)

-- at an update: the cap comes only where it is reached
abbrev pub StopsUpdate : MemberState → Stopped → Type 0
StopsUpdate m Full = HasSubmittedCap m
StopsUpdate m NoSuchObject = ⊥
StopsUpdate m NoSuchCommit = ⊥
StopsUpdate m AlreadyProposed = ⊥
StopsUpdate m (Clash id) = Unit {0}
StopsUpdate m BallotsSpent = Unit {0}
StopsUpdate m NoMajority = Unit {0}
StopsUpdate m TryAgain = Unit {0}
StopsUpdate m Memory = Unit {0}

-- at a decision: only where there is no such object, or the member has finished there, or has
-- another value under way
abbrev pub StopsDecide : MemberState → (commit value : ℕ) → Stopped → Type 0
StopsDecide m k value Full = ⊥
StopsDecide m k value NoSuchObject = ⊥
StopsDecide m k value NoSuchCommit = ¬ HasCommit m k
StopsDecide m k value AlreadyProposed = HasCommit m k × HasOther m k value
StopsDecide m k value (Clash id) = Unit {0}
StopsDecide m k value BallotsSpent = Unit {0}
StopsDecide m k value NoMajority = Unit {0}
StopsDecide m k value TryAgain = Unit {0}
StopsDecide m k value Memory = Unit {0}

-- at a question: only where the shelf has no such object, or for memory
abbrev pub StopsAsk : List (ℕ × Kind) → (object : ℕ) → Stopped → Type 0
StopsAsk objects object Full = ⊥
StopsAsk objects object NoSuchObject = kind_at objects object ≡ None
StopsAsk objects object NoSuchCommit = ⊥
StopsAsk objects object AlreadyProposed = ⊥
StopsAsk objects object (Clash id) = ⊥
StopsAsk objects object BallotsSpent = ⊥
StopsAsk objects object NoMajority = ⊥
StopsAsk objects object TryAgain = ⊥
StopsAsk objects object Memory = Unit {0}

-- a reason that fits a job of a member with these objects
abbrev pub StopFits : List (ℕ × Kind) → MemberState → Job → Stopped → Type 0
StopFits objects m (Update object op) why = StopsUpdate m why
StopFits objects m (Decide commit value) why = StopsDecide m commit value why
StopFits objects m (Ask object query) why = StopsAsk objects object why
