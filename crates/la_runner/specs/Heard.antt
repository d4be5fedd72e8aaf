-- What rounds leave of a proposer: replies that had counted still count, and those that the rounds got
-- are heard.
use Rattle.std.specs.Prelude.{◌≡◌, ℕ, ◌==◌, ◌≤◌, List, [], ◌∷◌, ◌++◌, length}
use mathlib.Core.List.{IsPrefix}
use Rattle.la_proposer.specs.ProposerState.{ProposerState, after_reply}
use Rattle.la_shared.specs.declared.entry.Entry.{Entry}
use Rattle.la_shared.specs.History.{kept_if}
use Rattle.la_shared.specs.Passes.{Known}
use Rattle.la_runner.specs.Certificates.{mine_at}

-- an offer, and the reply to it
pub record Answered : Type 0 where
  pub acceptor : ℕ
  pub entry : Entry

-- the entries at this acceptor, in order
abbrev pub entries_at : (acceptor : ℕ) → List Answered → List Entry
entries_at a [] = []
entries_at a (x ∷ xs) = kept_if (x.acceptor == a) x.entry (entries_at a xs)

-- what the proposer is once it has heard these replies, each to the ballot that is open then
abbrev pub after_answers : ProposerState → List Answered → ProposerState
after_answers p [] = p
after_answers p (x ∷ xs) = after_answers (after_reply p x.acceptor p.number x.entry.reply) xs

-- all offers that were recorded were heard, in this order, but for those that were missed, and nothing
-- else befell the proposer: so only replies that count end a ballot
pub record Hears (p q : ProposerState) (ps qs : List Known) (missed : List Answered) : Type 0 where
  pub heard : List Answered
  pub recorded : (a : ℕ) → mine_at qs a ≡ mine_at ps a ++ entries_at a (heard ++ missed)
  pub leads : q ≡ after_answers p heard

-- all but one at most: a reply that does not fit, or for which memory is refused, is not heard
abbrev pub HearsMost : (p q : ProposerState) → (ps qs : List Known) → Type 0
HearsMost p q ps qs = (missed : List Answered) × (length missed ≤ 1) × Hears p q ps qs missed

-- as long as the ballot is the same it offers the same set, and each reply that had counted in it
-- still counts, perhaps with more
pub record StillCounts (p q : ProposerState) : Type 0 where
  pub offers : q.number ≡ p.number → q.updates ≡ p.updates
  pub counted : q.number ≡ p.number → IsPrefix p.tally q.tally
