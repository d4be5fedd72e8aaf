-- A ballot's set contains each that was offered before, and a refusal contains the ballot's set.
use Rattle.std.proofs.Common.{◌≡◌, ℕ, List, Some, sym, subst}
use Rattle.std.specs.List.{slice_get}
use Rattle.la_set.specs.Histories.{Histories}
use Rattle.la_set.specs.Inclusion.{IsSubset}
use Rattle.la_acceptor.specs.declared.reply.Reply.{Reply}
use Rattle.la_acceptor.specs.declared.reply.Reply.TheVariants.{No}
use Rattle.la_proposer.specs.ProposerState.{ProposerState}
use Rattle.la_shared.specs.Bases.{HasOffers}
use Rattle.la_shared.specs.History.{HasEntry}
use Rattle.la_shared.specs.Passes.{Known, Extends}
use Rattle.la_shared.proofs.lemmas.Theorems.{refusal_contains}
use Rattle.la_runner.specs.Certificates.{mine_of, mine_at}
use Rattle.la_runner.specs.Sound.{IsSound}

pub grown_at : (p : ProposerState) (ps : List Known) (a : ℕ) (k : Known) → IsSound p ps → slice_get ps a ≡ Some k
    → HasOffers k.mine p.updates
unfolding mine_at
grown_at p ps a k is at s r e = is.within a s r (subst (λ o. HasEntry (mine_of o) s r) (sym at) e)

pub answer_contains : (old new : Known) (set : Histories) (reply : Reply) → Extends set reply old new → (w : Histories)
    → reply ≡ No w → IsSubset set w
answer_contains old new set reply x w e = refusal_contains old new set w (subst (λ r. Extends set r old new) e x)
