-- What an offer is known to have in common with what is accepted.
use Rattle.std.specs.Prelude.{◌≡◌, ◌⊎◌, List, ◌++◌}
use Rattle.la_set.specs.declared.counts.Counts.{Counts}
use Rattle.la_set.specs.AgreeWithin.{AgreeWithin}
use Rattle.la_set.specs.Counts.{zero_counts, counts_of}
use Rattle.la_set.specs.Histories.{Histories}
use Rattle.la_set.specs.Inclusion.{IsSubset}
use Rattle.la_acceptor.specs.declared.error.AcceptorError.{AcceptorError}
use Rattle.la_acceptor.specs.declared.reply.Reply.{Reply}
use Rattle.la_acceptor.specs.Refusals.{IsOfferRefusal}
use Rattle.la_shared.specs.declared.entry.Entry.{Entry}
use Rattle.la_shared.specs.History.{accepted_by, IsLegal, HasEntry}

-- the set agrees within these counts with what was accepted when this much of the history was seen
abbrev pub AgreesWith : Counts → List Entry → Histories → Type 0
AgreesWith base seen set = AgreeWithin base (accepted_by seen) set

-- each set that these entries offered lies in this one
abbrev pub HasOffers : List Entry → Histories → Type 0
HasOffers mine set = (s : Histories) (r : Reply) → HasEntry mine s r → IsSubset s set

-- none, or as many as a set had that these entries offered
abbrev pub IsOwnOffer : Counts → List Entry → Type 0
IsOwnOffer offered mine =
    (offered ≡ zero_counts)
    ⊎ ((s : Histories) × (r : Reply) × HasEntry mine s r × (offered ≡ counts_of s))

-- this set is accepted after a legal history that begins with what was seen
abbrev pub IsAcceptedSince : List Entry → Histories → Type 0
IsAcceptedSince seen u =
    (between : List Entry) × IsLegal (seen ++ between) × (u ≡ accepted_by (seen ++ between))

-- an offer of this set is refused with this error by what is accepted after such a history
abbrev pub IsRefusedSince : List Entry → Histories → AcceptorError → Type 0
IsRefusedSince seen set e = (u : Histories) × IsAcceptedSince seen u × IsOfferRefusal u set e
