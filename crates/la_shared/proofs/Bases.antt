-- What an offer has in common with what was accepted stays so.
use Rattle.std.proofs.Common.{◌≡◌, ℕ, inl, inr, Bool, true, false, if◌then◌else◌, Option, List, [], ◌∷◌, ◌++◌, refl, sym, subst}
use mathlib.Core.List.{IsPrefix}
use Rattle.la_set.specs.declared.counts.Counts.{Counts}
use Rattle.la_set.specs.AgreeWithin.{AgreeWithin}
use Rattle.la_set.specs.Histories.{Histories, empty}
use Rattle.la_acceptor.specs.declared.reply.Reply.{Reply}
use Rattle.la_acceptor.specs.declared.reply.Reply.TheVariants.{Yes, No}
use Rattle.la_set.specs.Inclusion.{IsSubset, is_subset}
use Rattle.la_set.specs.Join.{join}
use Rattle.la_set.proofs.lemmas.Theorems.{subset-refl, subset-join_left, contains-join}
use Rattle.la_set.proofs.lemmas.WithinCounts.{agree_grown, agree_by, none_agreed}
use Rattle.la_shared.specs.declared.entry.Entry.{Entry}
use Rattle.la_shared.specs.History.{entry, accepted, accepted_by, LegalFrom, IsLegal, HasEntry}
use Rattle.la_shared.specs.Passes.{Known, Owns, Extends}
use Rattle.la_shared.proofs.Acknowledgements.{owns-has, entry_fits, entry_answers}
use Rattle.la_shared.specs.Bases.{AgreesWith, IsAcceptedSince, IsOwnOffer, HasOffers}

-- what is accepted only grows
pub accepted_grows : (u : Histories) (xs : List Entry) → IsSubset u (accepted u xs)
accepted_grows u [] = λ v there. there
accepted_grows u (x ∷ xs) = λ v there. accepted_grows (join u x.set) xs v (subset-join_left u x.set v there)

accepted_append : (u : Histories) (xs ys : List Entry) → accepted u (xs ++ ys) ≡ accepted (accepted u xs) ys
accepted_append u [] ys = refl
accepted_append u (x ∷ xs) ys = accepted_append (join u x.set) xs ys

pub since_grows : (seen between : List Entry) → IsSubset (accepted_by seen) (accepted_by (seen ++ between))
since_grows seen between =
    subst (IsSubset (accepted_by seen)) (sym (accepted_append empty seen between))
    (accepted_grows (accepted_by seen) between)

-- what agrees with what was accepted does so ever after
pub agree_longer : (b : Counts) (seen longer : List Entry) (set : Histories)
    → IsPrefix seen longer → AgreesWith b seen set → AgreesWith b longer set
agree_longer b seen longer set p h = subst (λ l. AgreesWith b l set) p.1
    (agree_grown b (accepted_by seen) (accepted_by (seen ++ p.0)) set set (since_grows seen p.0) (subset-refl set) h)

-- so in a later turn
pub agree_since : (b : Counts) (seen : List Entry) (set u : Histories)
    → AgreesWith b seen set → IsAcceptedSince seen u → AgreeWithin b u set
agree_since b seen set u h since = subst (λ w. AgreeWithin b w set) (sym since.2)
    (agree_longer b seen (seen ++ since.0) set (since.0, refl) h)

-- ## What was offered is accepted

pub offered_within : (u : Histories) (xs : List Entry) (s : Histories) (r : Reply) → LegalFrom u xs → HasEntry xs s r
    → IsSubset s (accepted u xs)
offered_within u [] s r l e = elim e [ ]
offered_within u (x ∷ xs) s r l (inl e) = subst (λ z. IsSubset z (accepted (join u x.set) xs)) e.0
    (λ v there. accepted_grows (join u x.set) xs v (contains-join u x.set l.0 v (inr there)))
offered_within u (x ∷ xs) s r l (inr e) = offered_within (join u x.set) xs s r l.2 e

-- an offer that contains the pass's own ones agrees as far as the last of them went
pub own_agrees : (num : Option ℕ) (seen mine : List Entry) (base : Counts) (set : Histories) → IsLegal seen
    → Owns num seen mine → IsOwnOffer base mine → HasOffers mine set → AgreesWith base seen set
own_agrees num seen mine base set legal own (inl none) has =
    subst (λ b. AgreesWith b seen set) (sym none) (none_agreed (accepted_by seen) set)
own_agrees num seen mine base set legal own (inr o) has = subst (λ b. AgreesWith b seen set) (sym o.3)
    (agree_by o.0 (accepted_by seen) set
    (offered_within empty seen o.0 o.1 legal (owns-has num seen mine o.0 o.1 own o.2)) (has o.0 o.1 o.2))

-- ## A refusal contains the offer

no_tells : (b : Bool) (s t : Histories) → (if b then Yes else No s) ≡ No t → t ≡ s
no_tells true s t e = absurd (cc)
no_tells false s t e = cc

pub refusal_contains : (old new : Known) (set refused : Histories) → Extends set (No refused) old new
    → IsSubset set refused
refusal_contains old new set refused x =
    let before : List Entry = old.seen ++ x.1.0 in
    let e : Entry = entry x.0 set (No refused) in
    let legal : IsLegal (before ++ e ∷ []) = subst IsLegal x.1.3 x.1.2 in
    let joined : refused ≡ join (accepted empty before) set =
    no_tells (is_subset (accepted empty before) set) (join (accepted empty before) set) refused
    (sym (entry_answers before [] e legal)) in
    subst (IsSubset set) (sym joined)
    (λ v there. contains-join (accepted empty before) set (entry_fits before [] e legal) v (inr there))
