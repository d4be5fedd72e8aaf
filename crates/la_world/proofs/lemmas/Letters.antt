-- Letters of mail are parcels of that mail, over other bases.
use Rattle.std.proofs.Common.{◌≡◌, Bool, List, map, filter, Contains, refl, sym, ap, subst, ◌∙◌, inl, inr}
use Rattle.std.proofs.lemmas.List.Elements.{All-contains}
use Rattle.la_set.proofs.lemmas.Filters.{filter-contains}
use Rattle.la_replica.specs.declared.message.Message as code
use Rattle.la_replica.specs.declared.parcel.Parcel.{Parcel}
use Rattle.la_replica.specs.declared.parcel.Content.{Content}
use Rattle.la_replica.specs.declared.parcel.Content.TheVariants as content
use Rattle.la_replica.specs.Alike.{AreAlike}
use Rattle.la_replica.specs.Parcels.{wrapped, AreAlikeContents, AreAlikeParcels}
use Rattle.la_replica.specs.Rebased.{rebased_message, IsOfferOver}
use Rattle.la_replica.specs.ReplicaState.{ReplicaState}
use Rattle.la_replica.proofs.lemmas.Alike.{alike_refl}
use Rattle.la_replica.proofs.lemmas.Furthering.{further_is_rebased}
use Rattle.la_node.specs.declared.link.Letter.{Letter}
use Rattle.la_node.specs.declared.link.Links.{Links}
use Rattle.la_node.specs.Links.{believed_of, letter_of, letters_of, told_on, AreOffersOver}
use Rattle.la_world.specs.LiveParcels.{IsParcelAmong, AreParcelsAmong, parcels_of, mail_on, LettersTellWhatWasSent}
use Rattle.la_world.specs.Rebased.{TellsAs, IsRetold, AreRetold}
use Rattle.la_world.proofs.Lists.{IsIn_contains, contains_IsIn, IsIn_mapped, IsIn_place, IsIn_get, get_mapped}

contents_refl : (c : Content) → AreAlikeContents c c
contents_refl (content.Offer d) = (refl, refl)
contents_refl content.Yes = tt
contents_refl (content.No d) = (refl, refl)
contents_refl (content.Tell d) = (refl, refl)

parcels_refl : (p : Parcel) → AreAlikeParcels p p
parcels_refl p =
    record { instance = refl; from = refl; to = refl; ballot = refl; content = contents_refl p.content }

pub mapped_from : {A B : Type 0} (f : A → B) (xs : List A) (y : B) → Contains (map f xs) y
    → (x : A) × Contains xs x × (f x ≡ y)
mapped_from f xs y has =
    let found = IsIn_mapped f xs y (contains_IsIn (map f xs) y has) in
    (found.0, IsIn_contains xs found.0 found.1, found.2)

pub mapped_has : {A B : Type 0} (f : A → B) (xs : List A) (x : A) → Contains xs x → Contains (map f xs) (f x)
mapped_has f xs x has =
    let place = IsIn_place xs x (contains_IsIn xs x has) in
    IsIn_contains (map f xs) (f x) (IsIn_get (map f xs) place.0 (f x) (get_mapped f xs place.0 x place.1))

tells : (links : Links) (m : code.Message) → IsOfferOver (told_on links m).body → TellsAs (told_on links m) m
tells links m over = elim (further_is_rebased (believed_of links m.to).accepted m over) [
  | inl same ↦ inl (subst (λ k. AreAlike k m) (sym same) (alike_refl m))
  | inr is ↦ inr (
    is.0,
    is.1,
    subst (λ k. AreAlike k (rebased_message is.0 m)) (sym is.2) (alike_refl (rebased_message is.0 m)),
  )
]

retold : (links : Links) (mail : List code.Message) → AreOffersOver links mail → AreRetold (mail_on links mail) mail
retold links mail over k has =
    let found = mapped_from (told_on links) mail k has in
    let m = found.0 in
    subst (λ n. IsRetold n mail) found.2
    (m, found.1, tells links m (All-contains (λ n. IsOfferOver (told_on links n).body) mail m over found.1))

pub among : (links : Links) (r : ReplicaState) (mail : List code.Message)
    → AreParcelsAmong (parcels_of (letters_of links r mail)) (mail_on links mail)
among links r mail p has =
    let letter = mapped_from (λ (l : Letter). l.parcel) (letters_of links r mail) p has in
    let found = mapped_from (letter_of links r) mail letter.0 letter.1 in
    let m = found.0 in
    let believed = (believed_of links m.to).view in
    subst (λ q. IsParcelAmong q (mail_on links mail)) (ap (λ (l : Letter). l.parcel) found.2 ∙ letter.2)
    (told_on links m, mapped_has (told_on links) mail m found.1, (believed, parcels_refl (wrapped believed (told_on links m))))

-- the letters of some mail are among those of all of it
pub some_letters : (links : Links) (r : ReplicaState) (chosen : code.Message → Bool) (mail : List code.Message)
    (letter : Letter) → Contains (letters_of links r (filter chosen mail)) letter
    → Contains (letters_of links r mail) letter
some_letters links r chosen mail letter has =
    let m = mapped_from (letter_of links r) (filter chosen mail) letter has in
    subst (Contains (letters_of links r mail)) m.2
    (mapped_has (letter_of links r) mail m.0 (filter-contains chosen mail m.0 m.1).0)

pub letters_tell : LettersTellWhatWasSent
letters_tell links r mail over = (retold links mail over, among links r mail)
