-- Letters that say the same.
use Rattle.std.proofs.Common.{◌≡◌, ap}
use Rattle.la_replica.specs.declared.parcel.Content.{Content}
use Rattle.la_replica.specs.declared.parcel.Content.TheVariants.{Offer, Yes, No, Tell}
use Rattle.la_replica.specs.Parcels.{AreAlikeContents, AreAlikeParcels}
use Rattle.la_node.specs.declared.link.Letter.{Letter}
use Rattle.la_wire.specs.Messages.{WireMessage, said_content, letter_message}

alike-contents : (a b : Content) → said_content a ≡ said_content b → AreAlikeContents a b
alike-contents (Offer d) (Offer e) same = (cc, cc)
alike-contents (Offer d) Yes same = absurd cc
alike-contents (Offer d) (No e) same = absurd cc
alike-contents (Offer d) (Tell e) same = absurd cc
alike-contents Yes (Offer e) same = absurd cc
alike-contents Yes Yes same = tt
alike-contents Yes (No e) same = absurd cc
alike-contents Yes (Tell e) same = absurd cc
alike-contents (No d) (Offer e) same = absurd cc
alike-contents (No d) Yes same = absurd cc
alike-contents (No d) (No e) same = (cc, cc)
alike-contents (No d) (Tell e) same = absurd cc
alike-contents (Tell d) (Offer e) same = absurd cc
alike-contents (Tell d) Yes same = absurd cc
alike-contents (Tell d) (No e) same = absurd cc
alike-contents (Tell d) (Tell e) same = (cc, cc)

pub alike-letters : (a b : Letter) → letter_message a ≡ letter_message b
    → AreAlikeParcels a.parcel b.parcel × (a.progress ≡ b.progress) × (a.replicas ≡ b.replicas)
alike-letters a b same = (
  record {
    instance = ap (λ (m : WireMessage). m.instance) same;
    from = ap (λ (m : WireMessage). m.from) same;
    to = ap (λ (m : WireMessage). m.to) same;
    ballot = ap (λ (m : WireMessage). m.ballot) same;
    content = alike-contents a.parcel.content b.parcel.content (ap (λ (m : WireMessage). m.body) same);
  },
  ap (λ (m : WireMessage). m.progress) same,
  ap (λ (m : WireMessage). m.replicas) same,
)
