-- Live nodes whose messages go as parcels, by themselves or in letters: for programs that hold nodes and
-- parcels on a network.
use Rattle.std.specs.Prelude.{◌≡◌, ℕ, List, ◌++◌, map, slice_get, slice_set, Contains, Some}
use Rattle.la_replica.specs.declared.message.Message as code
use Rattle.la_replica.specs.declared.parcel.Parcel.{Parcel}
use Rattle.la_replica.specs.Parcels.{IsParcelOf, unwrapped_in, UnwrapsIn}
use Rattle.la_replica.specs.ReplicaState.{ReplicaState}
use Rattle.la_node.specs.declared.link.Letter.{Letter}
use Rattle.la_node.specs.declared.link.Links.{Links}
use Rattle.la_node.specs.Calls.{Received}
use Rattle.la_node.specs.Links.{letters_of, told_on, AreOffersOver}
use Rattle.la_node.specs.Nodes.{NodeState}
use Rattle.la_node.specs.Steps.{Given, node_step}
use Rattle.la_world.specs.LiveGroups.{AreLive}
use Rattle.la_world.specs.Rebased.{AreRetold}

-- a parcel is of one of these messages, for whatever was believed of its receiver
abbrev pub IsParcelAmong : Parcel → (messages : List code.Message) → Type 0
IsParcelAmong p messages = (m : code.Message) × Contains messages m × IsParcelOf p m

abbrev pub AreParcelsAmong : (parcels : List Parcel) → (messages : List code.Message) → Type 0
AreParcelsAmong parcels messages = (p : Parcel) → Contains parcels p → IsParcelAmong p messages

-- nodes, and parcels on a network: the nodes are live with the messages of which these are
abbrev pub AreLiveBy : (nodes : List NodeState) → (parcels : List Parcel) → Type 0
AreLiveBy nodes parcels =
    (messages : List code.Message) × AreLive nodes messages × AreParcelsAmong parcels messages

-- nodes are live after the receipt of a parcel of a message that is on the network: that its told set stands over
-- the view, its receiver sees
abbrev pub ParcelReceiptsKeepLive : Type 0
ParcelReceiptsKeepLive =
    (nodes : List NodeState) (network mail : List code.Message) (r : ℕ) (node made : NodeState) (p : Parcel)
    (given : Given) → AreLive nodes network → slice_get nodes r ≡ Some node →
    IsParcelAmong p network → p.to ≡ r → UnwrapsIn node.replica p →
    node_step node.replica (Received (unwrapped_in node.replica p)) ≡ Some (given, made.replica) →
    AreRetold mail given.mail → AreLive (slice_set nodes r made) (network ++ mail)

-- ## Letters

abbrev pub parcels_of : List Letter → List Parcel
parcels_of letters = map (λ (letter : Letter). letter.parcel) letters

-- mail told further, each message over what is known of its receiver
abbrev pub mail_on : Links → (mail : List code.Message) → List code.Message
mail_on links mail = map (told_on links) mail

-- whatever is known: a replica's letters of mail are parcels of the mail told further, and that is the mail over
-- other bases of its sets
abbrev pub LettersTellWhatWasSent : Type 0
LettersTellWhatWasSent =
    (links : Links) (r : ReplicaState) (mail : List code.Message) → AreOffersOver links mail →
    AreRetold (mail_on links mail) mail
    × AreParcelsAmong (parcels_of (letters_of links r mail)) (mail_on links mail)
