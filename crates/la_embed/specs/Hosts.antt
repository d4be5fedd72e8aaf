-- A host: a node with a shelf of objects, what waits to be sent, and what of its view was handed on.
use Rattle.std.specs.Prelude.{◌≡◌, ◌⊎◌, ℕ, ◌+◌, ◌-◌, ◌^◌, ◌<◌, ◌==◌, min, Bool, true, false, List, [], ◌∷◌, ◌++◌}
use Rattle.std.specs.Prelude.{length, Option}
use Rattle.std.specs.Prelude.{Some, None}
use Rattle.std.specs.Prelude.{if◌then◌else◌, IsSome}
use Rattle.la_set.specs.declared.counts.Counts.{Counts}
use Rattle.la_set.specs.Counts.{zero_counts}
use Rattle.la_set.specs.Inclusion.{IsSubset}
use Rattle.la_set.specs.declared.tags.TheConstants.{MAX_TAGS}
use Rattle.la_set.specs.declared.update.UpdateId.{UpdateId}
use Rattle.la_object.specs.declared.error.ShelfError.{ShelfError}
use Rattle.la_object.specs.declared.error.ShelfError.TheVariants as shelf
use Rattle.la_replica.specs.Again.{again}
use Rattle.la_replica.specs.Bases.{AreToldIn}
use Rattle.la_replica.specs.Whole.{whole_mail}
use Rattle.la_object.specs.Shelves.{ShelfState}
use Rattle.la_replica.specs.declared.message.Message as code
use Rattle.la_replica.specs.Progress.{progress_of}
use Rattle.la_replica.specs.ReplicaState.{ReplicaState, submitted_in}
use Rattle.la_node.specs.declared.link.Letter.{Letter}
use Rattle.la_node.specs.declared.link.Links.{Links}
use Rattle.la_node.specs.declared.link.Sending.{Sending}
use Rattle.la_node.specs.declared.link.Standing.{Standing}
use Rattle.la_node.specs.declared.link.Sending.TheVariants as sending
use Rattle.la_node.specs.Links.{letters_sent, noted_all, asked_with, links_over, is_lacked}
use Rattle.la_node.specs.Steps.{Given}
use Rattle.la_wire.specs.Calls.{WireCall}
use Rattle.la_durable.specs.Nodes.{acts, empty_shelf}
use Rattle.la_embed.specs.Journals.{JournalState, IsJournaled, JournalsCall}
use Rattle.la_embed.specs.declared.outgoing.Outgoing.{Outgoing}
use Rattle.la_embed.specs.declared.outgoing.Outgoing.TheVariants as out

pub record HostState : Type 0 where
  -- the node's replica
  pub kept : ReplicaState
  -- its objects, and what they have absorbed
  pub shelf : ShelfState
  -- how far others are, as far as was heard
  pub links : Links
  -- what waits to be sent, the oldest first
  pub mail : List Outgoing
  -- how often something that was to be sent was lost
  pub lost : ℕ
  -- what of the view was handed on
  pub handed : Counts
  -- its journal, where it has one
  pub journal : Option JournalState

-- the objects have absorbed no more than the view, and a journal leads to what it keeps
pub record IsHost (h : HostState) : Type 0 where
  pub absorbed : IsSubset h.shelf.view h.kept.view
  pub journaled : IsJournaled h.journal h.kept

-- a host without objects and mail, which has heard nothing, and believes others to be as far as it is
abbrev pub host_over : Option JournalState → ReplicaState → HostState
host_over journal kept = record {
  kept = kept;
  shelf = empty_shelf;
  links = links_over (progress_of kept);
  mail = [];
  lost = 0;
  handed = zero_counts;
  journal = journal;
}

-- one in which nothing has happened, without a journal
abbrev pub host_of : ReplicaState → HostState
host_of kept = host_over None kept

-- ## What waits to be sent

-- a letter to the replica itself is put before what waits, any other behind it
abbrev pub with_letter : (own : ℕ) → List Outgoing → Letter → List Outgoing
with_letter own mail letter =
    if letter.parcel.to == own then out.Letter letter ∷ mail else mail ++ out.Letter letter ∷ []

-- one after another
abbrev pub with_letters : (own : ℕ) → List Outgoing → List Letter → List Outgoing
with_letters own mail [] = mail
with_letters own mail (letter ∷ letters) = with_letters own (with_letter own mail letter) letters

-- letters are put to what waits, and note is taken of them
abbrev pub IsSent : Links → (own : ℕ) → List Letter → (before mail : List Outgoing) → (noted : Links) → Type 0
IsSent links own letters before mail noted =
    (mail ≡ with_letters own before letters) × (noted ≡ noted_all links letters)

-- once more something is lost, for want of memory: the host counts that, as far as a u64 goes
abbrev pub lost_once : ℕ → ℕ
lost_once lost = min (lost + 1) (2 ^ 64 - 1)

-- this was done, and nothing is lost; or nothing waits that did not, and one loss more is counted
abbrev pub IsDoneOrLost : Type 0 → Links → (before mail : List Outgoing) → (noted : Links) → (lost_before lost : ℕ)
    → Type 0
IsDoneOrLost done links before mail noted lost_before lost =
    (done × (lost ≡ lost_before)) ⊎ ((mail ≡ before) × (noted ≡ links) × (lost ≡ lost_once lost_before))

-- A node's mail is put to what waits, each message that goes out as a letter over what was sent to its receiver; or
-- there was no memory, and all of it is lost, as a transport may lose it.
abbrev pub IsPosted : Links → (after : ReplicaState) → (sent : List code.Message) → (before mail : List Outgoing)
    → (noted : Links) → (lost_before lost : ℕ) → Type 0
IsPosted links after sent before mail noted lost_before lost =
    IsDoneOrLost (IsSent links after.own (letters_sent links after sending.Call sent) before mail noted) links before
    mail noted lost_before lost

-- a standing is put there, or was lost so
abbrev pub IsToldBack : Standing → (before mail : List Outgoing) → (lost_before lost : ℕ) → Type 0
IsToldBack standing before mail lost_before lost =
    ((mail ≡ before ++ out.Standing standing ∷ []) × (lost ≡ lost_before))
    ⊎ ((mail ≡ before) × (lost ≡ lost_once lost_before))

-- of what waits for an answer some is put there once more
abbrev pub IsPutAgain : ReplicaState → Links → Sending → (before mail : List Outgoing) → (noted : Links) → Type 0
IsPutAgain kept links why before mail noted =
    (sent : List code.Message) × (whole_mail sent ≡ again kept) × ((offered : Counts) → AreToldIn kept offered sent)
    × IsSent links kept.own (letters_sent links kept why sent) before mail noted

-- but for what others are known to have; to whom nothing more is told it asks how far they are
abbrev pub IsPostedAgain : (before : HostState) → (mail : List Outgoing) → (noted : Links) → Type 0
IsPostedAgain before mail noted =
    IsPutAgain before.kept (asked_with before.links (progress_of before.kept)) sending.Timer before.mail mail noted

-- What a replica lacks is told anew, where it said so; or there was no memory, and it is lost.
abbrev pub IsMendedIf : (lacks : Bool) → ReplicaState → Links → (replica : ℕ) → (before mail : List Outgoing)
    → (noted : Links) → (lost_before lost : ℕ) → Type 0
IsMendedIf false kept links r before mail noted lost_before lost =
    (mail ≡ before) × (noted ≡ links) × (lost ≡ lost_before)
IsMendedIf true kept links r before mail noted lost_before lost =
    IsDoneOrLost (IsPutAgain kept links (sending.Lack r) before mail noted) links before mail noted lost_before lost

abbrev pub IsMended : ReplicaState → Links → (replica : ℕ) → (before mail : List Outgoing) → (noted : Links)
    → (lost_before lost : ℕ) → Type 0
IsMended kept links r before mail noted lost_before lost =
    IsMendedIf (is_lacked links r) kept links r before mail noted lost_before lost

-- why no tags are told
abbrev pub IsUnseen : Option (List UpdateId) → ShelfError → Type 0
IsUnseen o shelf.NoSuchObject = o ≡ None
IsUnseen o shelf.TooManyTags = (tags : List UpdateId) × (o ≡ Some tags) × (MAX_TAGS < length tags)
IsUnseen o shelf.Memory = IsSome o
IsUnseen o shelf.Taken = ⊥
IsUnseen o shelf.NotFresh = ⊥

-- ## Steps

-- the node took this call, its journal the call's line, and what it sends waits; nothing else has changed but what was
-- heard of others and sent to them
pub record IsHostStep (before : HostState) (heard : Links) (call : WireCall) (given : Given) (after : HostState)
    : Type 0 where
  pub does : acts before.kept call ≡ Some (given, after.kept)
  pub mail : IsPosted heard after.kept given.mail before.mail after.mail after.links before.lost after.lost
  pub shelf : after.shelf ≡ before.shelf
  pub handed : after.handed ≡ before.handed
  pub journal : JournalsCall before.kept call given after.kept before.journal after.journal

-- so it took a call, whatever the node gave out for it
abbrev pub TakesCall : HostState → Links → WireCall → HostState → Type 0
TakesCall before heard call after = (given : Given) × IsHostStep before heard call given after

-- how many updates it has submitted
abbrev pub number_or_none : Option ℕ → ℕ
number_or_none None = 0
number_or_none (Some number) = number

abbrev pub submitted_by : HostState → ℕ
submitted_by h = number_or_none (submitted_in h.kept 0)

-- the same with other objects
abbrev pub with_objects : HostState → ShelfState → HostState
with_objects h shelf = record h { shelf = shelf }

-- its shelf, once that has absorbed the view
abbrev pub shelf_now : HostState → ShelfState
shelf_now h = record { view = h.kept.view; objects = h.shelf.objects }

-- the same with what was heard
abbrev pub with_links : HostState → Links → HostState
with_links h links = record h { links = links }

-- the same with other mail
abbrev pub with_mail : HostState → List Outgoing → HostState
with_mail h mail = record h { mail = mail }

-- the same with other mail, of which note was taken
abbrev pub with_noted : HostState → List Outgoing → Links → HostState
with_noted h mail links = record h { links = links; mail = mail }

-- the same with so many losses
abbrev pub with_lost : HostState → ℕ → HostState
with_lost h lost = record h { lost = lost }

-- with its journal as this
abbrev pub with_journal : HostState → Option JournalState → HostState
with_journal h journal = record h { journal = journal }

-- and with so much handed on
abbrev pub with_handed : HostState → Counts → HostState
with_handed h handed = record h { handed = handed }
