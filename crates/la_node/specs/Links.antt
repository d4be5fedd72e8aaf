-- What goes between nodes: messages as parcels, over what is known of their receivers.
use Rattle.std.specs.Prelude.{ℕ, ◌+◌, ◌-◌, ◌==◌, nat_le, nat_lt, Bool, true, false, not, ◌&&◌, ◌||◌, List, [], ◌∷◌}
use Rattle.std.specs.Prelude.{All, filter, fold, map, max, length, replicate, slice_set, slice_index_or, if◌then◌else◌}
use Rattle.std.specs.List.{list_all}
use Rattle.la_set.specs.declared.counts.Counts.{Counts}
use Rattle.la_set.specs.declared.update.Update.{Update}
use Rattle.la_set.specs.declared.update.UpdateId.{UpdateId}
use Rattle.la_set.specs.Counts.{count_in, counts_of, from_counts, zero_counts}
use Rattle.la_set.specs.Deltas.{DeltaState}
use Rattle.la_replica.specs.declared.message.Message as code
use Rattle.la_replica.specs.declared.message.Body as code_body
use Rattle.la_replica.specs.declared.message.Body.TheVariants as body
use Rattle.la_replica.specs.declared.parcel.Content.{Content}
use Rattle.la_replica.specs.declared.parcel.Content.TheVariants as content
use Rattle.la_replica.specs.declared.parcel.Parcel.{Parcel}
use Rattle.la_replica.specs.declared.progress.Progress.{Progress}
use Rattle.la_replica.specs.Parcels.{wrapped}
use Rattle.la_replica.specs.Progress.{larger, no_progress, progress_of}
use Rattle.la_replica.specs.Rebased.{told_further, IsOfferOver}
use Rattle.la_replica.specs.ReplicaState.{ReplicaState}
use Rattle.la_node.specs.declared.link.Letter.{Letter}
use Rattle.la_node.specs.declared.link.Sending.{Sending}
use Rattle.la_node.specs.declared.link.Sending.TheVariants as sending
use Rattle.la_node.specs.declared.link.Standing.{Standing}
use Rattle.la_node.specs.declared.link.Link.{Link}
use Rattle.la_node.specs.declared.link.Links.{Links}
use Rattle.la_node.specs.declared.link.TheConstants.{MOST_UNHEARD}
use Rattle.la_node.specs.declared.track.Track.{Track}

-- counts have of each replica as many updates as others, or more
abbrev pub covers : Counts → Counts → Bool
covers c d = list_all (λ r. nat_le (count_in d r) (count_in c r)) (0 ∷ 1 ∷ 2 ∷ 3 ∷ 4 ∷ 5 ∷ 6 ∷ 7 ∷ [])

-- ## One track: what a replica has accepted, or what its view has

abbrev pub no_track : Track
no_track = record {
  known = zero_counts;
  sent = zero_counts;
  last = zero_counts;
  mended = zero_counts;
  lacks = false;
}

-- over what letters are told: as far as it said that it is, and as far as letters told that may still come
abbrev pub track_base : Track → Counts
track_base t = larger t.known t.sent

-- it said that it has this
abbrev pub heard_on : Track → Counts → Track
heard_on t has = record { known = has; sent = t.sent; last = t.last; mended = t.mended; lacks = false }

-- a letter over this was sent before what was lacking was told again
abbrev pub is_late : Track → (over : Counts) → Bool
is_late t over = covers t.mended over

-- who has this lacks what a letter was told over, and not only of letters from before that was told again
abbrev pub is_lacking : Track → (has over : Counts) → Bool
is_lacking t has over = not (covers has over) && not (is_late t over)

-- it has no more than it says: all letters that went out behind the one that was lost are late from now on
abbrev pub lacking_on : Track → (has : Counts) → Track
lacking_on t has = record { known = has; sent = has; last = t.last; mended = t.last; lacks = true }

-- it answered a letter that was told over this by how far it is
abbrev pub answered_on : Track → (has over : Counts) → Track
answered_on t has over = if is_lacking t has over then lacking_on t has else heard_on t has

-- where a letter over this could not be told from those before, none counts as late any more
abbrev pub mended_by : Track → (base : Counts) → Counts
mended_by t base = if covers t.mended base && not (covers t.known base) then zero_counts else t.mended

-- a letter went out that is told over this, and tells as far as this
abbrev pub noted_on : Track → (base reach : Counts) → Track
noted_on t base reach = record {
  known = t.known;
  sent = larger t.sent reach;
  last = base;
  mended = mended_by t base;
  lacks = t.lacks;
}

-- it is believed to be as far as this
abbrev pub asked_on : Track → (here : Counts) → Track
asked_on t here =
    record { known = t.known; sent = larger t.sent here; last = t.last; mended = t.mended; lacks = t.lacks }

-- how many updates of a replica were sent beyond these that it did not say to have
abbrev pub unheard_in : Track → (begun : Counts) → (replica : ℕ) → ℕ
unheard_in t begun r = count_in t.sent r - count_in (larger t.known begun) r

abbrev pub unheard_on : Track → (begun : Counts) → ℕ
unheard_on t begun =
    unheard_in t begun 0 + unheard_in t begun 1 + unheard_in t begun 2 + unheard_in t begun 3 + unheard_in t begun 4
    + unheard_in t begun 5 + unheard_in t begun 6 + unheard_in t begun 7

-- ## A replica

abbrev pub no_link : Link
no_link = record { accepted = no_track; view = no_track }

-- it is this far
abbrev pub heard_link : Link → Progress → Link
heard_link l p = record { accepted = heard_on l.accepted p.accepted; view = heard_on l.view p.view }

-- it is this far, and says so to a letter over this
abbrev pub answered_link : Link → (progress over : Progress) → Link
answered_link l p over = record {
  accepted = answered_on l.accepted p.accepted over.accepted;
  view = answered_on l.view p.view over.view;
}

-- it is believed to be this far
abbrev pub asked_link : Link → (here : Progress) → Link
asked_link l here =
    record { accepted = asked_on l.accepted here.accepted; view = asked_on l.view here.view }

-- counts that have an update too, and all before it
abbrev pub number_with : Counts → UpdateId → (replica : ℕ) → ℕ
number_with c id r = if r == id.replica then max (count_in c r) id.number else count_in c r

unfoldable pub reaching : Counts → Update → Counts
reaching c u = from_counts (number_with c u.id)

-- how far its receiver is once it has a delta
abbrev pub reach_of : DeltaState → Counts
reach_of d = fold reaching d.base d.more

-- a letter of instance 0 went out to it
abbrev pub noted_content : Link → Content → Link
noted_content l (content.Offer d) = record { accepted = noted_on l.accepted d.base (reach_of d); view = l.view }
noted_content l content.Yes = l
noted_content l (content.No d) = l
noted_content l (content.Tell d) = record { accepted = l.accepted; view = noted_on l.view d.base (reach_of d) }

-- ## All of a group

-- nothing is known, and all are believed to be as far as this, where the replica itself begins
abbrev pub links_over : (here : Progress) → Links
links_over here = record { begun = here; of = replicate 8 (asked_link no_link here) }

abbrev pub no_links : Links
no_links = links_over no_progress

-- what is known of a replica, and was sent to it; nothing, where there is none with this number
abbrev pub link_of : Links → (replica : ℕ) → Link
link_of links r = slice_index_or links.of r no_link

abbrev pub with_link : Links → (replica : ℕ) → Link → Links
with_link links r l = record { begun = links.begun; of = slice_set links.of r l }

-- how far a replica says that it is
abbrev pub known_of : Links → (replica : ℕ) → Progress
known_of links r = record { accepted = (link_of links r).accepted.known; view = (link_of links r).view.known }

-- over what letters to a replica are told
abbrev pub believed_of : Links → (replica : ℕ) → Progress
believed_of links r =
    record { accepted = track_base (link_of links r).accepted; view = track_base (link_of links r).view }

-- once a replica said that it is so far
abbrev pub known_with : Links → (replica : ℕ) → Progress → Links
known_with links r progress = with_link links r (heard_link (link_of links r) progress)

-- once it said so to a letter
abbrev pub answered_with : Links → Standing → Links
answered_with links s = with_link links s.from (answered_link (link_of links s.from) s.progress s.over)

-- once this letter went out: of those of instance 0 note is taken
abbrev pub noted_with : Links → Letter → Links
noted_with links letter =
    if letter.parcel.instance == 0
    then with_link links letter.parcel.to (noted_content (link_of links letter.parcel.to) letter.parcel.content)
    else links

-- once they all did
abbrev pub noted_all : Links → List Letter → Links
noted_all links letters = fold noted_with links letters

-- How many updates were sent to a replica, offered and told, that it did not say to have: beyond those that were there
-- when it began.
abbrev pub unheard_of : Links → (replica : ℕ) → ℕ
unheard_of links r =
    unheard_on (link_of links r).accepted links.begun.accepted + unheard_on (link_of links r).view links.begun.view

-- so many that nothing more is told to it until it is heard
abbrev pub is_held : Links → (replica : ℕ) → Bool
is_held links r = nat_lt MOST_UNHEARD (unheard_of links r)

-- it lacks what a letter was told over
abbrev pub is_lacked : Links → (replica : ℕ) → Bool
is_lacked links r = (link_of links r).accepted.lacks || (link_of links r).view.lacks

-- One that nothing more is told to is believed to be as far as this: so what the timer sends to it says little, and
-- asks how far it is.
abbrev pub asked_of : (here : Progress) → Links → (replica : ℕ) → Link
asked_of here links r = if is_held links r then asked_link (link_of links r) here else link_of links r

abbrev pub asked_with : Links → (here : Progress) → Links
asked_with links here = record {
  begun = links.begun;
  of =
      asked_of here links 0 ∷ asked_of here links 1 ∷ asked_of here links 2 ∷ asked_of here links 3 ∷
      asked_of here links 4 ∷ asked_of here links 5 ∷ asked_of here links 6 ∷ asked_of here links 7 ∷ [];
}

abbrev pub owes : (view : Counts) → code_body.Body → Bool
owes view (body.Offer d) = true
owes view body.Yes = true
owes view (body.No d) = true
owes view (body.Tell told) = not (covers view (counts_of told))

-- a told set is not sent again to one whose view is known to have all of it, by counts
abbrev pub is_owed : Links → code.Message → Bool
is_owed links m = owes (known_of links m.to).view m.body

-- Mail to one that nothing more is told to stays: its offers and its told sets of instance 0. Answers go out.
abbrev pub tells_set : code_body.Body → Bool
tells_set (body.Offer d) = true
tells_set body.Yes = false
tells_set (body.No d) = false
tells_set (body.Tell told) = true

abbrev pub goes_out : Links → code.Message → Bool
goes_out links m = not ((m.instance == 0) && tells_set m.body && is_held links m.to)

-- what tells a replica anew what it lacks: the offer, where it has not accepted what the last was told over, and the
-- told set, where its view lacks that
abbrev pub mends : Link → code_body.Body → Bool
mends l (body.Offer d) = l.accepted.lacks
mends l body.Yes = false
mends l (body.No d) = false
mends l (body.Tell told) = l.view.lacks

abbrev pub is_mending : Links → (replica : ℕ) → code.Message → Bool
is_mending links r m = (m.instance == 0) && (m.to == r) && mends (link_of links r) m.body

-- what of some mail is sent: of a call's own what goes out; of what waits for an answer what is owed, once the timer
-- has run out, and what a replica lacks, once it said so
abbrev pub is_chosen : Links → Sending → code.Message → Bool
is_chosen links sending.Call m = goes_out links m
is_chosen links sending.Timer m = is_owed links m
is_chosen links (sending.Lack r) m = is_mending links r m

-- the bases that a letter was told over
abbrev pub bases_of : Content → Progress
bases_of (content.Offer d) = record { accepted = d.base; view = zero_counts }
bases_of content.Yes = no_progress
bases_of (content.No d) = no_progress
bases_of (content.Tell d) = record { accepted = zero_counts; view = d.base }

-- how far a replica is, told to one whose letter it answers
abbrev pub standing_of : ReplicaState → Parcel → Standing
standing_of r p = record {
  replicas = length r.votes;
  from = r.own;
  to = p.from;
  progress = progress_of r;
  over = bases_of p.content;
}

-- a message for one of whom this is believed: an offer over what it has accepted, a told set over its view
abbrev pub told_believed : Progress → code.Message → Parcel
told_believed believed m = wrapped believed.view (told_further believed.accepted m)

-- a message that a replica sends, as a letter
abbrev pub letter_of : Links → ReplicaState → code.Message → Letter
letter_of links r m = record {
  replicas = length r.votes;
  progress = progress_of r;
  parcel = told_believed (believed_of links m.to) m;
}

abbrev pub letters_of : Links → ReplicaState → List code.Message → List Letter
letters_of links r mail = map (letter_of links r) mail

abbrev pub letters_sent : Links → ReplicaState → Sending → List code.Message → List Letter
letters_sent links r sending mail = letters_of links r (filter (is_chosen links sending) mail)

-- a message told further, over what its receiver is believed to have accepted
abbrev pub told_on : Links → code.Message → code.Message
told_on links m = told_further (believed_of links m.to).accepted m

-- each offer of the mail, told so, is over one of its set's bases
abbrev pub AreOffersOver : Links → (mail : List code.Message) → Type 0
AreOffersOver links mail = All (λ m. IsOfferOver (told_on links m).body) mail

-- ## What is answered by how far a replica is

-- an update's number is among those that counts have
abbrev pub is_counted : Counts → Update → Bool
is_counted counts u = nat_le u.id.number (count_in counts u.id.replica)

-- who is this far has not what a set is told over, or has all of a told set, by counts
abbrev pub tells_nothing : Progress → Content → Bool
tells_nothing here (content.Tell told) = not (covers here.view told.base) || list_all (is_counted here.view) told.more
tells_nothing here (content.Offer offered) = not (covers here.accepted offered.base)
tells_nothing here content.Yes = false
tells_nothing here (content.No refused) = false

-- A parcel of instance 0 that would be refused for its base, or would change nothing. It is answered by how far its
-- receiver is: then its sender tells what is lacking, or tells no more.
abbrev pub wants_standing : ReplicaState → Parcel → Bool
wants_standing r p = (p.instance == 0) && tells_nothing (progress_of r) p.content
