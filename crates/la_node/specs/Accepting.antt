-- Whether a replica accepts a call, want of memory aside, as a test: by the rules of `la_replica`'s
-- refusals, and of a proposal that it is the first to its object.
use Rattle.std.specs.Prelude.{ℕ, ◌+◌, nat_lt, nat_le, ◌==◌, Bool, true, false, not, ◌&&◌, ◌||◌, List, [], ◌∷◌, length}
use Rattle.std.specs.Prelude.{slice_get, Option, Some, None, if◌then◌else◌}
use Rattle.std.specs.List.{list_all}
use Rattle.std.specs.Option.{is_some}
use Rattle.la_set.specs.declared.set.TheConstants.{REPLICAS, MAX_NUMBER}
use Rattle.la_set.specs.declared.counts.Counts.{Counts}
use Rattle.la_set.specs.declared.update.UpdateId.{UpdateId}
use Rattle.la_set.specs.declared.update.Update.{Update}
use Rattle.la_set.specs.Counts.{count_in, within}
use Rattle.la_set.specs.Histories.{Histories, count, get, push, updates}
use Rattle.la_set.specs.ObjectOps.{update_eq}
use Rattle.la_acceptor.specs.declared.reply.Reply.{Reply}
use Rattle.la_acceptor.specs.declared.reply.Reply.TheVariants as replied
use Rattle.la_proposer.specs.declared.proposer.TheConstants.{MAX_BALLOTS}
use Rattle.la_proposer.specs.declared.tally.Counted.{Counted}
use Rattle.la_proposer.specs.ProposerState.{ProposerState, submitted, counts, with_reply, verdict_of}
use Rattle.la_proposer.specs.Refusals.{opens_by}
use Rattle.la_commit.specs.Instances.{first_instance}
use Rattle.la_replica.specs.declared.instance.Instance.{Instance}
use Rattle.la_replica.specs.declared.message.Message as code
use Rattle.la_replica.specs.declared.parcel.Parcel.{Parcel}
use Rattle.la_replica.specs.declared.parcel.Content.{Content}
use Rattle.la_replica.specs.declared.parcel.Content.TheVariants as content
use Rattle.la_replica.specs.Parcels.{view_of, unwrapped_in}
use Rattle.la_replica.specs.Whole.{Message, Body, Offer, Yes, No, Tell}
use Rattle.la_replica.specs.Received.{Told, told_at, received_at}
use Rattle.la_replica.specs.ReplicaState.{ReplicaState, submitted_in}
use Rattle.la_node.specs.Calls.{NodeCall, Submitted, Proposed, Received}

-- ## A submission

-- no ballot is left for it
abbrev pub submission_spends : ProposerState → Bool
submission_spends p = not p.is_asking && nat_le MAX_BALLOTS p.number

-- the cap leaves room, and there is a ballot
abbrev pub takes_submission : Option Instance → Bool
takes_submission None = false
takes_submission (Some x) =
    nat_lt (submitted x.proposer) x.proposer.cap && not (submission_spends x.proposer)

-- ## A proposal

-- nothing was submitted where a proposal is
abbrev pub is_first : Option ℕ → Bool
is_first None = false
is_first (Some count) = count == 0

-- ## What a delta stands for

-- of each replica a set has so many updates
abbrev pub has_counts : Histories → Counts → Bool
has_counts s c = list_all (λ r. nat_le (count_in c r) (count s r)) (0 ∷ 1 ∷ 2 ∷ 3 ∷ 4 ∷ 5 ∷ 6 ∷ 7 ∷ [])

-- the id may come next
abbrev pub is_next : Histories → UpdateId → Bool
is_next s id =
    nat_lt id.replica REPLICAS
    && ((id.number == count s id.replica + 1) && nat_le id.number MAX_NUMBER)

abbrev pub are_next : Histories → List Update → Bool
are_next s [] = true
are_next s (u ∷ us) = is_next s u.id && are_next (push s u) us

-- a delta stands for something over a set; without one there is nothing to stand for
abbrev pub is_over_base : Option Told → Bool
is_over_base None = true
is_over_base (Some t) = has_counts t.over t.delta.base && are_next (within t.over t.delta.base) t.delta.more

-- ## What fits

-- the update under the id, where there is one, is this one
abbrev pub is_none_but : Option Update → Update → Bool
is_none_but None u = true
is_none_but (Some v) u = update_eq v u

-- under no id do two sets have two updates
abbrev pub is_compatible : Histories → Histories → Bool
is_compatible a b = list_all (λ u. is_none_but (get a u.id) u) (updates b)

abbrev pub fits_reply : Reply → Histories → Bool
fits_reply replied.Yes refused = true
fits_reply (replied.No other) refused = is_compatible other refused

-- where an update is the proposer's own, the ballot's set has one under its id
abbrev pub is_own_known : ProposerState → Update → Bool
is_own_known p u = not (u.id.replica == p.own) || is_some (get p.updates u.id)

abbrev pub fits_tally : List Counted → Histories → Bool
fits_tally [] refused = true
fits_tally (c ∷ cs) refused = fits_reply c.reply refused && fits_tally cs refused

-- a refusal clashes with nothing that the proposer knows
abbrev pub fits_refusal : ProposerState → Histories → Bool
fits_refusal p refused =
    is_compatible p.updates refused
    && (list_all (is_own_known p) (updates refused)
    && fits_tally p.tally refused)

abbrev pub is_fitting_reply : ProposerState → Reply → Bool
is_fitting_reply p replied.Yes = true
is_fitting_reply p (replied.No refused) = fits_refusal p refused

-- what the replies come to leaves a number for the ballot that opens, if one does
abbrev pub spares : ProposerState → Bool
spares p = not (opens_by p (verdict_of p) && nat_le MAX_BALLOTS p.number)

-- a reply that counts fits, and leaves such a number; of one that does not nothing is looked at
abbrev pub hears_reply : ProposerState → (from ballot : ℕ) → Reply → Bool
hears_reply p from ballot reply =
    not (counts p from ballot) || (is_fitting_reply p reply && spares (with_reply p from reply))

abbrev pub takes_body : Instance → Message → Body → Bool
takes_body x m (Offer offered) = is_compatible x.acceptor offered
takes_body x m Yes = hears_reply x.proposer m.from m.ballot replied.Yes
takes_body x m (No accepted) = hears_reply x.proposer m.from m.ballot (replied.No accepted)
takes_body x m (Tell told) = true

-- ## A call

-- of an instance that there is
abbrev pub takes_message : Option Instance → code.Message → Bool
takes_message None m = false
takes_message (Some x) m =
    is_over_base (told_at x m) && takes_body x (received_at x m) (received_at x m).body

-- it is from a replica of the group, to this one
abbrev pub is_for : ReplicaState → code.Message → Bool
is_for r m = nat_lt m.from (length r.votes) && (m.to == r.own)

-- whether a call is accepted
unfoldable pub accepts : ReplicaState → NodeCall → Bool
accepts r (Submitted d) = takes_submission (slice_get r.instances 0)
accepts r (Proposed k value) = is_first (submitted_in r (first_instance k))
accepts r (Received m) = is_for r m && takes_message (slice_get r.instances m.instance) m

-- ## A parcel

-- a told set stands for something over this one
abbrev pub unwraps_over : (over : Histories) → Content → Bool
unwraps_over over (content.Offer d) = true
unwraps_over over content.Yes = true
unwraps_over over (content.No d) = true
unwraps_over over (content.Tell d) = has_counts over d.base && are_next (within over d.base) d.more

abbrev pub unwraps : ReplicaState → Parcel → Bool
unwraps r p = unwraps_over (view_of r p.instance) p.content

-- a parcel as a call: the message that it is here; none, where its told set stands for nothing
abbrev pub parcel_call : ReplicaState → Parcel → Option NodeCall
parcel_call r p = if unwraps r p then Some (Received (unwrapped_in r p)) else None
