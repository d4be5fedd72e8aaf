-- The votes of a set by the updates that cast them.
use Rattle.std.proofs.Common.{◌≡◌, ℕ, true, Option, Some, None, option_map, Contains, refl, ap, sym, ◌∙◌}
use Rattle.std.specs.Prelude.{option_and_then}
use Rattle.std.proofs.lemmas.Option.{none-some, same_Some}
use Rattle.la_set.specs.declared.update.UpdateId.{UpdateId}
use Rattle.la_set.specs.declared.update.Update.{Update}
use Rattle.la_set.specs.ObjectOps.{ObjectOp, update_of}
use Rattle.la_set.specs.Histories.{Histories, history, object_op_number, get, ContainsUpdate, updates}
use Rattle.la_set.specs.Inclusion.{IsSubset}
use Rattle.la_set.proofs.lemmas.Filters.{filter-contains, contains-filter}
use Rattle.la_set.proofs.lemmas.Membership.{contains-listed, listed-contains}
use Rattle.la_commit.specs.declared.vote.Vote.{Vote}
use Rattle.la_commit.specs.Votes.{vote_of, votes, sole_votes, HoldsVote}
use Rattle.la_commit.specs.Laws.{OwnVotesAreVotes}
use Rattle.la_commit.proofs.lemmas.Listed.{filter_map-contains, contains-filter_map}

-- an update of the set casts the vote
pub record IsCastIn (s : Histories) (v : Vote) : Type 0 where
  pub update : Update
  pub member : ContainsUpdate s update
  pub casts : vote_of update.op ≡ Some v

pub votes-cast : (s : Histories) (v : Vote) → Contains (votes s) v → IsCastIn s v
votes-cast s v has =
    let at = filter_map-contains (λ (u : Update). vote_of u.op) (updates s) v has in
    record { update = at.item; member = listed-contains s at.item at.member; casts = at.gives }

pub cast-votes : (s : Histories) (v : Vote) → IsCastIn s v → Contains (votes s) v
cast-votes s v cast =
    contains-filter_map (λ (u : Update). vote_of u.op) (updates s) cast.update v
    (contains-listed s cast.update cast.member) cast.casts

-- the votes of a set are among those of each larger one
pub votes-subset : (a b : Histories) (v : Vote) → IsSubset a b → Contains (votes a) v → Contains (votes b) v
votes-subset a b v sub has =
    let cast = votes-cast a v has in
    cast-votes b v (record { update = cast.update; member = sub cast.update cast.member; casts = cast.casts })

pub sole_votes-vote : (s : Histories) (v : Vote) → Contains (sole_votes s) v → Contains (votes s) v × (v.sole ≡ true)
sole_votes-vote s v has = filter-contains (λ (x : Vote). x.sole) (votes s) v has

pub vote-sole_votes : (s : Histories) (v : Vote) → Contains (votes s) v → v.sole ≡ true → Contains (sole_votes s) v
vote-sole_votes s v has sole = contains-filter (λ (x : Vote). x.sole) (votes s) v has sole

pub sole_votes-subset : (a b : Histories) (v : Vote) → IsSubset a b → Contains (sole_votes a) v
    → Contains (sole_votes b) v
sole_votes-subset a b v sub has =
    let at = sole_votes-vote a v has in
    vote-sole_votes b v (votes-subset a b v sub at.0) at.1

-- what stands under an id has this id
got_id : (id : UpdateId) (o : Option ObjectOp) (u : Update) → option_map (update_of id.replica id.number) o ≡ Some u
    → u.id ≡ id
got_id id None u e = absurd (none-some u e)
got_id id (Some d) u e = ap (λ (v : Update). v.id) (sym (same_Some (update_of id.replica id.number d) u e))

-- an own vote is a vote of the set, cast by the participant's first update
cast_by : (s : Histories) (id : UpdateId) (v : Vote) (o : Option Update) → get s id ≡ o
    → option_and_then (λ (u : Update). vote_of u.op) o ≡ Some v
    → (u : Update) × (get s id ≡ Some u) × (vote_of u.op ≡ Some v)
cast_by s id v None is casts = absurd (none-some v casts)
cast_by s id v (Some u) is casts = (u, is, casts)

pub own_vote-cast : (s : Histories) (participant : ℕ) (v : Vote) → HoldsVote s participant v → (u : Update) × (get s (record { replica = participant; number = 1 }) ≡ Some u) × (vote_of u.op ≡ Some v)
own_vote-cast s participant v holds = cast_by s (record { replica = participant; number = 1 }) v (get s (record { replica = participant; number = 1 })) refl holds

pub own_vote-votes : OwnVotesAreVotes
own_vote-votes s participant v holds =
    let id : UpdateId = record { replica = participant; number = 1 } in
    let at = own_vote-cast s participant v holds in
    let same : at.0.id ≡ id = got_id id (object_op_number (history s participant) 1) at.0 at.1 in
    cast-votes s v (record { update = at.0; member = ap (get s) same ∙ at.1; casts = at.2 })
