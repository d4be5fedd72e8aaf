-- Why adopt-commit objects are safe. All sole votes of an object are for one value, since two sets of
-- its first instance of which each has votes for one value alone are comparable, and so have a vote
-- in common.
use Rattle.std.proofs.Common.{◌≡◌, ℕ, ◌==◌, ◌<◌, ◌≤◌, ◌⊎◌, inl, inr, Bool, true, false, List, [], ◌∷◌, length, slice_index_or, All, Any, Contains, refl, sym, ◌∙◌, ap, subst, arith, eq-eqb}
use Rattle.std.proofs.lemmas.List.Sums.{list_all-from_AllPass}
use Rattle.std.proofs.lemmas.List.Elements.{Contains-get_or}
use Rattle.la_set.specs.Histories.{Histories}
use Rattle.la_commit.specs.declared.outcome.Outcome.{Outcome}
use Rattle.la_commit.specs.declared.outcome.Outcome.TheVariants.{Commit, Adopt}
use Rattle.la_commit.specs.declared.vote.Vote.{Vote}
use Rattle.la_commit.specs.Votes.{votes, sole_votes, is_sole, HoldsVote, first_vote_for, second_vote_for}
use Rattle.la_commit.specs.Outcomes.{are_all_sole, outcome_by, outcome, value_of, is_commit}
use Rattle.la_commit.specs.Laws.{HasVoteFor}
use Rattle.la_commit.proofs.lemmas.Casting.{own_vote-votes, sole_votes-vote}
use Rattle.la_commit.proofs.lemmas.Agreeing.{sole_values-agree, outcomes-agree, unanimous-commit}
use Rattle.la_commit.specs.Instances.{first_instance, second_instance}
use Rattle.la_world.specs.declared.step.Learnt.{Learnt}
use Rattle.la_world.specs.Groups.{Group, replicas}
use Rattle.la_world.specs.Events.{Event, Decide}
use Rattle.la_world.specs.Learnings.{learnt}
use Rattle.la_world.specs.Playing.{trace}
use Rattle.la_world.specs.StandsFor.{IsLegalTrace}
use Rattle.la_world.specs.Outcomes.{decisions}
use Rattle.la_world.specs.Headline.{CommitsAgree, ReturnsAreProposed, UnanimousProposalsCommit}
use Rattle.la_world.specs.Laws.{AdoptCommitIsSafe}
use Rattle.la_world.proofs.Chains.{learnt_comparable}
use Rattle.la_world.proofs.SubmittedVotes.{HasVoted}
use Rattle.la_world.proofs.LearntVotes.{IsSecond, first_votes, second_votes}
use Rattle.la_world.proofs.Returns.{was_returned}

all_members : {X : Type 0} (P : X → Type 0) (xs : List X) → ((x : X) → Contains xs x → P x) → All P xs
all_members P xs h j d lt = h (slice_index_or xs j d) (Contains-get_or xs j d lt)

-- ## Outcomes

committed_value : (o : Outcome) → is_commit o ≡ true → o ≡ Commit (value_of o)
committed_value (Commit value) e = refl
committed_value (Adopt value) e = cc

-- what is committed is the value of a sole vote
committed_sole : (all : Bool) (vs : List Vote) (own value : ℕ) → outcome_by all vs own ≡ Commit value
    → Any (λ v. v.value ≡ value) vs
committed_sole all [] own value e = cc
committed_sole true (v ∷ vs) own value e = (0, v, omega arith, refl, cc)
committed_sole false (v ∷ vs) own value e = cc

-- a value that is returned is the own, or that of a sole vote
returned_sole : (all : Bool) (vs : List Vote) (own : ℕ)
    → (value_of (outcome_by all vs own) ≡ own) ⊎ Any (λ v. v.value ≡ value_of (outcome_by all vs own)) vs
returned_sole all [] own = inl refl
returned_sole true (v ∷ vs) own = inr (0, v, omega arith, refl, refl)
returned_sole false (v ∷ vs) own = inr (0, v, omega arith, refl, refl)

has_own : (s : Histories) (r value : ℕ) → HoldsVote s r (first_vote_for value) → HasVoteFor s value
has_own s r value holds =
    let at = own_vote-votes s r (first_vote_for value) holds in (at.0, first_vote_for value, at.1, at.2, refl)

some_votes : (s : Histories) (r : ℕ) (v : Vote) → HoldsVote s r v → 0 < length (votes s)
some_votes s r v holds = let at = own_vote-votes s r v holds in let lt = at.1 in omega (arith, lt)

-- ## Sole votes

-- two sole votes to which sets of one object's first instance lead have one value
sole_agree : (g : Group) (events : List Event) (k q p : ℕ) (a : HasVoted (trace g events) k q)
    (b : HasVoted (trace g events) k p) → is_sole a.first.updates a.value ≡ true → is_sole b.first.updates b.value ≡ true
    → a.value ≡ b.value
sole_agree g events k q p a b sole_a sole_b =
    sole_values-agree a.first.updates b.first.updates a.value b.value
    (learnt_comparable g events a.first b.first a.was b.was (a.instance ∙ sym b.instance))
    (has_own a.first.updates q a.value a.own) (has_own b.first.updates p b.value b.own) sole_a sole_b

sole_seconds_agree : (g : Group) (events : List Event) (k : ℕ) (v w : Vote) → IsSecond (trace g events) k v
    → IsSecond (trace g events) k w → v.sole ≡ true → w.sole ≡ true → v.value ≡ w.value
sole_seconds_agree g events k v w a b sole_v sole_w =
    ap (λ (z : Vote). z.value) a.is
    ∙ sole_agree g events k a.replica b.replica a.voted b.voted (sym (ap (λ (z : Vote). z.sole) a.is) ∙ sole_v)
    (sym (ap (λ (z : Vote). z.sole) b.is) ∙ sole_w)
    ∙ sym (ap (λ (z : Vote). z.value) b.is)

module _ (g : Group) (events : List Event) (few : replicas g ≤ 8) (legal : IsLegalTrace g events) where
  -- every sole vote of a set of the second instance is for the value of this sole vote
  sole_value : (k : ℕ) (v : Vote) → IsSecond (trace g events) k v → v.sole ≡ true → (x : Learnt)
      → Contains (learnt (trace g events)) x → x.instance ≡ second_instance k
      → All (λ w. w.value ≡ v.value) (sole_votes x.updates)
  sole_value k v second sole x was at = all_members (λ (w : Vote). w.value ≡ v.value) (sole_votes x.updates) (λ w has.
      let of = sole_votes-vote x.updates w has in
      sole_seconds_agree g events k w v (second_votes g events few legal x was k at w of.0) second of.1 sole)

  agree : CommitsAgree (decisions g (trace g events))
  agree x y has_x has_y same commits =
      let a = was_returned g (trace g events) x has_x in
      let b = was_returned g (trace g events) y has_y in
      let value = value_of x.outcome in
      let committed : outcome a.set.updates a.own.value ≡ Commit value = a.is ∙ committed_value x.outcome commits in
      let from = committed_sole (are_all_sole a.set.updates) (sole_votes a.set.updates) a.own.value value committed in
      let v = from.1 in
      let has = sole_votes-vote a.set.updates v (from.0, from.2, from.3) in
      let second = second_votes g events few legal a.set a.was x.commit a.instance v has.0 in
      let at : b.set.instance ≡ second_instance x.commit = b.instance ∙ ap second_instance (sym same) in
      ap value_of (sym b.is)
      ∙ outcomes-agree a.set.updates b.set.updates a.own.value b.own.value value v.value
      (learnt_comparable g events a.set b.set a.was b.was (a.instance ∙ sym at))
      (sole_value x.commit v second has.1 a.set a.was a.instance)
      (sole_value x.commit v second has.1 b.set b.was at)
      (some_votes b.set.updates b.set.replica b.own b.holds)
      committed

  -- ## Proposals

  -- the value of a second vote was proposed
  second_proposed : (k : ℕ) (v : Vote) → IsSecond (trace g events) k v → (r : ℕ) × Contains events (Decide r k v.value)
  second_proposed k v second =
      let w = second.voted in
      let has = own_vote-votes w.first.updates second.replica (first_vote_for w.value) w.own in
      let p = first_votes g events few legal w.first w.was k w.instance (first_vote_for w.value) has in
      let of : p.value ≡ v.value = sym (ap (λ (z : Vote). z.value) p.is) ∙ sym (ap (λ (z : Vote). z.value) second.is) in
      (p.replica, subst (λ n. Contains events (Decide p.replica k n)) of p.accepted)

  vote_proposed : (k : ℕ) (x : Learnt) → Contains (learnt (trace g events)) x → x.instance ≡ second_instance k
      → (v : Vote) → Contains (votes x.updates) v → (r : ℕ) × Contains events (Decide r k v.value)
  vote_proposed k x was at v has = second_proposed k v (second_votes g events few legal x was k at v has)

  proposed : ReturnsAreProposed events (decisions g (trace g events))
  proposed x has =
      let a = was_returned g (trace g events) x has in
      let value = ap value_of a.is in
      elim (returned_sole (are_all_sole a.set.updates) (sole_votes a.set.updates) a.own.value) [
        | inl own ↦
            let p =
            vote_proposed x.commit a.set a.was a.instance a.own
            (own_vote-votes a.set.updates a.set.replica a.own a.holds) in
            (p.0, subst (λ n. Contains events (Decide p.0 x.commit n)) (sym own ∙ value) p.1)
        | inr sole ↦
            let v = sole.1 in
            let p =
            vote_proposed x.commit a.set a.was a.instance v
            (sole_votes-vote a.set.updates v (sole.0, sole.2, sole.3)).0 in
            (p.0, subst (λ n. Contains events (Decide p.0 x.commit n)) (sole.4 ∙ value) p.1)
      ]

  -- ## One value

  module _ (k value : ℕ) (one : (r other : ℕ) → Contains events (Decide r k other) → other ≡ value) where
    first_sole : (x : Learnt) → Contains (learnt (trace g events)) x → x.instance ≡ first_instance k
        → is_sole x.updates value ≡ true
    first_sole x was at = list_all-from_AllPass (λ (v : Vote). v.value == value) (votes x.updates) (all_members (λ (v : Vote). (v.value == value) ≡ true) (votes x.updates) (λ v has.
        let p = first_votes g events few legal x was k at v has in
        eq-eqb v.value value (ap (λ (z : Vote). z.value) p.is ∙ one p.replica p.value p.accepted)))

    second_is : (v : Vote) → IsSecond (trace g events) k v → v ≡ record { value = value; sole = true }
    second_is v second =
        let w = second.voted in
        let p = second_proposed k v second in
        let of : w.value ≡ value = sym (ap (λ (z : Vote). z.value) second.is) ∙ one p.0 v.value p.1 in
        second.is ∙ ap (second_vote_for w.first.updates) of ∙ ap (λ (b : Bool). record { value = value; sole = b }) (first_sole w.first w.was w.instance)

    commits : (x : Learnt) → Contains (learnt (trace g events)) x → x.instance ≡ second_instance k
        → (r : ℕ) (own : Vote) → HoldsVote x.updates r own → outcome x.updates own.value ≡ Commit value
    commits x was at r own holds = unanimous-commit x.updates own.value value (some_votes x.updates r own holds)
        (all_members (λ (v : Vote). v ≡ record { value = value; sole = true }) (votes x.updates) (λ v has. second_is v (second_votes g events few legal x was k at v has)))

  unanimous : UnanimousProposalsCommit events (decisions g (trace g events))
  unanimous k value one x has of =
      let a = was_returned g (trace g events) x has in
      sym a.is ∙ commits k value one a.set a.was (a.instance ∙ ap second_instance of) a.set.replica a.own a.holds

pub adopt_commit : AdoptCommitIsSafe
adopt_commit g events few legal = record {
  agree = agree g events few legal;
  proposed = proposed g events few legal;
  unanimous = unanimous g events few legal;
}
