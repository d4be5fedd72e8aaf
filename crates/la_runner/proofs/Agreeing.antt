-- Why those that decided in a run agree: by the laws of la_commit, over all logs.
use Rattle.std.proofs.Common.{◌≡◌, ◌⊎◌, inl, inr, ℕ, ◌<◌, ◌==◌, Bool, true, false, List, [], ◌∷◌, take, length, All, Any, Contains, Option, Some, refl, ap, sym, ◌∙◌, subst, arith}
use Rattle.std.specs.Prelude.{IsSome}
use Rattle.std.specs.List.{AllZip, slice_get, slice_index_or}
use Rattle.std.proofs.lemmas.Bool.{eq-eqb}
use Rattle.std.proofs.lemmas.List.Sums.{list_all-from_AllPass}
use Rattle.std.proofs.lemmas.List.Elements.{All-contains_itself}
use Rattle.la_set.specs.declared.update.UpdateId.{UpdateId}
use Rattle.la_set.specs.declared.update.Update.{Update}
use Rattle.la_set.specs.Histories.{Histories, history, object_op_number, ContainsUpdate, get}
use Rattle.la_set.specs.Inclusion.{AreComparable}
use Rattle.la_set.proofs.lemmas.Filters.{filter-contains}
use Rattle.la_commit.specs.declared.outcome.Outcome.{Outcome}
use Rattle.la_commit.specs.declared.outcome.Outcome.TheVariants.{Commit, Adopt}
use Rattle.la_commit.specs.declared.vote.Vote.{Vote}
use Rattle.la_commit.specs.Instances.{first_instance, second_instance}
use Rattle.la_commit.specs.Outcomes.{are_all_sole, outcome_by, outcome, is_commit, value_of}
use Rattle.la_commit.specs.Votes.{vote_of, votes, sole_votes, is_sole, HoldsVote, first_vote_for, second_vote_for}
use Rattle.la_commit.specs.Laws.{HasVoteFor}
use Rattle.la_commit.proofs.lemmas.Agreeing.{sole_values-agree, outcomes-agree, unanimous-commit}
use Rattle.la_commit.proofs.lemmas.Casting.{votes-cast, own_vote-cast, own_vote-votes}
use Rattle.la_runner.specs.declared.jobs.Entry.TheVariants.{Decided}
use Rattle.la_runner.specs.Entries.{next_number, IsDecided, AnswersJob}
use Rattle.la_runner.specs.Members.{MemberState, IsCertified}
use Rattle.la_runner.specs.Runs.{Place, Back, IsBackOf}
use Rattle.la_runner.specs.Together.{HasSeen, IsSeenBy, AreSeen, Decision, IsDecisionMade, IsMadeAt, DecisionsCompare, IsFirstOfDecided, WasSubmitted, WasProposed, HasTheRunsSoleVotes, HasTheirVotes, IsAgreed, DecisionsAgree, IsTheirs, DecisionsAreTheirs}
use Rattle.la_runner.proofs.Proposing.{some_same, none_some}
use Rattle.la_runner.specs.Participants.{HasProposed}
use Rattle.la_runner.proofs.Submitting.{id_of, proposed_there, led_to}
use Rattle.la_runner.proofs.Sharing.{zip_at, seen_here, certified_seen}
use Rattle.la_runner.proofs.Standing.{certified_compare, own_are}

-- ## Two sets

-- comparable sets have one update under an id
one_update : (s t : Histories) → AreComparable s t → (u v : Update) → ContainsUpdate s u → ContainsUpdate t v
    → u.id ≡ v.id → u ≡ v
one_update s t comparable u v in_s in_t same = elim comparable [
  | inl sub ↦ some_same (sym (sub u in_s) ∙ ap (get t) same ∙ in_t)
  | inr sub ↦ some_same (sym in_s ∙ ap (get s) same ∙ sub v in_t)
]

-- the first update of a participant casts one vote in comparable sets
one_vote : (s t : Histories) → AreComparable s t → (u : Update) → ContainsUpdate s u → (r : ℕ) → u.id ≡ record { replica = r; number = 1 } → (x y : Vote) → vote_of u.op ≡ Some x → HoldsVote t r y → x ≡ y
one_vote s t comparable u in_s r id x y casts holds =
    let own : UpdateId = record { replica = r; number = 1 } in
    let at = own_vote-cast t r y holds in
    let named : at.0.id ≡ own = id_of own (object_op_number (history t r) 1) at.0 at.1 in
    let same : u ≡ at.0 = one_update s t comparable u at.0 in_s (ap (get t) named ∙ at.1) (id ∙ sym named) in
    some_same (sym casts ∙ ap (λ (z : Update). vote_of z.op) same ∙ at.2)

is_some : {A : Type 0} (o : Option A) (x : A) → o ≡ Some x → IsSome o
is_some o x e = subst IsSome (sym e) refl

has_some : (s : Histories) (x : Vote) → Contains (votes s) x → 0 < length (votes s)
has_some s x (k, lt, is) = omega arith

has_value : (s : Histories) (x : Vote) → Contains (votes s) x → HasVoteFor s x.value
has_value s x (k, lt, is) = (k, x, lt, is, refl)

committed : (o : Outcome) → is_commit o ≡ true → o ≡ Commit (value_of o)
committed (Commit v) e = refl
committed (Adopt v) e = absurd (cc e)

-- a committed value is that of a sole vote
commit_sole : (b : Bool) (vs : List Vote) (own v : ℕ) → outcome_by b vs own ≡ Commit v → Any (λ x. x.value ≡ v) vs
commit_sole b [] own v e = absurd (cc e)
commit_sole true (x ∷ xs) own v e = (0, x, omega arith, refl, cc)
commit_sole false (x ∷ xs) own v e = absurd (cc e)

-- what is returned is the own value, or that of a sole vote
voted_by : (b : Bool) (vs : List Vote) (own : ℕ)
    → (value_of (outcome_by b vs own) ≡ own) ⊎ Any (λ x. x.value ≡ value_of (outcome_by b vs own)) vs
voted_by b [] own = inl refl
voted_by true (x ∷ xs) own = inr (0, x, omega arith, refl, refl)
voted_by false (x ∷ xs) own = inr (0, x, omega arith, refl, refl)

-- ## Decisions of a run

module _ (ps : List Place) (bs : List Back) (h : AllZip IsBackOf ps bs) where
  log_is : (d : Decision) (m : IsDecisionMade ps bs d) → IsBackOf m.place m.log
  log_is d m =
      let at = zip_at ps bs m.at m.log h m.is_log in
      subst (λ x. IsBackOf x m.log) (some_same (sym at.1 ∙ m.is_given)) at.2

  decided : (d : Decision) (m : IsDecisionMade ps bs d) → IsDecided m.log.member d.commit d.value d.first d.second d.reached
  decided d m =
      let a = (log_is d m).done.answers m.nth (Decided d.first d.second d.reached) m.is_entry in
      subst
      (λ j.
      AnswersJob m.log.member (next_number m.place.member (take m.nth m.place.jobs)) m.place.shelf.objects j
      (Decided d.first d.second d.reached)) (some_same (sym a.1 ∙ m.is_job)) a.2

  named : (d : Decision) (m : IsDecisionMade ps bs d) → m.log.member.replica ≡ d.replica
  named d m = sym (m.is_of ∙ (log_is d m).named)

  first_vote : (d : Decision) → IsDecisionMade ps bs d → HoldsVote d.first d.replica (first_vote_for d.value)
  first_vote d m = subst (λ r. HoldsVote d.first r (first_vote_for d.value)) (named d m) (decided d m).first_vote

  second_vote : (d : Decision) → IsDecisionMade ps bs d → HoldsVote d.second d.replica (second_vote_for d.first d.value)
  second_vote d m =
      subst (λ r. HoldsVote d.second r (second_vote_for d.first d.value)) (named d m) (decided d m).second_vote

  certified_first : (w : MemberState) → All (λ b. HasSeen b.member w) bs → (k : ℕ) (d : Decision) → IsMadeAt ps bs k d
      → IsCertified w (first_instance k) d.first
  certified_first w all k d (m, at) = subst (λ i. IsCertified w (first_instance i) d.first) at
      (certified_seen m.log.member w (seen_here bs w m.at m.log all m.is_log) (first_instance d.commit) d.first
      (own_are m.log.member (log_is d m).is (first_instance d.commit) d.first (decided d m).first_own))

  certified_second : (w : MemberState) → All (λ b. HasSeen b.member w) bs → (k : ℕ) (d : Decision) → IsMadeAt ps bs k d
      → IsCertified w (second_instance k) d.second
  certified_second w all k d (m, at) = subst (λ i. IsCertified w (second_instance i) d.second) at
      (certified_seen m.log.member w (seen_here bs w m.at m.log all m.is_log) (second_instance d.commit) d.second
      (own_are m.log.member (log_is d m).is (second_instance d.commit) d.second (decided d m).second_own))

  pub decisions_compare : AreSeen bs → DecisionsCompare ps bs
  decisions_compare (inl none) k d e (m, at) of_e =
      absurd (none_some (ap (λ l. slice_get l m.at) (sym none) ∙ m.is_log))
  decisions_compare (inr w) k d e of_d of_e = (
    certified_compare w.witness w.is (first_instance k) d.first e.first (certified_first w.witness w.sees k d of_d)
        (certified_first w.witness w.sees k e of_e),
    certified_compare w.witness w.is (second_instance k) d.second e.second (certified_second w.witness w.sees k d of_d)
        (certified_second w.witness w.sees k e of_e),
  )

  own_in : (d : Decision) → IsDecisionMade ps bs d → Contains (votes d.second) (second_vote_for d.first d.value)
  own_in d m = own_vote-votes d.second d.replica (second_vote_for d.first d.value) (second_vote d m)

  -- its member proposed what it decided on
  own_value : (k : ℕ) (d : Decision) → IsMadeAt ps bs k d → WasProposed bs k d.value
  own_value k d (m, at) = subst (λ i. WasProposed bs i d.value) at (
    m.at,
    m.log,
    m.is_log,
    proposed_there m.log.member (log_is d m).is d.commit d.value d.first
        (decided d m).first_own (decided d m).first_vote,
  )

  -- ## Whoever stopped

  module _ (w : IsSeenBy bs) (k : ℕ) (runs : (d : Decision) → IsMadeAt ps bs k d → HasTheRunsSoleVotes ps bs k d.second)
    where
      -- the value of a sole vote is that of all votes of a certified first set
      record IsSoleBy (x : Vote) : Type 0 where
        pub first : Histories
        pub certified : IsCertified w.witness (first_instance k) first
        pub has : HasVoteFor first x.value
        pub all : is_sole first x.value ≡ true

      sole_by : (x : Vote) (first : Histories) (value replica : ℕ) → IsCertified w.witness (first_instance k) first
          → HoldsVote first replica (first_vote_for value) → x ≡ second_vote_for first value → x.sole ≡ true → IsSoleBy x
      sole_by x first value replica certified holds leads sole =
          let same : value ≡ x.value = sym (ap (λ (z : Vote). z.value) leads) in
          record {
            first = first;
            certified = certified;
            has =
                subst (HasVoteFor first) same
                (has_value first (first_vote_for value) (own_vote-votes first replica (first_vote_for value) holds));
            all = subst (λ z. is_sole first z ≡ true) same (sym (ap (λ (z : Vote). z.sole) leads) ∙ sole);
          }

      -- where nobody outside the run cast it, a member submitted it, or one that decided
      by_submission : (x : Vote) → x.sole ≡ true → (u : Update) → vote_of u.op ≡ Some x
          → WasSubmitted bs (second_instance k) u → IsSoleBy x
      by_submission x sole u cast (at, b, is_log, given) =
          let is = (zip_at ps bs at b h is_log).2.is in
          let led = led_to b.member is k u x given cast in
          sole_by x led.first led.value b.member.replica
          (certified_seen b.member w.witness (seen_here bs w.witness at b w.sees is_log) (first_instance k) led.first
          (own_are b.member is (first_instance k) led.first led.own))
          led.holds led.leads sole

      by_decision : (d : Decision) → IsMadeAt ps bs k d → (x : Vote) → x.sole ≡ true → (u : Update)
          → ContainsUpdate d.second u → vote_of u.op ≡ Some x → (e : IsFirstOfDecided ps bs k u)
          → x ≡ second_vote_for e.0.first e.0.value
      by_decision d of_d x sole u has cast (e, of_e, id) =
          one_vote d.second e.second (decisions_compare (inr w) k d e of_d of_e).1 u has e.replica id x
          (second_vote_for e.first e.value) cast (second_vote e of_e.0)

      by_one : (d : Decision) → IsMadeAt ps bs k d → (x : Vote) → Contains (sole_votes d.second) x → IsSoleBy x
      by_one d of_d x in_d =
          let one = filter-contains (λ (z : Vote). z.sole) (votes d.second) x in_d in
          let cast = votes-cast d.second x one.0 in
          elim (runs d of_d cast.update x cast.member cast.casts one.1) [
            | inl given ↦ by_submission x one.1 cast.update cast.casts given
            | inr e ↦ sole_by x e.0.first e.0.value e.0.replica (certified_first w.witness w.sees k e.0 e.1) (first_vote e.0 e.1.0) (by_decision d of_d x one.1 cast.update cast.member cast.casts e) one.1
          ]

      -- sole votes have one value
      sole_is : (d e : Decision) → IsMadeAt ps bs k d → IsMadeAt ps bs k e → (x y : Vote)
          → Contains (sole_votes d.second) x → Contains (sole_votes e.second) y → x.value ≡ y.value
      sole_is d e of_d of_e x y in_d in_e =
          let p = by_one d of_d x in_d in
          let q = by_one e of_e y in_e in
          sole_values-agree p.first q.first x.value y.value
          (certified_compare w.witness w.is (first_instance k) p.first q.first p.certified q.certified) p.has q.has
          p.all q.all

      -- a value that all have which are sole votes of two sets, by one of the first
      all_have : (d e : Decision) → IsMadeAt ps bs k d → IsMadeAt ps bs k e → (y : Vote)
          → Contains (sole_votes d.second) y → (v : ℕ) → y.value ≡ v → All (λ x. x.value ≡ v) (sole_votes e.second)
      all_have d e of_d of_e y in_d v is n x lt =
          sole_is e d of_e of_d (slice_index_or (sole_votes e.second) n x) y
          (All-contains_itself (sole_votes e.second) n x lt) in_d ∙ is

      agree : (d e : Decision) → IsMadeAt ps bs k d → IsMadeAt ps bs k e → is_commit d.reached ≡ true
          → value_of e.reached ≡ value_of d.reached
      agree d e of_d of_e commits =
          let is : d.reached ≡ outcome d.second d.value = (decided d of_d.0).outcome_is in
          let v : ℕ = value_of d.reached in
          let now : outcome d.second d.value ≡ Commit v = sym is ∙ committed d.reached commits in
          let sole = commit_sole (are_all_sole d.second) (sole_votes d.second) d.value v now in
          let has : Contains (sole_votes d.second) sole.1 = (sole.0, sole.2, sole.3) in
          ap value_of (decided e of_e.0).outcome_is
          ∙ outcomes-agree d.second e.second d.value e.value v v (decisions_compare (inr w) k d e of_d of_e).1
          (all_have d d of_d of_d sole.1 has v sole.4) (all_have d e of_d of_e sole.1 has v sole.4)
          (has_some e.second (second_vote_for e.first e.value) (own_in e of_e.0)) now

      -- a member proposed the value of a sole vote
      sole_proposed : (d : Decision) → IsMadeAt ps bs k d → (x : Vote) → Contains (sole_votes d.second) x
          → WasProposed bs k x.value
      sole_proposed d of_d x in_d =
          let one = filter-contains (λ (z : Vote). z.sole) (votes d.second) x in_d in
          let cast = votes-cast d.second x one.0 in
          elim (runs d of_d cast.update x cast.member cast.casts one.1) [
            | inl (at, b, is_log, given) ↦
                let is = (zip_at ps bs at b h is_log).2.is in
                let led = led_to b.member is k cast.update x given cast.casts in (
                  at,
                  b,
                  is_log,
                  subst (HasProposed b.member k) (sym (ap (λ (z : Vote). z.value) led.leads))
                      (proposed_there b.member is k led.value led.first led.own led.holds),
                )
            | inr e ↦ subst (WasProposed bs k) (sym (ap (λ (z : Vote). z.value) (by_decision d of_d x one.1 cast.update cast.member cast.casts e))) (own_value k e.0 e.1)
          ]

      proposed : (d : Decision) → IsMadeAt ps bs k d → WasProposed bs k (value_of d.reached)
      proposed d of_d =
          let is : d.reached ≡ outcome d.second d.value = (decided d of_d.0).outcome_is in
          elim (voted_by (are_all_sole d.second) (sole_votes d.second) d.value) [
            | inl own ↦ subst (WasProposed bs k) (sym own ∙ sym (ap value_of is)) (own_value k d of_d)
            | inr sole ↦ subst (WasProposed bs k) (sole.4 ∙ sym (ap value_of is)) (sole_proposed d of_d sole.1 (sole.0, sole.2, sole.3))
          ]

      agreed : IsAgreed ps bs k
      agreed = record { agree = agree; proposed = proposed }

  nobody : {P : Type 0} (k : ℕ) (d : Decision) → bs ≡ [] → IsMadeAt ps bs k d → P
  nobody k d none (m, at) = absurd (none_some (ap (λ l. slice_get l m.at) (sym none) ∙ m.is_log))

  pub decisions_agree : AreSeen bs → DecisionsAgree ps bs
  decisions_agree (inl none) k runs = record {
    agree = λ d e of_d of_e commits. nobody k d none of_d;
    proposed = λ d of_d. nobody k d none of_d;
  }
  decisions_agree (inr w) k runs = agreed w k runs

  -- ## Where nobody else voted

  module _ (compare : DecisionsCompare ps bs) (k : ℕ)
      (theirs : (d : Decision) → IsMadeAt ps bs k d → HasTheirVotes ps bs k d.second) where
    -- a vote of a second set is the second vote of one that decided
    second_is : (d : Decision) → IsMadeAt ps bs k d → (x : Vote) → Contains (votes d.second) x
        → (e : Decision) × IsMadeAt ps bs k e × (x ≡ second_vote_for e.first e.value)
    second_is d of_d x has =
        let cast = votes-cast d.second x has in
        let their = theirs d of_d cast.update cast.member (is_some (vote_of cast.update.op) x cast.casts) in (
          their.0,
          their.1,
          one_vote d.second their.0.second (compare k d their.0 of_d their.1).1 cast.update cast.member
              their.0.replica their.2 x (second_vote_for their.0.first their.0.value) cast.casts
              (second_vote their.0 their.1.0),
        )

    one_proposed : (d : Decision) → IsMadeAt ps bs k d
        → (e : Decision) × IsMadeAt ps bs k e × (e.value ≡ value_of d.reached)
    one_proposed d of_d =
        let is : d.reached ≡ outcome d.second d.value = (decided d of_d.0).outcome_is in
        elim (voted_by (are_all_sole d.second) (sole_votes d.second) d.value) [
          | inl own ↦ (d, of_d, sym own ∙ sym (ap value_of is))
          | inr sole ↦
              let one = filter-contains (λ (z : Vote). z.sole) (votes d.second) sole.1 (sole.0, sole.2, sole.3) in
              let e = second_is d of_d sole.1 one.0 in
              (e.0, e.1, sym (ap (λ (z : Vote). z.value) e.2) ∙ sole.4 ∙ sym (ap value_of is))
        ]

    module _ (value : ℕ) (one : (d : Decision) → IsMadeAt ps bs k d → HasTheirVotes ps bs k d.first × (d.value ≡ value))
      where
        -- a vote of a first set is the first vote of one that decided
        first_is : (d : Decision) → IsMadeAt ps bs k d → (x : Vote) → Contains (votes d.first) x → x.value ≡ value
        first_is d of_d x has =
            let cast = votes-cast d.first x has in
            let their = (one d of_d).0 cast.update cast.member (is_some (vote_of cast.update.op) x cast.casts) in
            ap (λ (z : Vote). z.value)
            (one_vote d.first their.0.first (compare k d their.0 of_d their.1).0 cast.update cast.member their.0.replica
            their.2 x (first_vote_for their.0.value) cast.casts (first_vote their.0 their.1.0))
            ∙ (one their.0 their.1).1

        is_sole_there : (d : Decision) → IsMadeAt ps bs k d → is_sole d.first d.value ≡ true
        is_sole_there d of_d = list_all-from_AllPass (λ (x : Vote). x.value == d.value) (votes d.first)
            (λ n x lt.
            let y = slice_index_or (votes d.first) n x in
            eq-eqb y.value d.value
            (first_is d of_d y (All-contains_itself (votes d.first) n x lt) ∙ sym (one d of_d).1))

        all_sole : (d : Decision) → IsMadeAt ps bs k d → All (λ x. x ≡ record { value = value; sole = true }) (votes d.second)
        all_sole d of_d n x lt =
            let e =
            second_is d of_d (slice_index_or (votes d.second) n x) (All-contains_itself (votes d.second) n x lt) in
            e.2 ∙ (λ i. record { value = (one e.0 e.1).1 i; sole = is_sole_there e.0 e.1 i })

        unanimous : (d : Decision) → IsMadeAt ps bs k d → d.reached ≡ Commit value
        unanimous d of_d = (decided d of_d.0).outcome_is
            ∙ unanimous-commit d.second d.value value
            (has_some d.second (second_vote_for d.first d.value) (own_in d of_d.0)) (all_sole d of_d)

    theirs_are : IsTheirs ps bs k
    theirs_are = record { proposed = one_proposed; unanimous = unanimous }

  pub decisions_are_theirs : AreSeen bs → DecisionsAreTheirs ps bs
  decisions_are_theirs seen k theirs = theirs_are (decisions_compare seen) k theirs
