-- What is said of a message shows whether anything changed.
use Rattle.std.proofs.Common.{◌≡◌, ◌≢◌, ℕ, zero, suc, ◌+◌, ◌≤◌, ◌==◌, ltb, Bool, true, false, true≢false, cond}
use Rattle.std.proofs.Common.{List, [], ◌∷◌, length, slice_get, slice_set, Option, Some, None, option_map, unwrap_or}
use Rattle.std.proofs.Common.{refl, sym, ap, ap₂, subst, ◌∙◌, arith}
use Rattle.std.proofs.lemmas.Bool.{false≢true, not-true, not-false, ltb-true, ltb-false, and_parts}
use Rattle.std.proofs.lemmas.List.{length-append, set-get_or}
use Rattle.std.proofs.lemmas.Option.{none-some, same_Some, get_or_from_slice_get}
use Rattle.la_set.specs.Histories.{Histories, count, updates}
use Rattle.la_set.specs.Inclusion.{IsSubset, is_larger}
use Rattle.la_set.specs.Join.{join}
use Rattle.la_set.proofs.lemmas.Comparable.{is_larger-Decides}
use Rattle.la_set.proofs.lemmas.Differences.{same_length}
use Rattle.la_set.proofs.lemmas.Inclusions.{subset-count, subset-refl}
use Rattle.la_set.proofs.lemmas.Joins.{subset-join_left}
use Rattle.la_set.proofs.lemmas.Places.{count_before, count_before-more, count_before_none, updates_count_before}
use Rattle.la_acceptor.specs.declared.reply.Reply.{Reply}
use Rattle.la_acceptor.specs.declared.reply.Reply.TheVariants as replied
use Rattle.la_proposer.specs.declared.heard.Heard.TheVariants as heard
use Rattle.la_proposer.specs.declared.tally.Verdict.{Verdict}
use Rattle.la_proposer.specs.declared.tally.Verdict.TheVariants.{Waits, Refines, Learns}
use Rattle.la_proposer.specs.ProposerState.{ProposerState, counts, with_reply, is_nothing, closed, after_opening}
use Rattle.la_proposer.specs.ProposerState.{heard_by, after_verdict, verdict_of, heard_counting, after_counting}
use Rattle.la_replica.specs.declared.instance.Instance.{Instance}
use Rattle.la_replica.specs.declared.out.Said.{Said}
use Rattle.la_replica.specs.declared.out.Said.TheVariants.{Opened, Held, Answered, Counted, Ignored}
use Rattle.la_replica.specs.declared.out.Said.TheVariants.{Refined, Learnt, Took, Kept}
use Rattle.la_replica.specs.declared.sender.Sender.{Sender}
use Rattle.la_replica.specs.Whole.{Message, Body, Offer, Yes, No, Tell, Out}
use Rattle.la_replica.specs.Steps.{Step, learnt_in, answers, hears, hears_as, receives_body}
use Rattle.la_replica.specs.Steps as steps
use Rattle.la_replica.specs.ReplicaState.{ReplicaState, sender_of, with_instance, after_step, receives}
use Rattle.la_replica.specs.Still.{has_grown, is_still, StillReceiptsChangeNothing, OtherReceiptsChangeIt}
use Rattle.la_replica.proofs.Beside.{get_put}

-- ## A join that is no longer

more_before : (s : Histories) (r : ℕ) → count_before s (suc r) ≡ count_before s r + count s r
more_before s r = ap (count_before s) {x = suc r} {y = r + 1} (omega arith) ∙ count_before-more s r

no_fewer_before : (a b : Histories) → IsSubset a b → (r : ℕ) → count_before a r ≤ count_before b r
no_fewer_before a b sub zero = omega (arith, count_before_none a, count_before_none b)
no_fewer_before a b sub (suc r) =
    omega (arith, no_fewer_before a b sub r, subset-count a b sub r, more_before a r, more_before b r)

no_fewer : (a b : Histories) → IsSubset a b → length (updates a) ≤ length (updates b)
no_fewer a b sub = omega (arith, no_fewer_before a b sub 8, updates_count_before a, updates_count_before b)

no_longer : (a s : Histories) → ltb (length (updates a)) (length (updates (join a s))) ≡ false → join a s ≡ a
no_longer a s short =
    let sub = subset-join_left a s in
    let within = ltb-false (length (updates a)) (length (updates (join a s))) short in
    sym (same_length a (join a s) sub (omega (arith, within, no_fewer a (join a s) sub)))

-- ## In an instance

-- whether a step leaves more accepted
abbrev grew_at : Instance → Step → Bool
grew_at x s = ltb (length (updates x.acceptor)) (length (updates s.at.acceptor))

-- a step leaves the instance and the view
abbrev Keeps : Instance → (view : Histories) → Step → Type 0
Keeps x view s = (s.at ≡ x) × (s.view ≡ view)

-- what is said of it shows whether it does
abbrev Shows : Instance → (view : Histories) → Step → Type 0
Shows x view s =
    (is_still (grew_at x s) s.said ≡ true → Keeps x view s) × (is_still (grew_at x s) s.said ≡ false → ¬ Keeps x view s)

module _ (x : Instance) (view : Histories) where
  answering_shows : (m : Message) (offered : Histories) → Shows x view (answers x view m offered)
  answering_shows m offered =
      let before = length (updates x.acceptor) in
      let after = length (updates (join x.acceptor offered)) in (
        λ still. (
          ap (λ (s : Histories). record x { acceptor = s })
              (no_longer x.acceptor offered (not-true (ltb before after) still)),
          refl,
        ),
        λ other kept.
            let same : after ≡ before = ap (λ (y : Instance). length (updates y.acceptor)) kept.0 in
            let grew = ltb-true before after (not-false (ltb before after) other) in
            absurd (omega (arith, same, grew)),
      )

  module _ (s : Sender) (m : Message) (reply : Reply) where
    abbrev heard_with : ProposerState
    heard_with = with_reply x.proposer m.from reply

    learnt_changes : (b : Bool) → x.proposer.is_asking ≡ true
        → cond b (closed heard_with) (after_opening heard_with) ≢ x.proposer
    learnt_changes true asking same =
        true≢false (sym asking ∙ sym (ap (λ (p : ProposerState). p.is_asking) same))
    learnt_changes false asking same =
        let n : x.proposer.number + 1 ≡ x.proposer.number = ap (λ (p : ProposerState). p.number) same in
        omega (arith, n)

    counting_changes : (v : Verdict) → x.proposer.is_asking ≡ true → after_verdict heard_with v ≢ x.proposer
    counting_changes Waits asking same =
        omega (
          arith,
          ap (λ (p : ProposerState). length p.tally) same,
          length-append x.proposer.tally (record { from = m.from; reply = reply } ∷ []),
        )
    counting_changes Refines asking same =
        let n : x.proposer.number + 1 ≡ x.proposer.number = ap (λ (p : ProposerState). p.number) same in
        omega (arith, n)
    counting_changes Learns asking same = learnt_changes (is_nothing x.proposer.waiting) asking same

    counting_shows : (v : Verdict) → x.proposer.is_asking ≡ true
        → Shows x view (hears_as s x view m.ballot (heard_by heard_with v) (after_verdict heard_with v))
    counting_shows Waits asking = (
      λ still. absurd (false≢true still),
      λ other kept. counting_changes Waits asking (ap (λ (y : Instance). y.proposer) kept.0),
    )
    counting_shows Refines asking = (
      λ still. absurd (false≢true still),
      λ other kept. counting_changes Refines asking (ap (λ (y : Instance). y.proposer) kept.0),
    )
    counting_shows Learns asking = (
      λ still. absurd (false≢true still),
      λ other kept. counting_changes Learns asking (ap (λ (y : Instance). y.proposer) kept.0),
    )

    hearing_shows_at : (b : Bool) → counts x.proposer m.from m.ballot ≡ b
        → Shows x view
        (hears_as s x view m.ballot (cond b (heard_counting heard_with) heard.Ignored)
        (cond b (after_counting heard_with) x.proposer))
    hearing_shows_at true counted =
        counting_shows (verdict_of heard_with) (and_parts x.proposer.is_asking _ counted).0
    hearing_shows_at false counted = (λ still. (refl, refl), λ other. absurd (true≢false other))

    hearing_shows : Shows x view (hears s x view m reply)
    hearing_shows = hearing_shows_at (counts x.proposer m.from m.ballot) refl

  -- what is said of a told set, and the view afterwards
  abbrev told_as : (told : Histories) → (here larger : Bool) → Step
  told_as told here larger = record {
    said = cond here (cond larger (Took told) Kept) Ignored;
    mail = [];
    at = x;
    view = cond here (cond larger told view) view;
  }

  telling_shows_at : (told : Histories) (here larger : Bool) → is_larger view told ≡ larger
      → Shows x view (told_as told here larger)
  telling_shows_at told true true e = (
    λ still. absurd (false≢true still),
    λ other kept.
        ((is_larger-Decides view told).0 e).1 (subst (λ t. IsSubset t view) (sym kept.1) (subset-refl view)),
  )
  telling_shows_at told true false e = (λ still. (refl, refl), λ other. absurd (true≢false other))
  telling_shows_at told false larger e = (λ still. (refl, refl), λ other. absurd (true≢false other))

  body_shows : (s : Sender) (m : Message) (b : Body) → Shows x view (receives_body s x view m b)
  body_shows s m (Offer offered) = answering_shows m offered
  body_shows s m Yes = hearing_shows s m replied.Yes
  body_shows s m (No accepted) = hearing_shows s m (replied.No accepted)
  body_shows s m (Tell told) = telling_shows_at told (s.instance == 0) (is_larger view told) refl

-- ## In a replica

abbrev ShowsIn : ReplicaState → (instance : ℕ) → Out × ReplicaState → Type 0
ShowsIn r i made =
    (is_still (has_grown r made.1 i) made.0.said ≡ true → made.1 ≡ r)
    × (is_still (has_grown r made.1 i) made.0.said ≡ false → made.1 ≢ r)

-- how many updates are accepted in an instance, if there is one
abbrev accepted_there : Option Instance → ℕ
accepted_there o = unwrap_or (option_map (λ s. length (updates s)) (option_map (λ (x : Instance). x.acceptor) o)) 0

module _ (r : ReplicaState) (i : ℕ) (x : Instance) (there : slice_get r.instances i ≡ Some x) (s : Step) where
  abbrev made : ReplicaState
  made = with_instance r i s.at s.view

  put_back : with_instance r i x r.view ≡ r
  put_back =
      ap (λ (xs : List Instance). record r { instances = xs })
      (subst (λ y. slice_set r.instances i y ≡ r.instances) (get_or_from_slice_get r.instances i x x there)
      (set-get_or r.instances i x))

  grew_there : has_grown r made i ≡ grew_at x s
  grew_there =
      ap₂ (λ o p. ltb (accepted_there o) (accepted_there p)) there (get_put r.instances i x s.at there)

  step_shows : Shows x r.view s → ShowsIn r i (after_step r i s)
  step_shows shows = (
    λ still.
        let kept = shows.0 (subst (λ g. is_still g s.said ≡ true) grew_there still) in
        ap₂ (λ y v. with_instance r i y v) kept.0 kept.1 ∙ put_back,
    λ other same.
        let put = get_put r.instances i x s.at there in
        let now : slice_get made.instances i ≡ Some x =
        ap (λ (q : ReplicaState). slice_get q.instances i) same ∙ there in
        shows.1 (subst (λ g. is_still g s.said ≡ false) grew_there other)
        (same_Some s.at x (sym put ∙ now), ap (λ (q : ReplicaState). q.view) same),
  )

receipt_shows : (r : ReplicaState) (m : Message) (made : Out × ReplicaState) → receives r m ≡ Some made
    → ShowsIn r m.instance made
receipt_shows r m made e = go (slice_get r.instances m.instance) refl e
  where
    step : Instance → Step
    step x = steps.receives (sender_of r m.instance) x r.view m

    go : (o : Option Instance) → slice_get r.instances m.instance ≡ o
        → option_map (λ x. after_step r m.instance (step x)) o ≡ Some made → ShowsIn r m.instance made
    go None there is = absurd (none-some made is)
    go (Some x) there is =
        subst (ShowsIn r m.instance) (same_Some (after_step r m.instance (step x)) made is)
        (step_shows r m.instance x there (step x) (body_shows x r.view (sender_of r m.instance) m m.body))

pub still_keeps : StillReceiptsChangeNothing
still_keeps r after m out made = (receipt_shows r m (out, after) made).0

pub other_changes : OtherReceiptsChangeIt
other_changes r after m out made = (receipt_shows r m (out, after) made).1

-- nothing is learnt by a message of which that is said
pub still_learns_nothing : (grew : Bool) (said : Said) → is_still grew said ≡ true → learnt_in said ≡ None
still_learns_nothing grew (Learnt learnt next) still = absurd (false≢true still)
still_learns_nothing grew (Opened b) still = refl
still_learns_nothing grew (Held id) still = refl
still_learns_nothing grew (Answered reply) still = refl
still_learns_nothing grew Counted still = refl
still_learns_nothing grew Ignored still = refl
still_learns_nothing grew (Refined b) still = refl
still_learns_nothing grew (Took s) still = refl
still_learns_nothing grew Kept still = refl
