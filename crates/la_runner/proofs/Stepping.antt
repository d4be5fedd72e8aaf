-- Steps of a member in one instance: one after another, and what each leaves.
use Rattle.std.proofs.Common.{◌≡◌, inl, inr, ℕ, ◌≤◌, true, List, [], ◌∷◌, ◌++◌, length, Option, Some, None, ap, sym, ◌∙◌, subst, arith}
use Rattle.std.specs.Prelude.{Result, Ok, Err, IfSome, IfOk, IfErr}
use mathlib.Core.List.{IsPrefix}
use Rattle.la_set.specs.ObjectOps.{ObjectOp}
use Rattle.la_set.specs.Histories.{Histories, history, count}
use Rattle.la_set.specs.Inclusion.{IsSubset}
use Rattle.la_set.proofs.lemmas.Theorems.{subset-refl, subset-trans}
use Rattle.la_acceptor.specs.declared.reply.Reply.TheVariants.{Yes}
use Rattle.la_proposer.specs.ProposerState.{ProposerState, submitted, after_submission}
use Rattle.la_proposer.specs.Inputs.{all_submitted}
use Rattle.la_proposer.specs.Invariant.{IsProposerState}
use Rattle.la_proposer.proofs.lemmas.Theorems.{majorities_meet}
use Rattle.la_shared.specs.Passes.{Known}
use Rattle.la_shared.proofs.lemmas.Theorems.{prefix_self}
use Rattle.la_runner.specs.Certificates.{mine_at, HasCertificate, HasOwnCertificate}
use Rattle.la_runner.specs.Sound.{IsSound, IsView}
use Rattle.la_runner.specs.Heard.{Answered, Hears, HearsMost}
use Rattle.la_runner.specs.Following.{FollowsProposer, Goes, SubmitsNothing, IsLearnt}
use Rattle.la_runner.specs.Instances.{InstanceState, IsLearntSet, IsInstance, InstanceSteps, IsComplete, IsUpdated}
use Rattle.la_runner.specs.InstanceCalls.{LearnsIn, LearnsUpdate}
use Rattle.la_runner.specs.Rounds.{IsLarger}
use Rattle.la_runner.specs.Refusals.{IsRoundOfferRefusal, IsRoundsRefusal, MayMiss, IsInstanceRefusal, IsUpdateRefusal}
use Rattle.la_runner.specs.declared.error.RunnerError.{RunnerError}
use Rattle.la_runner.specs.declared.error.RunnerError.TheVariants as errors
use Rattle.la_runner.specs.declared.learned.Learned.{Learned}
use Rattle.la_runner.proofs.Certified.{own_certificate_stays}
use Rattle.la_runner.proofs.Passing.{prefix_trans, on_refl}
use Rattle.la_runner.proofs.Remembering.{still_counts}
use Rattle.la_runner.proofs.Going.{follows_trans}
use Rattle.la_runner.proofs.Viewing.{larger_view, view_on, becomes_larger, empty_within}
use Rattle.la_runner.proofs.Hearing.{submission_sound, submission_follows, submission_adds, submission_asks}
use Rattle.la_runner.proofs.Updating.{whole, submitted_is, contains_met}

pub if_some_on : {A : Type 0} (P Q : A → Type 0) (o : Option A) → ((x : A) → P x → Q x) → IfSome o P → IfSome o Q
if_some_on P Q None f h = tt
if_some_on P Q (Some x) f h = f x h

-- a learnt set stays one
pub learnt_on : (p q : ProposerState) (ps qs : List Known) (s : Histories) → q.votes ≡ p.votes → q.own ≡ p.own
    → IsPrefix (all_submitted p) (all_submitted q) → ((a : ℕ) → IsPrefix (mine_at ps a) (mine_at qs a))
    → IsLearntSet p ps s → IsLearntSet q qs s
learnt_on p q ps qs s votes own more go l = record {
  own = subst (λ vs. HasOwnCertificate vs qs s) (sym votes) (own_certificate_stays p.votes ps qs s go l.own);
  taken =
      subst (λ o. IsPrefix (history s o) (all_submitted q)) (sym own)
      (prefix_trans (history s p.own) (all_submitted p) (all_submitted q) l.taken more);
  some = subst (λ o. 1 ≤ count s o) (sym own) l.some;
}

prefix_is : {A : Type 0} (xs ys : List A) → ys ≡ xs → IsPrefix xs ys
prefix_is xs ys e = subst (IsPrefix xs) (sym e) (prefix_self xs)

learnt_goes : (p : ProposerState) (ps : List Known) (q : ProposerState) (qs : List Known) (o : Option Histories)
    → Goes p ps q qs → IfSome o (IsLearntSet p ps) → IfSome o (IsLearntSet q qs)
learnt_goes p ps q qs o g h =
    if_some_on (IsLearntSet p ps) (IsLearntSet q qs) o
    (λ s.
    learnt_on p q ps qs s g.follows.votes g.follows.own (prefix_is (all_submitted p) (all_submitted q) g.nothing)
    g.follows.passes.mine) h

learnt_now : (p : ProposerState) (ps : List Known) (q : ProposerState) (qs : List Known) (n : ℕ) (s : Histories)
    → Goes p ps q qs → IsLearnt p ps qs n s → IsLearntSet q qs s
learnt_now p ps q qs n s g l = record {
  own = subst (λ vs. HasOwnCertificate vs qs s) (sym g.follows.votes) l.own;
  taken =
      subst (λ o. IsPrefix (history s o) (all_submitted q)) (sym g.follows.own)
      (subst (IsPrefix (history s p.own)) (sym g.nothing) l.taken);
  some = subst (λ o. 1 ≤ count s o) (sym g.follows.own) l.some;
}

pub steps_trans : (x y z : InstanceState) → InstanceSteps x y → InstanceSteps y z → InstanceSteps x z
steps_trans x y z f g = record {
  is = g.is;
  follows = follows_trans x.proposer y.proposer z.proposer x.passes y.passes z.passes f.follows g.follows;
  submitted =
      prefix_trans (all_submitted x.proposer) (all_submitted y.proposer) (all_submitted z.proposer) f.submitted
      g.submitted;
  grows = subset-trans x.view y.view z.view f.grows g.grows;
}

pub goes_of_steps : (x y : InstanceState) → InstanceSteps x y → SubmitsNothing x.proposer y.proposer
    → Goes x.proposer x.passes y.proposer y.passes
goes_of_steps x y s n = record { sound = s.is.sound; follows = s.follows; nothing = n }

some_none : {A : Type 0} {a : A} → Some a ≡ None → ⊥
some_none e = cc

-- nothing was learnt
pub steps_on : (x y : InstanceState) → IsInstance x → Goes x.proposer x.passes y.proposer y.passes
    → (x.proposer.is_asking ≡ true → y.proposer.is_asking ≡ true) → y.learnt ≡ x.learnt → y.view ≡ x.view → InstanceSteps x y
steps_on x y is g asks same view = record {
  is = record {
    sound = g.sound;
    view =
        subst (IsView y.proposer.votes y.passes) (sym view)
        (view_on x.proposer x.passes y.proposer y.passes x.view g is.view);
    learnt =
        subst (λ o. IfSome o (IsLearntSet y.proposer y.passes)) (sym same)
        (learnt_goes x.proposer x.passes y.proposer y.passes x.learnt g is.learnt);
    cap = subst (λ c. 1 ≤ c) (sym g.follows.cap) is.cap;
    under_way = λ none some. asks (is.under_way (sym same ∙ none) (subst (λ l. 1 ≤ length l) g.nothing some));
  };
  follows = g.follows;
  submitted = prefix_is (all_submitted x.proposer) (all_submitted y.proposer) g.nothing;
  grows = subst (IsSubset x.view) (sym view) (subset-refl x.view);
}

-- a set was
pub steps_learnt : (x y : InstanceState) (n : ℕ) (s : Histories) → IsInstance x
    → Goes x.proposer x.passes y.proposer y.passes → IsLearnt x.proposer x.passes y.passes n s → y.learnt ≡ Some s
    → IsLarger s x.view y.view → InstanceSteps x y
steps_learnt x y n s is g l now larger = record {
  is = record {
    sound = g.sound;
    view = larger_view x.proposer x.passes y.proposer y.passes n x.view s g l y.view is.view larger.one;
    learnt =
        subst (λ o. IfSome o (IsLearntSet y.proposer y.passes)) (sym now)
        (learnt_now x.proposer x.passes y.proposer y.passes n s g l);
    cap = subst (λ c. 1 ≤ c) (sym g.follows.cap) is.cap;
    under_way = λ none some. absurd (some_none (sym now ∙ none));
  };
  follows = g.follows;
  submitted = prefix_is (all_submitted x.proposer) (all_submitted y.proposer) g.nothing;
  grows = larger.grows;
}

-- ## A learnt set with all that was submitted

pub enough_of : (p : ProposerState) (s : Histories) (own mine : ℕ) → own ≡ p.own → mine ≡ submitted p
    → mine ≤ count s own → submitted p ≤ count s p.own
enough_of p s own mine own_is mine_is h = subst (λ (z : ℕ × ℕ). z.0 ≤ count s z.1) (λ i. (mine_is i, own_is i)) h

module _ (x y : InstanceState) (n : ℕ) (s : Histories) (is : IsInstance x)
    (nothing : SubmitsNothing x.proposer y.proposer) (l : IsLearnt x.proposer x.passes y.passes n s) where
  contains_own : (t : Histories) → HasOwnCertificate x.proposer.votes x.passes t → IsSubset t s
  contains_own t c = let there = majorities_meet x.proposer.votes c.0 c.0 c.1 c.1 in
      subset-trans t x.proposer.updates s (is.sound.within there.0 t Yes (c.2 there.0 there.3)) l.grown

  pub complete : submitted x.proposer ≤ count s x.proposer.own → IsComplete x y s
  complete enough = record {
    own = l.own;
    holds =
        whole (history s x.proposer.own) (all_submitted x.proposer) l.taken
        (let b = submitted_is x.proposer in omega arith) ∙ sym nothing;
    contains_own = contains_own;
  }

-- ## A submission, and then rounds

module _ (x : InstanceState) (q : ProposerState) (d : ObjectOp) (is : IsInstance x)
    (after : q ≡ after_submission x.proposer d) (state : IsProposerState q) where
  submitted_follows : FollowsProposer x.proposer q x.passes x.passes
  submitted_follows =
      subst (λ z. FollowsProposer x.proposer z x.passes x.passes) (sym after) (submission_follows x.proposer x.passes d is.sound)

  pub submitted_adds : all_submitted q ≡ all_submitted x.proposer ++ d ∷ []
  submitted_adds = ap all_submitted after ∙ submission_adds x.proposer x.passes d is.sound

  submitted_sound : IsSound q x.passes
  submitted_sound =
      subst (λ z. IsSound z x.passes) (sym after)
      (submission_sound x.proposer x.passes d is.sound (subst IsProposerState after state))

  -- a ballot is open
  pub submitted_asks : q.is_asking ≡ true
  submitted_asks = ap (λ (p : ProposerState). p.is_asking) after ∙ submission_asks x.proposer d

  -- with the update submitted
  abbrev pub submitted_instance : InstanceState
  submitted_instance = record x { proposer = q }

  pub submitted_is_instance : IsInstance submitted_instance
  submitted_is_instance = record {
    sound = submitted_sound;
    view = subst (λ vs. IsView vs x.passes x.view) (sym submitted_follows.votes) is.view;
    learnt =
        if_some_on (IsLearntSet x.proposer x.passes) (IsLearntSet q x.passes) x.learnt
        (λ s.
        learnt_on x.proposer q x.passes x.passes s submitted_follows.votes submitted_follows.own
        (d ∷ [], sym submitted_adds) (on_refl x.passes).mine) is.learnt;
    cap = subst (λ c. 1 ≤ c) (sym submitted_follows.cap) is.cap;
    under_way = λ none some. submitted_asks;
  }

  pub submitted_steps : InstanceSteps x submitted_instance
  submitted_steps = record { is = submitted_is_instance; follows = submitted_follows; submitted = (d ∷ [], sym submitted_adds); grows = subset-refl x.view }

  module _ (y : InstanceState) (n : ℕ) (s : Histories) (steps : InstanceSteps submitted_instance y)
      (nothing : SubmitsNothing q y.proposer) (l : IsLearnt q x.passes y.passes n s)
      (c : IsComplete submitted_instance y s) where
    enough : submitted q ≤ count s x.proposer.own
    enough =
        let e = ap length (subst (λ o. history s o ≡ all_submitted q) submitted_follows.own (c.holds ∙ nothing)) in
        let b = submitted_is q in omega arith

    contains : (t : Histories) → HasCertificate x.proposer.votes x.passes t → IsSubset t s
    contains =
        contains_met x.proposer q y.proposer x.passes y.passes d n s submitted_follows submitted_adds
        (goes_of_steps submitted_instance y steps nothing) l enough

    pub updated : IsUpdated x y s
    updated = record {
      complete = record {
        own = subst (λ vs. HasOwnCertificate vs y.passes s) submitted_follows.votes c.own;
        holds = subst (λ o. history s o ≡ all_submitted y.proposer) submitted_follows.own c.holds;
        contains_own =
            λ t h. c.contains_own t (subst (λ vs. HasOwnCertificate vs x.passes t) (sym submitted_follows.votes) h);
      };
      contains = contains;
    }

    pub updated_view : IsLarger s x.view y.view → y.view ≡ s
    updated_view larger = becomes_larger x.view y.view s larger (view_within is.view)
      where
        view_within : IsView x.proposer.votes x.passes x.view → IsSubset x.view s
        view_within (inl e) = subst (λ z. IsSubset z s) (sym e) (empty_within s)
        view_within (inr c) = contains x.view c

  module _ (y : InstanceState) (rounds : ℕ) (result : Result (Learned × ℕ) RunnerError)
      (steps : InstanceSteps submitted_instance y) (nothing : SubmitsNothing q y.proposer) where
    pub learns_update : IfOk result (LearnsIn rounds submitted_instance y) → IfOk result (LearnsUpdate rounds x y)
    learns_update learns = go result learns
      where
        go : (r : Result (Learned × ℕ) RunnerError) → IfOk r (LearnsIn rounds submitted_instance y)
            → IfOk r (LearnsUpdate rounds x y)
        go (Ok end) l = record {
          updated = updated y end.0.ballot end.0.updates steps nothing l.learnt l.now.complete;
          view = updated_view y end.0.ballot end.0.updates steps nothing l.learnt l.now.complete l.now.larger;
          last = l.now.last;
          left = l.left;
        }
        go (Err e) l = tt

    pub refused_of : IfErr result (IsInstanceRefusal rounds submitted_instance y)
        → IfErr result (IsUpdateRefusal rounds d x y)
    refused_of refused = go result refused
      where
        go : (r : Result (Learned × ℕ) RunnerError) → IfErr r (IsInstanceRefusal rounds submitted_instance y)
            → IfErr r (IsUpdateRefusal rounds d x y)
        go (Ok end) h = tt
        go (Err e) h =
            inr (
              nothing
                  ∙ submitted_adds,
              subst (λ (p : ProposerState). IsInstanceRefusal rounds (record x { proposer = p }) y e)
                  after h,
            )

-- ## Rounds that are refused

-- a refused offer, in some round
pub in_rounds : (rounds first last : ℕ) (e : RunnerError) → 1 ≤ rounds → IsRoundOfferRefusal e
    → IsRoundsRefusal rounds first last e
in_rounds rounds first last (errors.Clash id) some h = some
in_rounds rounds first last errors.BallotsSpent some h = some
in_rounds rounds first last errors.Memory some h = some
in_rounds rounds first last errors.BadConfig some h = absurd h
in_rounds rounds first last errors.NoSuchCommit some h = absurd h
in_rounds rounds first last errors.AlreadyProposed some h = absurd h
in_rounds rounds first last errors.Full some h = absurd h
in_rounds rounds first last errors.NoMajority some h = absurd h
in_rounds rounds first last errors.TryAgain some h = absurd h

-- all that was recorded was heard
pub unended : (x y : InstanceState) (rounds : ℕ) (e : RunnerError) → InstanceSteps x y
    → Hears x.proposer y.proposer x.passes y.passes [] → MayMiss e [] → y.proposer.is_asking ≡ true
    → IsRoundsRefusal rounds x.proposer.number y.proposer.number e → IsInstanceRefusal rounds x y e
unended x y rounds e steps hears few asks refusal = record {
  refusal = refusal;
  asks = asks;
  kept = record { missed = []; few = few; hears = hears; counts = still_counts x.proposer y.proposer x.passes y.passes [] hears steps.follows.same asks };
}

may_miss : (e : RunnerError) (missed : List Answered) → IsRoundOfferRefusal e → length missed ≤ 1 → MayMiss e missed
may_miss (errors.Clash id) missed h few = few
may_miss errors.BallotsSpent missed h few = few
may_miss errors.Memory missed h few = few
may_miss errors.BadConfig missed h few = absurd h
may_miss errors.NoSuchCommit missed h few = absurd h
may_miss errors.AlreadyProposed missed h few = absurd h
may_miss errors.Full missed h few = absurd h
may_miss errors.NoMajority missed h few = absurd h
may_miss errors.TryAgain missed h few = absurd h

-- an offer was refused, or its reply
pub cut_off : (x y : InstanceState) (rounds : ℕ) (e : RunnerError) → 1 ≤ rounds → IsRoundOfferRefusal e → InstanceSteps x y
    → HearsMost x.proposer y.proposer x.passes y.passes → y.proposer.is_asking ≡ true → IsInstanceRefusal rounds x y e
cut_off x y rounds e some refusal steps hears asks = record {
  refusal = in_rounds rounds x.proposer.number y.proposer.number e some refusal;
  asks = asks;
  kept = record { missed = hears.0; few = may_miss e hears.0 refusal hears.1; hears = hears.2; counts = still_counts x.proposer y.proposer x.passes y.passes hears.0 hears.2 steps.follows.same asks };
}
