-- How a worker ends, in plain variables.
use Rattle.std.proofs.Common.{◌≡◌, ◌⊎◌, inl, inr, ℕ, zero, suc, [], ◌∷◌, ◌<◌, ◌≤◌, List, length, map, Option, Some, None, refl, ap, sym, ◌∙◌, subst}
use Rattle.std.specs.Prelude.{IfSome, IfNone, IsSomeAnd, IsSome}
use Rattle.std.specs.List.{slice_get}
use Rattle.la_commit.specs.Instances.{first_instance, second_instance}
use Rattle.la_object.specs.declared.kind.Kind.{Kind}
use Rattle.la_object.specs.Shelves.{ShelfState}
use Rattle.la_set.specs.Histories.{Histories}
use Rattle.la_set.specs.ObjectOps.{ObjectOp}
use Rattle.la_proposer.specs.Inputs.{all_submitted}
use Rattle.la_proposer.specs.ProposerState.{ProposerState, submitted}
use Rattle.la_runner.specs.declared.jobs.Entry.{Entry}
use Rattle.la_runner.specs.declared.jobs.Job.{Job}
use Rattle.la_runner.specs.declared.jobs.Job.TheVariants.{Update, Decide, Ask}
use Rattle.la_runner.specs.declared.jobs.Stopped.{Stopped}
use Rattle.la_runner.specs.declared.jobs.Stopped.TheVariants as cause
use Rattle.la_runner.specs.Entries.{StopsAt, EndsJobs}
use Rattle.la_runner.specs.Instances.{InstanceState}
use Rattle.la_runner.specs.Invariant.{IsMember}
use Rattle.la_runner.specs.Members.{MemberState, MemberGoesOn, submitted_of, member_submitted, instance_learnt, member_learnt, member_view}
use Rattle.la_runner.specs.Notes.{doings}
use Rattle.la_runner.specs.Participants.{HasCommit, HasOther}
use Rattle.la_runner.specs.Runs.{IsWorked, HasWorked}
use Rattle.la_runner.specs.Stops.{StopFits}
use Rattle.la_runner.proofs.Keeping.{long_map, goes_on_then}
use Rattle.la_runner.proofs.UnderWay.{keeps_done}

-- what was submitted and learnt in an instance, by what the member has done
abbrev Doing : Type 0
Doing = ProposerState × Option Histories

abbrev submitted_by : Option Doing → List ObjectOp
submitted_by None = []
submitted_by (Some d) = all_submitted d.0

abbrev learnt_by : Option Doing → Option Histories
learnt_by None = None
learnt_by (Some d) = d.1

abbrev doing : InstanceState → Doing
doing x = (x.proposer, x.learnt)

submitted_by_is : (xs : List InstanceState) (i : ℕ)
    → submitted_of (slice_get xs i) ≡ submitted_by (slice_get (map doing xs) i)
submitted_by_is [] i = refl
submitted_by_is (x ∷ xs) zero = refl
submitted_by_is (x ∷ xs) (suc i) = submitted_by_is xs i

learnt_by_is : (xs : List InstanceState) (i : ℕ) → instance_learnt (slice_get xs i) ≡ learnt_by (slice_get (map doing xs) i)
learnt_by_is [] i = refl
learnt_by_is (x ∷ xs) zero = refl
learnt_by_is (x ∷ xs) (suc i) = learnt_by_is xs i

cap_by_is : (xs ys : List InstanceState) → map doing ys ≡ map doing xs
    → IsSomeAnd (slice_get xs 0) (λ x. x.proposer.cap ≤ submitted x.proposer)
    → IsSomeAnd (slice_get ys 0) (λ x. x.proposer.cap ≤ submitted x.proposer)
cap_by_is [] ys e h = absurd h
cap_by_is (x ∷ xs) [] e h = absurd (cc e)
cap_by_is (x ∷ xs) (y ∷ ys) e h =
    let same : x.proposer ≡ y.proposer =
    ap (λ (d : Doing). d.0) (first_is (doing x) (doing y) (map doing xs) (map doing ys) (sym e)) in
    subst (λ (p : ProposerState). p.cap ≤ submitted p) same h
  where
    first_is : (a b : Doing) (more others : List Doing) → a ∷ more ≡ b ∷ others → a ≡ b
    first_is a b more others e = cc

module _ (old new : MemberState) (same : doings new ≡ doings old) where
  submitted_same : (i : ℕ) → member_submitted new i ≡ member_submitted old i
  submitted_same i =
      submitted_by_is new.instances i ∙ ap (λ l. submitted_by (slice_get l i)) same
      ∙ sym (submitted_by_is old.instances i)

  learnt_same : (i : ℕ) → member_learnt new i ≡ member_learnt old i
  learnt_same i =
      learnt_by_is new.instances i ∙ ap (λ l. learnt_by (slice_get l i)) same ∙ sym (learnt_by_is old.instances i)

  long_same : length new.instances ≡ length old.instances
  long_same = sym (long_map doing new.instances) ∙ ap length same ∙ long_map doing old.instances

  commit_there : (k : ℕ) → HasCommit old k → HasCommit new k
  commit_there k h = subst (λ n. second_instance k < n) (sym long_same) h

  no_commit : (k : ℕ) → ¬ HasCommit old k → ¬ HasCommit new k
  no_commit k without h = without (subst (λ n. second_instance k < n) long_same h)

  other_there : (k value : ℕ) → HasOther old k value → HasOther new k value
  other_there k value (inl h) = inl (subst IsSome (sym (learnt_same (second_instance k))) h)
  other_there k value (inr h) = inr (h.0, submitted_same (first_instance k) ∙ h.1, h.2)

  -- a reason that fits still fits, where nothing was done since
  pub fits_still : (objects : List (ℕ × Kind)) (j : Job) (why : Stopped) → StopFits objects old j why
      → StopFits objects new j why
  fits_still objects (Update object op) cause.Full h = cap_by_is old.instances new.instances same h
  fits_still objects (Update object op) cause.NoSuchObject h = h
  fits_still objects (Update object op) cause.NoSuchCommit h = h
  fits_still objects (Update object op) cause.AlreadyProposed h = h
  fits_still objects (Update object op) (cause.Clash id) h = tt
  fits_still objects (Update object op) cause.BallotsSpent h = tt
  fits_still objects (Update object op) cause.NoMajority h = tt
  fits_still objects (Update object op) cause.TryAgain h = tt
  fits_still objects (Update object op) cause.Memory h = tt
  fits_still objects (Decide k value) cause.Full h = h
  fits_still objects (Decide k value) cause.NoSuchObject h = h
  fits_still objects (Decide k value) cause.NoSuchCommit h = no_commit k h
  fits_still objects (Decide k value) cause.AlreadyProposed h = (commit_there k h.0, other_there k value h.1)
  fits_still objects (Decide k value) (cause.Clash id) h = tt
  fits_still objects (Decide k value) cause.BallotsSpent h = tt
  fits_still objects (Decide k value) cause.NoMajority h = tt
  fits_still objects (Decide k value) cause.TryAgain h = tt
  fits_still objects (Decide k value) cause.Memory h = tt
  fits_still objects (Ask object query) why h = h

-- a worker that has done its jobs, sent its notes and taken those of its peers
pub worked : (first ended last : MemberState) (shelf between absorbed : ShelfState) (jobs : List Job)
    (entries : List Entry) (why stopped : Option Stopped) → HasWorked first shelf jobs entries ended between
    → (n : ℕ) → n ≡ length entries → EndsJobs why shelf.objects ended jobs n → MemberGoesOn ended last
    → doings last ≡ doings ended → IsMember last → (replica : ℕ) → replica ≡ last.replica
    → absorbed.objects ≡ between.objects → (stopped ≡ None → (why ≡ None) × (absorbed.view ≡ member_view last))
    → IfSome stopped (λ w. (w ≡ cause.Memory) ⊎ (why ≡ Some w))
    → IsWorked first shelf jobs replica last absorbed entries stopped
worked first ended last shelf between absorbed jobs entries why stopped so_far n n_is ends then same is replica named kept none some = record {
  is = is;
  named = named;
  goes = goes_on_then first ended last so_far.goes then;
  done = keeps_done first shelf.objects jobs entries ended last so_far.done then;
  objects = kept ∙ so_far.objects;
  all = λ e. sym n_is ∙ subst (λ (o : Option Stopped). IfNone o (n ≡ length jobs)) (none e).0 ends.all;
  shown = λ e. (none e).1;
  stop = reason stopped some;
}
  where
    reason : (s : Option Stopped) → IfSome s (λ w. (w ≡ cause.Memory) ⊎ (why ≡ Some w))
        → IfSome s (λ w. (w ≡ cause.Memory) ⊎ StopsAt shelf.objects last jobs (length entries) w)
    reason None h = h
    reason (Some w) (inl e) = inl e
    reason (Some w) (inr e) =
        let at = subst (λ (o : Option Stopped). IfSome o (StopsAt shelf.objects ended jobs n)) e ends.stop in
        inr (at.0, ap (slice_get jobs) (sym n_is) ∙ at.1, fits_still ended last same shelf.objects at.0 w at.2)
