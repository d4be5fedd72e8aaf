-- Every ballot holds an update of its replica's own: it opens with one, and what joins refusals contains
-- the ballot before it. So what is learnt in an instance of an object holds its learner's own vote.
use Rattle.std.proofs.Common.{◌≡◌, ℕ, ◌<◌, ◌≤◌, inl, inr, List, [], ◌∷◌, length, Contains, Option, Some, None, option_map, refl, sym, ◌∙◌, ap, subst, subst₂, arith}
use Rattle.std.proofs.lemmas.Bool.{cases_lt}
use Rattle.std.specs.List.{cons_option}
use Rattle.la_set.specs.ObjectOps.{ObjectOp, update_of}
use Rattle.la_set.specs.Histories.{Histories, history, count, get}
use Rattle.la_set.specs.Inclusion.{IsSubset}
use Rattle.la_set.proofs.lemmas.Inclusions.{subset-count}
use Rattle.la_set.proofs.lemmas.Prefixes.{IsPrefix}
use Rattle.la_world.specs.declared.step.Opening.{Opening}
use Rattle.la_world.specs.declared.step.Learnt.{Learnt}
use Rattle.la_world.specs.Groups.{Group}
use Rattle.la_world.specs.Events.{Event}
use Rattle.la_world.specs.Trace.{Entry, Trace}
use Rattle.la_world.specs.Ballots.{opened_by, only, ballots, round}
use Rattle.la_world.specs.Submissions.{submitted_ops, updates_alone}
use Rattle.la_world.specs.Playing.{trace}
use Rattle.la_world.specs.Learnings.{learnt}
use Rattle.la_world.proofs.Lists.{IsIn, AllIn, AllIn_at, contains_IsIn}
use Rattle.la_world.proofs.Openings.{only_is}
use Rattle.la_world.proofs.EventCases.{Opens, Source, gathers, joins, Step, step_opens}
use Rattle.la_world.proofs.Quorum.{counts_is, open_in, learnt_ballot}
use Rattle.la_world.proofs.OwnHistories.{own_all, IsPrefix-trans}
use Rattle.la_world.proofs.SubmittedBound.{alone_within, submitted_prefix}
use Rattle.la_world.proofs.Chains.{learning_justified}
use Rattle.la_world.proofs.Traces.{Holds, always, own}
use Rattle.la_node.proofs.lemmas.Items.{exists}

abbrev HoldOwn : Trace → Type 0
HoldOwn t = (i r : ℕ) → AllIn (λ (b : Opening). 1 ≤ count b.updates r) (ballots t i r)

-- where something new is taken, there is something of the replica's own
some_new : (s : Histories) (r : ℕ) (ds : List ObjectOp) → ¬ IsSubset (updates_alone r ds) s → (r < 8) × (1 ≤ length ds)
some_new s r ds new = elim (cases_lt r 8) [
  | inl lt ↦ (lt, go ds refl)
  | inr le ↦ absurd (new (alone_within r ds s (λ lt. absurd (omega (arith, lt, le)))))
] where
  go : (zs : List ObjectOp) → ds ≡ zs → 1 ≤ length zs
  go [] e =
      absurd (new (subst (λ zs. IsSubset (updates_alone r zs) s) (sym e) (alone_within r [] s (λ lt. record { front = refl }))))
  go (z ∷ zs) e = omega arith

module _ (g : Group) (t : Trace) (x : Entry) (h : Holds g t) (step_is : Step g t x) where
  opens_own : HoldOwn t → (b : Opening) → Opens t x b → 1 ≤ count b.updates b.replica
  opens_own before b o = go o.source
    where
      i : ℕ
      i = b.instance

      r : ℕ
      r = b.replica

      all : List ObjectOp
      all = submitted_ops (x ∷ t) i r

      begins : IsPrefix (history (round t i r).updates r) all
      begins =
          IsPrefix-trans (history (round t i r).updates r) (submitted_ops t i r) all (own g t h i r)
          (submitted_prefix x t i r)

      go : Source t x b → 1 ≤ count b.updates r
      go (gathers plain made new) =
          let some = some_new (round t i r).updates r all new in
          let has : history b.updates r ≡ all =
          ap (λ s. history s r) made ∙ own_all (round t i r).updates r all some.0 begins in
          omega (arith, some.1, ap length has)
      go (joins refined m a p body c ei er made refusal) =
          let last =
          subst₂ (λ j q. IsIn (round t j q) (ballots t j q)) (sym ei) (sym er)
          (open_in t m.instance m.to (counts_is t m c).0) in
          let had : 1 ≤ count (round t i r).updates r =
          AllIn_at (λ (z : Opening). 1 ≤ count z.updates r) (ballots t i r) (round t i r) (before i r) last in
          let more = subset-count (round t i r).updates b.updates o.follows.contains r in
          omega (arith, had, more)

  own_more : HoldOwn t → HoldOwn (x ∷ t)
  unfolding ballots
  own_more before i r = go (only i r (opened_by x.did)) refl
    where
      go : (v : Option Opening) → only i r (opened_by x.did) ≡ v
          → AllIn (λ (b : Opening). 1 ≤ count b.updates r) (cons_option v (ballots t i r))
      go None e = before i r
      go (Some b) e =
          let p = only_is i r (opened_by x.did) b e in
          (subst (λ q. 1 ≤ count b.updates q) p.2 (opens_own before b (step_opens g t x step_is b p.0)), before i r)

own_start : HoldOwn []
unfolding ballots
own_start i r = tt

pub own_held : (g : Group) (events : List Event) (i r : ℕ) (b : Opening) → IsIn b (ballots (trace g events) i r)
    → 1 ≤ count b.updates r
own_held g events i r b is_in =
    AllIn_at (λ (z : Opening). 1 ≤ count z.updates r) (ballots (trace g events) i r) b
    (always g HoldOwn own_start (λ t x step h p. own_more g t x h step p) events i r) is_in

-- a learnt set has its learner's first update
pub record HasFirst (s : Histories) (r : ℕ) : Type 0 where
  pub object_op : ObjectOp
  pub is : get s (record { replica = r; number = 1 }) ≡ Some (update_of r 1 object_op)

pub has_first : (s : Histories) (r : ℕ) → 1 ≤ count s r → HasFirst s r
has_first s r some =
    let d = exists (history s r) 0 (omega (arith, some)) in
    record { object_op = d.0; is = ap (option_map (update_of r 1)) d.1 }

pub learnt_first : (g : Group) (events : List Event) (x : Learnt) → Contains (learnt (trace g events)) x
    → HasFirst x.updates x.replica
learnt_first g events x was =
    has_first x.updates x.replica
    (own_held g events x.instance x.replica (learnt_ballot x)
    (learning_justified g events x (contains_IsIn (learnt (trace g events)) x was)).opened)
