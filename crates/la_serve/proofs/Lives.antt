-- Nodes that are killed at any moment.
use Rattle.std.proofs.Common.{◌≡◌, ◌⊎◌, inl, inr, ℕ, zero, suc, ◌+◌, ◌-◌, ◌≤◌, List, [], ◌∷◌, ◌++◌, Option, Some}
use Rattle.std.proofs.Common.{None, length, map, take, drop, option_map, refl, sym, ◌∙◌, ap, subst, arith}
use Rattle.std.proofs.Common.{append_assoc, take-append-drop}
use Rattle.std.proofs.Math.Seq.{take-append-add}
use Rattle.std.proofs.lemmas.List.{length-append, map-append, take_at}
use Rattle.std.proofs.lemmas.Grind.{flat_map-append}
use Rattle.la_object.specs.declared.kind.Kind.{Kind}
use Rattle.la_journal.specs.Giving.{GivenAt}
use Rattle.la_journal.specs.Lives.{Life, AreLives, LivesAreOneRun}
use Rattle.la_journal.specs.Machine.{steps, steps_from, LeadsToSome}
use Rattle.la_journal.specs.Served.{LeadsToAtLeast}
use Rattle.la_node.specs.Steps.{Given}
use Rattle.la_wire.specs.CallLines.{named_call}
use Rattle.la_durable.specs.CallLines.{CallLine}
use Rattle.la_durable.specs.Nodes.{acts_by, step}
use Rattle.la_durable.specs.Restarts.{leads_from}
use Rattle.la_serve.specs.Turns.{Turn, ServerState}
use Rattle.la_serve.specs.Serving.{AreTurns, kept_lines}
use Rattle.la_serve.specs.Crashes.{in_order, kept_count, KeepsGiven}
use Rattle.la_serve.specs.Lives.{GoesOn, KilledNodesGoOn, KilledBehind, IsNodeLife, AreNodeLives, NodeLivesAreOneRun}
use Rattle.la_serve.proofs.Crashing.{steps_join}
use Rattle.la_serve.proofs.Leading.{turns_lead}
use Rattle.la_replica.specs.ReplicaState.{ReplicaState}

-- ## Calls of the same lines lead to the same

abbrev pub texts : List CallLine → List (List ℕ)
texts calls = map (λ (c : CallLine). c.line) calls

abbrev pub by_line : ReplicaState → List ℕ → Option ReplicaState
by_line r line = option_map (λ (made : Given × ReplicaState). made.1) (acts_by r (named_call line))

by_lines : (calls : List CallLine) (state : Option ReplicaState)
    → steps_from step calls state ≡ steps_from by_line (texts calls) state
by_lines [] state = refl
by_lines (c ∷ calls) None = by_lines calls None
by_lines (c ∷ calls) (Some n) = by_lines calls (step n c)

take_texts : (k : ℕ) (calls : List CallLine) → texts (take k calls) ≡ take k (texts calls)
take_texts zero calls = refl
take_texts (suc k) [] = refl
take_texts (suc k) (c ∷ calls) = ap (λ (l : List (List ℕ)). c.line ∷ l) (take_texts k calls)

long_take : (k : ℕ) (calls : List CallLine) → k ≤ length calls → length (take k calls) ≡ k
long_take zero calls le = refl
long_take (suc k) [] le = absurd (omega (arith, le))
long_take (suc k) (c ∷ calls) le = let rest = long_take k calls (omega (arith, le)) in omega (arith, rest)

-- what leads behind the first some of these calls
module _ (leads : List ℕ → Option ReplicaState) (all : List CallLine) (n then : ReplicaState) (k : ℕ)
    (first : steps step (take k all) n ≡ Some then) (c : List ℕ) where
  pub behind_these : LeadsToAtLeast leads step k all n c → LeadsToSome leads step (drop k all) then c
  behind_these at =
      let many = at.0 - k in
      let long : length (take k all) ≡ k = long_take k all (omega (arith, at.1, at.2)) in
      let parts : length all ≡ k + length (drop k all) =
      omega (arith, ap length (take-append-drop k all), length-append (take k all) (drop k all), long) in
      let is : at.0 ≡ length (take k all) + many = omega (arith, long, at.1) in (
        many,
        omega (arith, at.2, parts),
        at.3
            ∙ ap (λ (l : List CallLine). steps step l n)
            (ap (take at.0) (sym (take-append-drop k all)) ∙ ap (λ (m : ℕ). take m (take k all ++ drop k all)) is
            ∙ take-append-add (take k all) (drop k all) many)
            ∙ steps_join (take k all) (take many (drop k all)) (Some n)
            ∙ ap (steps_from step (take many (drop k all))) first,
      )

-- ## Where a killed node goes on

module _ (now : ℕ) (left_since : ℕ → List ℕ → Type 0) (start : ReplicaState) (n : ServerState)
    (objects : List (ℕ × Kind)) (all : List CallLine) where
  pub goes : (groups : List (List Turn)) (given : List GivenAt) (more : List (List ℕ))
      → texts all ≡ kept_lines (in_order groups) ++ more
      → KeepsGiven now left_since (leads_from start) all n.kept groups given
      → GoesOn left_since start objects all n groups given
  goes [] given more is keeps = tt
  goes (group ∷ before) [] more is keeps = tt
  goes (group ∷ before) (g ∷ given) more is keeps = (
    λ then c are left.
        behind_these (leads_from start) all n.kept then.kept (kept_count (group ∷ before)) (reached then are) c
        (keeps.1 c left),
    goes before given (kept_lines group ++ more)
        (is
        ∙ ap (λ (l : List (List ℕ)). l ++ more) (flat_map-append (λ (t : Turn). t.kept) (in_order before) group)
        ∙ append_assoc (kept_lines (in_order before)) (kept_lines group) more)
        keeps.2,
  )
    where
      reached : (then : ServerState) → AreTurns objects n 1 (in_order (group ∷ before)) then
          → steps step (take (kept_count (group ∷ before)) all) n.kept ≡ Some then.kept
      reached then are =
          let k = kept_count (group ∷ before) in
          let led = turns_lead objects n 1 (in_order (group ∷ before)) then are in
          by_lines (take k all) (Some n.kept)
          ∙ ap (λ (l : List (List ℕ)). steps_from by_line l (Some n.kept))
          (take_texts k all ∙ ap (take k) is ∙ take_at (kept_lines (in_order (group ∷ before))) more k refl ∙ led.lines)
          ∙ sym (by_lines led.calls (Some n.kept)) ∙ led.led

module _ {D : Type 0} (seen : D → List ℕ) (may_leave : D → List ℕ → Type 0) (moment : D → ℕ)
    (left_since : D → ℕ → List ℕ → Type 0) where
  pub killed_go_on : KilledNodesGoOn seen may_leave moment left_since
  killed_go_on start n objects old new before after turns last left was =
      goes (moment new) (left_since new) start n objects (left.calls ++ left.later) left.groups left.given
      (kept_lines last) all_texts (left.keeps start was)
    where
      all_texts : texts (left.calls ++ left.later) ≡ kept_lines (in_order left.groups) ++ kept_lines last
      all_texts =
          map-append (λ (c : CallLine). c.line) left.calls left.later
          ∙ sym (λ i. left.lines i ++ left.last_lines i)
          ∙ ap (λ (ts : List Turn). kept_lines ts ++ kept_lines last) (sym left.are)

  -- ## Lives one after another

  by_killed : (now : ℕ) (since : ℕ → List ℕ → Type 0) (leads : List ℕ → Option ReplicaState) (all : List CallLine)
      (n : ReplicaState) (groups : List (List Turn)) (given : List GivenAt) (k : ℕ) (c : List ℕ)
      → KeepsGiven now since leads all n groups given → KilledBehind since groups given k c
      → LeadsToAtLeast leads step k all n c
  by_killed now since leads all n [] given k c keeps killed = absurd killed
  by_killed now since leads all n (group ∷ before) [] k c keeps killed = absurd killed
  by_killed now since leads all n (group ∷ before) (g ∷ given) k c keeps (inl here) =
      subst (λ j. LeadsToAtLeast leads step j all n c) (sym here.0) (keeps.1 c here.1)
  by_killed now since leads all n (group ∷ before) (g ∷ given) k c keeps (inr earlier) =
      by_killed now since leads all n before given k c keeps.2 earlier

  life_leads : (fresh first : ReplicaState) (life : Life CallLine) (c : List ℕ)
      → IsNodeLife seen may_leave moment left_since fresh first life c
      → LeadsToAtLeast (leads_from fresh) step life.answered life.calls first c
  life_leads fresh first life c is =
      subst (λ cs. LeadsToAtLeast (leads_from fresh) step life.answered cs first c) (sym is.calls) (by is.killed)
    where
      by : ((life.answered ≡ 0) × (leads_from fresh c ≡ leads_from fresh (seen is.disk)))
          ⊎ (((life.answered ≡ 0) × left_since is.final (moment is.run.recovered) c)
          ⊎ KilledBehind (left_since is.final) is.run.left.groups is.run.left.given life.answered c)
          → LeadsToAtLeast (leads_from fresh) step life.answered (is.run.left.calls ++ is.run.left.later) first c
      by (inl recovering) = (
        0,
        omega (arith, recovering.0),
        omega arith,
        recovering.1 ∙ is.plays,
      )
      by (inr (inl none)) =
          let some = (is.run.left.any_moment fresh is.run.leads).each c none.1 in
          (some.0, omega (arith, none.0), some.1, some.2)
      by (inr (inr behind)) =
          by_killed (moment is.final) (left_since is.final) (leads_from fresh) (is.run.left.calls ++ is.run.left.later)
          first is.run.left.groups
          is.run.left.given life.answered c (is.run.left.keeps fresh is.run.leads) behind

  as_lives : (fresh first : ReplicaState) (lives : List (Life CallLine)) (file : List ℕ)
      → AreNodeLives seen may_leave moment left_since fresh first lives file
      → AreLives (leads_from fresh) step first lives file
  as_lives fresh first [] file are = are
  as_lives fresh first (l ∷ lives) file are = (
    are.0,
    are.1,
    life_leads fresh first l are.0 are.2,
    are.3,
    as_lives fresh are.1 lives file are.4,
  )

  pub one_run : ((fresh : ReplicaState) → LivesAreOneRun (leads_from fresh) step)
      → NodeLivesAreOneRun seen may_leave moment left_since
  one_run joined fresh first lives file are =
      joined fresh first lives file (as_lives fresh first lives file are)
