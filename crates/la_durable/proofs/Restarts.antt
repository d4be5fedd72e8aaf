-- Lines that were taken, one after another, as calls of a node.
use Rattle.std.proofs.Common.{◌≡◌, List, [], ◌∷◌, take, drop, take-append-drop, Contains, Option, Some, None}
use Rattle.std.proofs.Common.{option_map, option_and_then, refl, sym, ap, subst, ◌∙◌, arith}
use Rattle.std.proofs.lemmas.Option.{none-some, same_Some}
use Rattle.std.proofs.lemmas.List.Elements.{Contains-append_left, Contains-append_right}
use Rattle.la_journal.specs.Machine.{steps, steps_from}
use Rattle.la_replica.specs.ReplicaState.{ReplicaState}
use Rattle.la_node.specs.Calls.{NodeCall}
use Rattle.la_node.specs.Steps.{Given, node_step, after_call}
use Rattle.la_node.proofs.lemmas.Stepping.{some_of, views_grow as steps_grow}
use Rattle.la_wire.specs.Calls.{WireCall}
use Rattle.la_wire.specs.CallLines.{named_call}
use Rattle.la_durable.specs.CallLines.{CallLine}
use Rattle.la_durable.specs.Nodes.{node_call, acts, acts_by, step, LinesGrowViews}
use Rattle.la_durable.specs.Restarts.{LeadBetween, RestartsTakeCalls}

-- ## One step

-- what a step of the machine was
pub record IsTaken (r : ReplicaState) (c : CallLine) (next : ReplicaState) : Type 0 where
  pub call : WireCall
  pub names : named_call c.line ≡ Some call
  pub action : NodeCall
  pub is : node_call r call ≡ Some action
  pub leads : after_call r action ≡ Some next

by_call : (r : ReplicaState) (o : Option WireCall) (made : Given × ReplicaState) → acts_by r o ≡ Some made
    → (call : WireCall) × (o ≡ Some call) × (acts r call ≡ Some made)
by_call r None made e = absurd (none-some made e)
by_call r (Some call) made e = (call, refl, e)

some_then : {A B : Type 0} (f : A → Option B) (o : Option A) (y : B) → option_and_then f o ≡ Some y
    → (x : A) × (o ≡ Some x) × (f x ≡ Some y)
some_then f None y e = absurd (none-some y e)
some_then f (Some x) y e = (x, refl, e)

pub taken : (r : ReplicaState) (c : CallLine) (next : ReplicaState) → step r c ≡ Some next → IsTaken r c next
unfolding acts
taken r c next e =
    let first = some_of (λ (made : Given × ReplicaState). made.1) (acts_by r (named_call c.line)) next e in
    let call = by_call r (named_call c.line) first.0 first.1 in
    let second = some_then (node_step r) (node_call r call.0) first.0 call.2 in
    record {
      call = call.0;
      names = call.1;
      action = second.0;
      is = second.1;
      leads = ap (option_map (λ (made : Given × ReplicaState). made.1)) second.2 ∙ ap Some first.2;
    }

pub views_grow : LinesGrowViews
views_grow before after c e =
    let is = taken before c after e in steps_grow before after is.action is.leads

-- ## Many

nowhere : (lines : List CallLine) (next : ReplicaState) → steps_from step lines None ≡ Some next → ⊥
nowhere [] next e = none-some next e
nowhere (c ∷ lines) next e = nowhere lines next e

within : (some all : List CallLine) → ((c : CallLine) → Contains some c → Contains all c) → (calls : List NodeCall)
    → (r after : ReplicaState) → LeadBetween some calls r after → LeadBetween all calls r after
within some all more [] r after is = is
within some all more (call ∷ calls) r after is = (
  record {
    line = is.0.line;
    among = more is.0.line is.0.among;
    says = is.0.says;
    named = is.0.named;
    is = is.0.is;
  },
  (is.1.0, is.1.1, within some all more calls is.1.0 after is.1.2),
)

-- what lines lead to, by calls
abbrev LeadByCalls : List CallLine → (r after : ReplicaState) → Type 0
LeadByCalls lines r after = (calls : List NodeCall) × LeadBetween lines calls r after

one_more : (r : ReplicaState) (c : CallLine) (lines : List CallLine) (next after : ReplicaState) → IsTaken r c next
    → LeadByCalls lines next after → LeadByCalls (c ∷ lines) r after
one_more r c lines next after is more = (
  is.action ∷ more.0,
  (
    record { line = c; among = (0, omega arith, refl); says = is.call; named = is.names; is = is.is },
    (next, is.leads, within lines (c ∷ lines) (Contains-append_right (c ∷ []) lines) more.0 next after more.1),
  ),
)

first_then : (c : CallLine) (lines : List CallLine)
    → ((r after : ReplicaState) → steps step lines r ≡ Some after → LeadByCalls lines r after)
    → (r after : ReplicaState) (o : Option ReplicaState) → step r c ≡ o → steps_from step lines o ≡ Some after
    → LeadByCalls (c ∷ lines) r after
first_then c lines more r after None came rest = absurd (nowhere lines after rest)
first_then c lines more r after (Some next) came rest =
    one_more r c lines next after (taken r c next came) (more next after rest)

by_lines : (lines : List CallLine) (r after : ReplicaState) → steps step lines r ≡ Some after
    → LeadByCalls lines r after
by_lines [] r after e = ([], same_Some r after e)
by_lines (c ∷ lines) r after e = first_then c lines (by_lines lines) r after (step r c) refl e

pub restarts : RestartsTakeCalls
restarts start r after handed file leads to =
    let first = by_lines (take leads.0 handed) r after (sym leads.2 ∙ to) in (
      first.0,
      within (take leads.0 handed) handed
          (λ c has. subst (λ ls. Contains ls c) (take-append-drop leads.0 handed)
          (Contains-append_left (take leads.0 handed) (drop leads.0 handed) c has))
          first.0 r after first.1,
    )
