-- An input's line, as the machine takes it.
use Rattle.std.proofs.Common.{◌≡◌, ◌⊎◌, ℕ, Bool, true, false, ◌&&◌, List, Option, Some, None, option_map, Result, Ok}
use Rattle.std.proofs.Common.{Err, IfOk, IfErr, OnOk, IfSome, refl, sym, ap, ◌∙◌, inl, inr}
use Rattle.std.specs.Option.{is_some}
use Rattle.std.proofs.lemmas.Bool.{false≢true}
use Rattle.la_journal.specs.Machine.{IsNamed}
use Rattle.la_wire.specs.Calls.{WireCall}
use Rattle.la_wire.specs.CallLines.{named_call, may_stand}
use Rattle.la_durable.specs.declared.machine.NodeAnswer.{NodeAnswer}
use Rattle.la_durable.specs.declared.error.NodeError.{NodeError}
use Rattle.la_durable.specs.CallLines.{CallLine, is_line, call_line, call_line_where, or_tick, call_round_trip}
use Rattle.la_durable.specs.Errors.{IsForMemory}
use Rattle.la_node.specs.Steps.{Given, given_of}
use Rattle.la_replica.specs.ReplicaState.{ReplicaState}
use Rattle.la_durable.specs.Inputs.{InputState}
use Rattle.la_durable.proofs.lemmas.OwnLines.{own_line}
use Rattle.la_durable.specs.Nodes.{acts, acts_by, step, leaves_be, node_answer_of, answer_to, node_answer_by}
use Rattle.la_durable.specs.Nodes.{node_answers}

module _ (n : ReplicaState) (line : List ℕ) (call : WireCall) (is : is_line line ≡ true) (says : named_call line ≡
    Some call) where
  names : named_call (or_tick (call_line line)).line ≡ Some call
  names = ap named_call (own_line line is) ∙ says

  comes_to : acts_by n (named_call (or_tick (call_line line)).line) ≡ acts n call
  comes_to = ap (acts_by n) names

  pub step_taken : (r : Result NodeAnswer NodeError) (after : ReplicaState)
      → IfOk r (λ a. acts n call ≡ Some (given_of a.received, after))
      → OnOk r (step n (or_tick (call_line line)) ≡ Some after)
  step_taken (Ok a) after h = ap (option_map (λ (made : Given × ReplicaState). made.1)) (comes_to ∙ h)
  step_taken (Err e) after h = tt

  pub answer_given : (r : Result NodeAnswer NodeError) (after : ReplicaState)
      → IfOk r (λ a. acts n call ≡ Some (given_of a.received, after))
      → IfOk r (λ a. a.still ≡ leaves_be n after call (given_of a.received))
      → IfOk r (λ a. Some (node_answer_of a) ≡ node_answers n (or_tick (call_line line)))
  answer_given (Ok a) after h is =
      sym (ap (node_answer_by n) names ∙ ap (option_map (answer_to n call)) h
      ∙ ap (λ b. Some (record { given = given_of a.received; still = b })) (sym is))
  answer_given (Err e) after h is = tt

  nothing_taken : (e : NodeError) → IsForMemory e ⊎ (acts n call ≡ None)
      → IsForMemory e ⊎ (step n (or_tick (call_line line)) ≡ None)
  nothing_taken e (inl memory) = inl memory
  nothing_taken e (inr none) = inr (ap (option_map (λ (made : Given × ReplicaState). made.1)) (comes_to ∙ none))

  pub step_refused : (r : Result NodeAnswer NodeError) → IfErr r (λ e. IsForMemory e ⊎ (acts n call ≡ None))
      → IfErr r (λ e. IsForMemory e ⊎ (step n (or_tick (call_line line)) ≡ None))
  step_refused (Ok a) h = tt
  step_refused (Err e) h = nothing_taken e h

-- ## Reading

none_where : (line : List ℕ) (b : Bool) (is : is_line line ≡ b) → b ≡ false → call_line_where line b is ≡ None
none_where line true is e = absurd (false≢true (sym e))
none_where line false is e = refl

no_line : (line : List ℕ) → may_stand line ≡ false → call_line line ≡ None
no_line line e = none_where line (is_line line) refl (ap (λ b. b && is_some (named_call line)) e)

pub is_named : {E : Type 0} (line : List ℕ) (r : Result (Option InputState) E)
    → IfOk r (λ o. IfSome o (λ input. (input.line ≡ line) × (is_line line ≡ true)))
    → IfOk r (λ o. o ≡ None → may_stand line ≡ false)
    → IfOk r (λ read. IsNamed (λ (i : InputState). or_tick (call_line i.line)) (call_line line) read)
is_named line (Ok (Some input)) some none =
    let c : CallLine = record { line = line; says = some.1 } in
    call_round_trip c ∙ ap Some (sym (ap or_tick (ap call_line some.0 ∙ call_round_trip c)))
is_named line (Ok None) some none = no_line line (none refl)
is_named line (Err e) some none = tt
