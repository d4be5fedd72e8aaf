-- What a call comes to, by what a journal says of it: for whoever stages the calls of a node.
use Rattle.std.proofs.Common.{◌≡◌, ◌⊎◌, inl, inr, ℕ, Bool, true, false, List, ◌++◌, Option, Some, None, option_map}
use Rattle.std.proofs.Common.{refl, sym, ap, ◌∙◌}
use Rattle.std.proofs.lemmas.Option.{none-some, same_Some}
use Rattle.la_wire.specs.Calls.{WireCall}
use Rattle.la_wire.specs.CallLines.{named_call}
use Rattle.la_node.specs.Steps.{Given}
use Rattle.la_journal.specs.Staging.{kept_unless}
use Rattle.la_durable.specs.Nodes.{NodeAnswered, acts, acts_by, step, leaves_be, answer_to, node_answer_by}
use Rattle.la_durable.specs.Nodes.{node_answers}
use Rattle.la_durable.specs.CallLines.{is_line, call_line, call_line_where, or_tick}
use Rattle.la_replica.specs.ReplicaState.{ReplicaState}

-- an input's line is the one of its call
pub line_where : (line : List ℕ) (b : Bool) (e : is_line line ≡ b) → b ≡ true
    → (or_tick (call_line_where line b e)).line ≡ line
line_where line true e is = refl
line_where line false e is = absurd cc

pub line_of_input : (line : List ℕ) → is_line line ≡ true → (or_tick (call_line line)).line ≡ line
line_of_input line is = line_where line (is_line line) refl is

-- a line is kept alike where the same is said of it
pub kept_alike : (staged : List (List ℕ)) (b c : Bool) (line other : List ℕ) → b ≡ c → line ≡ other
    → staged ++ kept_unless b line ≡ staged ++ kept_unless c other
kept_alike staged b c line other p q =
    ap (λ x. staged ++ kept_unless x line) p ∙ ap (λ y. staged ++ kept_unless c y) q

-- what a step and its answer come from
both : (n : ReplicaState) (call : WireCall) (o : Option (Given × ReplicaState)) (answer : NodeAnswered)
    (after : ReplicaState) → option_map (λ (made : Given × ReplicaState). made.1) o ≡ Some after
    → Some answer ≡ option_map (answer_to n call) o
    → (o ≡ Some (answer.given, after)) × (answer.still ≡ leaves_be n after call answer.given)
both n call None answer after e f = absurd (none-some after e)
both n call (Some made) answer after e f =
    let is = same_Some answer (answer_to n call made) f in
    let then = same_Some made.1 after e in
    let given = ap (λ (a : NodeAnswered). a.given) is in (
      ap Some (ap (λ g. (g, made.1)) (sym given) ∙ ap (λ a. (answer.given, a)) then),
      ap (λ (a : NodeAnswered). a.still) is ∙ ap (λ g. leaves_be n made.1 call g) (sym given)
          ∙ ap (λ a. leaves_be n a call answer.given) then,
    )

neither : (o : Option (Given × ReplicaState)) → option_map (λ (made : Given × ReplicaState). made.1) o ≡ None → o ≡ None
neither None e = refl
neither (Some made) e = absurd cc

module _ (n : ReplicaState) (line : List ℕ) (call : WireCall) (is : is_line line ≡ true)
    (says : named_call line ≡ Some call) where
  acts_line : acts_by n (named_call (or_tick (call_line line)).line) ≡ acts n call
  acts_line = ap (λ l. acts_by n (named_call l)) (line_of_input line is) ∙ ap (acts_by n) says

  pub answers_line : node_answers n (or_tick (call_line line)) ≡ option_map (answer_to n call) (acts n call)
  answers_line = ap (λ l. node_answer_by n (named_call l)) (line_of_input line is) ∙ ap (node_answer_by n) says

  pub steps_line : step n (or_tick (call_line line))
      ≡ option_map (λ (made : Given × ReplicaState). made.1) (acts n call)
  steps_line = ap (option_map (λ (made : Given × ReplicaState). made.1)) acts_line

  pub acted : (answer : NodeAnswered) (after : ReplicaState) → step n (or_tick (call_line line)) ≡ Some after
      → Some answer ≡ node_answers n (or_tick (call_line line))
      → (acts n call ≡ Some (answer.given, after)) × (answer.still ≡ leaves_be n after call answer.given)
  acted answer after e f = both n call (acts n call) answer after (sym steps_line ∙ e) (f ∙ answers_line)

  pub refused : step n (or_tick (call_line line)) ≡ None → acts n call ≡ None
  refused e = sym acts_line ∙ neither (acts_by n (named_call (or_tick (call_line line)).line)) e

  -- why it is refused
  pub cause_of : {A : Type 0} → A ⊎ (step n (or_tick (call_line line)) ≡ None) → A ⊎ (acts n call ≡ None)
  cause_of (inl a) = inl a
  cause_of (inr e) = inr (refused e)
