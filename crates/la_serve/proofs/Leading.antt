-- What the journal says of lines that were taken.
use Rattle.std.proofs.Common.{◌≡◌, ◌⊎◌, inl, inr, ℕ, ◌+◌, Bool, true, false, List, [], ◌∷◌, ◌++◌, map, refl}
use Rattle.std.proofs.Common.{sym, ap, ◌∙◌, Some, option_map}
use Rattle.la_object.specs.declared.kind.Kind.{Kind}
use Rattle.la_journal.specs.Machine.{steps, steps_from}
use Rattle.la_journal.specs.Staging.{kept_unless}
use Rattle.la_wire.specs.Calls.{WireCall}
use Rattle.la_wire.specs.CallLines.{named_call}
use Rattle.la_node.specs.Steps.{Given}
use Rattle.la_durable.specs.Nodes.{acts, acts_by, step, leaves_be}
use Rattle.la_durable.specs.Still.{still_call}
use Rattle.la_durable.specs.CallLines.{CallLine, is_line}
use Rattle.la_serve.specs.Turns.{ServerState, Turn}
use Rattle.la_serve.specs.Serving.{AreTurns, kept_lines}
use Rattle.la_serve.proofs.TurnKinds.{IsWhat, what}
use Rattle.la_replica.specs.ReplicaState.{ReplicaState}

-- a turn by which the journal gains nothing, and nothing changes of what the node keeps
abbrev IsStill : ServerState → Turn → Type 0
IsStill n t = (t.kept ≡ []) × (t.after.kept ≡ n.kept)

-- a turn by which it gains a line, and the state is the next
abbrev IsStep : ServerState → Turn → Type 0
IsStep n t = (c : CallLine) × (t.kept ≡ c.line ∷ []) × (step n.kept c ≡ Some t.after.kept)

abbrev Goes : ServerState → Turn → Type 0
Goes n t = IsStill n t ⊎ IsStep n t

module _ (n : ServerState) (t : Turn) where
  -- a call is taken; where it leaves the node as it was its line is not kept
  taken_goes : (call : WireCall) → is_line t.heard.call ≡ true → named_call t.heard.call ≡ Some call
      → (given : Given) → acts n.kept call ≡ Some (given, t.after.kept) → (b : Bool)
      → leaves_be n.kept t.after.kept call given ≡ b → t.kept ≡ kept_unless b t.heard.call → Goes n t
  taken_goes call stands says given acted true be journal =
      inl (journal, still_call n.kept t.after.kept call given acted be)
  taken_goes call stands says given acted false be journal =
      inr (
        record { line = t.heard.call; says = stands },
        journal,
        ap (λ o. option_map (λ (made : Given × ReplicaState). made.1) (acts_by n.kept o)) says
            ∙ ap (option_map (λ (made : Given × ReplicaState). made.1)) acted,
      )

  goes : IsWhat n t → Goes n t
  goes (inl quiet) = inl (quiet.0, quiet.1)
  goes (inr (inl again)) =
      inl (ap (λ (u : Turn). u.kept) again.3.turn, ap (λ (u : Turn). u.after.kept) again.3.turn)
  goes (inr (inr takes)) =
      taken_goes takes.call takes.stands takes.says takes.taken.given takes.taken.acted
      (leaves_be n.kept t.after.kept takes.call takes.taken.given) refl takes.taken.journal

-- the calls of the lines that the journal gains by these turns, and where they lead
pub record Led (n after : ReplicaState) (turns : List Turn) : Type 0 where
  pub calls : List CallLine
  pub lines : kept_lines turns ≡ map (λ (c : CallLine). c.line) calls
  pub led : steps step calls n ≡ Some after

pub turns_lead : (objects : List (ℕ × Kind)) (n : ServerState) (k : ℕ) (turns : List Turn) (after : ServerState)
    → AreTurns objects n k turns after → Led n.kept after.kept turns
turns_lead objects n k [] after are =
    record { calls = []; lines = refl; led = ap (λ (s : ServerState). Some s.kept) (sym are) }
turns_lead objects n k (t ∷ turns) after are =
    let rest = turns_lead objects t.after (k + 1) turns after are.1 in
    elim (goes n t (what objects n k t are.0)) [
      | inl same ↦ record {
        calls = rest.calls;
        lines = ap (λ (ls : List (List ℕ)). ls ++ kept_lines turns) same.0 ∙ rest.lines;
        led = ap (steps step rest.calls) (sym same.1) ∙ rest.led;
      }
      | inr next ↦ record {
        calls = next.0 ∷ rest.calls;
        lines = (λ i. next.1 i ++ rest.lines i);
        led = ap (steps_from step rest.calls) next.2 ∙ rest.led;
      }
    ]
