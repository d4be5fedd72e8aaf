-- What a line of a script says, whatever its number.
use Rattle.std.proofs.Common.{◌≡◌, ℕ, Result, Ok, Err, refl, sym, ap, ◌∙◌}
use Rattle.la_world.specs.declared.event.Event.{Event}
use Rattle.la_script.specs.declared.error.FaultName.{FaultName}
use Rattle.la_script.specs.declared.error.ScriptFault.{ScriptFault}
use Rattle.la_script.specs.Scripts.{at_line}
use Rattle.la_wire.specs.CallLines.{event_call, fault_of, script_call}

unnumbered : Result Event ScriptFault → Result Event FaultName
unnumbered (Ok e) = Ok e
unnumbered (Err fault) = Err fault.name

same-said : (n : ℕ) (r : Result Event FaultName) → unnumbered (at_line n r) ≡ r
unfolding unnumbered
same-said n (Ok e) = refl
same-said n (Err name) = refl

pub said-event : (n : ℕ) (r : Result Event FaultName) (e : Event) → at_line n r ≡ Ok e → script_call r ≡ event_call e
unfolding unnumbered
said-event n r e is = ap script_call (sym (same-said n r) ∙ ap unnumbered is)

pub said-fault : (n : ℕ) (r : Result Event FaultName) (fault : ScriptFault) → at_line n r ≡ Err fault
    → script_call r ≡ Err (fault_of fault.name)
unfolding unnumbered
said-fault n r fault is = ap script_call (sym (same-said n r) ∙ ap unnumbered is)
