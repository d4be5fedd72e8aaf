-- When an object does not take an update, and how.
use Rattle.la_shelf.specs.declared.error.Refusal.{Refusal}
use Rattle.la_shelf.specs.declared.error.Refusal.TheVariants.{Memory, Full}
use Rattle.la_object.specs.declared.state.State.{State}
use Rattle.la_object.specs.Objects.{HasRoom}

-- no room, and else memory may run out
abbrev pub IsClosedRefusal : State → Refusal → Type 0
IsClosedRefusal state Full = ¬ HasRoom state
IsClosedRefusal state Memory = HasRoom state
