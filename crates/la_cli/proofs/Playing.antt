-- What is written for what was played, and what stands after a play that was refused before that.
use Rattle.std.proofs.Common.{◌≡◌, ◌∙◌, ◌+◌, ℕ, List, Option, refl, ap, arith}
use Rattle.std.proofs.KnownBytes.{Keeps-refl}
use Rattle.la_object.specs.Shelves.{ShelfState}
use Rattle.la_node.specs.declared.config.Config.{Config}
use Rattle.la_world.specs.declared.event.Event.{Event}
use Rattle.la_script.specs.declared.script.Version.TheVariants.{One}
use Rattle.la_script.specs.RandomEvents.{random_events}
use Rattle.la_cli.specs.Faults.{of_input}
use Rattle.la_cli.specs.Play.{FitAnyGroup, text_by, IsRandomGroup, AnswersDraw, ReadsInput, IsScriptRefusal, IsPlayedRefusal}
use Rattle.la_io.specs.Streams.{TakesBytes, TakesAtMost}
use Rattle.la_cli.specs.declared.error.PlayFault.{PlayFault}
use Rattle.la_cli.specs.declared.error.PlayFault.TheVariants as fault
use Rattle.la_io.specs.declared.streams.InputFault.{InputFault}
use Rattle.la_io.specs.declared.streams.InputFault.TheVariants as input
use Rattle.la_io.specs.declared.streams.TheConstants.{LIMIT}

-- the text of the report of events that were drawn
pub draw_is_answered : (shelves : List ShelfState) (seed replicas count : ℕ) (c : Config) (events : List Event)
    (text : List ℕ) → IsRandomGroup replicas c → events ≡ random_events seed replicas count
    → text ≡ text_by One c events shelves → AnswersDraw shelves seed replicas count text
draw_is_answered shelves seed replicas count c events text group drawn is =
    record { config = c; group = group; is_text = is ∙ ap (λ (es : List Event). text_by One c es shelves) drawn }

-- ## Refusals

-- not all was read
pub input_is_refused : (shelves : List ShelfState) → FitAnyGroup shelves
    → (left left_after written : Option (List ℕ)) (f : InputFault)
    → (f ≡ input.TooLong → TakesBytes (LIMIT + 1) left left_after) → (f ≡ input.ReadFault → TakesAtMost LIMIT left left_after)
    → TakesAtMost (LIMIT + 1) left left_after → IsPlayedRefusal shelves left left_after written written (of_input f)
input_is_refused shelves fit left left_after written input.ReadFault long failed taken =
    (fit, failed refl, Keeps-refl written)
input_is_refused shelves fit left left_after written input.TooLong long failed taken =
    (fit, long refl, Keeps-refl written)
input_is_refused shelves fit left left_after written input.Memory long failed taken = (fit, taken, Keeps-refl written)

-- there is no text for what was read
pub answer_is_refused : (shelves : List ShelfState) → FitAnyGroup shelves
    → (left left_after written : Option (List ℕ)) (bytes : List ℕ) (f : PlayFault) → ReadsInput left left_after bytes
    → IsScriptRefusal bytes f → IsPlayedRefusal shelves left left_after written written f
answer_is_refused shelves fit left left_after written bytes (fault.Script f) read is = (fit, record { input = bytes; read = read; fault = is }, Keeps-refl written)
answer_is_refused shelves fit left left_after written bytes fault.Memory read is =
    (fit, (bytes, read.all.0, omega (arith, read.short)), Keeps-refl written)
answer_is_refused shelves fit left left_after written bytes fault.BadConfig read is = absurd is
answer_is_refused shelves fit left left_after written bytes fault.ReadFault read is = absurd is
answer_is_refused shelves fit left left_after written bytes fault.TooLong read is = absurd is
answer_is_refused shelves fit left left_after written bytes fault.WriteFault read is = absurd is
answer_is_refused shelves fit left left_after written bytes fault.NoThread read is = absurd is
