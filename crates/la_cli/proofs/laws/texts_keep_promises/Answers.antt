use Rattle.std.specs.Prelude.{map}
use Rattle.la_world.specs.Events.{event_of}
use Rattle.la_world.specs.Report.{report}
use Rattle.la_world.specs.StandsFor.{kinds_of}
use Rattle.la_cli.specs.Play.{group_shelves}
use Rattle.la_cli.proofs.laws.texts_keep_promises.Goals as goal

pub returns : goal.returns
returns c shelves input text h =
    let script = h.script in
    let kinds = kinds_of (group_shelves script.config shelves) in
    let events = map event_of script.events in
    record {
      script = script;
      says = h.says;
      made = report script.config kinds events;
      is_text = h.is_text;
      keeps_all = c.reports_keep_promises.ensures script.config kinds events h.says.config;
    }
