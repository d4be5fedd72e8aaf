use Rattle.std.proofs.Common.{subst}
use Rattle.std.specs.List.{AllZip}
use Rattle.la_runner.specs.Runs.{IsLogOf}
use Rattle.la_runner.proofs.Threading.{zip_map}
use Rattle.la_runner.proofs.running.start_and_join.Goals as goal

pub returns-in-Some : goal.returns-in-Some
returns-in-Some g c =
    subst
    (λ ws. AllZip IsLogOf ws c.in-Some.done.items) c.in-Ok.ensures
    (zip_map (λ h. h.promise.0.value) IsLogOf
    c.start_all-started.new.handles.items c.in-Some.done.items c.in-Some.ensures)
