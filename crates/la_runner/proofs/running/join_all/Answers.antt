use Rattle.std.proofs.Common.{arith, ◌≡◌, length}
use Rattle.la_runner.specs.Runs.{IsLogOf}
use Rattle.la_runner.proofs.Threading.{kept_all}
use Rattle.la_runner.proofs.running.join_all.Goals as goal

pub returns-in-Ok : goal.returns-in-Ok
returns-in-Ok g c =
    let same : length c.in-Ok.done.items ≡ length c.args.handles.items =
    omega (arith, c.in-Ok.done.ok.0, c.args.handles.ok.0, c.in-Ok.ensures.len) in
    kept_all
    (λ h l. IsLogOf h.promise.0.value l) c.args.handles.items c.in-Ok.done.items same
    (λ i d less.
    let k = c.in-Ok.ensures.each i d (omega (arith, c.args.handles.ok.0)) in (k.1.handle, k.1.handle_is, k.1.kept))
