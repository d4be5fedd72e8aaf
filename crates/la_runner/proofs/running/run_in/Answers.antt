use Rattle.std.proofs.lemmas.Result.{IfOk-weaker}
use Rattle.la_runner.specs.Runs.{IsWorked, IsReadyMember, IsWorkOf, IsLogOf}
use Rattle.la_runner.proofs.Threading.{zip_along, all_over, ready_of, worked_of}
use Rattle.la_runner.proofs.running.run_in.Goals as goal

pub run_all-requires-clause-ready : goal.run_all-requires-clause-ready
run_all-requires-clause-ready g c κs within =
    all_over (λ s w. IsWorkOf s.member s.shelf s.jobs.items w.member w.shelf w.jobs.items)
    (λ s. IsReadyMember c.args.group.now s.member s.shelf) (λ w. IsReadyMember c.args.group.now w.member w.shelf)
    (λ s w is ready. ready_of c.args.group.now s.member s.shelf s.jobs.items w.member w.shelf w.jobs.items is ready)
    c.args.starts.items c.in-Ok.works.items c.in-Ok.ensures c.requires.ready

pub returns : goal.returns
returns g c = IfOk-weaker c.run_all.result _ _
    (λ done h. zip_along (λ s w. IsWorkOf s.member s.shelf s.jobs.items w.member w.shelf w.jobs.items) IsLogOf (λ s b. IsWorked s.member s.shelf s.jobs.items b.replica b.member b.shelf b.entries b.stopped)
    (λ s w b is back. worked_of s.member s.shelf s.jobs.items w.member w.shelf w.jobs.items b.replica b.member b.shelf b.entries b.stopped is back) c.args.starts.items c.in-Ok.works.items done.items c.in-Ok.ensures h)
    c.run_all.ensures
