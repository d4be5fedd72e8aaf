use Rattle.std.specs.Prelude.{◌≡◌, ◌+◌, vec_items, vec_len}
use Rattle.std.specs.Vec.Iter.{into_iter_items, into_iter_len}
use Rattle.la_runner.proofs.UnderWay.{UnderWay}
use Rattle.la_runner.proofs.worker.do_all.Given as goal

abbrev pub invariant-loop-job : goal.invariant-loop-job
invariant-loop-job g l =
    UnderWay l.initial.member l.initial.shelf.objects (vec_items l.fn.jobs) (vec_items l.entries) l.member l.shelf
    (into_iter_items l.job-iterator)
    × (vec_len l.entries + into_iter_len l.job-iterator ≡ vec_len l.fn.jobs)
