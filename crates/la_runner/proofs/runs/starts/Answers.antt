use Rattle.std.proofs.Common.{◌≡◌, length, arith}
use Rattle.std.specs.Vec.{vec_items}
use Rattle.std.specs.Vec.Iter.{into_iter_items}
use Rattle.la_runner.specs.Runs.{place_of, places}
use Rattle.la_runner.proofs.Counting.{all_begun}
use Rattle.la_runner.proofs.Threading.{none_left}
use Rattle.la_runner.proofs.runs.starts.Goals as goal

pub returns : goal.returns
returns g c =
    let left = into_iter_items c.loop-member.member-iterator in
    let none : length left ≡ 0 = omega (arith, c.in-None.ensures.steps.0, c.loop-member.member-iterator.rest.ok.0) in
    all_begun (λ s. place_of s.member s.shelf s.jobs.items) (vec_items c.loop-member.starts) left
    (into_iter_items c.loop-member.shelves) (into_iter_items c.loop-member.jobs)
    (places (vec_items c.args.members) (vec_items c.args.shelves) (vec_items c.args.jobs)) (none_left left none)
    c.loop-member.invariant.begun
