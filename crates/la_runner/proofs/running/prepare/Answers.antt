use Rattle.std.proofs.Common.{◌≡◌, length, refl, ap, arith}
use Rattle.std.proofs.lemmas.Bool.{false≢true}
use Rattle.std.specs.Vec.{vec_items}
use Rattle.std.specs.Vec.Iter.{into_iter_items}
use Rattle.la_runner.specs.Runs.{IsWorkOf}
use Rattle.la_runner.proofs.Threading.{none_made, one_made, all_made, none_left}
use Rattle.la_runner.proofs.running.prepare.Goals as goal

pub loop-start-init : goal.loop-start-init
loop-start-init g c = record {
  made =
      none_made (λ s w. IsWorkOf s.member s.shelf s.jobs.items w.member w.shelf w.jobs.items)
      (into_iter_items c.into_iter-start-iterator.result) (vec_items c.args.starts) (vec_items c.in_ok-works.works)
      c.into_iter-start-iterator.ensures.into_iter_gives.0 c.in_ok-works.ensures.items;
  channels =
      let all = ap length c.into_iter-start-iterator.ensures.into_iter_gives.0 in
      omega
      (arith, c.loop.invariant, c.loop-test.false, c.loop.auto.counter-end, c.len-end.ensures, all, c.args.starts.ok.0);
}

pub unreachable-requires : goal.unreachable-requires
unreachable-requires g c =
    let left = ap length c.in-Some.ensures.steps.0 in
    absurd (false≢true (c.in_default.ensures.variant.1 (omega (arith, c.loop-start.invariant.channels, left))))

pub loop-start-preserved : goal.loop-start-preserved
loop-start-preserved g c = record {
  made =
      one_made (λ s w. IsWorkOf s.member s.shelf s.jobs.items w.member w.shelf w.jobs.items) c.in-Some.start _
      (into_iter_items c.loop-start.start-iterator) (into_iter_items c.next.new.self) (vec_items c.args.starts)
      (vec_items c.loop-start.works) (vec_items c.push-in-loop-start.new.self)
      c.in_ok-push-3.ensures.items c.in-Some.ensures.steps.0 (record { member = refl; shelf = refl; jobs = refl }) c.loop-start.invariant.made;
  channels =
      let left = ap length c.in-Some.ensures.steps.0 in
      omega (arith, c.loop-start.invariant.channels, left, c.in-Some-pop.ensures.len);
}

pub returns : goal.returns
returns g c =
    let left = into_iter_items c.loop-start.start-iterator in
    let none : length left ≡ 0 = omega (arith, c.in-None.ensures.steps.0, c.loop-start.start-iterator.rest.ok.0) in
    all_made (λ s w. IsWorkOf s.member s.shelf s.jobs.items w.member w.shelf w.jobs.items) left
    (vec_items c.args.starts) (vec_items c.loop-start.works) (none_left left none) c.loop-start.invariant.made
