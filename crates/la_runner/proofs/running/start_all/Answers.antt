use Rattle.std.specs.Vec.{vec_items}
use Rattle.std.specs.Vec.Iter.{into_iter_items}
use Rattle.la_runner.specs.Runs.{IsReadyMember}
use Rattle.la_runner.proofs.Threading.{one_started, all_rest}
use Rattle.la_runner.proofs.running.start_all.Goals as goal

pub loop-work-preserved : goal.loop-work-preserved
loop-work-preserved g c = record {
  started =
      one_started (λ h. h.promise.0.value) (vec_items c.loop-work.handles) (vec_items c.reserve.new.self)
      (vec_items c.push_reserved.new.self) c.in-Some-start_one.handle c.in-Some.work
      (into_iter_items c.loop-work.work-iterator) (into_iter_items c.next.new.self) (vec_items c.args.works)
      c.reserve.ensures.items c.push_reserved.ensures.items c.in-Some-start_one.ensures c.in-Some.ensures.steps.0
      c.loop-work.invariant.started;
  ready =
      all_rest (λ w. IsReadyMember c.args.group.now w.member w.shelf) c.in-Some.work (into_iter_items c.loop-work.work-iterator)
      (into_iter_items c.next.new.self) c.in-Some.ensures.steps.0 c.loop-work.invariant.ready;
}
