use Rattle.std.proofs.Common.{ℕ, List, vec_items, vec_len, ◌+◌, ◌∙◌, subst, sym, arith, rules, length}
use Rattle.std.specs.Vec.Iter.{into_iter_items}
use Rattle.la_object.specs.declared.kind.Kind.{Kind}
use Rattle.la_runner.specs.declared.jobs.Entry.{Entry}
use Rattle.la_runner.specs.declared.jobs.Stopped.TheVariants.{Memory}
use Rattle.la_runner.specs.Entries.{AnswersJob}
use Rattle.la_runner.specs.Members.{member_submitted}
use Rattle.la_runner.specs.Stops.{StopFits}
use Rattle.la_runner.proofs.Keeping.{goes_on_then}
use Rattle.la_runner.proofs.UnderWay.{UnderWay, begins, turn, goes_on_more, keeps_done, stops_here, memory_fits, of_goes}
use Rattle.la_runner.proofs.worker.do_all.Goals as goal

pub loop-job-init : goal.loop-job-init
loop-job-init g c = (
  begins c.args.member.now (vec_items c.args.jobs) c.args.shelf.now (vec_items c.args.entries.now)
      (into_iter_items c.into_iter-job-iterator.result) c.requires.none (search rules) c.requires.ready.behind,
  search rules,
)

pub do_job-requires-after_bounds : goal.do_job-requires-after_bounds
do_job-requires-after_bounds g c κs within = record {
  of = of_goes c.args.group.now c.args.member.now c.loop-job.member c.loop-job.invariant.0.goes c.requires.ready.of;
  behind = c.loop-job.invariant.0.within;
}

pub loop-job-preserved : goal.loop-job-preserved
loop-job-preserved g c =
    let first = c.args.member.now in
    let objects = c.args.shelf.now.objects in
    let all = vec_items c.args.jobs in
    let es = vec_items c.reserve.new.self in
    let rest = into_iter_items c.next.new.self in
    let w =
    turn first objects all (vec_items c.loop-job.entries) es c.loop-job.member c.loop-job.shelf c.in-Some.job
    (into_iter_items c.loop-job.job-iterator) rest c.loop-job.invariant.0 c.in-Some.ensures.steps.0
    c.reserve.ensures.items in
    let fits =
    subst
    (λ (os : List (ℕ × Kind)).
    AnswersJob c.do_job.new.member (length (member_submitted c.loop-job.member 0) + 1) os c.in-Some.job c.in-Ok.entry)
    w.same c.in-Ok.ensures.done.answers in
    let more =
    goes_on_more first objects all es c.loop-job.member c.loop-job.shelf c.in-Some.job rest w c.in-Ok.entry
    c.do_job.new.member c.do_job.new.shelf fits c.in-Ok.ensures.done.names c.do_job.ensures.goes_on.goes
    c.in-Ok.ensures.done.submitted (c.do_job.ensures.goes_on.objects ∙ w.same) c.do_job.ensures.goes_on.within in (
      subst (λ (xs : List Entry). UnderWay first objects all xs c.do_job.new.member c.do_job.new.shelf rest)
          (sym c.push_reserved.ensures.items) more,
      omega
          (arith, c.in-Some.ensures.steps.1, c.push_reserved.ensures.len, c.reserve.ensures.len, c.loop-job.invariant.1),
    )

pub returns-then-is_err-clause-worked : goal.returns-then-is_err-clause-worked
returns-then-is_err-clause-worked g c =
    let first = c.args.member.now in
    let objects = c.args.shelf.now.objects in
    let all = vec_items c.args.jobs in
    let es = vec_items c.reserve.new.self in
    let rest = into_iter_items c.next.new.self in
    let w =
    turn first objects all (vec_items c.loop-job.entries) es c.loop-job.member c.loop-job.shelf c.in-Some.job
    (into_iter_items c.loop-job.job-iterator) rest c.loop-job.invariant.0 c.in-Some.ensures.steps.0
    c.reserve.ensures.items in
    record { goes = w.goes; objects = w.same; within = w.within; done = w.done }

pub returns-then-is_err-clause-ends : goal.returns-then-is_err-clause-ends
returns-then-is_err-clause-ends g c =
    let first = c.args.member.now in
    let objects = c.args.shelf.now.objects in
    let all = vec_items c.args.jobs in
    let es = vec_items c.reserve.new.self in
    let rest = into_iter_items c.next.new.self in
    let w =
    turn first objects all (vec_items c.loop-job.entries) es c.loop-job.member c.loop-job.shelf c.in-Some.job
    (into_iter_items c.loop-job.job-iterator) rest c.loop-job.invariant.0 c.in-Some.ensures.steps.0
    c.reserve.ensures.items in
    record {
      all = tt;
      stop =
          stops_here first objects all es c.loop-job.member c.loop-job.shelf c.in-Some.job rest w
          (vec_len c.reserve.new.self) c.loop-job.member Memory c.reserve.new.self.ok.0
          (memory_fits objects c.loop-job.member c.in-Some.job);
    }

pub returns-in-Err-clause-worked : goal.returns-in-Err-clause-worked
returns-in-Err-clause-worked g c =
    let first = c.args.member.now in
    let objects = c.args.shelf.now.objects in
    let all = vec_items c.args.jobs in
    let es = vec_items c.reserve.new.self in
    let rest = into_iter_items c.next.new.self in
    let w =
    turn first objects all (vec_items c.loop-job.entries) es c.loop-job.member c.loop-job.shelf c.in-Some.job
    (into_iter_items c.loop-job.job-iterator) rest c.loop-job.invariant.0 c.in-Some.ensures.steps.0
    c.reserve.ensures.items in
    let goes = c.do_job.ensures.goes_on in
    record {
      goes = goes_on_then first c.loop-job.member c.do_job.new.member w.goes goes.goes;
      objects = goes.objects ∙ w.same;
      within = goes.within;
      done = keeps_done first objects all es c.loop-job.member c.do_job.new.member w.done goes.goes;
    }

pub returns-in-Err-clause-ends : goal.returns-in-Err-clause-ends
returns-in-Err-clause-ends g c =
    let first = c.args.member.now in
    let objects = c.args.shelf.now.objects in
    let all = vec_items c.args.jobs in
    let es = vec_items c.reserve.new.self in
    let rest = into_iter_items c.next.new.self in
    let w =
    turn first objects all (vec_items c.loop-job.entries) es c.loop-job.member c.loop-job.shelf c.in-Some.job
    (into_iter_items c.loop-job.job-iterator) rest c.loop-job.invariant.0 c.in-Some.ensures.steps.0
    c.reserve.ensures.items in
    record {
      all = tt;
      stop =
          stops_here first objects all es c.loop-job.member c.loop-job.shelf c.in-Some.job rest w
          (vec_len c.reserve.new.self) c.do_job.new.member c.in-Err.why c.reserve.new.self.ok.0
          (subst (λ (os : List (ℕ × Kind)). StopFits os c.do_job.new.member c.in-Some.job c.in-Err.why) w.same
          c.in-Err.ensures.error);
    }
