use Rattle.std.proofs.Common.{◌≡◌, subst, sym, vec_len}
use Rattle.la_runner.specs.Members.{IsOfGroup, MemberGoesOn}
use Rattle.la_runner.specs.Notes.{doings}
use Rattle.la_runner.specs.Runs.{IsWorked}
use Rattle.la_runner.proofs.Ending.{worked}
use Rattle.la_runner.proofs.UnderWay.{of_goes}
use Rattle.la_runner.proofs.work.work_on.Goals as goal

pub send_all-is_sent-requires-clause-of : goal.send_all-is_sent-requires-clause-of
send_all-is_sent-requires-clause-of g c κs within =
    of_goes c.args.group.now c.args.work.member c.do_all-ended.new.member c.do_all-ended.ensures.worked.goes
    c.requires.ready.of

pub take_all-taken-requires-clause-of : goal.take_all-taken-requires-clause-of
take_all-taken-requires-clause-of g c κs within =
    subst (IsOfGroup c.args.group.now) (sym c.send_all-is_sent.ensures)
    (of_goes c.args.group.now c.args.work.member c.do_all-ended.new.member c.do_all-ended.ensures.worked.goes
    c.requires.ready.of)

pub returns : goal.returns
returns g c =
    subst
    (λ es.
    IsWorked c.args.work.member c.args.work.shelf c.args.work.jobs.items c.replica-replica.result
    c.take_all-taken.new.member c.absorb_view-is_absorbed.new.shelf es c.stopped_after-stopped.result)
    (sym c.from.ensures)
    (worked c.args.work.member c.do_all-ended.new.member c.take_all-taken.new.member c.args.work.shelf
    c.do_all-ended.new.shelf c.absorb_view-is_absorbed.new.shelf c.args.work.jobs.items
    c.do_all-ended.new.entries.items c.do_all-ended.result c.stopped_after-stopped.result c.do_all-ended.ensures.worked
    (vec_len c.do_all-ended.new.entries) c.do_all-ended.new.entries.ok.0 c.do_all-ended.ensures.ends
    (subst (λ m. MemberGoesOn m c.take_all-taken.new.member) c.send_all-is_sent.ensures
    c.take_all-taken.ensures.goes_on)
    (subst (λ m. doings c.take_all-taken.new.member ≡ doings m) c.send_all-is_sent.ensures
    c.take_all-taken.ensures.same)
    c.replica-replica.ensures.is c.replica-replica.result c.replica-replica.ensures.replica
    c.absorb_view-is_absorbed.ensures.objects
    (λ e. let h = c.stopped_after-stopped.ensures.none e in (h.0, c.absorb_view-is_absorbed.ensures.view h.1))
    c.stopped_after-stopped.ensures.some)
