use Rattle.std.proofs.Common.{◌≡◌, IfErr, refl, sym, subst, ap, ◌∙◌, rules, [], arith}
use Rattle.std.proofs.lemmas.Bool.{false≢true}
use Rattle.la_journal.specs.Durable.{IsSettled}
use Rattle.la_io.specs.Sources.{pending}
use Rattle.la_io.specs.Streams.{TellsAll}
use Rattle.la_serve.specs.declared.error.NodeFault.TheVariants as fault
use Rattle.la_serve.specs.Io.{facts}
use Rattle.la_serve.specs.Serving.{TurnSteps, IsServeRefusal}
use Rattle.la_serve.proofs.TakenLines.{if_err_same, on_ok, if_err}
use Rattle.la_serve.proofs.Behind.{held_io, run_io, Left, so_none, so_more, so_prepared, stopped, at_end, step_cut}
use Rattle.la_serve.proofs.Behind.{unflushed, then_refused, serves_all}
use Rattle.la_serve.proofs.Points.{point, start_at, same_state}
use Rattle.la_serve.proofs.serving.serve.Goals as goal

pub loop-number-init : goal.loop-number-init
loop-number-init g c =
    let f = facts g.D.Disk.seen g.D.Disk.may_leave g.D.Disk.moment g.D.Disk.left_since g.R.Read.remaining
    g.W.Write.contents g.E.Write.contents g.E.Listener.refuses in
    let first = start_at f c.args.input.now c.args.out.now c.args.errors.now c.args.server.now in
    record {
      so_far =
          so_none f first c.requires.settled (g.met.D.Disk.only_now c.args.server.now.node.durable.disk)
          (pending c.new-source.result) c.new-held.result.items c.args.server.now.node.text.items
          c.new-source.ensures.nothing c.new-held.ensures.items c.requires.unstaged;
      over = λ is. absurd (false≢true (sym c.new-source.ensures.«open» ∙ is));
      settled = c.requires.settled;
      takes = c.requires.takes;
      later = omega arith;
      objects = refl;
    }

pub returns-in_err-prepare-clause-err : goal.returns-in_err-prepare-clause-err
returns-in_err-prepare-clause-err g c =
    let same : IfErr c.from_residual.result (λ e. e ≡ c.in_err-prepare.field-0.0) = search rules in
    let f = facts g.D.Disk.seen g.D.Disk.may_leave g.D.Disk.moment g.D.Disk.left_since g.R.Read.remaining
    g.W.Write.contents g.E.Write.contents g.E.Listener.refuses in
    let first = start_at f c.args.input.now c.args.out.now c.args.errors.now c.args.server.now in
    let p0 = point f c.loop-number.source c.loop-number.input c.loop-number.out c.loop-number.held.items
    c.loop-number.errors c.loop-number.server in
    let p1 = point f c.loop-number.source c.loop-number.input c.prepare.new.output c.prepare.new.held.items
    c.loop-number.errors c.prepare.new.server in
    let left = g.R.Read.remaining c.loop-number.input in
    if_err_same _ c.in_err-prepare.field-0.0 c.from_residual.result same
    (unflushed f first c.calls_follow_one_another.ensures left p0 p1 []
    (stopped f first p0 c.loop-number.number c.loop-number.invariant.so_far (pending c.loop-number.source) left refl)
    (same_state c.prepare.ensures.same.0 c.prepare.ensures.same.2) (g.met.D.Disk.only_now p1.disk)
    c.in_err-prepare.ensures.any_moment
    (g.met.D.Disk.counts_now p1.disk)
    c.in_err-prepare.field-0.0 c.in_err-prepare.ensures.err)

pub returns-in-Ok-false-clause-ok : goal.returns-in-Ok-false-clause-ok
returns-in-Ok-false-clause-ok g c =
    let f = facts g.D.Disk.seen g.D.Disk.may_leave g.D.Disk.moment g.D.Disk.left_since g.R.Read.remaining
    g.W.Write.contents g.E.Write.contents g.E.Listener.refuses in
    let first = start_at f c.args.input.now c.args.out.now c.args.errors.now c.args.server.now in
    let p0 = point f c.loop-number.source c.loop-number.input c.loop-number.out c.loop-number.held.items
    c.loop-number.errors c.loop-number.server in
    let p1 = point f c.loop-number.source c.loop-number.input c.prepare.new.output c.prepare.new.held.items
    c.loop-number.errors c.prepare.new.server in
    let so = so_prepared f first c.calls_follow_one_another.ensures p0 p1 c.loop-number.number
    c.loop-number.invariant.so_far refl refl (same_state c.prepare.ensures.same.0 c.prepare.ensures.same.2)
    (g.met.D.Disk.only_now p1.disk)
    c.in_ok-prepare.ensures.ok in
    let objects = ap (λ s. s.objects) c.prepare.ensures.same.1 ∙ c.loop-number.invariant.objects in
    let p2 = point f c.step.new.source c.step.new.input c.prepare.new.output c.step.new.held.items c.step.new.errors
    c.step.new.server in
    let p3 = point f c.step.new.source c.step.new.input c.flush.new.output c.flush.new.held.items c.step.new.errors
    c.flush.new.server in
    let ends =
    subst (TurnSteps c.loop-number.number (TellsAll f.heard f.refuses p1.errors p2.errors) (held_io p1) (held_io p2))
    c.in-Ok-false.field-0-test c.in-Ok-false.ensures.ok in
    on_ok c.flush.result
    (λ w.
    serves_all f first c.calls_follow_one_another.ensures p1 p2 p3 c.loop-number.number so objects
    c.step.ensures.stages.1 refl refl (pending c.step.new.source) (g.R.Read.remaining c.step.new.input) refl
    (same_state c.flush.ensures.same.0 c.flush.ensures.same.2) (g.met.D.Disk.only_now p3.disk) ends w)
    c.flush.ensures.ok

pub returns-in-Ok-false-clause-err : goal.returns-in-Ok-false-clause-err
returns-in-Ok-false-clause-err g c =
    let f = facts g.D.Disk.seen g.D.Disk.may_leave g.D.Disk.moment g.D.Disk.left_since g.R.Read.remaining
    g.W.Write.contents g.E.Write.contents g.E.Listener.refuses in
    let first = start_at f c.args.input.now c.args.out.now c.args.errors.now c.args.server.now in
    let p0 = point f c.loop-number.source c.loop-number.input c.loop-number.out c.loop-number.held.items
    c.loop-number.errors c.loop-number.server in
    let p1 = point f c.loop-number.source c.loop-number.input c.prepare.new.output c.prepare.new.held.items
    c.loop-number.errors c.prepare.new.server in
    let so = so_prepared f first c.calls_follow_one_another.ensures p0 p1 c.loop-number.number
    c.loop-number.invariant.so_far refl refl (same_state c.prepare.ensures.same.0 c.prepare.ensures.same.2)
    (g.met.D.Disk.only_now p1.disk)
    c.in_ok-prepare.ensures.ok in
    let objects = ap (λ s. s.objects) c.prepare.ensures.same.1 ∙ c.loop-number.invariant.objects in
    let p2 = point f c.step.new.source c.step.new.input c.prepare.new.output c.step.new.held.items c.step.new.errors
    c.step.new.server in
    let p3 = point f c.step.new.source c.step.new.input c.flush.new.output c.flush.new.held.items c.step.new.errors
    c.flush.new.server in
    let ends =
    subst (TurnSteps c.loop-number.number (TellsAll f.heard f.refuses p1.errors p2.errors) (held_io p1) (held_io p2))
    c.in-Ok-false.field-0-test c.in-Ok-false.ensures.ok in
    let left = g.R.Read.remaining c.step.new.input in
    if_err c.flush.result
    (unflushed f first c.calls_follow_one_another.ensures left p2 p3 []
    (at_end f first p1 c.loop-number.number so p2 objects c.step.ensures.stages.1 refl refl (pending c.step.new.source)
    left
    refl ends)
    (same_state c.flush.ensures.same.0 c.flush.ensures.same.2) (g.met.D.Disk.only_now p3.disk)
    c.flush.ensures.any_moment
    (g.met.D.Disk.counts_now p3.disk))
    c.flush.ensures.err

pub returns-in_err-flush-in-Err-clause-err : goal.returns-in_err-flush-in-Err-clause-err
returns-in_err-flush-in-Err-clause-err g c =
    let same : IfErr c.from_residual-in_err-flush-in-Err.result (λ e. e ≡ c.in_err-flush-in-Err.field-0.0) =
    search rules in
    let f = facts g.D.Disk.seen g.D.Disk.may_leave g.D.Disk.moment g.D.Disk.left_since g.R.Read.remaining
    g.W.Write.contents g.E.Write.contents g.E.Listener.refuses in
    let first = start_at f c.args.input.now c.args.out.now c.args.errors.now c.args.server.now in
    let p0 = point f c.loop-number.source c.loop-number.input c.loop-number.out c.loop-number.held.items
    c.loop-number.errors c.loop-number.server in
    let p1 = point f c.loop-number.source c.loop-number.input c.prepare.new.output c.prepare.new.held.items
    c.loop-number.errors c.prepare.new.server in
    let so = so_prepared f first c.calls_follow_one_another.ensures p0 p1 c.loop-number.number
    c.loop-number.invariant.so_far refl refl (same_state c.prepare.ensures.same.0 c.prepare.ensures.same.2)
    (g.met.D.Disk.only_now p1.disk)
    c.in_ok-prepare.ensures.ok in
    let objects = ap (λ s. s.objects) c.prepare.ensures.same.1 ∙ c.loop-number.invariant.objects in
    let p2 = point f c.step.new.source c.step.new.input c.prepare.new.output c.step.new.held.items c.step.new.errors
    c.step.new.server in
    let p3 =
    point f c.step.new.source c.step.new.input c.flush-in-Err.new.output c.flush-in-Err.new.held.items
    c.step.new.errors
    c.flush-in-Err.new.server in
    let left = g.R.Read.remaining c.step.new.input in
    let cut = step_cut f first p1 c.loop-number.number so p2 objects c.step.ensures.stages.1 refl refl
    (pending c.step.new.source) left refl c.in-Err.fault c.in-Err.ensures.err in
    if_err_same _ c.in_err-flush-in-Err.field-0.0 c.from_residual-in_err-flush-in-Err.result same
    (unflushed f first c.calls_follow_one_another.ensures left p2 p3 cut.0 cut.1
    (same_state c.flush-in-Err.ensures.same.0 c.flush-in-Err.ensures.same.2) (g.met.D.Disk.only_now p3.disk)
    c.flush-in-Err.ensures.any_moment
    (g.met.D.Disk.counts_now p3.disk)
    c.in_err-flush-in-Err.field-0.0 c.in_err-flush-in-Err.ensures.err)

pub returns-in-Err-clause-err : goal.returns-in-Err-clause-err
returns-in-Err-clause-err g c =
    let f = facts g.D.Disk.seen g.D.Disk.may_leave g.D.Disk.moment g.D.Disk.left_since g.R.Read.remaining
    g.W.Write.contents g.E.Write.contents g.E.Listener.refuses in
    let first = start_at f c.args.input.now c.args.out.now c.args.errors.now c.args.server.now in
    let p0 = point f c.loop-number.source c.loop-number.input c.loop-number.out c.loop-number.held.items
    c.loop-number.errors c.loop-number.server in
    let p1 = point f c.loop-number.source c.loop-number.input c.prepare.new.output c.prepare.new.held.items
    c.loop-number.errors c.prepare.new.server in
    let so = so_prepared f first c.calls_follow_one_another.ensures p0 p1 c.loop-number.number
    c.loop-number.invariant.so_far refl refl (same_state c.prepare.ensures.same.0 c.prepare.ensures.same.2)
    (g.met.D.Disk.only_now p1.disk)
    c.in_ok-prepare.ensures.ok in
    let objects = ap (λ s. s.objects) c.prepare.ensures.same.1 ∙ c.loop-number.invariant.objects in
    let p2 = point f c.step.new.source c.step.new.input c.prepare.new.output c.step.new.held.items c.step.new.errors
    c.step.new.server in
    let p3 =
    point f c.step.new.source c.step.new.input c.flush-in-Err.new.output c.flush-in-Err.new.held.items
    c.step.new.errors
    c.flush-in-Err.new.server in
    let left = g.R.Read.remaining c.step.new.input in
    let cut = step_cut f first p1 c.loop-number.number so p2 objects c.step.ensures.stages.1 refl refl
    (pending c.step.new.source) left refl c.in-Err.fault c.in-Err.ensures.err in
    let flushed = c.in_ok-flush-in-Err.ensures.ok in
    subst
    (IsServeRefusal (TellsAll f.heard f.refuses first.errors p2.errors) (Left f first p3)
    (run_io f first first.ahead first) (run_io f first left p3)) (sym c.of_step.ensures)
    (then_refused f first c.calls_follow_one_another.ensures left p2 p3 cut.0 cut.1
    (same_state c.flush-in-Err.ensures.same.0 c.flush-in-Err.ensures.same.2) (g.met.D.Disk.only_now p3.disk)
    c.flush-in-Err.ensures.any_moment
    c.in-Err.fault cut.2 flushed)

pub loop-number-preserved : goal.loop-number-preserved
loop-number-preserved g c =
    let f = facts g.D.Disk.seen g.D.Disk.may_leave g.D.Disk.moment g.D.Disk.left_since g.R.Read.remaining
    g.W.Write.contents g.E.Write.contents g.E.Listener.refuses in
    let first = start_at f c.args.input.now c.args.out.now c.args.errors.now c.args.server.now in
    let p0 = point f c.loop-number.source c.loop-number.input c.loop-number.out c.loop-number.held.items
    c.loop-number.errors c.loop-number.server in
    let p1 = point f c.loop-number.source c.loop-number.input c.prepare.new.output c.prepare.new.held.items
    c.loop-number.errors c.prepare.new.server in
    let so = so_prepared f first c.calls_follow_one_another.ensures p0 p1 c.loop-number.number
    c.loop-number.invariant.so_far refl refl (same_state c.prepare.ensures.same.0 c.prepare.ensures.same.2)
    (g.met.D.Disk.only_now p1.disk)
    c.in_ok-prepare.ensures.ok in
    let objects = ap (λ s. s.objects) c.prepare.ensures.same.1 ∙ c.loop-number.invariant.objects in
    let p2 = point f c.step.new.source c.step.new.input c.prepare.new.output c.step.new.held.items c.step.new.errors
    c.step.new.server in
    record {
      so_far =
          so_more f first p1 c.loop-number.number so p2 objects c.step.ensures.stages.1 refl refl
          (subst (TurnSteps c.loop-number.number (TellsAll f.heard f.refuses p1.errors p2.errors) (held_io p1)
          (held_io p2))
          c.in-Ok-true.field-0-test c.in-Ok-true.ensures.ok);
      over = c.step.ensures.over;
      settled =
          subst (λ d. IsSettled g.D.Disk.seen g.D.Disk.may_leave d) (sym c.step.ensures.stages.1)
          (c.in_ok-prepare.ensures.settled c.in_ok-prepare.ensures.unclosed);
      takes = c.step.ensures.stages.0;
      later =
          omega (
            arith,
            c.loop-number.invariant.later,
            c.prepare.ensures.later,
            ap g.D.Disk.faults c.step.ensures.stages.1,
          );
      objects = c.step.ensures.stages.2 ∙ objects;
    }

pub returns-in_err-flush-clause-err : goal.returns-in_err-flush-clause-err
returns-in_err-flush-clause-err g c =
    let same : IfErr c.from_residual-in_err-flush.result (λ e. e ≡ c.in_err-flush.field-0.0) = search rules in
    let f = facts g.D.Disk.seen g.D.Disk.may_leave g.D.Disk.moment g.D.Disk.left_since g.R.Read.remaining
    g.W.Write.contents g.E.Write.contents g.E.Listener.refuses in
    let first = start_at f c.args.input.now c.args.out.now c.args.errors.now c.args.server.now in
    let p0 = point f c.loop-number.source c.loop-number.input c.loop-number.out c.loop-number.held.items
    c.loop-number.errors c.loop-number.server in
    let p1 = point f c.loop-number.source c.loop-number.input c.flush-2.new.output c.flush-2.new.held.items
    c.loop-number.errors c.flush-2.new.server in
    let left = g.R.Read.remaining c.loop-number.input in
    if_err_same _ c.in_err-flush.field-0.0 c.from_residual-in_err-flush.result same
    (unflushed f first c.calls_follow_one_another.ensures left p0 p1 []
    (stopped f first p0 c.loop-number.number c.loop-number.invariant.so_far (pending c.loop-number.source) left refl)
    (same_state c.flush-2.ensures.same.0 c.flush-2.ensures.same.2) (g.met.D.Disk.only_now p1.disk)
    c.flush-2.ensures.any_moment
    (g.met.D.Disk.counts_now p1.disk)
    c.in_err-flush.field-0.0 c.in_err-flush.ensures.err)

pub returns-clause-err : goal.returns-clause-err
returns-clause-err g c =
    let f = facts g.D.Disk.seen g.D.Disk.may_leave g.D.Disk.moment g.D.Disk.left_since g.R.Read.remaining
    g.W.Write.contents g.E.Write.contents g.E.Listener.refuses in
    let first = start_at f c.args.input.now c.args.out.now c.args.errors.now c.args.server.now in
    let p0 = point f c.loop-number.source c.loop-number.input c.loop-number.out c.loop-number.held.items
    c.loop-number.errors c.loop-number.server in
    let p1 = point f c.loop-number.source c.loop-number.input c.flush-2.new.output c.flush-2.new.held.items
    c.loop-number.errors c.flush-2.new.server in
    let left = g.R.Read.remaining c.loop-number.input in
    let flushed = c.in_ok-flush.ensures.ok in
    then_refused f first c.calls_follow_one_another.ensures left p0 p1 []
    (stopped f first p0 c.loop-number.number c.loop-number.invariant.so_far (pending c.loop-number.source) left refl)
    (same_state c.flush-2.ensures.same.0 c.flush-2.ensures.same.2) (g.met.D.Disk.only_now p1.disk)
    c.flush-2.ensures.any_moment fault.ReadFault
    refl flushed
