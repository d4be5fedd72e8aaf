use Rattle.std.proofs.Common.{inl, inr, sym, subst, IfErr, ◌<◌}
use Rattle.la_serve.specs.declared.error.NodeFault.TheVariants.{Memory}
use Rattle.la_serve.specs.Faults.{IfDisk}
use Rattle.la_serve.specs.Io.{facts, io}
use Rattle.la_serve.specs.Starting.{RunsNot, IsServerStartRefusal}
use Rattle.la_serve.proofs.Starts.{untouched}
use Rattle.la_serve.proofs.starting.run_with.Goals as goal

pub returns-in_default : goal.returns-in_default
returns-in_default g c =
    let f = facts g.D.Disk.seen g.D.Disk.may_leave g.D.Disk.moment g.D.Disk.left_since g.R.Read.remaining
    g.W.Write.contents g.E.Write.contents g.E.Listener.refuses in
    let old = io c.args.input.now c.args.out.now c.args.errors.now in
    inr (record {
      why = Memory;
      is = c.ended.ensures.status;
      between = c.args.errors.now;
      stops =
          inl (subst (λ d. RunsNot f c.args.options.now c.args.disk d old old) (sym
          c.ended.ensures.disk)
          (untouched f c.args.options.now c.args.disk old (g.met.D.Disk.only_now c.args.disk)));
      failed = tt;
      told = c.ended.ensures.told;
    })

pub returns-in-Err-default : goal.returns-in-Err-default
returns-in-Err-default g c =
    let f = facts g.D.Disk.seen g.D.Disk.may_leave g.D.Disk.moment g.D.Disk.left_since g.R.Read.remaining
    g.W.Write.contents g.E.Write.contents g.E.Listener.refuses in
    let old = io c.args.input.now c.args.out.now c.args.errors.now in
    let new = io c.start.new.input c.start.new.out c.start.new.errors in
    let why = c.in-Err-default.fault in
    let both = subst
    (λ r.
    IfErr r (λ w.
    IsServerStartRefusal f c.in-Ok.shelf.objects c.args.options.now c.args.disk c.start.result.1 old new w
    × IfDisk w (g.D.Disk.faults c.args.disk < g.D.Disk.faults c.start.result.1))) c.in-Err-default.is-0
    c.start.ensures.1 in
    let stops : IsServerStartRefusal f c.args.options.now.objects c.args.options.now c.args.disk c.start.result.1 old new why =
    subst (λ objects. IsServerStartRefusal f objects c.args.options.now c.args.disk c.start.result.1 old new why)
    c.in-Ok.ensures.1 both.0 in
    inr (record {
      why = why;
      is = c.ended-in-Err-default.ensures.status;
      between = c.start.new.errors;
      stops =
          subst (λ d. IsServerStartRefusal f c.args.options.now.objects c.args.options.now c.args.disk d old new why)
          (sym c.ended-in-Err-default.ensures.disk) stops;
      failed =
          subst (λ d. IfDisk why (g.D.Disk.faults c.args.disk < g.D.Disk.faults d))
          (sym c.ended-in-Err-default.ensures.disk) both.1;
      told = c.ended-in-Err-default.ensures.told;
    })
