use Rattle.std.proofs.Common.{arith, ◌≤◌, ◌<◌, ◌≡◌, refl, ℕ, Some, OnOk, IfErr, rules, length, sym, subst, ap, ◌∙◌}
use Rattle.la_set.specs.Histories.{Histories}
use Rattle.la_set.specs.Inclusion.{IsSubset}
use Rattle.la_journal.specs.Disk.{LeavesOnly}
use Rattle.la_journal.specs.Durable.{IsSameOr}
use Rattle.la_journal.specs.Journal.{lines}
use Rattle.la_durable.specs.declared.machine.NodeMachine.{NodeMachine}
use Rattle.la_journal.specs.Playing.{IsNotPlayed}
use Rattle.la_durable.specs.CallLines.{call_line}
use Rattle.la_durable.specs.Errors.{IsForMemory}
use Rattle.la_durable.specs.Heads.{node_head}
use Rattle.la_durable.specs.NodeStates.{named_node}
use Rattle.la_durable.specs.Nodes.{kept_by, step}
use Rattle.la_serve.specs.Faults.{of_journal, IfDisk}
use Rattle.la_serve.specs.declared.error.NodeFault.{NodeFault}
use Rattle.la_durable.specs.Restarts.{leads_from}
use Rattle.la_serve.specs.Crashes.{at_start}
use Rattle.la_serve.specs.Io.{facts, io}
use Rattle.la_io.specs.Streams.{TellsAll}
use Rattle.la_serve.specs.Starting.{RunsAll, RunsNot, IsServerStartRefusal, torn_told}
use Rattle.la_serve.proofs.Starts.{nothing_within, untouched, runs, stops, not_played, disk_failed, failed_later}
use Rattle.la_serve.proofs.Starts.{err_both, compacted_behind, not_compacted, compacting_failed}
use Rattle.la_serve.specs.Starting.{Begins, GoesOnWith, is_grown}
use Rattle.la_serve.proofs.starting.start.Goals as goal

pub serve-served-requires-clause-takes : goal.serve-served-requires-clause-takes
serve-served-requires-clause-takes g c κs within = (
  ap (λ d. d.closed) c.new-node.ensures.durable ∙ c.in-Ok-compact_grown.ensures.ok.unclosed,
  subst (λ (v : Histories). IsSubset v c.new-node.result.durable.machine.node.replica.view)
      (sym c.requires.0)
      (nothing_within c.new-node.result.durable.machine.node.replica.view),
)

pub returns-in-Ok-compact_grown : goal.returns-in-Ok-compact_grown
returns-in-Ok-compact_grown g c =
    let f = facts g.D.Disk.seen g.D.Disk.may_leave g.D.Disk.moment g.D.Disk.left_since g.R.Read.remaining
    g.W.Write.contents g.E.Write.contents g.E.Listener.refuses in
    let objects = c.args.shelf.objects in
    let disk = c.args.disk in
    let options = c.args.options.now in
    let fresh = at_start options.config options.own in
    let start = c.in-Ok.ensures.start in
    let played = c.in-Ok-recover.durable in
    let compacted = c.compact_grown.new.durable in
    let served = c.new-node.result.durable in
    let unsaid = c.in-Ok-compact_grown.unsaid in
    let final = c.serve-served.new.server.node.durable.disk in
    let is = c.new-node.ensures.durable in
    let same_state : kept_by served.machine ≡ kept_by played.machine =
    ap (λ d. kept_by d.machine) is ∙ ap kept_by c.compact_grown.ensures.machine in
    let old = io c.args.input.now c.args.out.now c.args.errors.now in
    let new = io c.serve-served.new.input c.serve-served.new.out c.serve-served.new.errors in
    let plays_first = ap (λ (m : NodeMachine). leads_from (kept_by m) (f.seen disk)) (sym start)
    ∙ c.in-Ok-recover.ensures.state in
    let leads_first = ap (λ (m : NodeMachine). leads_from (kept_by m) (f.seen played.disk)) (sym start)
    ∙ c.in-Ok-recover.ensures.leads in
    let leads = ap (λ d. leads_from fresh (f.seen d.disk)) is
    ∙ c.in-Ok-compact_grown.ensures.ok.leads fresh leads_first ∙ ap Some (sym same_state) in
    let grown : c.is_grown-grown.result ≡ is_grown options.compact (length (f.seen disk)) =
    c.is_grown-grown.ensures ∙ ap (λ n. is_grown options.compact n) (search rules) in
    let goes_on = subst
    (λ d. GoesOnWith (is_grown options.compact (length (f.seen disk))) unsaid (kept_by served.machine)
    (lines (f.seen disk)) (lines (f.seen d.disk))) (sym is)
    (subst
    (λ s. GoesOnWith (is_grown options.compact (length (f.seen disk))) unsaid s (lines (f.seen disk))
    (lines (f.seen compacted.disk))) (sym same_state)
    (subst
    (λ ls. GoesOnWith (is_grown options.compact (length (f.seen disk))) unsaid (kept_by played.machine) ls
    (lines (f.seen compacted.disk))) c.in-Ok-recover.ensures.same
    (subst
    (λ b. GoesOnWith b unsaid (kept_by played.machine) (lines (f.seen played.disk)) (lines (f.seen compacted.disk)))
    grown c.in-Ok-compact_grown.ensures.ok.goes_on))) in
    let begun : Begins options (f.seen disk) (kept_by served.machine) (lines (f.seen served.disk)) = record {
      plays = plays_first ∙ ap Some (sym same_state);
      unsaid = unsaid;
      goes_on = goes_on;
    } in
    let later : g.D.Disk.faults disk ≤ g.D.Disk.faults served.disk =
    subst (λ d. g.D.Disk.faults disk ≤ g.D.Disk.faults d.disk) (sym is)
    (omega (arith, c.in-Ok-recover.ensures.later, c.compact_grown.ensures.later)) in
    let told_first = subst
    (λ (n : ℕ). TellsAll g.E.Write.contents g.E.Listener.refuses c.args.errors.now c.tell_cut.new.errors (torn_told n))
    c.in-Ok-recover.ensures.cut c.tell_cut.ensures in
    let recovery = subst
    (λ (m : NodeMachine).
    LeavesOnly f.moment f.left_since disk played.disk
    (IsSameOr (f.may_leave disk) (leads_from (kept_by m)) (f.seen disk))) start
    c.in-Ok-recover.ensures.any_moment in
    let both = subst
    (λ d. LeavesOnly f.moment f.left_since disk d.disk
    (IsSameOr (f.may_leave disk) (leads_from fresh) (f.seen disk))) (sym is)
    (compacted_behind f.moment f.left_since (f.may_leave disk) (leads_from fresh) (f.seen disk) (kept_by played.machine)
    disk played.disk compacted.disk plays_first recovery (c.compact_grown.ensures.any_moment fresh leads_first)) in (
      subst (λ d. OnOk c.serve-served.result (RunsAll f objects options disk d old new)) (sym c.into_disk.ensures)
          (runs f objects _ options disk served.disk final old new c.tell_unsaid.new.errors _ _ _
          c.links_at_start-links.ensures begun leads both c.tell_cut.new.errors told_first c.tell_unsaid.ensures
          c.serve-served.result c.serve-served.ensures.ok),
      subst
          (λ d.
          IfErr c.serve-served.result (λ why. IsServerStartRefusal f objects options disk d old new why × IfDisk why
          (g.D.Disk.faults disk < g.D.Disk.faults d)))
          (sym c.into_disk.ensures)
          (err_both c.serve-served.result _ _
          (stops f objects _ options disk served.disk final old new c.tell_unsaid.new.errors _ _ _
          c.links_at_start-links.ensures begun leads both c.tell_cut.new.errors told_first c.tell_unsaid.ensures
          c.serve-served.result c.serve-served.ensures.err)
          (failed_later c.serve-served.result (g.D.Disk.faults disk) (g.D.Disk.faults served.disk)
          (g.D.Disk.faults final) later c.serve-served.ensures.failed)),
    )

pub returns-in-Err-compact_grown : goal.returns-in-Err-compact_grown
returns-in-Err-compact_grown g c =
    let f = facts g.D.Disk.seen g.D.Disk.may_leave g.D.Disk.moment g.D.Disk.left_since g.R.Read.remaining
    g.W.Write.contents g.E.Write.contents g.E.Listener.refuses in
    let objects = c.args.shelf.objects in
    let disk = c.args.disk in
    let options = c.args.options.now in
    let fresh = at_start options.config options.own in
    let start = c.in-Ok.ensures.start in
    let played = c.in-Ok-recover.durable in
    let final = c.compact_grown.new.durable.disk in
    let why = c.in-Err-compact_grown.fault in
    let same = io c.args.input.now c.args.out.now c.args.errors.now in
    let plays_first = ap (λ (m : NodeMachine). leads_from (kept_by m) (f.seen disk)) (sym start)
    ∙ c.in-Ok-recover.ensures.state in
    let leads_first = ap (λ (m : NodeMachine). leads_from (kept_by m) (f.seen played.disk)) (sym start)
    ∙ c.in-Ok-recover.ensures.leads in
    let recovery = subst
    (λ (m : NodeMachine).
    LeavesOnly f.moment f.left_since disk played.disk
    (IsSameOr (f.may_leave disk) (leads_from (kept_by m)) (f.seen disk))) start
    c.in-Ok-recover.ensures.any_moment in
    let not : RunsNot f options disk final same same = record {
      unread = refl;
      unwritten = refl;
      ungiven = refl;
      untold = refl;
      left =
          compacted_behind f.moment f.left_since (f.may_leave disk) (leads_from fresh) (f.seen disk)
          (kept_by played.machine) disk played.disk final plays_first recovery
          (c.compact_grown.ensures.any_moment fresh leads_first);
    } in (
      tt,
      subst
          (λ d. IsServerStartRefusal f objects options disk d same same why × IfDisk why (g.D.Disk.faults disk
          < g.D.Disk.faults d)) (sym c.disk_of.ensures) (
            not_compacted f objects options disk final same same _ not why c.in-Err-compact_grown.ensures.cause,
            compacting_failed (g.D.Disk.faults disk) (g.D.Disk.faults played.disk) (g.D.Disk.faults final)
                c.in-Ok-recover.ensures.later why c.in-Err-compact_grown.ensures.cause,
          ),
    )

pub returns-in-Err : goal.returns-in-Err
returns-in-Err g c =
    let f = facts g.D.Disk.seen g.D.Disk.may_leave g.D.Disk.moment g.D.Disk.left_since g.R.Read.remaining
    g.W.Write.contents g.E.Write.contents g.E.Listener.refuses in
    let old = io c.args.input.now c.args.out.now c.args.errors.now in
    (tt, ((untouched f c.args.options.now c.args.disk old (g.met.D.Disk.only_now c.args.disk), search rules), tt))

pub returns-in-Err-recover : goal.returns-in-Err-recover
returns-in-Err-recover g c =
    let f = facts g.D.Disk.seen g.D.Disk.may_leave g.D.Disk.moment g.D.Disk.left_since g.R.Read.remaining
    g.W.Write.contents g.E.Write.contents g.E.Listener.refuses in
    let disk = c.args.disk in
    let options = c.args.options.now in
    let final = c.in-Err-recover.disk in
    let why = c.in-Err-recover.why in
    let fresh = at_start options.config options.own in
    let same = io c.args.input.now c.args.out.now c.args.errors.now in
    let cause = subst
    (λ (m : NodeMachine).
    IsNotPlayed IsForMemory node_head named_node call_line step (kept_by m) (g.D.Disk.faults disk)
    (g.D.Disk.faults final) (f.seen disk) why) c.in-Ok.ensures.start c.in-Err-recover.ensures.cause in
    let left = subst
    (λ (m : NodeMachine).
    LeavesOnly f.moment f.left_since disk final (IsSameOr (f.may_leave disk) (leads_from (kept_by m)) (f.seen disk)))
    c.in-Ok.ensures.start c.in-Err-recover.ensures.any_moment_err in
    let not : RunsNot f options disk final same same = record {
      unread = refl;
      unwritten = refl;
      ungiven = refl;
      untold = refl;
      left = left;
    } in
    let head : c.deref.result.now ≡ node_head fresh = search rules in
    let count : c.len-found_count.result ≡ length (f.seen disk) = search rules in
    let told : c.fault_of-fault.result ≡ of_journal (node_head fresh) options.config.replicas (length (f.seen disk)) why
    =
    c.fault_of-fault.ensures
    ∙ (λ i. of_journal (head i) options.config.replicas (count i) why) in (
      tt,
      subst
          (λ (w : NodeFault).
          IsServerStartRefusal f c.args.shelf.objects options disk final same same w × IfDisk w (g.D.Disk.faults disk
          < g.D.Disk.faults final)) (sym told) (
            not_played f c.args.shelf.objects options disk final same same (g.D.Disk.faults disk) (g.D.Disk.faults
                final) not why c.in-Err-recover.ensures.untouched cause,
            disk_failed options.config.replicas (length (f.seen disk)) (node_head fresh) (f.seen disk) fresh
                (g.D.Disk.faults disk)
                (g.D.Disk.faults final) why cause,
          ),
    )
