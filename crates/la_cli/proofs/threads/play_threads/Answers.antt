use Rattle.std.proofs.Common.{rules, ◌↔◌, map, IsTrue, List, sym, subst}
use Rattle.la_runner.specs.Runs.{Back, back_of}
use Rattle.la_cli.specs.declared.error.PlayFault.{PlayFault}
use Rattle.la_cli.specs.Play.{FitAnyGroup}
use Rattle.la_io.specs.Streams.{AppendsPrefix}
use Rattle.la_cli.specs.Threads.{AreLogs, LogsAgree, IsThreadsRefusal, threads_text}
use Rattle.la_cli.proofs.threads.play_threads.Goals as goal

pub returns-in_err-write_out-clause-error : goal.returns-in_err-write_out-clause-error
returns-in_err-write_out-clause-error g c =
    let fit : FitAnyGroup c.args.shelves.items = search rules in
    let logs : List Back = map (λ l. back_of l.replica l.member l.shelf l.entries l.stopped) c.in_ok-logs.logs in
    let old = g.W.Write.contents c.args.writer.now in
    let new = g.W.Write.contents c.write_out.new.writer in
    let are : AreLogs c.args.shelves.items c.args.replicas c.args.each logs = c.in_ok-logs.ensures.ok in
    let verdict : IsTrue c.agree-agreed.result ↔ LogsAgree logs = c.agree-agreed.ensures in
    let wrote : AppendsPrefix old new (threads_text c.args.replicas c.args.each logs c.agree-agreed.result) =
    subst (AppendsPrefix old new) c.in_ok-text.ensures c.in_err-write_out.ensures.error.1 in
    let refused : IsThreadsRefusal c.args.shelves.items c.args.replicas c.args.each old new c.in_err-write_out.field-0.0
    =
    subst (λ (e : PlayFault). IsThreadsRefusal c.args.shelves.items c.args.replicas c.args.each old new e)
    (sym c.in_err-write_out.ensures.error.0)
    (record { fit = fit; logs = logs; agreed = c.agree-agreed.result; are = are; verdict = verdict; wrote = wrote }) in
    search (rules, refused)
