use Rattle.std.proofs.Common.{◌≡◌, map, length, subst, sym, arith}
use Rattle.std.specs.List.{All, AllZip}
use Rattle.la_runner.specs.Members.{IsOfGroup}
use Rattle.la_runner.specs.Invariant.{IsMember}
use Rattle.la_runner.specs.Runs.{Place, IsReadyMember, IsWorked, IsBackOf, place_of, places, log_back}
use Rattle.la_runner.proofs.Agreeing.{decisions_compare, decisions_agree, decisions_are_theirs}
use Rattle.la_runner.proofs.Keeping.{long_map}
use Rattle.la_runner.proofs.Noted.{views_of, notes_hold, notes_agree}
use Rattle.la_runner.proofs.Threading.{all_over}
use Rattle.la_runner.proofs.UnderWay.{of_goes}
use Rattle.la_runner.proofs.Counting.{ready_all, all_of_map, zip_maps}
use Rattle.la_runner.proofs.Sharing.{all_worked_more, all_compare, all_honest, places_long, zip_long}
use Rattle.la_runner.proofs.runs.run.Goals as goal

pub starts-requires-clause-shelves : goal.starts-requires-clause-shelves
starts-requires-clause-shelves g c =
    let f = c.is_run.ensures.config.0 c.if-not-is_run.false in
    omega (arith, f.each_shelf, f.each_member, c.args.shelves.ok.0, c.args.members.ok.0)

pub starts-requires-clause-jobs : goal.starts-requires-clause-jobs
starts-requires-clause-jobs g c =
    let f = c.is_run.ensures.config.0 c.if-not-is_run.false in
    omega (arith, f.each_jobs, f.each_member, c.args.jobs.ok.0, c.args.members.ok.0)

pub run_in-requires-clause-ready : goal.run_in-requires-clause-ready
run_in-requires-clause-ready g c κs within =
    let f = c.is_run.ensures.config.0 c.if-not-is_run.false in
    all_of_map (λ (p : Place). IsReadyMember c.args.group.now p.member p.shelf) (λ s. place_of s.member s.shelf s.jobs.items)
    c.in-Ok.begun.items
    (subst (All (λ (p : Place). IsReadyMember c.args.group.now p.member p.shelf)) (sym c.in-Ok.ensures)
    (ready_all c.args.group.now c.args.members.items c.args.shelves.items c.args.jobs.items c.requires f.unused))

pub returns-in-Ok-run_in-clause-config : goal.returns-in-Ok-run_in-clause-config
returns-in-Ok-run_in-clause-config g c = c.is_run.ensures.config.0 c.if-not-is_run.false

pub returns-in-Ok-run_in-clause-keeps : goal.returns-in-Ok-run_in-clause-keeps
returns-in-Ok-run_in-clause-keeps g c =
    let given = places c.args.members.items c.args.shelves.items c.args.jobs.items in
    let done = map log_back c.in-Ok-run_in.done.items in
    let logs = map log_back c.finish.result in
    let first = subst (λ l. AllZip IsBackOf l done) c.in-Ok.ensures
    (zip_maps (λ s. place_of s.member s.shelf s.jobs.items) log_back IsBackOf c.in-Ok.begun.items
    c.in-Ok-run_in.done.items c.in-Ok-run_in.ensures) in
    let each = all_worked_more given done logs first c.finish.ensures.same in
    let hold =
    views_of log_back (map (λ l. l.notes) c.finish.result) c.finish.result c.finish.ensures.notes in
    record {
      each = each;
      comparable = all_compare given logs each c.finish.ensures.seen;
      honest = all_honest log_back given c.finish.result each;
      decisions = decisions_compare given logs each c.finish.ensures.seen;
      agreed = decisions_agree given logs each c.finish.ensures.seen;
      theirs = decisions_are_theirs given logs each c.finish.ensures.seen;
      counted = c.finish.ensures.counted;
      notes = notes_hold given logs each (map (λ l. l.notes) c.finish.result) hold;
      alike = notes_agree given logs each (map (λ l. l.notes) c.finish.result) hold;
    }

pub finish-requires-clause-few : goal.finish-requires-clause-few
finish-requires-clause-few g c =
    let f = c.is_run.ensures.config.0 c.if-not-is_run.false in
    let a = zip_long _ c.in-Ok.begun.items c.in-Ok-run_in.done.items c.in-Ok-run_in.ensures in
    let b = long_map (λ s. place_of s.member s.shelf s.jobs.items) c.in-Ok.begun.items in
    let d : length (map (λ s. place_of s.member s.shelf s.jobs.items) c.in-Ok.begun.items) ≡ length (places c.args.members.items c.args.shelves.items c.args.jobs.items) =
    (λ i. length (c.in-Ok.ensures i)) in
    let e =
    places_long c.args.members.items c.args.shelves.items c.args.jobs.items
    (omega (arith, f.each_shelf, f.each_member)) (omega (arith, f.each_jobs, f.each_member)) in
    omega (arith, a, b, d, e, f.each_member, c.is_run.ensures.few, c.in-Ok-run_in.done.ok.0)

pub finish-requires-clause-of : goal.finish-requires-clause-of
finish-requires-clause-of g c κs within =
    let f = c.is_run.ensures.config.0 c.if-not-is_run.false in
    all_over (λ s b. IsWorked s.member s.shelf s.jobs.items b.replica b.member b.shelf b.entries b.stopped)
    (λ s. IsReadyMember c.args.group.now s.member s.shelf) (λ b. IsOfGroup c.args.group.now b.member × IsMember b.member)
    (λ s b h r. (of_goes c.args.group.now s.member b.member h.goes r.of, h.is)) c.in-Ok.begun.items
    c.in-Ok-run_in.done.items c.in-Ok-run_in.ensures
    (all_of_map (λ (p : Place). IsReadyMember c.args.group.now p.member p.shelf) (λ s. place_of s.member s.shelf s.jobs.items) c.in-Ok.begun.items
    (subst (All (λ (p : Place). IsReadyMember c.args.group.now p.member p.shelf)) (sym c.in-Ok.ensures)
    (ready_all c.args.group.now c.args.members.items c.args.shelves.items c.args.jobs.items c.requires f.unused)))
