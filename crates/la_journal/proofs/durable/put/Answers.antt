use Rattle.std.proofs.Common.{ℕ, List, ◌∙◌, subst}
use Rattle.la_journal.specs.Disk.{CrashesFollow, Torn}
use Rattle.la_journal.specs.Commits.{with_record}
use Rattle.la_journal.specs.Records.{record_line}
use Rattle.la_journal.proofs.Takes.{appended, synced}
use Rattle.la_journal.proofs.durable.put.Goals as goal

pub returns-in_err-append-clause-any_moment : goal.returns-in_err-append-clause-any_moment
returns-in_err-append-clause-any_moment g c =
    appended g.D.Disk.may_leave g.D.Disk.moment g.D.Disk.left_since c.args.disk.now c.append.new.self
    (with_record record_line c.args.last.now c.args.group.now.items) (g.met.D.Disk.only_now c.args.disk.now)
    c.append.ensures.time
    (subst (λ (b : List ℕ). CrashesFollow (Torn b) (g.D.Disk.may_leave c.args.disk.now) (g.D.Disk.may_leave
    c.append.new.self))
    (c.deref.ensures.value ∙ c.put_record.ensures.group) c.append.ensures.crash)

pub returns-clause-any_moment : goal.returns-clause-any_moment
returns-clause-any_moment g c =
    synced g.D.Disk.may_leave g.D.Disk.moment g.D.Disk.left_since c.args.disk.now c.append.new.self
    (with_record record_line c.args.last.now c.args.group.now.items) (g.met.D.Disk.only_now c.args.disk.now)
    c.append.ensures.time
    (subst (λ (b : List ℕ). CrashesFollow (Torn b) (g.D.Disk.may_leave c.args.disk.now) (g.D.Disk.may_leave
    c.append.new.self))
    (c.deref.ensures.value ∙ c.put_record.ensures.group) c.append.ensures.crash) c.sync.new.self c.sync.ensures.time
    c.sync.ensures.crash
