use Rattle.std.proofs.Common.{◌++◌, ◌∷◌, [], ℕ, List, Some, sym, ◌∙◌, ap, subst, arith}
use Rattle.la_journal.specs.Commits.{AreWhole}
use Rattle.la_journal.specs.Records.{parts, ended}
use Rattle.la_journal.specs.Journal.{lines, last_in}
use Rattle.la_journal.proofs.Groups.{AreLines, whole_of, ended_of, no_end_in}
use Rattle.la_journal.proofs.Takes.{takes_lines, takes_settled, where_open}
use Rattle.la_journal.proofs.Together.{commit_leads, commit_leaves}
use Rattle.la_journal.proofs.durable.Durable.handle.Goals as goal

pub keep-requires-clause-lines : goal.keep-requires-clause-lines
keep-requires-clause-lines g c =
    let text = g.M.Machine.text (g.M.Machine.call c.args.input.now) in
    let clean = g.met.M.Machine.clean (g.M.Machine.call c.args.input.now) in
    subst (AreWhole []) (sym c.in-Ok.ensures.line) (whole_of (text ∷ []) (no_end_in text clean.0, clean.2, tt))

pub returns-in-Ok-keep-clause-acknowledged : goal.returns-in-Ok-keep-clause-acknowledged
returns-in-Ok-keep-clause-acknowledged g c =
    let old = c.args.self.now.disk in
    let is_open = c.if-self.false in
    let text = g.M.Machine.text (g.M.Machine.call c.args.input.now) in
    let clean = g.met.M.Machine.clean (g.M.Machine.call c.args.input.now) in
    let are : AreLines (text ∷ []) = (no_end_in text clean.0, clean.2, tt) in
    let group : AreWhole [] c.in-Ok.group.items = subst (AreWhole []) (sym c.in-Ok.ensures.line) (whole_of (text ∷ [])
    are) in
    let linked = where_open c.args.self.now.closed c.args.self.now.last (last_in (parts (g.D.Disk.seen old))) is_open
    c.args.self.now.linked in (
      c.in-Ok-keep.ensures.durable.0,
      takes_settled g.D.Disk.seen g.D.Disk.may_leave old (c.requires is_open) c.args.self.now.last linked
          c.in-Ok.group.items group c.keep.new.self.disk c.in-Ok-keep.ensures.written c.in-Ok-keep.ensures.durable.1,
      (takes_lines g.D.Disk.seen g.D.Disk.may_leave old (c.requires is_open) c.args.self.now.last linked
          c.in-Ok.group.items group c.keep.new.self.disk c.in-Ok-keep.ensures.written).lines_are
          ∙ ap (λ (l : List (List ℕ)). lines (g.D.Disk.seen old) ++ l)
          (ap ended c.in-Ok.ensures.line ∙ ended_of (text ∷ []) are),
      c.in-Ok-apply.ensures.step ∙ ap (λ m. Some (g.M.Machine.state m)) (sym c.keep.ensures.machine),
    )

pub returns-in-Ok-keep-clause-open : goal.returns-in-Ok-keep-clause-open
returns-in-Ok-keep-clause-open g c is_open = (returns-in-Ok-keep-clause-acknowledged g c).1

pub returns-in-Ok-keep-clause-leads : goal.returns-in-Ok-keep-clause-leads
returns-in-Ok-keep-clause-leads g c is_open start was =
    let old = c.args.self.now.disk in
    let call = g.M.Machine.call c.args.input.now in
    let text = g.M.Machine.text call in
    let clean = g.met.M.Machine.clean call in
    let are : AreLines (text ∷ []) = (no_end_in text clean.0, clean.2, tt) in
    let group : AreWhole [] c.in-Ok.group.items = subst (AreWhole []) (sym c.in-Ok.ensures.line) (whole_of (text ∷ [])
    are) in
    let linked = where_open c.args.self.now.closed c.args.self.now.last (last_in (parts (g.D.Disk.seen old)))
    c.if-self.false c.args.self.now.linked in
    commit_leads g.D.Disk.seen g.D.Disk.may_leave old (c.requires c.if-self.false) c.args.self.now.last linked
    c.in-Ok.group.items group g.M.Machine.head g.M.Machine.named_state g.M.Machine.named g.M.Machine.step
    g.M.Machine.text g.met.M.Machine.round_trip g.met.M.Machine.clean start (g.M.Machine.state c.args.self.now.machine)
    was (call ∷ []) (ap ended c.in-Ok.ensures.line ∙ ended_of (text ∷ []) are) (g.D.Disk.seen c.keep.new.self.disk)
    (takes_lines g.D.Disk.seen g.D.Disk.may_leave old (c.requires c.if-self.false) c.args.self.now.last linked
    c.in-Ok.group.items group c.keep.new.self.disk c.in-Ok-keep.ensures.written)
    ∙ c.in-Ok-apply.ensures.step ∙ ap (λ m. Some (g.M.Machine.state m)) (sym c.keep.ensures.machine)

pub returns-in-Ok-keep-clause-any_moment : goal.returns-in-Ok-keep-clause-any_moment
returns-in-Ok-keep-clause-any_moment g c is_open start was =
    let old = c.args.self.now.disk in
    let call = g.M.Machine.call c.args.input.now in
    let text = g.M.Machine.text call in
    let clean = g.met.M.Machine.clean call in
    let are : AreLines (text ∷ []) = (no_end_in text clean.0, clean.2, tt) in
    let group : AreWhole [] c.in-Ok.group.items = subst (AreWhole []) (sym c.in-Ok.ensures.line) (whole_of (text ∷ [])
    are) in
    let linked = where_open c.args.self.now.closed c.args.self.now.last (last_in (parts (g.D.Disk.seen old))) is_open
    c.args.self.now.linked in
    commit_leaves g.D.Disk.seen g.D.Disk.may_leave old (c.requires is_open) c.args.self.now.last linked
    c.in-Ok.group.items group g.M.Machine.head g.M.Machine.named_state g.M.Machine.named g.M.Machine.step
    g.M.Machine.text g.met.M.Machine.round_trip g.met.M.Machine.clean start (g.M.Machine.state c.args.self.now.machine)
    was (call ∷ []) 1 (omega arith) (ap ended c.in-Ok.ensures.line ∙ ended_of (text ∷ []) are) g.D.Disk.moment
    g.D.Disk.left_since c.keep.new.self.disk c.keep.ensures.any_moment

pub returns-clause-any_moment : goal.returns-clause-any_moment
returns-clause-any_moment g c is_open start was =
    let old = c.args.self.now.disk in
    let call = g.M.Machine.call c.args.input.now in
    let text = g.M.Machine.text call in
    let clean = g.met.M.Machine.clean call in
    let are : AreLines (text ∷ []) = (no_end_in text clean.0, clean.2, tt) in
    let group : AreWhole [] c.in-Ok.group.items = subst (AreWhole []) (sym c.in-Ok.ensures.line) (whole_of (text ∷ [])
    are) in
    let linked = where_open c.args.self.now.closed c.args.self.now.last (last_in (parts (g.D.Disk.seen old))) is_open
    c.args.self.now.linked in
    commit_leaves g.D.Disk.seen g.D.Disk.may_leave old (c.requires is_open) c.args.self.now.last linked
    c.in-Ok.group.items group g.M.Machine.head g.M.Machine.named_state g.M.Machine.named g.M.Machine.step
    g.M.Machine.text g.met.M.Machine.round_trip g.met.M.Machine.clean start (g.M.Machine.state c.args.self.now.machine)
    was (call ∷ []) 1 (omega arith) (ap ended c.in-Ok.ensures.line ∙ ended_of (text ∷ []) are) g.D.Disk.moment
    g.D.Disk.left_since c.keep.new.self.disk c.keep.ensures.any_moment
