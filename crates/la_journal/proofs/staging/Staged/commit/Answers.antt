use Rattle.std.proofs.Common.{◌≡◌, ◌++◌, List, ℕ, length, map, vec_len, sym, ◌∙◌, ap, arith, rules}
use Rattle.std.proofs.lemmas.List.{append-nil, take_all}
use Rattle.la_journal.specs.Journal.{lines, last_in}
use Rattle.la_journal.specs.Records.{parts, ended}
use Rattle.la_journal.specs.Machine.{steps}
use Rattle.la_journal.proofs.Takes.{takes_lines, takes_settled, where_open}
use Rattle.la_journal.proofs.Together.{are_group, commit_leads, commit_leaves, so_long, no_bytes, no_calls}
use Rattle.la_journal.proofs.staging.Staged.commit.Goals as goal

pub returns-then-is_empty-clause-ok : goal.returns-then-is_empty-clause-ok
returns-then-is_empty-clause-ok g c =
    let long : length c.args.self.now.text.items ≡ vec_len c.args.self.now.text = search rules in
    let none =
    no_bytes c.args.self.now.text.items
    (long ∙ so_long (vec_len c.args.self.now.text) (sym c.is_empty.ensures ∙ c.if-is_empty.true)) in (
      c.if-self.false,
      sym (append-nil (lines (g.D.Disk.seen c.args.self.now.durable.disk)))
          ∙ ap (λ (t : List ℕ). lines (g.D.Disk.seen c.args.self.now.durable.disk) ++ ended t) (sym none),
      none,
    )

pub returns-then-is_empty-clause-leads : goal.returns-then-is_empty-clause-leads
returns-then-is_empty-clause-leads g c start before calls was are =
    let long : length c.args.self.now.text.items ≡ vec_len c.args.self.now.text = search rules in
    let none =
    no_bytes c.args.self.now.text.items
    (long ∙ so_long (vec_len c.args.self.now.text) (sym c.is_empty.ensures ∙ c.if-is_empty.true)) in
    was
    ∙ ap (λ (cs : List g.M.Machine.Call). steps g.M.Machine.step cs before)
    (sym (no_calls g.M.Machine.text calls (sym are ∙ ap ended none)))

pub keep-requires-clause-lines : goal.keep-requires-clause-lines
keep-requires-clause-lines g c = are_group c.args.self.now.text.items c.args.self.now.whole c.args.self.now.plain

pub returns-in-Ok-clause-ok : goal.returns-in-Ok-clause-ok
returns-in-Ok-clause-ok g c =
    let old = c.args.self.now.durable.disk in
    let is_open = c.if-self.false in
    let text = c.args.self.now.text.items in
    let group = are_group text c.args.self.now.whole c.args.self.now.plain in
    let linked =
    where_open c.args.self.now.durable.closed c.args.self.now.durable.last (last_in (parts (g.D.Disk.seen old))) is_open
    c.args.self.now.durable.linked in (
      c.in-Ok.ensures.durable.0,
      (takes_lines g.D.Disk.seen g.D.Disk.may_leave old (c.requires is_open) c.args.self.now.durable.last linked text
          group c.keep.new.self.disk c.in-Ok.ensures.written).lines_are,
      c.clear-in-Ok.ensures.items,
    )

pub returns-in-Ok-clause-open : goal.returns-in-Ok-clause-open
returns-in-Ok-clause-open g c still_open =
    let old = c.args.self.now.durable.disk in
    let is_open = c.if-self.false in
    let text = c.args.self.now.text.items in
    let group = are_group text c.args.self.now.whole c.args.self.now.plain in
    let linked =
    where_open c.args.self.now.durable.closed c.args.self.now.durable.last (last_in (parts (g.D.Disk.seen old))) is_open
    c.args.self.now.durable.linked in
    takes_settled g.D.Disk.seen g.D.Disk.may_leave old (c.requires is_open) c.args.self.now.durable.last linked text
    group c.keep.new.self.disk c.in-Ok.ensures.written c.in-Ok.ensures.durable.1

pub returns-in-Ok-clause-leads : goal.returns-in-Ok-clause-leads
returns-in-Ok-clause-leads g c start before calls was are =
    let old = c.args.self.now.durable.disk in
    let is_open = c.if-self.false in
    let text = c.args.self.now.text.items in
    let group = are_group text c.args.self.now.whole c.args.self.now.plain in
    let linked =
    where_open c.args.self.now.durable.closed c.args.self.now.durable.last (last_in (parts (g.D.Disk.seen old))) is_open
    c.args.self.now.durable.linked in
    commit_leads g.D.Disk.seen g.D.Disk.may_leave old (c.requires is_open) c.args.self.now.durable.last linked text
    group g.M.Machine.head g.M.Machine.named_state g.M.Machine.named g.M.Machine.step g.M.Machine.text
    g.met.M.Machine.round_trip g.met.M.Machine.clean start before was calls are (g.D.Disk.seen c.keep.new.self.disk)
    (takes_lines g.D.Disk.seen g.D.Disk.may_leave old (c.requires is_open) c.args.self.now.durable.last linked text
    group c.keep.new.self.disk c.in-Ok.ensures.written)

pub returns-in-Ok-clause-any_moment : goal.returns-in-Ok-clause-any_moment
returns-in-Ok-clause-any_moment g c was_open start before calls was are =
    let old = c.args.self.now.durable.disk in
    let is_open = c.if-self.false in
    let text = c.args.self.now.text.items in
    let group = are_group text c.args.self.now.whole c.args.self.now.plain in
    let linked =
    where_open c.args.self.now.durable.closed c.args.self.now.durable.last (last_in (parts (g.D.Disk.seen old))) is_open
    c.args.self.now.durable.linked in
    commit_leaves g.D.Disk.seen g.D.Disk.may_leave old (c.requires is_open) c.args.self.now.durable.last linked text
    group g.M.Machine.head g.M.Machine.named_state g.M.Machine.named g.M.Machine.step g.M.Machine.text
    g.met.M.Machine.round_trip g.met.M.Machine.clean start before was calls (length calls) (omega arith)
    (are ∙ ap (map g.M.Machine.text) (sym (take_all (length calls) calls (omega arith)))) g.D.Disk.moment
    g.D.Disk.left_since c.keep.new.self.disk c.keep.ensures.any_moment

pub returns-in-Err-clause-any_moment : goal.returns-in-Err-clause-any_moment
returns-in-Err-clause-any_moment g c was_open start before calls was are =
    let old = c.args.self.now.durable.disk in
    let is_open = c.if-self.false in
    let text = c.args.self.now.text.items in
    let group = are_group text c.args.self.now.whole c.args.self.now.plain in
    let linked =
    where_open c.args.self.now.durable.closed c.args.self.now.durable.last (last_in (parts (g.D.Disk.seen old))) is_open
    c.args.self.now.durable.linked in
    commit_leaves g.D.Disk.seen g.D.Disk.may_leave old (c.requires is_open) c.args.self.now.durable.last linked text
    group g.M.Machine.head g.M.Machine.named_state g.M.Machine.named g.M.Machine.step g.M.Machine.text
    g.met.M.Machine.round_trip g.met.M.Machine.clean start before was calls (length calls) (omega arith)
    (are ∙ ap (map g.M.Machine.text) (sym (take_all (length calls) calls (omega arith)))) g.D.Disk.moment
    g.D.Disk.left_since c.keep.new.self.disk c.keep.ensures.any_moment
