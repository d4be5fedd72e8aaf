use Rattle.std.proofs.Common.{sym, ◌∙◌}
use Rattle.la_journal.specs.Journal.{last_in, text_in}
use Rattle.la_journal.specs.Records.{parts}
use Rattle.la_journal.proofs.Takes.{takes_link, takes_text, where_open, open_is}
use Rattle.la_journal.proofs.durable.Durable.keep.Goals as goal

pub invariant_of-self : goal.invariant_of-self
invariant_of-self g c =
    let old = c.args.self.now.disk in
    let is_open = c.requires.open in
    let text = c.args.group.now.items in
    let linked =
    where_open c.args.self.now.closed c.args.self.now.last (last_in (parts (g.D.Disk.seen old))) is_open
    c.args.self.now.linked in
    record {
      headed =
          open_is c.args.self.now.closed c.args.self.now.head.items (text_in (parts (g.D.Disk.seen c.put.new.disk)))
          is_open
          (where_open c.args.self.now.closed c.args.self.now.head.items (text_in (parts (g.D.Disk.seen old))) is_open
          c.args.self.now.headed
          ∙ sym (takes_text g.D.Disk.seen g.D.Disk.may_leave old c.requires.settled c.args.self.now.last linked text
          c.requires.lines c.put.new.disk c.in-Ok.ensures.written));
      linked =
          open_is c.args.self.now.closed c.put.new.last (last_in (parts (g.D.Disk.seen c.put.new.disk))) is_open
          (c.put.ensures.last
          ∙ takes_link g.D.Disk.seen g.D.Disk.may_leave old c.requires.settled c.args.self.now.last linked text
          c.requires.lines c.put.new.disk c.in-Ok.ensures.written);
    }
