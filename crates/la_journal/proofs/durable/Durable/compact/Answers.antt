use Rattle.std.proofs.Common.{◌≡◌, ℕ, List, refl, sym, ◌∙◌, ap, subst}
use Rattle.la_journal.specs.Disk.{Only}
use Rattle.la_journal.specs.Records.{parts}
use Rattle.la_journal.specs.Journal.{last_in, text_in}
use Rattle.la_journal.specs.Machine.{state_after, SaysState}
use Rattle.la_journal.proofs.Takes.{where_open, open_is}
use Rattle.la_journal.proofs.Compacting.{made_of, compacted_read, compacted_says, compacted_link, compacted_text, compacted_leads, led_throughout}
use Rattle.la_journal.proofs.durable.Durable.compact.Goals as goal

pub invariant_of-self-in-Ok-replace : goal.invariant_of-self-in-Ok-replace
invariant_of-self-in-Ok-replace g c =
    let old = c.args.self.now.disk in
    let was_open = c.if-self.false in
    let settled = c.requires was_open in
    let state = g.M.Machine.state c.args.self.now.machine in
    let headed =
    where_open c.args.self.now.closed c.args.self.now.head.items (text_in (parts (g.D.Disk.seen old))) was_open
    c.args.self.now.headed
    ∙ ap text_in settled.read in
    let made =
    made_of g.M.Machine.named_state state c.in-Ok.made c.in-Some.file c.compacted.new.last c.in-Some.is
    c.deref.ensures.value c.in-Ok.ensures.file in
    let written : g.D.Disk.seen c.replace.new.self ≡ c.in-Some.file.items =
    c.in-Ok-replace.ensures.written ∙ c.deref-2.ensures.value in
    record {
      headed =
          open_is c.args.self.now.closed c.args.self.now.head.items (text_in (parts (g.D.Disk.seen c.replace.new.self)))
          was_open
          (compacted_text g.M.Machine.named_state state (g.D.Disk.seen old) settled.has settled.read settled.whole
          c.args.self.now.head.items
          headed c.in-Some.file.items c.compacted.new.last made
          ∙ ap (λ (f : List ℕ). text_in (parts f)) (sym written));
      linked =
          open_is c.args.self.now.closed c.compacted.new.last (last_in (parts (g.D.Disk.seen c.replace.new.self)))
          was_open
          (compacted_link g.M.Machine.named_state state (g.D.Disk.seen old) settled.has settled.read settled.whole
          c.args.self.now.head.items
          headed c.in-Some.file.items c.compacted.new.last made
          ∙ ap (λ (f : List ℕ). last_in (parts f)) (sym written));
    }

pub returns-in-Ok-replace-clause-compacted : goal.returns-in-Ok-replace-clause-compacted
returns-in-Ok-replace-clause-compacted g c =
    let old = c.args.self.now.disk in
    let was_open = c.if-self.false in
    let settled = c.requires was_open in
    let state = g.M.Machine.state c.args.self.now.machine in
    let headed =
    where_open c.args.self.now.closed c.args.self.now.head.items (text_in (parts (g.D.Disk.seen old))) was_open
    c.args.self.now.headed
    ∙ ap text_in settled.read in
    let made =
    made_of g.M.Machine.named_state state c.in-Ok.made c.in-Some.file c.compacted.new.last c.in-Some.is
    c.deref.ensures.value c.in-Ok.ensures.file in
    let written : g.D.Disk.seen c.replace.new.self ≡ c.in-Some.file.items =
    c.in-Ok-replace.ensures.written ∙ c.deref-2.ensures.value in (
      was_open,
      subst (SaysState g.M.Machine.named_state state) (sym written)
          (compacted_says g.M.Machine.named_state state (g.D.Disk.seen old) settled.has settled.read settled.whole
          c.args.self.now.head.items
          headed c.in-Some.file.items c.compacted.new.last made),
    )

pub returns-in-Ok-replace-clause-leads : goal.returns-in-Ok-replace-clause-leads
returns-in-Ok-replace-clause-leads g c is_open start was =
    let old = c.args.self.now.disk in
    let was_open = c.if-self.false in
    let settled = c.requires was_open in
    let state = g.M.Machine.state c.args.self.now.machine in
    let headed =
    where_open c.args.self.now.closed c.args.self.now.head.items (text_in (parts (g.D.Disk.seen old))) was_open
    c.args.self.now.headed
    ∙ ap text_in settled.read in
    let made =
    made_of g.M.Machine.named_state state c.in-Ok.made c.in-Some.file c.compacted.new.last c.in-Some.is
    c.deref.ensures.value c.in-Ok.ensures.file in
    let written : g.D.Disk.seen c.replace.new.self ≡ c.in-Some.file.items =
    c.in-Ok-replace.ensures.written ∙ c.deref-2.ensures.value in
    ap (state_after g.M.Machine.head g.M.Machine.named_state g.M.Machine.named g.M.Machine.step start) written
    ∙ compacted_leads g.M.Machine.named_state state (g.D.Disk.seen old) settled.has settled.read settled.whole
    c.args.self.now.head.items
    headed c.in-Some.file.items c.compacted.new.last made g.M.Machine.head g.M.Machine.named g.M.Machine.step start was

pub returns-in-Ok-replace-clause-open : goal.returns-in-Ok-replace-clause-open
returns-in-Ok-replace-clause-open g c is_open =
    let old = c.args.self.now.disk in
    let was_open = c.if-self.false in
    let settled = c.requires was_open in
    let state = g.M.Machine.state c.args.self.now.machine in
    let headed =
    where_open c.args.self.now.closed c.args.self.now.head.items (text_in (parts (g.D.Disk.seen old))) was_open
    c.args.self.now.headed
    ∙ ap text_in settled.read in
    let made =
    made_of g.M.Machine.named_state state c.in-Ok.made c.in-Some.file c.compacted.new.last c.in-Some.is
    c.deref.ensures.value c.in-Ok.ensures.file in
    let written : g.D.Disk.seen c.replace.new.self ≡ c.in-Some.file.items =
    c.in-Ok-replace.ensures.written ∙ c.deref-2.ensures.value in
    record {
      has = _;
      read = ap parts written ∙ compacted_read g.M.Machine.named_state state (g.D.Disk.seen old) settled.has
          settled.read settled.whole c.args.self.now.head.items
          headed c.in-Some.file.items c.compacted.new.last made;
      whole = refl;
      durable =
          subst (λ (f : List ℕ). Only f (g.D.Disk.may_leave c.replace.new.self)) (sym c.in-Ok-replace.ensures.written)
          c.in-Ok-replace.ensures.durable;
    }

pub returns-in-Ok-replace-clause-any_moment : goal.returns-in-Ok-replace-clause-any_moment
returns-in-Ok-replace-clause-any_moment g c is_open start was =
    let old = c.args.self.now.disk in
    let was_open = c.if-self.false in
    let settled = c.requires was_open in
    let state = g.M.Machine.state c.args.self.now.machine in
    let headed =
    where_open c.args.self.now.closed c.args.self.now.head.items (text_in (parts (g.D.Disk.seen old))) was_open
    c.args.self.now.headed
    ∙ ap text_in settled.read in
    let made =
    made_of g.M.Machine.named_state state c.in-Ok.made c.in-Some.file c.compacted.new.last c.in-Some.is
    c.deref.ensures.value c.in-Ok.ensures.file in
    let leads = state_after g.M.Machine.head g.M.Machine.named_state g.M.Machine.named g.M.Machine.step start in
    led_throughout g.D.Disk.seen g.D.Disk.may_leave g.D.Disk.moment g.D.Disk.left_since leads g.M.Machine.step old
    c.replace.new.self state c.deref-2.result.now settled (g.met.D.Disk.only_now old) c.replace.ensures.time
    c.replace.ensures.crash was
    (ap leads c.deref-2.ensures.value
    ∙ compacted_leads g.M.Machine.named_state state (g.D.Disk.seen old) settled.has settled.read settled.whole
    c.args.self.now.head.items
    headed c.in-Some.file.items c.compacted.new.last made g.M.Machine.head g.M.Machine.named g.M.Machine.step start was)

pub returns-clause-any_moment : goal.returns-clause-any_moment
returns-clause-any_moment g c is_open start was =
    let old = c.args.self.now.disk in
    let was_open = c.if-self.false in
    let settled = c.requires was_open in
    let state = g.M.Machine.state c.args.self.now.machine in
    let headed =
    where_open c.args.self.now.closed c.args.self.now.head.items (text_in (parts (g.D.Disk.seen old))) was_open
    c.args.self.now.headed
    ∙ ap text_in settled.read in
    let made =
    made_of g.M.Machine.named_state state c.in-Ok.made c.in-Some.file c.compacted.new.last c.in-Some.is
    c.deref.ensures.value c.in-Ok.ensures.file in
    let leads = state_after g.M.Machine.head g.M.Machine.named_state g.M.Machine.named g.M.Machine.step start in
    led_throughout g.D.Disk.seen g.D.Disk.may_leave g.D.Disk.moment g.D.Disk.left_since leads g.M.Machine.step old
    c.replace.new.self state c.deref-2.result.now settled (g.met.D.Disk.only_now old) c.replace.ensures.time
    c.replace.ensures.crash was
    (ap leads c.deref-2.ensures.value
    ∙ compacted_leads g.M.Machine.named_state state (g.D.Disk.seen old) settled.has settled.read settled.whole
    c.args.self.now.head.items
    headed c.in-Some.file.items c.compacted.new.last made g.M.Machine.head g.M.Machine.named g.M.Machine.step start was)
