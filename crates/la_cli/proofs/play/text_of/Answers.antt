use Rattle.std.proofs.Common.{◌≡◌, reverse, refl, sym, ap, subst, ◌∙◌, arith}
use Rattle.la_world.specs.Events.{event_of}
use Rattle.la_world.specs.Groups.{group_of}
use Rattle.la_world.specs.StandsFor.{kinds_of}
use Rattle.la_world.specs.Calls.{RunGoesOn, report_after}
use Rattle.la_world.proofs.lemmas.Playback.{ran}
use Rattle.la_cli.specs.Play.{group_shelves}
use Rattle.la_cli.proofs.Putting.{put_none, put_more, put_all}
use Rattle.la_cli.proofs.UsedUp.{all_left, taken_within, taken_is, one_taken}
use Rattle.la_cli.proofs.play.text_of.Goals as goal

pub loop-index-init : goal.loop-index-init
loop-index-init g c = record {
  put =
      put_none c.args.version c.args.config (group_shelves c.args.config c.args.shelves.items) c.args.events
      c.in_ok-world.world c.new-text.result c.put_header.new.out
      c.in_ok-world.ensures.config c.in_ok-world.ensures.shelves c.in_ok-world.ensures.stands c.new-text.ensures
      c.in_ok-put_header.ensures;
  left =
      all_left c.args.events c.reverse.new.self.items
      (c.reverse.ensures.items ∙ ap (λ es. reverse es) c.from-left.ensures);
}

pub take_last-event-requires : goal.take_last-event-requires
take_last-event-requires g c =
    let many = c.loop-index.invariant.left.many in let all = c.len-count.ensures in omega arith

pub loop-index-preserved : goal.loop-index-preserved
loop-index-preserved g c =
    let i = c.loop-index.index in
    let h = c.loop-index.invariant.put in
    let left = c.loop-index.invariant.left in
    let rest = c.take_last-event.new.left.items in
    let event = c.take_last-event.result in
    let before =
    ran (group_of c.args.config (kinds_of (group_shelves c.args.config c.args.shelves.items))) c.args.events i in record {
      put =
          put_more c.args.version c.args.config (group_shelves c.args.config c.args.shelves.items) c.args.events i
          c.loop-index.world c.loop-index.text h event c.in_ok-line.line c.play_line.new.self c.put_numbered.new.out
          (taken_within c.args.events c.loop-index.left.items rest event i left c.take_last-event.ensures)
          (subst (λ e. RunGoesOn c.loop-index.world before (event_of e) c.in_ok-line.line c.play_line.new.self)
          (sym (taken_is c.args.events c.loop-index.left.items rest event i left c.take_last-event.ensures event))
          (c.in_ok-line.ensures.line before h.played.stands))
          c.in_ok-line.ensures.printable c.in_ok-put_numbered.ensures;
      left = one_taken c.args.events c.loop-index.left.items rest event i left c.take_last-event.ensures;
    }

pub returns : goal.returns
returns g c =
    let i = c.loop-index.index in
    let h = c.loop-index.invariant.put in
    let before =
    ran (group_of c.args.config (kinds_of (group_shelves c.args.config c.args.shelves.items))) c.args.events i in
    put_all c.args.version c.args.config (group_shelves c.args.config c.args.shelves.items) c.args.events i
    c.loop-index.world c.loop-index.text h c.args.shelves.items c.in_ok-report.report c.put_ending.new.out refl
    (let all = c.len-count.ensures in omega arith)
    (subst (λ lines. c.in_ok-report.report ≡ report_after c.loop-index.world before.accepted lines) c.new.ensures
    (c.in_ok-report.ensures.stands before.accepted h.played.stands)) c.in_ok-put_ending.ensures
