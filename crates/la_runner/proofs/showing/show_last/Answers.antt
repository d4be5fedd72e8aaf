use Rattle.std.proofs.Common.{◌≡◌, ◌<◌, ◌+◌, length, refl, subst, sym, ap, ◌∙◌, arith}
use Rattle.std.specs.List.{AllWithin, slice_index_or}
use Rattle.la_runner.specs.Members.{IsOfGroup}
use Rattle.la_runner.specs.Together.{HasSeen}
use Rattle.la_runner.proofs.Keeping.{put_back}
use Rattle.la_runner.proofs.Sharing.{sees_self, sees_then, one_shown, here_of}
use Rattle.la_runner.proofs.UnderWay.{of_goes}
use Rattle.la_runner.proofs.showing.show_last.Goals as goal

pub loop-at-init : goal.loop-at-init
loop-at-init g c = record { same = refl; more = sees_self c.args.last.now c.replica-own.ensures.is; shown = λ k d le lt. absurd (omega (arith, le, lt)) }

pub show-requires-clause-from : goal.show-requires-clause-from
show-requires-clause-from g c =
    subst (λ l. IsOfGroup c.args.group.now l.member) c.index-others-at.is
    (here_of (λ l. IsOfGroup c.args.group.now l.member) c.args.others.now c.loop-at.others c.loop-at.at
    c.index-others-at.result c.loop-at.invariant.same c.loop-at-test.true c.index-others-at.is c.requires.of)

pub show-requires-clause-to : goal.show-requires-clause-to
show-requires-clause-to g c =
    of_goes c.args.group.now c.args.last.now c.loop-at.last c.loop-at.invariant.more.goes c.requires.last

pub loop-at-preserved : goal.loop-at-preserved
loop-at-preserved g c =
    let log = slice_index_or c.loop-at.others c.loop-at.at c.index-others-at.result in
    let is : log ≡ slice_index_or c.loop-at.others c.loop-at.at log =
    ap (slice_index_or c.loop-at.others c.loop-at.at) c.index-others-at.is in
    let lt : c.loop-at.at < length c.loop-at.others =
    (let long = ap length c.loop-at.invariant.same in omega (arith, long, c.loop-at-test.true)) in
    let put =
    put_back c.loop-at.others c.loop-at.at log (record log { member = c.show.new.from }) lt is
    (ap (λ m. record log { member = m }) c.show.ensures.same) in
    record {
      same = put ∙ c.loop-at.invariant.same;
      more = sees_then c.args.last.now c.loop-at.last c.show.new.to c.loop-at.invariant.more c.show.ensures.more;
      shown = subst (λ l. AllWithin (λ x. HasSeen x.member c.show.new.to) l 0 (c.loop-at.at + 1)) (sym put)
          (one_shown (λ l. l.member) c.loop-at.others c.loop-at.at log c.loop-at.last c.show.new.to lt is
          c.loop-at.invariant.shown c.show.ensures.more.goes c.show.ensures.shown);
    }
