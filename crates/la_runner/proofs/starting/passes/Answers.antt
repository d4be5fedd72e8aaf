use Rattle.std.proofs.Common.{◌<◌, ap, ◌∙◌, arith, length}
use Rattle.la_runner.specs.Starting.{newcomer}
use Rattle.la_runner.proofs.Fresh.{item_there}
use Rattle.la_runner.proofs.Newcomers.{newcomers_push}
use Rattle.la_runner.proofs.Keeping.{long_map, put_back}
use Rattle.la_runner.proofs.starting.passes.Goals as goal

pub loop-at-preserved : goal.loop-at-preserved
loop-at-preserved c =
    let row = c.args.acceptors.now in let firsts = c.loop-at.firsts.items in let at = c.loop-at.at in
    let same = c.loop-at.invariant.0 ∙ c.requires in
    let long : at < length firsts = omega (arith, ap length same, long_map newcomer row, c.loop-at-test.true) in (
      put_back firsts at c.index_mut.result.now c.another-pass.new.pass long c.index_mut.ensures.value
          c.another-pass.ensures.same ∙ c.loop-at.invariant.0,
      c.in_ok-push.ensures.items
          ∙ newcomers_push row at c.index-acceptors-at.result c.index_mut.result.now c.another-pass.result firsts
          c.loop-at.made.items same
          (item_there row at c.index-acceptors-at.result c.loop-at-test.true c.index-acceptors-at.is)
          (item_there firsts at c.index_mut.result.now long c.index_mut.ensures.value) c.another-pass.ensures.new
          c.loop-at.invariant.1,
    )
