use Rattle.std.proofs.Common.{◌≡◌, length, refl, ap, sym, ◌∙◌, arith}
use Rattle.la_runner.specs.Counted.{log_taker}
use Rattle.la_runner.specs.Members.{member_view}
use Rattle.la_runner.specs.Runs.{log_back}
use Rattle.la_runner.proofs.Keeping.{item_at, long_map}
use Rattle.la_runner.proofs.Counting.{noted, one_more_exactly}
use Rattle.la_runner.proofs.runs.note_all.Goals as goal

pub loop-at-preserved : goal.loop-at-preserved
loop-at-preserved g c =
    let long : length c.loop-at.logs.items ≡ length c.args.logs.now.items =
    sym (long_map log_back c.loop-at.logs.items)
    ∙ ap length c.loop-at.invariant.same
    ∙ long_map log_back c.args.logs.now.items in
    let h =
    noted log_back (λ l. l.notes) (λ l. member_view l.member)
    c.loop-at.logs.items c.args.logs.now.items c.loop-at.at c.index_mut.result.now
    (record c.index_mut.result.now { notes = c.count_notes-notes.result })
    (item_at c.loop-at.logs.items c.loop-at.at c.index_mut.result.now
    (omega (arith, long, c.loop-at-test.true, c.args.logs.now.ok.0)) c.index_mut.ensures.value) refl refl
    c.loop-at.invariant.same c.loop-at.invariant.counted c.count_notes-notes.ensures.all in
    record {
      same = h.0;
      exactly =
          one_more_exactly log_taker (λ l. l.notes) c.loop-at.logs.items c.loop-at.at
          c.index_mut.result.now (record c.index_mut.result.now { notes = c.count_notes-notes.result })
          (item_at c.loop-at.logs.items c.loop-at.at c.index_mut.result.now
          (omega (arith, long, c.loop-at-test.true, c.args.logs.now.ok.0)) c.index_mut.ensures.value) refl
          c.loop-at.invariant.exactly c.count_notes-notes.ensures.counted;
      counted = h.1;
    }
