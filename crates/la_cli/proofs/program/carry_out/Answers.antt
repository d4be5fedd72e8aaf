use Rattle.std.proofs.Common.{inl, inr, refl}
use Rattle.std.proofs.KnownBytes.{Keeps-refl}
use Rattle.la_cli.proofs.Ending.{a_told_fault_is_no_good_end, without_task_well, is_done, is_differing}
use Rattle.la_cli.proofs.program.carry_out.Goals as goal

pub returns-then-well : goal.returns-then-well
returns-then-well g c = record {
  ends = inl (record {
    task = c.in-Ok.task;
    called = c.in-Ok.ensures.ok;
    done = is_done _ c.in-Ok.task _ _ c.if-well.true c.in-Ok-perform.ensures.ok;
    silent = Keeps-refl _;
    status = refl;
  });
  done = λ zero. inl (record {
    task = c.in-Ok.task;
    called = c.in-Ok.ensures.ok;
    done = is_done _ c.in-Ok.task _ _ c.if-well.true c.in-Ok-perform.ensures.ok;
    silent = Keeps-refl _;
    status = refl;
  });
}

pub returns-else-well : goal.returns-else-well
returns-else-well g c = record {
  ends = inr (inl (record {
    task = c.in-Ok.task;
    called = c.in-Ok.ensures.ok;
    differing = is_differing _ c.in-Ok.task _ _ c.if-well.false c.in-Ok-perform.ensures.ok;
    silent = Keeps-refl _;
    status = refl;
  }));
  done = λ zero. cc;
}

pub returns-in-Err-perform : goal.returns-in-Err-perform
returns-in-Err-perform g c = record {
  ends = inr (inr (inl (record {
    task = c.in-Ok.task;
    called = c.in-Ok.ensures.ok;
    fault = c.in-Err-perform.fault;
    refused = c.in-Err-perform.ensures.error;
    tells = c.end_with.ensures;
  })));
  done = λ zero. absurd (a_told_fault_is_no_good_end _ c.in-Err-perform.fault c.end_with.result c.end_with.ensures zero);
}

pub returns-in-Err : goal.returns-in-Err
returns-in-Err g c = record {
  ends = inr (inr (inr (c.end_without_call.ensures _ c.in-Err.ensures.error _)));
  done = without_task_well _ c.args.shelves.items _ _ c.end_without_call.result
      (c.end_without_call.ensures _ c.in-Err.ensures.error _);
}
