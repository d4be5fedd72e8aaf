use Rattle.std.proofs.Common.{refl, subst, inl, inr, List, ℕ}
use Rattle.la_io.specs.Sources.{ahead, pending}
use Rattle.la_call.specs.Asking.{plan_in}
use Rattle.la_call.specs.Calls.{plan_by, standing}
use Rattle.la_call.specs.Ends.{Prints, TellsCallFault}
use Rattle.la_call.specs.Names.{name_by as name_for}
use Rattle.la_call.proofs.Hearing.{answered_from, unanswered_from}
use Rattle.la_call.proofs.calling.call.Goals as goal

pub returns : goal.returns
returns g c =
    let end = standing (ahead c.await_answer.new.source (g.R.Read.remaining c.await_answer.new.input))
    (g.W.Write.contents c.await_answer.new.output) in
    inr
    (inl
    (record {
      fault = c.in-Err.fault;
      unheard = pending c.await_answer.new.source;
      unanswered =
          unanswered_from (plan_in c.in-Ok.asking)
          (plan_by c.args.options.now (name_for c.args.options.now c.args.drawn.now)) c.in-Ok.ensures
          (pending c.new-source.result) c.new-source.ensures.nothing (g.R.Read.remaining c.args.input.now)
          (g.W.Write.contents c.args.output.now) end c.in-Err.fault c.in-Err.ensures.err;
      unprinted = refl {a = g.A.Write.contents c.args.answers.now};
      told =
          subst
          (TellsCallFault g.E.Write.contents g.E.Listener.refuses c.args.errors.now c.end_with-in-Err.new.errors
          c.in-Err.fault)
          c.path_of.ensures c.end_with-in-Err.ensures.told;
      is = c.end_with-in-Err.ensures.status;
    }))

pub returns-in-Ok-await_answer : goal.returns-in-Ok-await_answer
returns-in-Ok-await_answer g c =
    let end = standing (ahead c.await_answer.new.source (g.R.Read.remaining c.await_answer.new.input))
    (g.W.Write.contents c.await_answer.new.output) in
    inl
    (record {
      line = c.await_answer.new.source.line.items;
      unheard = pending c.await_answer.new.source;
      answered =
          answered_from (plan_in c.in-Ok.asking)
          (plan_by c.args.options.now (name_for c.args.options.now c.args.drawn.now)) c.in-Ok.ensures
          (pending c.new-source.result) c.new-source.ensures.nothing (g.R.Read.remaining c.args.input.now)
          (g.W.Write.contents c.args.output.now) end c.await_answer.new.source.line.items
          c.in-Ok-await_answer.ensures.ok;
      prints =
          subst
          (λ (l : List ℕ).
          Prints g.E.Write.contents g.E.Listener.refuses (g.A.Write.contents c.args.answers.now)
          (g.A.Write.contents c.finish.new.answers) c.args.errors.now c.finish.new.errors l c.finish.result)
          c.as_slice.ensures.value c.finish.ensures;
    })
