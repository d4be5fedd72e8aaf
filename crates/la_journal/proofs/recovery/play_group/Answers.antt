use Rattle.std.proofs.Common.{[], ℕ, List, inl, subst, ◌+◌, ◌∙◌, sym, ap, refl, arith, rules, length, length-drop}
use Rattle.std.proofs.lemmas.List.{take_rest}
use Rattle.la_journal.specs.Playing.{StopsFrom}
use Rattle.la_journal.specs.Records.{ended}
use Rattle.la_journal.proofs.Ended.{none_ended}
use Rattle.la_journal.proofs.Playing.{line_leads, line_begins, line_number, line_stops, next_ended, none_lead, none_begin}
use Rattle.la_journal.proofs.recovery.play_group.Goals as goal

pub returns-in_err-play_line-clause-stops : goal.returns-in_err-play_line-clause-stops
returns-in_err-play_line-clause-stops g c =
    let stops : StopsFrom g.M.Machine.lacks_memory g.M.Machine.named_state g.M.Machine.named g.M.Machine.step
    c.args.begun (g.M.Machine.state c.args.machine.now) c.args.number (ended c.args.lines.now)
    c.in_err-play_line.field-0.0 =
    c.loop-n.invariant.stops c.in_err-play_line.field-0.0
    (subst
    (λ (ls : List (List ℕ)).
    StopsFrom g.M.Machine.lacks_memory g.M.Machine.named_state g.M.Machine.named g.M.Machine.step c.loop-n.begun
    (g.M.Machine.state c.loop-n.machine) c.loop-n.number ls c.in_err-play_line.field-0.0)
    (sym (next_ended c.loop-n.rest.now c.in-Some.n c.in-Some.ensures.split c.in-Some.ensures.line))
    (inl c.in_err-play_line.ensures.stops)) in
    search rules

pub overflow_add-number : goal.overflow_add-number
overflow_add-number g c =
    omega (
      arith,
      c.requires,
      c.loop-n.invariant.number,
      line_number c.loop-n.rest.now c.in-Some.n c.in-Some.ensures.split c.in-Some.ensures.line c.loop-n.number,
    )

pub loop-n-preserved : goal.loop-n-preserved
loop-n-preserved g c = record {
  state =
      rw take_rest
      (line_leads g.M.Machine.named_state g.M.Machine.named g.M.Machine.step c.loop-n.begun
      (g.M.Machine.state c.loop-n.machine) c.loop-n.rest.now c.in-Some.n c.in-Some.ensures.split c.in-Some.ensures.line
      (g.M.Machine.state c.play_line.new.machine) c.in_ok-play_line.ensures.state
      ∙ c.loop-n.invariant.state);
  begun =
      line_begins g.M.Machine.named_state g.M.Machine.named g.M.Machine.step c.loop-n.begun
      (g.M.Machine.state c.loop-n.machine) c.loop-n.rest.now c.in-Some.n c.in-Some.ensures.split c.in-Some.ensures.line
      ∙ c.loop-n.invariant.begun;
  number =
      rw take_rest
      (line_number c.loop-n.rest.now c.in-Some.n c.in-Some.ensures.split c.in-Some.ensures.line c.loop-n.number
      ∙ c.loop-n.invariant.number);
  stops =
      rw take_rest
      (λ why later.
      c.loop-n.invariant.stops why
      (line_stops c.loop-n.rest.now c.in-Some.n c.in-Some.ensures.split c.in-Some.ensures.line
      g.M.Machine.lacks_memory g.M.Machine.named_state g.M.Machine.named g.M.Machine.step c.loop-n.begun
      (g.M.Machine.state c.loop-n.machine) (g.M.Machine.state c.play_line.new.machine) c.loop-n.number why
      c.in_ok-play_line.ensures.state later));
  within =
      omega (
        arith,
        c.loop-n.invariant.within,
        length-drop (c.in-Some.n + 1) c.loop-n.rest.now,
        ap length (take_rest c.loop-n.rest.now (c.in-Some.n + 1)),
      );
}

pub returns-clause-state : goal.returns-clause-state
returns-clause-state g c =
    sym c.loop-n.invariant.state
    ∙ none_lead g.M.Machine.named_state g.M.Machine.named g.M.Machine.step c.loop-n.begun
    (g.M.Machine.state c.loop-n.machine) (ended c.loop-n.rest.now)
    (none_ended [] c.loop-n.rest.now (c.in_default.ensures.none refl))

pub returns-clause-begun : goal.returns-clause-begun
returns-clause-begun g c =
    none_begin c.loop-n.begun (ended c.loop-n.rest.now)
    (none_ended [] c.loop-n.rest.now (c.in_default.ensures.none refl))
    ∙ c.loop-n.invariant.begun
