use Rattle.std.proofs.Common.{◌∙◌, ℕ, List, false, inl, sym, subst, arith, rules}
use Rattle.la_journal.specs.Commits.{groups}
use Rattle.la_journal.specs.Records.{record_line}
use Rattle.la_journal.specs.Playing.{StopsAmong}
use Rattle.la_journal.proofs.Playing.{group_leads, group_linked, group_last, group_behind, group_room, group_stops, head_room, group_within}
use Rattle.la_journal.proofs.recovery.play_groups.Goals as goal

pub play_group-requires : goal.play_group-requires
play_group-requires g c =
    omega (
      arith,
      c.loop-group.invariant.long,
      c.loop-group.invariant.small,
      c.loop-group.invariant.number,
      group_room c.loop-group.before.now c.loop-group.rest.now c.in-Some.group.lines.now c.in-Some.group.record.now
          c.in-Some.group.rest.now c.in-Some.ensures.parts c.in-Some.ensures.record c.in-Some.ensures.some
          c.loop-group.number,
      head_room c.args.file.now c.args.head.now.line.now c.args.head.now.rest.now c.requires.bytes c.requires.linked,
    )

pub overflow_add-number : goal.overflow_add-number
overflow_add-number g c =
    omega (
      arith,
      c.loop-group.invariant.long,
      c.loop-group.invariant.small,
      c.end_count.ensures,
      c.loop-group.invariant.number,
      group_room c.loop-group.before.now c.loop-group.rest.now c.in-Some.group.lines.now c.in-Some.group.record.now
          c.in-Some.group.rest.now c.in-Some.ensures.parts c.in-Some.ensures.record c.in-Some.ensures.some
          c.loop-group.number,
      head_room c.args.file.now c.args.head.now.line.now c.args.head.now.rest.now c.requires.bytes c.requires.linked,
    )

pub overflow_add-number-in-Some : goal.overflow_add-number-in-Some
overflow_add-number-in-Some g c =
    omega (
      arith,
      c.loop-group.invariant.long,
      c.loop-group.invariant.small,
      c.end_count.ensures,
      c.loop-group.invariant.number,
      group_room c.loop-group.before.now c.loop-group.rest.now c.in-Some.group.lines.now c.in-Some.group.record.now
          c.in-Some.group.rest.now c.in-Some.ensures.parts c.in-Some.ensures.record c.in-Some.ensures.some
          c.loop-group.number,
      head_room c.args.file.now c.args.head.now.line.now c.args.head.now.rest.now c.requires.bytes c.requires.linked,
    )

pub returns-in_err-begun-clause-stops : goal.returns-in_err-begun-clause-stops
returns-in_err-begun-clause-stops g c =
    let stops : StopsAmong g.M.Machine.lacks_memory g.M.Machine.named_state g.M.Machine.named g.M.Machine.step false
    (g.M.Machine.state c.args.machine.now) 2 (groups record_line c.args.head.now.line.now c.args.head.now.rest.now)
    c.in_err-begun.field-0.0 =
    c.loop-group.invariant.stops c.in_err-begun.field-0.0
    (subst
    (λ (gs : List (List ℕ)).
    StopsAmong g.M.Machine.lacks_memory g.M.Machine.named_state g.M.Machine.named g.M.Machine.step c.loop-group.begun
    (g.M.Machine.state c.loop-group.machine) c.loop-group.number gs c.in_err-begun.field-0.0)
    (sym c.in-Some.ensures.some) (inl c.in_err-begun.ensures.stops)) in
    search rules

pub loop-group-preserved : goal.loop-group-preserved
loop-group-preserved g c =
    let before = c.loop-group.before.now in
    let rest = c.loop-group.rest.now in
    let group = c.in-Some.group in
    let is = c.in-Some.ensures in
    let lines = group.lines.now in
    let line = group.record.now in
    let more = group.rest.now in record {
      state =
          group_leads before rest lines line more is.parts is.record is.some g.M.Machine.named_state g.M.Machine.named
          g.M.Machine.step c.loop-group.begun c.in_ok-begun.begun (g.M.Machine.state c.loop-group.machine)
          (g.M.Machine.state c.play_group.new.machine) c.in_ok-begun.ensures.begun c.in_ok-begun.ensures.state
          ∙ c.loop-group.invariant.state;
      linked = group_linked before rest lines line more is.parts is.record is.some;
      long = c.loop-group.invariant.long;
      small = c.loop-group.invariant.small;
      within =
          omega
          (arith, c.loop-group.invariant.within, group_within before rest lines line more is.parts is.record is.some);
      behind = group_behind before rest lines line more is.parts is.record is.some ∙ c.loop-group.invariant.behind;
      number =
          omega (
            arith,
            c.end_count.ensures,
            c.loop-group.invariant.number,
            group_room before rest lines line more is.parts is.record is.some c.loop-group.number,
          );
      stops =
          λ why later.
          c.loop-group.invariant.stops why
          (group_stops before rest lines line more is.parts is.record is.some g.M.Machine.lacks_memory g.M.Machine.named_state
          g.M.Machine.named g.M.Machine.step c.loop-group.begun c.in_ok-begun.begun (g.M.Machine.state c.loop-group.machine)
          (g.M.Machine.state c.play_group.new.machine) c.loop-group.number _ why c.in_ok-begun.ensures.begun
          c.in_ok-begun.ensures.state (omega (arith, c.end_count.ensures)) later);
      last = group_last before rest lines line more is.parts is.record is.some ∙ c.loop-group.invariant.last;
    }
