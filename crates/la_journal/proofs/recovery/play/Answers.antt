use Rattle.std.proofs.Common.{None, ℕ, List, ◌≡◌, ◌≢◌, ◌∙◌, sym, ap, subst, arith, rules}
use Rattle.std.proofs.lemmas.Bool.{false≢true}
use Rattle.la_journal.specs.Records.{end_count, IsGroupDamage, parts, parts_behind, behind, record_line}
use Rattle.la_journal.specs.Durable.{IsCauseOf, IsOtherHead}
use Rattle.la_journal.specs.Machine.{state_after}
use Rattle.la_journal.specs.Playing.{StopsIn}
use Rattle.la_journal.proofs.RecordBytes.{are_records}
use Rattle.la_journal.proofs.Extents.{reads}
use Rattle.la_journal.proofs.Untold.{few_ends}
use Rattle.la_journal.proofs.Played.{stopped, other_nowhere, other_head, damaged_nowhere, damaged_at, front_rest, sound_leads}
use Rattle.la_journal.proofs.recovery.play.Goals as goal

pub returns-then-ne-clause-cause : goal.returns-then-ne-clause-cause
returns-then-ne-clause-cause g c =
    let first = c.in-Some.first in
    let p = parts_behind first.text.now first.line.now first.rest.now in
    let other : first.text.now ≢ c.args.head.now = search rules in
    subst
    (λ (h : List ℕ).
    (state_after g.M.Machine.head g.M.Machine.named_state g.M.Machine.named g.M.Machine.step
    (g.M.Machine.state c.args.machine.now) c.args.file.now ≡ None) × IsOtherHead h c.alike.result (parts
    c.args.file.now)) c.requires.head (
      other_nowhere g.M.Machine.head g.M.Machine.named_state g.M.Machine.named g.M.Machine.step
          (g.M.Machine.state c.args.machine.now) c.args.file.now p c.in-Some.ensures.some
          (λ same. other (same ∙ sym c.requires.head)),
      other_head c.args.head.now c.args.file.now c.alike.result p c.in-Some.ensures.some other c.alike.ensures,
    )

pub returns-in_err-played-clause-cause : goal.returns-in_err-played-clause-cause
returns-in_err-played-clause-cause g c =
    let first = c.in-Some.first in
    let p = parts_behind first.text.now first.line.now first.rest.now in
    let cause : IsCauseOf g.M.Machine.lacks_memory 0 0 (g.M.Machine.head (g.M.Machine.state c.args.machine.now))
    c.args.file.now (state_after g.M.Machine.head g.M.Machine.named_state g.M.Machine.named g.M.Machine.step
    (g.M.Machine.state c.args.machine.now) c.args.file.now)
    (StopsIn g.M.Machine.lacks_memory g.M.Machine.named_state g.M.Machine.named g.M.Machine.step
    (g.M.Machine.state c.args.machine.now) (parts c.args.file.now)) c.in_err-played.field-0.0 =
    stopped g.M.Machine.head g.M.Machine.named_state g.M.Machine.named g.M.Machine.step
    (g.M.Machine.state c.args.machine.now) c.args.file.now p c.in-Some.ensures.some g.M.Machine.lacks_memory
    (reads record_line are_records first.line.now first.rest.now).2 c.in_err-played.field-0.0
    c.in_err-played.ensures.stops in
    search rules

pub overflow_add-result : goal.overflow_add-result
overflow_add-result g c =
    omega (arith, few_ends c.split_at.result.0.now, c.end_count.ensures, c.split_at.ensures.front_len)

pub returns-then-is_damage-clause-cause : goal.returns-then-is_damage-clause-cause
returns-then-is_damage-clause-cause g c =
    let first = c.in-Some.first in
    let p = parts_behind first.text.now first.line.now first.rest.now in
    let rest_is =
    front_rest c.args.file.now p c.in-Some.ensures.some c.in_ok-played.played.end c.in_ok-played.ensures.end
    in
    let damaged : IsGroupDamage (behind first.line.now first.rest.now) =
    subst IsGroupDamage (c.split_at.ensures.back ∙ rest_is) (c.is_damage.ensures.0 c.if-is_damage.true) in (
      damaged_nowhere g.M.Machine.head g.M.Machine.named_state g.M.Machine.named g.M.Machine.step
          (g.M.Machine.state c.args.machine.now) c.args.file.now p c.in-Some.ensures.some damaged,
      damaged_at c.args.file.now p c.in-Some.ensures.some c.in_ok-played.played.end c.in_ok-played.ensures.end _ damaged
          (omega (arith, c.end_count.ensures, ap end_count c.split_at.ensures.front)),
    )

pub returns-clause-state : goal.returns-clause-state
returns-clause-state g c =
    let first = c.in-Some.first in
    let p = parts_behind first.text.now first.line.now first.rest.now in
    let rest_is =
    front_rest c.args.file.now p c.in-Some.ensures.some c.in_ok-played.played.end c.in_ok-played.ensures.end
    in
    let same : first.text.now ≡ c.args.head.now = search rules in
    sound_leads g.M.Machine.head g.M.Machine.named_state g.M.Machine.named g.M.Machine.step
    (g.M.Machine.state c.args.machine.now) c.args.file.now p c.in-Some.ensures.some (same ∙ c.requires.head)
    (λ damaged.
    false≢true
    (sym c.if-is_damage.false
    ∙ c.is_damage.ensures.1 (subst IsGroupDamage (sym (c.split_at.ensures.back ∙ rest_is)) damaged)))
    ∙ c.in_ok-played.ensures.state

pub returns-clause-played : goal.returns-clause-played
returns-clause-played g c =
    let first = c.in-Some.first in
    let p = parts_behind first.text.now first.line.now first.rest.now in
    let rest_is =
    front_rest c.args.file.now p c.in-Some.ensures.some c.in_ok-played.played.end c.in_ok-played.ensures.end
    in record {
      has = p;
      read = c.in-Some.ensures.some;
      head = search rules;
      up_to = c.in_ok-played.ensures.end;
      ends = c.in_ok-played.ensures.last;
      sound =
          λ damaged.
          false≢true
          (sym c.if-is_damage.false
          ∙ c.is_damage.ensures.1 (subst IsGroupDamage (sym (c.split_at.ensures.back ∙ rest_is)) damaged));
    }
