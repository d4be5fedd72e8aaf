use Rattle.std.proofs.Common.{◌≡◌, ◌+◌, ◌-◌, arith, length, length-drop, ap, sym, ◌∙◌, refl}
use Rattle.std.proofs.lemmas.List.{take_rest}
use Rattle.la_journal.proofs.NextGroup.{goes_on, found_some, not_found, at_end}
use Rattle.la_journal.proofs.grouped.next_group.Goals as goal

pub returns-then-begins_record-clause-some : goal.returns-then-begins_record-clause-some
returns-then-begins_record-clause-some c =
    let bytes = c.args.bytes.now in
    let at = c.loop-n.at in
    let n = c.in-Some.n in
    let width : at + n - at ≡ n = omega arith in
    found_some c.args.before.now bytes at n c.loop-n.invariant.within (rw take_rest at c.in-Some.ensures.within)
    c.loop-n.invariant.same (rw take_rest at c.in-Some.ensures.split) (rw take_rest at c.in-Some.ensures.line)
    (rw width at (sym c.begins_record.ensures ∙ c.if-begins_record.true)) c.group_at.result c.group_at.ensures.lines
    c.group_at.ensures.place c.group_at.ensures.rest c.group_at.ensures.record

pub returns-then-begins_record-clause-none : goal.returns-then-begins_record-clause-none
returns-then-begins_record-clause-none c none =
    let at = c.loop-n.at in
    let n = c.in-Some.n in
    let width : at + n - at ≡ n = omega arith in
    not_found c.args.before.now c.args.bytes.now at n c.loop-n.invariant.within
    (rw take_rest at c.in-Some.ensures.within) c.loop-n.invariant.same (rw take_rest at c.in-Some.ensures.split)
    (rw take_rest at c.in-Some.ensures.line) (rw width at (sym c.begins_record.ensures ∙ c.if-begins_record.true))
    (c.group_at.ensures.none none)

pub loop-n-preserved : goal.loop-n-preserved
loop-n-preserved c =
    let at = c.loop-n.at in
    let n = c.in-Some.n in
    let width : at + n - at ≡ n = omega arith in record {
      within =
          omega
          (arith, c.in-Some.ensures.within, length-drop at c.args.bytes.now, ap length (take_rest c.args.bytes.now at));
      same =
          goes_on c.args.before.now c.args.bytes.now at n c.loop-n.invariant.within
          (rw take_rest at c.in-Some.ensures.within) c.loop-n.invariant.same
          (rw take_rest at c.in-Some.ensures.split) (rw take_rest at c.in-Some.ensures.line)
          (rw width at (sym c.begins_record.ensures ∙ c.if-begins_record.false));
    }

pub returns-clause-none : goal.returns-clause-none
returns-clause-none c _ =
    at_end c.args.before.now c.args.bytes.now c.loop-n.at c.loop-n.invariant.same
    (rw take_rest at (c.in_default.ensures.none refl))
