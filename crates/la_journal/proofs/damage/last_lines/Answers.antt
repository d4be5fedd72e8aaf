use Rattle.std.proofs.Common.{arith, ◌-◌, take, drop, length, reverse, refl}
use Rattle.std.proofs.lemmas.List.{length-reverse}
use Rattle.la_journal.specs.Records.{ended}
use Rattle.la_journal.proofs.LastLines.{too_few, still_within, still_whole, enough, still_front, still_back}
use Rattle.la_journal.proofs.damage.last_lines.Goals as goal

pub returns-in_err-at-clause-none : goal.returns-in_err-at-clause-none
returns-in_err-at-clause-none c _ =
    too_few (ended c.args.before.now) (take c.loop-i.at c.args.before.now) c.loop-i.i c.args.count c.loop-i-test.true
    c.loop-i.invariant.front (c.in_err-at.ensures.none refl)

pub loop-i-preserved : goal.loop-i-preserved
loop-i-preserved c =
    let before = c.args.before.now in
    let at = c.loop-i.at in
    let to = c.in_ok-at.at in
    let front = take at before in
    let line = take (length front - 1 - to) (drop to front) in
    let ls = reverse (ended before) in
    let v = c.loop-i.invariant in
    let e = c.in_ok-at.ensures in
    let some = enough before line at to c.loop-i.i ls v.within v.back v.front e.within e.last e.end in record {
      within = still_within before line at to c.loop-i.i ls v.within v.back v.front e.within e.last e.end;
      whole = still_whole before line at to c.loop-i.i ls v.within v.back v.front e.within e.last e.end e.whole;
      few =
          omega (arith, some, length-reverse (ended before));
      front = still_front before line at to c.loop-i.i ls v.within v.back v.front e.within e.last e.end;
      back = still_back before line at to c.loop-i.i ls v.within v.back v.front e.within e.last e.end;
    }
