use Rattle.std.proofs.Common.{◌<◌, ◌≤◌, ◌∙◌, length, map, refl, sym, arith}
use Rattle.std.proofs.lemmas.Bool.{false≢true}
use Rattle.std.proofs.lemmas.List.{length-map}
use Rattle.la_runner.specs.Runs.{back_of}
use Rattle.la_cli.proofs.Agreeing.{at_place, one_agrees, all_agree, agrees_by_all}
use Rattle.la_cli.proofs.threads.all_agree.Goals as goal

pub returns-then-not-agrees_with : goal.returns-then-not-agrees_with
returns-then-not-agrees_with g c =
    let there : c.loop-at.at < length c.args.logs.now = omega (arith, c.loop-at-test.true) in
    let here =
    at_place (λ l. back_of l.replica l.member l.shelf l.entries l.stopped) c.args.logs.now c.loop-at.at
    c.index-logs-at.result there c.index-logs-at.is in
    let first =
    at_place (λ l. back_of l.replica l.member l.shelf l.entries l.stopped) c.args.logs.now 0 c.index-logs-0.result
    (omega (arith, there)) c.index-logs-0.is in (
      (λ no. absurd (false≢true no)),
      λ all.
          absurd
          (false≢true
          (sym c.if-not-agrees_with.true
          ∙ c.agrees_with.ensures.1
          (agrees_by_all (map (λ l. back_of l.replica l.member l.shelf l.entries l.stopped) c.args.logs.now)
          c.loop-at.at
          (back_of c.index-logs-at.result.replica c.index-logs-at.result.member
          c.index-logs-at.result.shelf c.index-logs-at.result.entries c.index-logs-at.result.stopped)
          (back_of c.index-logs-0.result.replica c.index-logs-0.result.member c.index-logs-0.result.shelf
          c.index-logs-0.result.entries c.index-logs-0.result.stopped) here first all))),
    )

pub loop-at-preserved : goal.loop-at-preserved
loop-at-preserved g c =
    let there : c.loop-at.at < length c.args.logs.now = omega (arith, c.loop-at-test.true) in
    let here =
    at_place (λ l. back_of l.replica l.member l.shelf l.entries l.stopped) c.args.logs.now c.loop-at.at
    c.index-logs-at.result there c.index-logs-at.is in
    let first =
    at_place (λ l. back_of l.replica l.member l.shelf l.entries l.stopped) c.args.logs.now 0 c.index-logs-0.result
    (omega (arith, there)) c.index-logs-0.is in
    one_agrees (map (λ l. back_of l.replica l.member l.shelf l.entries l.stopped) c.args.logs.now) c.loop-at.at
    (back_of c.index-logs-at.result.replica c.index-logs-at.result.member c.index-logs-at.result.shelf
    c.index-logs-at.result.entries c.index-logs-at.result.stopped)
    (back_of c.index-logs-0.result.replica c.index-logs-0.result.member c.index-logs-0.result.shelf
    c.index-logs-0.result.entries c.index-logs-0.result.stopped) here first
    (c.agrees_with.ensures.0 c.if-not-agrees_with.false) c.loop-at.invariant

pub returns : goal.returns
returns g c =
    let long : length (map (λ l. back_of l.replica l.member l.shelf l.entries l.stopped) c.args.logs.now) ≤ c.loop-at.at =
    omega (
      arith,
      c.loop-at-test.false,
      length-map c.args.logs.now
          (λ l. back_of l.replica l.member l.shelf l.entries l.stopped),
    ) in (
      (λ yes.
          all_agree (map (λ l. back_of l.replica l.member l.shelf l.entries l.stopped) c.args.logs.now) c.loop-at.at long
          c.loop-at.invariant),
      λ all. refl,
    )
