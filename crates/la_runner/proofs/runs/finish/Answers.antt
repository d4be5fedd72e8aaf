use Rattle.std.proofs.Common.{map, subst, sym, ◌∙◌, ap, arith}
use Rattle.std.specs.List.{AllZip}
use Rattle.la_runner.specs.Runs.{log_back}
use Rattle.la_runner.specs.Together.{IsSameLog}
use Rattle.la_runner.proofs.Keeping.{long_map}
use Rattle.la_runner.proofs.Sharing.{zip_long, seen_sees, written_back}
use Rattle.la_runner.proofs.runs.finish.Goals as goal

pub note_all-requires-clause-few : goal.note_all-requires-clause-few
note_all-requires-clause-few g c κs within = c.requires.few

pub returns-clause-same : goal.returns-clause-same
returns-clause-same g c =
    let shown =
    subst
    (λ l.
    AllZip IsSameLog (map log_back l)
    (map log_back c.show_all.new.logs))
    c.deref_mut.ensures.value c.show_all.ensures.same in
    let long =
    zip_long IsSameLog (map log_back c.args.done.items)
    (map log_back c.show_all.new.logs) shown in
    let a = long_map log_back c.args.done.items in
    let b = long_map log_back c.show_all.new.logs in
    let back =
    written_back c.args.done.len c.show_all.new.logs c.args.done.items (omega (arith, long, a, b, c.args.done.ok.0))
    (omega (arith, c.args.done.ok.0)) in
    subst (AllZip IsSameLog (map log_back c.args.done.items))
    (sym
    (ap (map log_back) c.from.ensures
    ∙ c.note_all.ensures.same ∙ ap (map log_back) back))
    shown

pub returns-clause-seen : goal.returns-clause-seen
returns-clause-seen g c =
    let shown =
    subst
    (λ l.
    AllZip IsSameLog (map log_back l)
    (map log_back c.show_all.new.logs))
    c.deref_mut.ensures.value c.show_all.ensures.same in
    let long =
    zip_long IsSameLog (map log_back c.args.done.items)
    (map log_back c.show_all.new.logs) shown in
    let a = long_map log_back c.args.done.items in
    let b = long_map log_back c.show_all.new.logs in
    let back =
    written_back c.args.done.len c.show_all.new.logs c.args.done.items (omega (arith, long, a, b, c.args.done.ok.0))
    (omega (arith, c.args.done.ok.0)) in
    seen_sees (map log_back c.show_all.new.logs)
    (map log_back c.from.result)
    (ap (map log_back) c.from.ensures ∙ c.note_all.ensures.same
    ∙ ap (map log_back) back) c.show_all.ensures.seen
