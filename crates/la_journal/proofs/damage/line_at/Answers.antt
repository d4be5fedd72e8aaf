use Rattle.std.proofs.Common.{[], ◌+◌, take, drop, sym, ◌∙◌, refl}
use Rattle.la_journal.proofs.Ended.{next_line, front_line, front_whole, none_ended}
use Rattle.la_journal.proofs.damage.line_at.Goals as goal

pub returns-in-Some-clause-line : goal.returns-in-Some-clause-line
returns-in-Some-clause-line c =
    let rest = c.split_at.result.1.now in
    let n = c.in-Some.n in
    next_line c.args.bytes.now (take n rest) (drop (n + 1) rest) c.args.at c.requires c.in-Some.ensures.line
    (sym c.split_at.ensures.back ∙ c.in-Some.ensures.split)

pub returns-in-Some-clause-front : goal.returns-in-Some-clause-front
returns-in-Some-clause-front c =
    let rest = c.split_at.result.1.now in
    let n = c.in-Some.n in
    front_line c.args.bytes.now (take n rest) (drop (n + 1) rest) c.args.at c.requires c.in-Some.ensures.line
    (sym c.split_at.ensures.back ∙ c.in-Some.ensures.split)

pub returns-in-Some-clause-whole : goal.returns-in-Some-clause-whole
returns-in-Some-clause-whole c =
    let rest = c.split_at.result.1.now in
    let n = c.in-Some.n in
    front_whole c.args.bytes.now (take n rest) (drop (n + 1) rest) c.args.at c.requires c.in-Some.ensures.line
    (sym c.split_at.ensures.back ∙ c.in-Some.ensures.split)

pub returns-in-None-clause-none : goal.returns-in-None-clause-none
returns-in-None-clause-none c _ =
    none_ended [] (drop c.args.at c.args.bytes.now) (rw c.split_at.ensures.back at (c.in-None.ensures.none refl))
