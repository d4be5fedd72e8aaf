use Rattle.std.proofs.Common.{◌≡◌, ◌∙◌, arith, rules, length}
use Rattle.std.specs.Prelude.{min}
use Rattle.std.proofs.lemmas.Slice.Zip.{zip_end}
use Rattle.la_journal.proofs.Playing.{alike_end}
use Rattle.la_journal.proofs.recovery.alike.Goals as goal

pub returns : goal.returns
returns c =
    let one = c.args.one.now in
    let other = c.args.other.now in
    let all : length c.loop-a.yielded ≡ min (length one) (length other) =
    zip_end one other c.loop-a.yielded c.into_iter-a-iterator.result c.loop-a.a-iterator c.next.new.self c.next.result
    (search rules) (search rules) c.loop-a.yielded_by c.in-None.is c.next.ensures.steps in
    omega (arith, c.loop-a.invariant.same, alike_end one other c.loop-a.count (c.loop-a.invariant.count ∙ all))
