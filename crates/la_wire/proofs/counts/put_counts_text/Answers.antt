use Rattle.std.proofs.Common.{◌≡◌, ◌<◌, ◌++◌, ◌∷◌, length, ap, ◌∙◌, arith, rules}
use Rattle.std.specs.Fmt.{decimal}
use Rattle.la_set.specs.Counts.{count_in}
use Rattle.la_wire.specs.MessageLines.{used}
use Rattle.la_wire.proofs.CountTexts.{written_first, written_next, written_last, first_typed, next_typed, all_typed}
use Rattle.la_wire.proofs.counts.put_counts_text.Goals as goal

pub loop-replica-init : goal.loop-replica-init
loop-replica-init c = record {
  written =
      written_first c.args.counts c.from.result c.args.out.now.items c.put_decimal.new.out.items
      (c.from.ensures ∙ c.of.ensures) c.in_ok-put_decimal.ensures;
  typed = first_typed c.args.counts c.of.result c.of.ensures (search rules);
}

pub loop-replica-preserved : goal.loop-replica-preserved
loop-replica-preserved c =
    let lt : c.loop-replica.replica < used c.args.counts =
    omega (arith, c.loop-replica-test.true, c.used-many.ensures.exact) in
    let put : c.put_behind.new.out.items
    ≡ c.loop-replica.out.items ++ 44 ∷ decimal (count_in c.args.counts c.loop-replica.replica) =
    c.in_ok-put_behind.ensures ∙ ap (λ n. c.loop-replica.out.items ++ 44 ∷ decimal n) c.of-in-loop-replica.ensures in
    record {
      written =
          written_next c.args.counts c.loop-replica.replica c.loop-replica.out.items c.put_behind.new.out.items
          _ lt put c.loop-replica.invariant.written;
      typed =
          next_typed c.args.counts c.loop-replica.replica c.of-in-loop-replica.result c.of-in-loop-replica.ensures
          (omega arith) c.loop-replica.invariant.typed;
    }

pub returns-clause-exact : goal.returns-clause-exact
returns-clause-exact c =
    written_last c.args.counts c.loop-replica.replica c.loop-replica.out.items _
    (omega (arith, c.loop-replica-test.false, c.used-many.ensures.exact)) c.loop-replica.invariant.written

pub returns-clause-typed : goal.returns-clause-typed
returns-clause-typed c =
    let eight : length c.args.counts.of ≡ 8 = search rules in
    all_typed c.args.counts c.loop-replica.replica eight
    (omega (arith, c.loop-replica-test.false, c.used-many.ensures.exact)) c.loop-replica.invariant.typed
