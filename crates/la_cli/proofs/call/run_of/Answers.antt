use Rattle.std.proofs.Common.{codes, arith}
use Rattle.std.specs.Str.Parse.{ParsesUnsigned, ExplainsUnsignedError, HasUnsignedDigitsIfOk}
use Rattle.clap.specs.Words.{found_of}
use Rattle.la_cli.proofs.lemmas.GivenNumbers.{some_number, taken_is_given}
use Rattle.la_cli.proofs.call.run_of.Goals as goal

pub unwrap-requires : goal.unwrap-requires
unwrap-requires c =
    some_number 8 (λ bs r. ParsesUnsigned 8 10 bs r × ExplainsUnsignedError 10 bs r × HasUnsignedDigitsIfOk bs r)
    (found_of c.args.given.now) (codes "replicas") 1 8 c.get_one.result c.requires.replicas (omega arith)
    c.get_one.ensures.value (λ u x g. g.0)

pub unwrap-requires-2 : goal.unwrap-requires-2
unwrap-requires-2 c =
    some_number 32 (λ bs r. ParsesUnsigned 32 10 bs r × ExplainsUnsignedError 10 bs r × HasUnsignedDigitsIfOk bs r)
    (found_of c.args.given.now) (codes "each") 1 1000 c.get_one-2.result c.requires.each (omega arith)
    c.get_one-2.ensures.value (λ u x g. g.0)

pub returns : goal.returns
returns c =
    let found = found_of c.args.given.now in
    let replicas =
    taken_is_given 8 (λ bs r. ParsesUnsigned 8 10 bs r × ExplainsUnsignedError 10 bs r × HasUnsignedDigitsIfOk bs r)
    found (codes "replicas") 1 8 c.get_one.result c.unwrap.result c.requires.replicas (omega arith) c.unwrap.ensures
    c.get_one.ensures.none c.get_one.ensures.value (λ u x g. g.0) in
    let each =
    taken_is_given 32 (λ bs r. ParsesUnsigned 32 10 bs r × ExplainsUnsignedError 10 bs r × HasUnsignedDigitsIfOk bs r)
    found (codes "each") 1 1000 c.get_one-2.result c.unwrap-2.result c.requires.each (omega arith)
    c.unwrap-2.ensures c.get_one-2.ensures.none c.get_one-2.ensures.value (λ u x g. g.0) in
    record {
      replicas_given = replicas.0;
      each_given = each.0;
      in_range = record { some_replicas = replicas.1; few_replicas = replicas.2; some_each = each.1; few_each = each.2 };
    }
