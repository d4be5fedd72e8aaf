use Rattle.std.proofs.Common.{◌∙◌, ap, codes, arith, sym, subst, option_map, string_bytes}
use Rattle.std.specs.Str.Parse.{ParsesUnsigned, ExplainsUnsignedError, HasUnsignedDigitsIfOk}
use Rattle.clap.specs.Words.{first_of, found_of, rows_of}
use Rattle.la_cli.proofs.lemmas.GivenNumbers.{some_number, taken_is_given}
use Rattle.la_call.specs.Options.{SaysRequest}
use Rattle.la_call.specs.Words.{is_request_name}
use Rattle.la_call.proofs.OptionLines.{named_well}
use Rattle.la_call.proofs.reading.options_in.Goals as goal

pub unwrap-wait-requires : goal.unwrap-wait-requires
unwrap-wait-requires c =
    some_number 16 (λ bs r. ParsesUnsigned 16 10 bs r × ExplainsUnsignedError 10 bs r × HasUnsignedDigitsIfOk bs r)
    (found_of c.args.given.now) (codes "wait") 0 3600 c.get_one.result c.requires.wait (omega arith)
    c.get_one.ensures.value (λ u x g. g.0)

pub unwrap-times-requires : goal.unwrap-times-requires
unwrap-times-requires c =
    some_number 16 (λ bs r. ParsesUnsigned 16 10 bs r × ExplainsUnsignedError 10 bs r × HasUnsignedDigitsIfOk bs r)
    (found_of c.args.given.now) (codes "times") 1 1000 c.get_one-2.result c.requires.times (omega arith)
    c.get_one-2.ensures.value (λ u x g. g.0)

pub invariant_of-result : goal.invariant_of-result
invariant_of-result c =
    let found = found_of c.args.given.now in
    let times =
    taken_is_given 16 (λ bs r. ParsesUnsigned 16 10 bs r × ExplainsUnsignedError 10 bs r × HasUnsignedDigitsIfOk bs r)
    found (codes "times") 1 1000 c.get_one-2.result c.unwrap-times.result c.requires.times (omega arith)
    c.unwrap-times.ensures c.get_one-2.ensures.none c.get_one-2.ensures.value (λ u x g. g.0) in
    let says =
    subst (SaysRequest (rows_of found)) (ap (option_map string_bytes) c.in-Some.is) c.in_ok-request.ensures in
    record {
      some = times.1;
      named =
          named_well string_bytes is_request_name c.in_ok-name.name (first_of (codes "name") (rows_of found))
          c.in_ok-name.ensures (sym c.is_well_named.ensures ∙ c.if-not-is_well_named.false);
      asks = says.1;
    }

pub returns : goal.returns
returns c =
    let found = found_of c.args.given.now in
    let wait =
    taken_is_given 16 (λ bs r. ParsesUnsigned 16 10 bs r × ExplainsUnsignedError 10 bs r × HasUnsignedDigitsIfOk bs r)
    found (codes "wait") 0 3600 c.get_one.result c.unwrap-wait.result c.requires.wait (omega arith)
    c.unwrap-wait.ensures c.get_one.ensures.none c.get_one.ensures.value (λ u x g. g.0) in
    let times =
    taken_is_given 16 (λ bs r. ParsesUnsigned 16 10 bs r × ExplainsUnsignedError 10 bs r × HasUnsignedDigitsIfOk bs r)
    found (codes "times") 1 1000 c.get_one-2.result c.unwrap-times.result c.requires.times (omega arith)
    c.unwrap-times.ensures c.get_one-2.ensures.none c.get_one-2.ensures.value (λ u x g. g.0) in
    let says =
    subst (SaysRequest (rows_of found)) (ap (option_map string_bytes) c.in-Some.is) c.in_ok-request.ensures in
    record {
      input_given = c.in_ok-input.ensures;
      output_given = c.in_ok-output.ensures;
      wait_given = wait.0;
      times_given = times.0;
      name_given = c.in_ok-name.ensures;
      request_given = says.0;
      most_wait = wait.2;
      most_times = times.2;
    }
