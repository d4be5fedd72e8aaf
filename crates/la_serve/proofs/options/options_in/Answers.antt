use Rattle.std.proofs.Common.{◌∙◌, ap, codes, arith, sym, inr, option_map, Some}
use Rattle.std.specs.Str.Parse.{ParsesUnsigned, ExplainsUnsignedError, HasUnsignedDigitsIfOk}
use Rattle.clap.specs.Words.{found_of, rows_of}
use Rattle.clap.proofs.WalkLemmas.{first_value-rows}
use Rattle.la_cli.proofs.lemmas.GivenNumbers.{some_number, taken_is_given}
use Rattle.std.specs.Option.{option_and_then}
use Rattle.la_serve.specs.Objects.{objects_in}
use Rattle.la_serve.proofs.CommandRules.{first_there, some_text}
use Rattle.la_serve.proofs.options.options_in.Goals as goal

pub unwrap-tick-requires : goal.unwrap-tick-requires
unwrap-tick-requires c =
    some_number 16 (λ bs r. ParsesUnsigned 16 10 bs r × ExplainsUnsignedError 10 bs r × HasUnsignedDigitsIfOk bs r)
    (found_of c.args.given.now) (codes "tick") 0 3600 c.get_one.result c.requires.tick (omega arith)
    c.get_one.ensures.value (λ u x g. g.0)

pub unwrap-compact-requires : goal.unwrap-compact-requires
unwrap-compact-requires c =
    some_number 32 (λ bs r. ParsesUnsigned 32 10 bs r × ExplainsUnsignedError 10 bs r × HasUnsignedDigitsIfOk bs r)
    (found_of c.args.given.now) (codes "compact") 0 1000000 c.get_one-2.result c.requires.compact (omega arith)
    c.get_one-2.ensures.value (λ u x g. g.0)

pub unwrap-folder-requires : goal.unwrap-folder-requires
unwrap-folder-requires c =
    let found = found_of c.args.given.now in
    let first = first_there (codes "journal") (rows_of found) c.requires.journal.0 c.requires.journal.1 in
    some_text c.get_str-2.result first.0 (c.get_str-2.ensures ∙ first_value-rows found (codes "journal") ∙ first.1)

pub unwrap-said-requires : goal.unwrap-said-requires
unwrap-said-requires c =
    let found = found_of c.args.given.now in
    let first = first_there (codes "objects") (rows_of found) c.requires.objects.0 c.requires.objects.1 in
    some_text c.get_str.result first.0 (c.get_str.ensures ∙ first_value-rows found (codes "objects") ∙ first.1)

pub returns-in-Err-read : goal.returns-in-Err-read
returns-in-Err-read c =
    let found = found_of c.args.given.now in
    let first = sym (first_value-rows found (codes "objects")) ∙ sym c.get_str.ensures
    ∙ ap (option_map (λ s. s.now)) c.unwrap-said.ensures in
    inr (c.unwrap-said.result.now, first, c.in-Err-read.ensures.none, c.in-Err-read.ensures.unfit)

pub returns : goal.returns
returns c =
    let found = found_of c.args.given.now in
    let tick =
    taken_is_given 16 (λ bs r. ParsesUnsigned 16 10 bs r × ExplainsUnsignedError 10 bs r × HasUnsignedDigitsIfOk bs r)
    found (codes "tick") 0 3600 c.get_one.result c.unwrap-tick.result c.requires.tick (omega arith)
    c.unwrap-tick.ensures c.get_one.ensures.none c.get_one.ensures.value (λ u x g. g.0) in
    let compact =
    taken_is_given 32 (λ bs r. ParsesUnsigned 32 10 bs r × ExplainsUnsignedError 10 bs r × HasUnsignedDigitsIfOk bs r)
    found (codes "compact") 0 1000000 c.get_one-2.result c.unwrap-compact.result c.requires.compact (omega arith)
    c.unwrap-compact.ensures c.get_one-2.ensures.none c.get_one-2.ensures.value (λ u x g. g.0) in
    let first = sym (first_value-rows found (codes "objects")) ∙ sym c.get_str.ensures
    ∙ ap (option_map (λ s. s.now)) c.unwrap-said.ensures in
    record {
      group_given = c.in-Ok.ensures.ok;
      tick_given = tick.0;
      compact_given = compact.0;
      most_tick = tick.2;
      most_compact = compact.2;
      objects_given = ap (option_and_then objects_in) first ∙ c.in-Ok-read.ensures.ok;
      folder_given =
          sym (first_value-rows found (codes "journal")) ∙ sym c.get_str-2.ensures
          ∙ ap (option_map (λ s. s.now)) c.unwrap-folder.ensures
          ∙ ap Some (sym c.in_ok-folder.ensures.ok);
    }
