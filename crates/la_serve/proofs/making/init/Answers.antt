use Rattle.std.proofs.Common.{rules, ◌∙◌, ap, sym, subst, map, string_bytes, option_map}
use Rattle.clap.specs.Words.{App, HasKind, app_of, fault_of, found_of, is_simple_and_free, rows_of}
use Rattle.la_serve.proofs.MakingLines.{lattice_is_free, making_entered, making_read}
use Rattle.la_serve.proofs.making.init.Goals as goal

pub making_in-requires : goal.making_in-requires
making_in-requires c =
    (making_read (app_of c.in_ok-program.field-0) (map string_bytes c.args.words.now) c.in_ok-program.ensures _
    c.in_ok-matches.ensures.matches c.in_ok-matches.ensures.kinds _
    (sym c.subcommand.ensures.rows ∙ ap (option_map (λ p. rows_of (found_of p.1.now))) c.in-Some.is)).are

pub returns-in_err-matches-clause-error : goal.returns-in_err-matches-clause-error
returns-in_err-matches-clause-error c =
    let words = map string_bytes c.args.words.now in
    let kinds = c.in_err-matches.ensures.kinds (ap is_simple_and_free c.in_ok-program.ensures ∙ lattice_is_free) in
    let named =
    subst (λ (a : App). HasKind (fault_of a words) c.in_err-matches.field-0.0) c.in_ok-program.ensures kinds in
    search rules

pub returns-clause-ok : goal.returns-clause-ok
returns-clause-ok c =
    let read =
    making_read (app_of c.in_ok-program.field-0) (map string_bytes c.args.words.now) c.in_ok-program.ensures _
    c.in_ok-matches.ensures.matches c.in_ok-matches.ensures.kinds _
    (sym c.subcommand.ensures.rows ∙ ap (option_map (λ p. rows_of (found_of p.1.now))) c.in-Some.is) in
    record {
      faultless = read.faultless;
      rows = _;
      named = read.named;
      says = c.in_ok-making_in-in-Some.ensures;
    }

pub unreachable-requires : goal.unreachable-requires
unreachable-requires c =
    making_entered (app_of c.in_ok-program.field-0) (map string_bytes c.args.words.now) c.in_ok-program.ensures _
    c.in_ok-matches.ensures.matches c.in_ok-matches.ensures.kinds
    (sym (ap (option_map (λ p. rows_of (found_of p.1.now))) c.in-None.is) ∙ c.subcommand.ensures.rows)
