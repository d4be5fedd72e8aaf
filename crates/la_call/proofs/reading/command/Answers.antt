use Rattle.std.proofs.Common.{rules, ◌≡◌, ◌∙◌, ap, sym, subst, map, string_bytes, option_map}
use Rattle.clap.specs.Words.{App, HasKind, app_of, fault_of, found_of, is_simple, is_simple_and_free, rows_of}
use Rattle.clap.specs.Words.{subcommand_of}
use Rattle.la_call.specs.Options.{lattice_call}
use Rattle.la_call.proofs.OptionLines.{lattice_is_free, lattice_is_simple, rows_are_taken, some_entered}
use Rattle.la_call.proofs.reading.command.Goals as goal

pub options_in-requires : goal.options_in-requires
options_in-requires c =
    let words = map string_bytes c.args.words.now in
    let is : app_of c.in_ok-program.field-0 ≡ lattice_call = c.in_ok-program.ensures in
    let matches = c.in_ok-matches.ensures.matches (ap is_simple is ∙ lattice_is_simple) in
    let faultless = c.in_ok-matches.ensures.kinds (ap is_simple_and_free is ∙ lattice_is_free) in
    let rows = ap (option_map (λ p. p.1)) (sym (matches.1 ∙ ap (λ (a : App). subcommand_of a words) is))
    ∙ sym c.subcommand.ensures.rows ∙ ap (option_map (λ p. rows_of (found_of p.1.now))) c.in-Some.is in
    (rows_are_taken words _ (sym (ap (λ (a : App). fault_of a words) is) ∙ faultless) rows).1

pub returns-in_err-matches-clause-error : goal.returns-in_err-matches-clause-error
returns-in_err-matches-clause-error c =
    let words = map string_bytes c.args.words.now in
    let is : app_of c.in_ok-program.field-0 ≡ lattice_call = c.in_ok-program.ensures in
    let kinds = c.in_err-matches.ensures.kinds (ap is_simple_and_free is ∙ lattice_is_free) in
    let named = subst (λ (a : App). HasKind (fault_of a words) c.in_err-matches.field-0.0) is kinds in
    search rules

pub returns-clause-ok : goal.returns-clause-ok
returns-clause-ok c =
    let words = map string_bytes c.args.words.now in
    let is : app_of c.in_ok-program.field-0 ≡ lattice_call = c.in_ok-program.ensures in
    let matches = c.in_ok-matches.ensures.matches (ap is_simple is ∙ lattice_is_simple) in
    let kinds = c.in_ok-matches.ensures.kinds (ap is_simple_and_free is ∙ lattice_is_free) in
    let faultless = sym (ap (λ (a : App). fault_of a words) is) ∙ kinds in
    let rows = ap (option_map (λ p. p.1)) (sym (matches.1 ∙ ap (λ (a : App). subcommand_of a words) is))
    ∙ sym c.subcommand.ensures.rows ∙ ap (option_map (λ p. rows_of (found_of p.1.now))) c.in-Some.is in
    record {
      faultless = faultless;
      rows = _;
      named = (rows_are_taken words _ faultless rows).0;
      says = c.in_ok-options_in-in-Some.ensures;
    }

pub unreachable-requires : goal.unreachable-requires
unreachable-requires c =
    let words = map string_bytes c.args.words.now in
    let is : app_of c.in_ok-program.field-0 ≡ lattice_call = c.in_ok-program.ensures in
    let matches = c.in_ok-matches.ensures.matches (ap is_simple is ∙ lattice_is_simple) in
    let kinds = c.in_ok-matches.ensures.kinds (ap is_simple_and_free is ∙ lattice_is_free) in
    let entered = matches.1 ∙ ap (λ (a : App). subcommand_of a words) is in
    some_entered words (sym (ap (λ (a : App). fault_of a words) is) ∙ kinds)
    (sym (ap (option_map (λ p. rows_of (found_of p.1.now))) c.in-None.is) ∙ c.subcommand.ensures.rows
    ∙ ap (option_map (λ p. p.1)) entered)
